-- The rules of the order of effects.
use Rattle.std.proofs.Common.{◌&&◌, ◌≡◌, true, ◌||◌, Some}
use Rattle.std.proofs.Common.{inl, inr}
use Rattle.std.proofs.lemmas.Bool.{and_parts, or_cases}
use Rattle.nvme_model.specs.Config.{completion_queue}
use Rattle.nvme_model.specs.History.{Past}
use Rattle.nvme_model.specs.Legal.{IsLegal}
use Rattle.nvme_model.specs.declared.config.ConfigNumbers.{ConfigNumbers}
use Rattle.trace.specs.Observed.{observed}
use Rattle.trace.specs.declared.options.TraceOptions.{TraceOptions}
use Rattle.refutation.specs.Effects.{effect_by}
use Rattle.refutation.specs.EffectOrders.{EffectName, comes_before, ends_before, is_earlier_unit, is_told_by_head}
use Rattle.refutation.specs.Apart.{asks_heads}
use Rattle.refutation.proofs.HeadOrders.{HasSlots, told_by_head}
use Rattle.refutation.proofs.LineOrders.{ended_before, unit_earlier}
use Rattle.refutation.proofs.Lines.{tidy_on}
use Rattle.refutation.proofs.PostOrders.{AreTidy}

-- by the queue of the first, and, where SQHD is asked, by all that share the second's completion queue
pub comes_first_on : (options : TraceOptions) (c : ConfigNumbers) (past : Past) (a b : EffectName) (before : Past)
    → HasSlots c → IsLegal c past → tidy_on a.queue (observed c past) ≡ true
    → (asks_heads options ≡ true → AreTidy c (completion_queue c b.queue) (observed c past))
    → comes_before options c (observed c past) a b ≡ true
    → effect_by past b.queue b.number b.unit ≡ Some before
    → (first : Past) × (effect_by before a.queue a.number a.unit ≡ Some first)
comes_first_on options c past a b before s h d all e f =
    elim (or_cases (ends_before c (observed c past) a b || is_earlier_unit a b)
    (asks_heads options && is_told_by_head c (observed c past) a b) e) [
      | inl x ↦ elim (or_cases (ends_before c (observed c past) a b) (is_earlier_unit a b) x) [
        | inl y ↦ ended_before c past a b before h d y f
        | inr y ↦ unit_earlier c past a b before h y f
      ]
      | inr x ↦
          let y = and_parts (asks_heads options) (is_told_by_head c (observed c past) a b) x in
          told_by_head c past a b before s h d (all y.0) y.1 f
    ]
