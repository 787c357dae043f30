-- The order of effects by the tests that compute it.
use Rattle.std.proofs.Common.{Bool, List, false, refl, sym, true, ◌&&◌, ◌||◌, ◌∙◌, ◌≡◌}
use Rattle.nvme_model.specs.Config.{completion_queue}
use Rattle.nvme_model.specs.declared.config.ConfigNumbers.{ConfigNumbers}
use Rattle.trace.specs.declared.options.TraceOptions.{TraceOptions}
use Rattle.trace.specs.declared.seen.Seen.{Seen}
use Rattle.refutation.specs.EffectOrders.{EffectName, comes_before, is_earlier_unit}
use Rattle.refutation.specs.Places.{answer_place, is_among, place_before}
use Rattle.refutation.specs.Told.{is_sure}
use Rattle.refutation.proofs.Places.{comes_by_place}

turned : (e m s : Bool) → (e || (m && s)) ≡ ((s && m) || e)
turned true true true = refl
turned true true false = refl
turned true false true = refl
turned true false false = refl
turned false true true = refl
turned false true false = refl
turned false false true = refl
turned false false false = refl

pub by_tests : (o : TraceOptions) (c : ConfigNumbers) (trace : List Seen) (a b : EffectName) (e m s : Bool)
    → e ≡ is_earlier_unit a b
    → m ≡ is_among (answer_place trace a.queue a.number) (place_before o c trace (completion_queue c a.queue) b)
    → s ≡ is_sure c trace a.queue a.number a.unit
    → (e || (m && s)) ≡ comes_before o c trace a b
by_tests o c trace a b e m s x y z =
    turned e m s ∙ (λ t. (z t && y t) || x t) ∙ sym (comes_by_place o c trace a b)
