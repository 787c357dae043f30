-- A Grant: what its line says, what the calls that make it require, and the fields after it.
use Rattle.std.proofs.Common.{◌≡◌, ℕ, ◌≤◌, Bool, true, false, not, ◌||◌, cond, List, [], ◌∷◌, option_map, refl, sym, ap}
use Rattle.std.proofs.Common.{◌∙◌, subst, Option, Some, None, is_some, is_none, inl, inr, length, map, nat_le, ◌==◌}
use Rattle.std.proofs.Common.{arith}
use Rattle.std.specs.List.{find, list_any}
use Rattle.std.proofs.lemmas.Bool.{or_right, or_from, or_parts}
use Rattle.nvme_model.specs.declared.array.Mode.{Mode}
use Rattle.nvme_model.specs.declared.array.Range.{Range}
use Rattle.nvme_model.specs.declared.config.ConfigNumbers.{ConfigNumbers}
use Rattle.nvme_model.specs.declared.entry.Entry.{Entry}
use Rattle.nvme_model.specs.declared.refusal.Why.{Why}
use Rattle.nvme_model.specs.declared.step.Step.{Step}
use Rattle.nvme_model.specs.History.{Past}
use Rattle.nvme_model.specs.Open.{conflict, differed, grants_of, open_units}
use Rattle.nvme_model.specs.Operations.{has_write, mode, op, units}
use Rattle.nvme_model.specs.Refusals.{conflicts_open, has_open, next_unit, none_left, refusal}
use Rattle.ticket_laws.specs.Standing.{Standing, blocks_left, next_of, open_unit, standing, unit_of}
use Rattle.nvme_model.specs.Steps.{grant_entry, next_entry}
use Rattle.nvme_model.specs.Tickets.{ticket}
use Rattle.ticket_laws.proofs.Left.{next_starts, next_unit_left, none_left_is}
use Rattle.range_reserve.specs.Reserved.{has_conflict, held_of}
use Rattle.range_reserve.specs.declared.held.HeldRange.{HeldRange}
use Rattle.range_reserve.proofs.Granted.{has_conflict-map}
use Rattle.range_reserve.proofs.Rising.{list_any-by_ticket}
use Rattle.job_table.specs.Keeping.{Keeping}
use Rattle.job_table.specs.Shown.{standing_stage}
use Rattle.job_table.specs.Stages.{stage_mode, next_in, unit_in}
use Rattle.job_table.specs.declared.progress.TicketStage.TheVariants.{Waiting}
use Rattle.job_table.proofs.Waits.{Waits, no_next, waits}
use Rattle.job_table.specs.Tickets.{job_by}
use Rattle.step_core.specs.Kept.{CoreFields, IsCoreOf}
use Rattle.step_core.specs.Found.{IsJob}
use Rattle.controller_interface.specs.State.{Room, ControllerState}
use Rattle.step_core.proofs.Bounds.{left_short}

-- what is kept is so of the value that contracts see
pub seen : (c : ConfigNumbers) (past : Past) (p : ℕ) {f : ℕ} {w : Room} (x : ControllerState)
    (fields : CoreFields) → record { config = c; past = past; forgotten = f; promised = p; room = w } ≡ x
    → IsCoreOf c past fields → IsCoreOf x.config x.past fields
seen c past p x fields e k = subst (λ (y : ControllerState). IsCoreOf y.config y.past fields) e k

-- ---- what is kept of the open unit

-- something is found where something passes
pub any_found : {X : Type 0} (p : X → Bool) (xs : List X) → is_some (find p xs) ≡ list_any p xs
any_found p [] = refl
any_found p (x ∷ xs) = go (p x) (any_found p xs)
  where
    go : (b : Bool) → is_some (find p xs) ≡ list_any p xs → is_some (cond b (Some x) (find p xs)) ≡ (b || list_any p xs)
    go true ih = refl
    go false ih = ih

some_mapped : {X Y : Type 0} (f : X → Y) (o : Option X) → is_some (option_map f o) ≡ is_some o
some_mapped f None = refl
some_mapped f (Some x) = refl

-- where its ticket stands
pub job_stage : (c : ConfigNumbers) (s : Standing) → (job_by c s).progress.stage ≡ standing_stage c s
unfolding job_by
job_stage c s = refl

-- a unit of a ticket is open where one stands open
pub unit_open : (past : Past) (t : ℕ) → is_some (open_unit past t) ≡ has_open past t
unit_open past t =
    some_mapped (unit_of past) (find (λ g. g.ticket == t) (open_units past))
    ∙ any_found (λ g. g.ticket == t) (open_units past)

-- ---- what a Grant's tests say

abbrev grant_tests : Bool → Bool → Bool → Option Why
grant_tests flies wrong apart =
    cond (not flies) (Some Why.NoTicket) (cond wrong (Some Why.WrongState) (cond apart (Some Why.Conflict) None))

module _ (c : ConfigNumbers) (past : Past) (fields : CoreFields) (k : IsCoreOf c past fields) (t : ℕ) (x : Keeping)
    (i : IsJob c past t x) where
  abbrev r : List HeldRange
  r = fields.held

  stage_is : x.progress.stage ≡ standing_stage c (standing past t)
  stage_is = ap (λ (y : Keeping). y.progress.stage) i.is ∙ job_stage c (standing past t)

  -- there is no next unit
  pub nothing_next : next_in c.atomic x.progress.stage ≡ None → refusal c past (Step.Grant t) ≡ Some Why.WrongState
  nothing_next e = elim (no_next c (standing past t) (op (ticket past t)) (open_unit past t)
      (ap (next_in c.atomic) (sym stage_is) ∙ e)) [
        | inl up ↦ wrong (or_right (none_left c past t) (has_open past t) (sym (unit_open past t) ∙ up))
        | inr none ↦ wrong (ap (λ b. b || has_open past t) (none_left_is c past t ∙ ap is_none none))
      ]
    where
      wrong : (none_left c past t || has_open past t) ≡ true → refusal c past (Step.Grant t) ≡ Some Why.WrongState
      wrong w = (λ z. grant_tests (i.flies z) (w z) (conflicts_open past (mode (ticket past t)) (next_unit c past t)))

  module _ (y : Range) (next : Some y ≡ next_in c.atomic x.progress.stage) where
    at : Waits c (standing past t) y (op (ticket past t)) (open_unit past t)
    at = waits c (standing past t) y (op (ticket past t)) (open_unit past t)
        (ap (next_in c.atomic) (sym stage_is) ∙ sym next)

    next_is : next_of c.atomic (op (ticket past t)) (blocks_left c (standing past t)) ≡ Some y
    next_is = ap (λ o. next_of c.atomic o (blocks_left c (standing past t))) at.is ∙ at.next

    -- it has few blocks
    pub next_short : y.blocks ≤ 256
    next_short =
        omega (
          arith,
          (next_starts c.atomic (op (ticket past t)) (blocks_left c (standing past t)) y next_is).1,
          left_short c past t k.run.legal k.accepted (ap is_some at.is),
        )

    waiting : x.progress.stage ≡ Waiting at.operation (grants_of past t) (blocks_left c (standing past t))
    waiting = stage_is ∙ at.stage

    some_left : none_left c past t ≡ false
    some_left = none_left_is c past t ∙ ap is_none next_is

    closed : has_open past t ≡ false
    closed = sym (unit_open past t) ∙ ap is_some at.closed

    unit_is : next_unit c past t ≡ Some y
    unit_is = next_unit_left c past t
        (or_parts (nat_le (length (units c (ticket past t))) (grants_of past t)) (differed past t) some_left).1
        ∙ next_is

    module _ (m : Mode) (holds : m ≡ stage_mode x.progress.stage) where
      mode_is : m ≡ mode (ticket past t)
      mode_is = holds ∙ ap stage_mode waiting ∙ ap (λ o. cond (has_write o) Mode.Exclusive Mode.Shared) (sym at.is)

      tests_are : refusal c past (Step.Grant t) ≡ grant_tests true false (has_conflict r y m)
      tests_are =
          (λ z. grant_tests (i.flies z) (or_from _ _ some_left closed z)
          (conflicts_open past (sym mode_is z) (unit_is z)))
          ∙ ap (grant_tests true false) (sym (ap (λ (hs : List HeldRange). has_conflict hs y m) k.held
          ∙ list_any-by_ticket (λ h. conflict y m h.range h.mode) (map held_of (open_units past))
          ∙ has_conflict-map (open_units past) y m))

      -- its unit conflicts with one that is open
      pub in_conflict : has_conflict r y m ≡ true → refusal c past (Step.Grant t) ≡ Some Why.Conflict
      in_conflict e = tests_are ∙ ap (grant_tests true false) e

      -- it is opened
      pub line_is : (u : ℕ) → u ≡ unit_in x.progress.stage → has_conflict r y m ≡ false
          → (refusal c past (Step.Grant t) ≡ None)
          × (Entry.Grant (record { ticket = t; unit = u; range = y; mode = m }) ≡ next_entry c past (Step.Grant t))
      line_is u number e = (
        tests_are ∙ ap (grant_tests true false) e,
        (λ z. Entry.Grant (record { ticket = t; unit = (number ∙ ap unit_in waiting) z; range = y; mode = mode_is z }))
            ∙ ap (grant_entry past t) (sym unit_is),
      )
