-- What a ticket's own entries allow isn't refused for the ticket's sake.
use Rattle.std.proofs.Common.{Bool, List, None, Option, Some, [], ap, cond, eqb, eqb-true, false, is_some, length, not}
use Rattle.std.proofs.Common.{refl, sym, true, ℕ, ◌&&◌, ◌*◌, ◌∙◌, ◌≡◌, ◌||◌, ◌∷◌}
use Rattle.std.specs.List.{list_all, list_any}
use Rattle.std.specs.Prelude.{nat_le, nat_lt}
use Rattle.nvme_model.specs.History.{Past}
use Rattle.nvme_model.specs.Open.{differed, granted, has_ended, is_differs}
use Rattle.nvme_model.specs.Operations.{is_pair, op, op_by, units}
use Rattle.nvme_model.specs.Owed.{all_ended, numbered_units}
use Rattle.nvme_model.specs.Refusals.{has_open, is_flush_ticket, none_left, owes_nothing_yet, refusal}
use Rattle.nvme_model.specs.Tickets
use Rattle.nvme_model.specs.Tickets.{in_flight, posts_of}
use Rattle.nvme_model.specs.Verdict.{passed}
use Rattle.nvme_model.specs.EntryBytes.{Sqe}
use Rattle.nvme_model.specs.declared.array.Range.{Range}
use Rattle.nvme_model.specs.declared.config.ConfigNumbers.{ConfigNumbers}
use Rattle.nvme_model.specs.declared.entry.GrantLine.{GrantLine}
use Rattle.nvme_model.specs.declared.operation.Op.{Op}
use Rattle.nvme_model.specs.declared.refusal.Why.{Why}
use Rattle.nvme_model.specs.declared.status.Verdict.{Verdict}
use Rattle.nvme_model.specs.declared.step.Step.{Step}
use Rattle.ticket_laws.specs.Entries.{of_ticket}
use Rattle.ticket_laws.specs.Tasks.{IsInPlace, duty_at, own_all_ended, own_done, own_ended, own_open, task_fault}
use Rattle.ticket_laws.proofs.OwnEntries.{any_swap, own_blocks, own_differed, own_granted, own_posts}

-- ---- each test is that of the refusals

ended_same : (past : Past) (t u n : ℕ)
    → own_ended (op (Tickets.ticket past t)) (of_ticket t past) t u n ≡ has_ended past t u n
ended_same past t u n =
    let o = op (Tickets.ticket past t) in
    ap (λ bs. nat_le (cond (is_pair o) (2 * n) n) (length bs) || list_any (λ b. is_differs b.found) bs)
    (own_blocks t u past)

pub open_same : (past : Past) (t : ℕ) → own_open (op (Tickets.ticket past t)) (of_ticket t past) t ≡ has_open past t
open_same past t =
    let o = op (Tickets.ticket past t) in
    let own : GrantLine → Bool = λ g. not (own_ended o (of_ticket t past) t g.unit g.range.blocks) in
    ap (list_any own) (own_granted t past)
    ∙ sym (any_swap (λ g. eqb g.ticket t) (λ g. not (has_ended past g.ticket g.unit g.range.blocks)) own
    (λ g e. ap (λ s. not (has_ended past s g.unit g.range.blocks)) (eqb-true g.ticket t e)
    ∙ ap not (sym (ended_same past t g.unit g.range.blocks))) (granted past))

all_same : (p q : ℕ × Range → Bool) → ((u : ℕ × Range) → p u ≡ q u) → (xs : List (ℕ × Range))
    → list_all p xs ≡ list_all q xs
all_same p q same [] = refl
all_same p q same (x ∷ xs) = λ i. same x i && all_same p q same xs i

pub all_ended_same : (c : ConfigNumbers) (past : Past) (t : ℕ)
    → own_all_ended (duty_at c past t) (of_ticket t past) t ≡ all_ended c past t
all_ended_same c past t =
    all_same _ _ (λ u. ended_same past t u.0 u.1.blocks) (numbered_units 0 (units c (Tickets.ticket past t)))

done_same : (c : ConfigNumbers) (past : Past) (t : ℕ)
    → own_done (duty_at c past t) (of_ticket t past) t ≡ not (in_flight past t)
done_same c past t = ap (λ n. not (nat_lt n (length (Tickets.ticket past t).commands))) (own_posts t past)

none_left_same : (c : ConfigNumbers) (past : Past) (t : ℕ)
    → ((nat_le (length (units c (Tickets.ticket past t))) (length (granted (of_ticket t past)))
    || differed (of_ticket t past) t) || own_open (op (Tickets.ticket past t)) (of_ticket t past) t)
    ≡ (none_left c past t || has_open past t)
none_left_same c past t =
    λ i. (nat_le (length (units c (Tickets.ticket past t))) (length (own_granted t past i)) || own_differed t past i)
    || open_same past t i

-- a ticket owes nothing yet only where it has an operation
runs : (v : Verdict) (e : Sqe) (b : Bool)
    → (passed v && not (is_flush_ticket (op_by v e)) && b) ≡ (is_some (op_by v e) && b)
runs Verdict.Single e b = by_op (op_by Verdict.Single e)
  where
    by_op : (o : Option Op) → (true && not (is_flush_ticket o) && b) ≡ (is_some o && b)
    by_op None = refl
    by_op (Some o) = refl
runs Verdict.Pair e b = refl
runs (Verdict.SingleFailed s) e b = refl
runs (Verdict.PairFailed s r) e b = refl

owes_same : (c : ConfigNumbers) (past : Past) (t : ℕ)
    → (is_some (op (Tickets.ticket past t))
    && not (own_all_ended (duty_at c past t) (of_ticket t past) t || differed (of_ticket t past) t))
    ≡ owes_nothing_yet c past t
owes_same c past t =
    (λ i. is_some (op (Tickets.ticket past t)) && not (all_ended_same c past t i || own_differed t past i))
    ∙ sym (runs (Tickets.ticket past t).verdict (Tickets.first_fields (Tickets.ticket past t))
    (not (all_ended c past t || differed past t)))

-- ---- so what they allow is in its place

two_rows : (a b : Bool) → cond a (Some Why.NoTicket) (cond b (Some Why.WrongState) None) ≡ None
    → (a ≡ false) × (b ≡ false)
two_rows true b e = absurd (let f : Some Why.NoTicket ≡ None = e in cc)
two_rows false true e = absurd (let f : Some Why.WrongState ≡ None = e in cc)
two_rows false false e = (refl, refl)

third_row : (a b x : Bool) (w : Why) → a ≡ false → b ≡ false → IsInPlace (Some w)
    → IsInPlace (cond a (Some Why.NoTicket) (cond b (Some Why.WrongState) (cond x (Some w) None)))
third_row true b x w ea eb p = absurd (let f : true ≡ false = ea in cc)
third_row false true x w ea eb p = absurd (let f : true ≡ false = eb in cc)
third_row false false true w ea eb p = p
third_row false false false w ea eb p = tt

pub grant_in_place : (c : ConfigNumbers) (past : Past) (t : ℕ)
    → task_fault (duty_at c past t) t (of_ticket t past) (Step.Grant t) ≡ None
    → IsInPlace (refusal c past (Step.Grant t))
grant_in_place c past t none =
    let r = two_rows _ _ none in
    third_row _ _ _ Why.Conflict (sym (done_same c past t) ∙ r.0) (sym (none_left_same c past t) ∙ r.1) tt

pub block_in_place : (c : ConfigNumbers) (past : Past) (t : ℕ)
    → task_fault (duty_at c past t) t (of_ticket t past) (Step.Block t) ≡ None
    → IsInPlace (refusal c past (Step.Block t))
block_in_place c past t none =
    let r = two_rows _ _ none in
    third_row _ _ false Why.Conflict (sym (done_same c past t) ∙ r.0) (sym (ap not (open_same past t)) ∙ r.1) tt

pub post_in_place : (c : ConfigNumbers) (past : Past) (t : ℕ)
    → task_fault (duty_at c past t) t (of_ticket t past) (Step.Post t) ≡ None → IsInPlace (refusal c past (Step.Post t))
post_in_place c past t none =
    let r = two_rows _ _ none in
    third_row _ _ _ Why.CqFull (sym (done_same c past t) ∙ r.0) (sym (owes_same c past t) ∙ r.1) tt
