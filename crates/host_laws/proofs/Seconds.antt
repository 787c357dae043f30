-- What the second completion of a pair says.
use Rattle.nvme_model.specs.Tickets
use Rattle.std.proofs.Common.{subst₂, ◌≡◌, ℕ, suc, Bool, true, false, not, ◌&&◌, cond, [], ◌∷◌, refl, sym, ap, ◌∙◌}
use Rattle.std.proofs.Common.{subst, Option, Some, None, inl, inr, ◌⊎◌, arith, eqb, slice_get}
use Rattle.std.proofs.lemmas.Bool.{and_parts, cases_lt, not-true}
use Rattle.nvme_model.specs.Answered.{no_at, says_no}
use Rattle.nvme_model.specs.History.{Past}
use Rattle.nvme_model.specs.Legal.{IsLegal}
use Rattle.nvme_model.specs.Open.{unit_range}
use Rattle.nvme_model.specs.Operations.{has_compare, op, op_by}
use Rattle.nvme_model.specs.Owed.{all_done, all_ended, owed, owed_after, owed_by, some_no}
use Rattle.nvme_model.specs.Placed.{effect}
use Rattle.nvme_model.specs.Queues.{published_entries}
use Rattle.nvme_model.specs.Slots.{fetched_before}
use Rattle.nvme_model.specs.Statuses.{compare_failure, failed_fused, is_success, success}
use Rattle.nvme_model.specs.Tickets.{Ticket, command, first_fields}
use Rattle.nvme_model.specs.Value.{all_equal, value}
use Rattle.nvme_model.specs.Verdict.{taken_entries}
use Rattle.nvme_model.specs.declared.array.Range.{Range}
use Rattle.nvme_model.specs.declared.config.ConfigNumbers.{ConfigNumbers}
use Rattle.nvme_model.specs.declared.entry.Entry.{Entry}
use Rattle.nvme_model.specs.declared.entry.PostLine.{PostLine}
use Rattle.nvme_model.specs.declared.operation.Op.{Op}
use Rattle.nvme_model.specs.declared.status.Status.{Status}
use Rattle.nvme_model.specs.declared.status.Verdict.{Verdict}
use Rattle.nvme_model.specs.declared.submission.Submission.{Submission}
use Rattle.nvme_model.proofs.TakenEntries.{taken_two}
use Rattle.nvme_model.proofs.Cut.{clash}
use Rattle.host_laws.specs.Calls.{IsFused, reaped_post, says_yes, cqe_status, takes, yes_at}
use Rattle.host_laws.proofs.Calls.{PostOf, post_of, second_fuse, seen, takes_parts, which}
use Rattle.host_laws.proofs.Elements.{same_some}
use Rattle.host_laws.proofs.Later.{no_later, yes_later}
use Rattle.host_laws.proofs.Outcomes.{pair_says_no, pair_says_yes}
use Rattle.host_laws.proofs.PairCalls.{first_swaps, pair_differs}
use Rattle.host_laws.proofs.Taken.{ticket_taken}
use Rattle.host_laws.proofs.TicketsApart.{not_inside, one_ticket, taken_some}
use Rattle.host_laws.proofs.Verdicts.{fuse, one_not_two}
use Rattle.host_laws.proofs.Releases.{pair_op}

-- an entry with FUSE 01b is the first of the ticket that takes it
pub first_number : (c : ConfigNumbers) (past : Past) (t q j : ℕ) (a : Submission) → IsLegal c past
    → takes past t q j ≡ true → slice_get (published_entries past q) j ≡ Some a → eqb (fuse a) 1 ≡ true
    → fetched_before past t ≡ j
first_number c past t q j a h k e one =
    let x = takes_parts past t q j k in
    let f = ticket_taken c past t h x.some x.known in
    elim (cases_lt (fetched_before past t) j) [
      | inr m ↦ omega (arith, m, x.low)
      | inl m ↦
          let two : taken_entries (Tickets.ticket past t).verdict ≡ 2 =
          omega (
            arith,
            m,
            x.high,
            (taken_some (Tickets.ticket past t).verdict),
            taken_two (Tickets.ticket past t).verdict,
          ) in
          let at : j ≡ suc (fetched_before past t) = omega (arith, m, x.high, two) in
          let there = subst₂ (λ (y z : ℕ). slice_get (published_entries past y) z
          ≡ Some (command (Tickets.ticket past t) 1)) x.queue (sym at) (f.second two) in
          let same = same_some (command (Tickets.ticket past t) 1) a (slice_get (published_entries past q) j) there e in
          clash (eqb (fuse a) 2) (second_fuse (Tickets.ticket past t).verdict (command (Tickets.ticket past t) 0)
          (command (Tickets.ticket past t) 1) a two f.verdict same) (one_not_two (fuse a) one)
    ]

-- ---- the second

second_pair_owed : (some done : Bool) (x : Status)
    → slice_get (cond some (compare_failure ∷ failed_fused ∷ []) (cond done (success ∷ success ∷ []) [])) 1 ≡ Some x
    → (x ≡ success) ⊎ (x ≡ failed_fused)
second_pair_owed true done x h = inr (sym (same_some failed_fused x (Some failed_fused) refl h))
second_pair_owed false true x h = inl (sym (same_some success x (Some success) refl h))
second_pair_owed false false x h = absurd (let f : None ≡ Some x = h in cc)

-- the second status of a pair that passed its checks
pub second_owed : (c : ConfigNumbers) (past : Past) (t : ℕ) (x : Status)
    → (Tickets.ticket past t).verdict ≡ Verdict.Pair → slice_get (owed c past t) 1 ≡ Some x
    → (x ≡ success) ⊎ (x ≡ failed_fused)
second_owed c past t x e h =
    let k = Tickets.ticket past t in
    let paired : op k ≡ Some Op.Pair = ap (λ (v : Verdict). op_by v (first_fields k)) e in
    second_pair_owed (some_no c past t && all_ended c past t) (all_done c past t) x
    (subst (λ (o : Option Op). slice_get (owed_by c past t o) 1 ≡ Some x) paired
    (subst (λ (v : Verdict). slice_get (owed_after c past t k v) 1 ≡ Some x) e h))

-- no effect says both
yes_or_no : (o : Option Past) (k : Ticket) (r : Range) → yes_at o k r ≡ true → no_at o k r ≡ true → ⊥
yes_or_no None k r y n = absurd (let f : false ≡ true = y in cc)
yes_or_no (Some before) k r y n =
    let a = and_parts (has_compare (op k)) (all_equal (value before) k r) y in
    let b = and_parts (has_compare (op k)) (not (all_equal (value before) k r)) n in
    clash (all_equal (value before) k r) a.1 (not-true _ b.1)

-- ---- the second behind its first

-- the second completion of a pair that passed its checks, and the ticket that owes it
record SecondOf (c : ConfigNumbers) (past : Past) (q j : ℕ) (r : PostLine) (t : ℕ) : Type 0 where
  is : PostOf c past q (suc j) r
  same : r.ticket ≡ t
  verdict : (Tickets.ticket is.at.before r.ticket).verdict ≡ Verdict.Pair
  owes : slice_get (owed c is.at.before r.ticket) 1 ≡ Some (cqe_status r.cqe)

-- it is of the ticket that takes the first
second_of : (c : ConfigNumbers) (past : Past) (q j t : ℕ) (r : PostLine) → IsLegal c past → IsFused past q j
    → takes past t q j ≡ true → op (Tickets.ticket past t) ≡ Some Op.Pair → reaped_post c past q (suc j) ≡ Some r
    → SecondOf c past q j r t
second_of c past q j t r h x taken_by pair b =
    let f = post_of c past q (suc j) r h b in
    let there = seen c past q (suc j) r f h in
    let k = takes_parts past t q j taken_by in
    let verdict = pair_op (Tickets.ticket past t).verdict (first_fields (Tickets.ticket past t)) pair in
    let at = first_number c past t q j x.first h taken_by x.first_published x.first_fuse in
    let queues : (Tickets.ticket past r.ticket).queue ≡ (Tickets.ticket past t).queue = there.queue ∙ sym k.queue in
    elim (which c past q (suc j) r x.second f x.second_published) [
      | inl y ↦ absurd (not_inside c past r.ticket t h f.is.some there.known k.some k.known queues
          (omega (arith, at, there.number, y.number))
          (omega (arith, at, there.number, y.number, ap taken_entries verdict)))
      | inr y ↦
          let same = one_ticket c past r.ticket t h f.is.some there.known k.some k.known queues
          (omega (arith, at, there.number, y.number)) in
          record {
            is = f;
            same = same;
            verdict = sym (ap (λ (z : Ticket). z.verdict) there.ticket)
                ∙ (ap (λ (n : ℕ). (Tickets.ticket past n).verdict) same ∙ verdict);
            owes = subst (λ (i : ℕ). slice_get (owed c f.at.before r.ticket) i ≡ Some (cqe_status r.cqe)) y.posts
                f.is.owed;
          }
    ]

-- Compare Failure for the first: the second fails with it
pub second_fails : (c : ConfigNumbers) (past : Past) (q j : ℕ) (p r : PostLine) → IsLegal c past → IsFused past q j
    → reaped_post c past q j ≡ Some p → cqe_status p.cqe ≡ compare_failure
    → reaped_post c past q (suc j) ≡ Some r → cqe_status r.cqe ≡ failed_fused
second_fails c past q j p r h x a e b =
    let d = pair_differs c past q j p x.first h x.first_published x.first_fuse a e in
    let g = second_of c past q j d.ticket r h x d.takes d.pair b in
    let f = g.is in
    elim (second_owed c f.at.before r.ticket (cqe_status r.cqe) g.verdict g.owes) [
      | inr z ↦ z
      | inl z ↦
          let yes = pair_says_yes c f.at.before r.ticket 1 g.verdict (g.owes ∙ ap Some z) in
          let all = yes_later c f.at.later (Entry.Post r ∷ f.at.before) r.ticket 0
          (subst (λ (w : Past). IsLegal c w) f.at.is h) f.legal yes in
          let late = subst (λ (t : ℕ). says_yes past t 0 ≡ true) g.same
          (subst (λ (w : Past). says_yes w r.ticket 0 ≡ true) (sym f.at.is) all) in
          absurd (yes_or_no (effect past d.ticket 0) (Tickets.ticket past d.ticket) (unit_range past d.ticket 0) late
          d.no)
    ]

-- success for the first: the second succeeds with it
pub second_succeeds : (c : ConfigNumbers) (past : Past) (q j : ℕ) (p r : PostLine) → IsLegal c past → IsFused past q j
    → reaped_post c past q j ≡ Some p → is_success (cqe_status p.cqe) ≡ true
    → reaped_post c past q (suc j) ≡ Some r → is_success (cqe_status r.cqe) ≡ true
second_succeeds c past q j p r h x a e b =
    let d = first_swaps c past q j p x.first h x.first_published x.first_fuse a e in
    let g = second_of c past q j d.ticket r h x d.takes d.pair b in
    let f = g.is in
    elim (second_owed c f.at.before r.ticket (cqe_status r.cqe) g.verdict g.owes) [
      | inl z ↦ ap is_success z
      | inr z ↦
          let no = pair_says_no c f.at.before r.ticket 1 failed_fused g.verdict (inr refl) (g.owes ∙ ap Some z) in
          let all = no_later c f.at.later (Entry.Post r ∷ f.at.before) r.ticket 0
          (subst (λ (w : Past). IsLegal c w) f.at.is h) f.legal no in
          let late = subst (λ (t : ℕ). says_no past t 0 ≡ true) g.same
          (subst (λ (w : Past). says_no w r.ticket 0 ≡ true) (sym f.at.is) all) in
          absurd (yes_or_no (effect past d.ticket 0) (Tickets.ticket past d.ticket) (unit_range past d.ticket 0) d.yes
          late)
    ]
