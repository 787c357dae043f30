-- What a reaped completion says of a pair.
use Rattle.nvme_model.specs.Tickets
use Rattle.std.proofs.Common.{◌≡◌, ℕ, suc, true, ◌∷◌, refl, sym, ap, ◌∙◌, subst, Some, inl, inr, arith, eqb, slice_get}
use Rattle.nvme_model.specs.declared.config.ConfigNumbers.{ConfigNumbers}
use Rattle.nvme_model.specs.Statuses.{compare_failure, is_success}
use Rattle.nvme_model.specs.Verdict.{taken_entries}
use Rattle.nvme_model.specs.History.{Past}
use Rattle.nvme_model.specs.Tickets.{Ticket, command, first_fields, posts_of}
use Rattle.nvme_model.specs.Queues.{published_entries}
use Rattle.nvme_model.specs.Operations.{op, op_by}
use Rattle.host_laws.specs.Calls.{says_yes, reaped_post, cqe_status, PairSwaps, PairDiffers}
use Rattle.nvme_model.specs.Answered.{says_no}
use Rattle.nvme_model.specs.Legal.{IsLegal}
use Rattle.nvme_model.specs.declared.status.Verdict.{Verdict}
use Rattle.nvme_model.specs.declared.submission.Submission.{Submission}
use Rattle.nvme_model.specs.declared.entry.PostLine.{PostLine}
use Rattle.nvme_model.specs.declared.entry.Entry.{Entry}
use Rattle.nvme_model.proofs.Cut.{clash}
use Rattle.host_laws.proofs.Verdicts.{fuse, one_not_two}
use Rattle.host_laws.proofs.Outcomes.{passes, pair_says_yes, pair_says_no}
use Rattle.host_laws.proofs.Later.{yes_later, no_later}
use Rattle.host_laws.proofs.Calls.{published_at, post_of, which, seen, takes_from, success_is, pair_by, two_pair}
use Rattle.host_laws.proofs.Calls.{first_pair, second_fuse, compare_passes}

pub pair_swaps : (c : ConfigNumbers) (past : Past) (q j : ℕ) (p : PostLine) (s : Submission) → IsLegal c past
    → slice_get (published_entries past q) (suc j) ≡ Some s → eqb (fuse s) 2 ≡ true
    → reaped_post c past q (suc j) ≡ Some p → is_success (cqe_status p.cqe) ≡ true → PairSwaps past q j
pair_swaps c past q j p s h e fused r y =
    let f = post_of c past q (suc j) p h r in
    let k = Tickets.ticket f.at.before p.ticket in
    let owes = f.is.owed ∙ ap Some (success_is (cqe_status p.cqe) y) in
    let ok = passes c f.at.before p.ticket (posts_of f.at.before p.ticket) k.verdict (command k 0) (command k 1) refl
    f.is.taken.verdict owes in
    elim (which c past q (suc j) p s f e) [
      | inl x ↦ absurd (pair_by k.verdict (command k 0) (command k 1) s ok f.is.taken.verdict fused x.entry)
      | inr x ↦
          let paired = two_pair k.verdict ok x.two in
          let yes = pair_says_yes c f.at.before p.ticket (posts_of f.at.before p.ticket) paired owes in
          let there = seen c past q (suc j) p f h in
          let two = ap (λ (z : Ticket). taken_entries z.verdict) there.ticket ∙ x.two in
          let at = published_at c past p.ticket q j h f.is.some there.known there.queue
          (omega (arith, there.number, x.number)) in
          let all = yes_later c f.at.later (Entry.Post p ∷ f.at.before) p.ticket 0
          (subst (λ (z : Past). IsLegal c z) f.at.is h) f.legal yes in
          record {
            ticket = p.ticket;
            takes = takes_from past p.ticket q j 2 f.is.some there.known there.queue
                (ap (λ (z : Ticket). taken_entries z.verdict) there.ticket ∙ x.two)
                (omega (arith, there.number, x.number)) (omega (arith, there.number, x.number));
            first = at.first;
            second = at.second two;
            pair = ap op there.ticket ∙ ap (λ (v : Verdict). op_by v (first_fields k)) paired;
            yes = subst (λ (z : Past). says_yes z p.ticket 0 ≡ true) (sym f.at.is) all;
          }
    ]

-- success for the first of a pair: its effect says yes
pub first_swaps : (c : ConfigNumbers) (past : Past) (q j : ℕ) (p : PostLine) (s : Submission) → IsLegal c past
    → slice_get (published_entries past q) j ≡ Some s → eqb (fuse s) 1 ≡ true
    → reaped_post c past q j ≡ Some p → is_success (cqe_status p.cqe) ≡ true → PairSwaps past q j
first_swaps c past q j p s h e one r y =
    let f = post_of c past q j p h r in
    let k = Tickets.ticket f.at.before p.ticket in
    let owes = f.is.owed ∙ ap Some (success_is (cqe_status p.cqe) y) in
    let ok = passes c f.at.before p.ticket (posts_of f.at.before p.ticket) k.verdict (command k 0) (command k 1) refl
    f.is.taken.verdict owes in
    elim (which c past q j p s f e) [
      | inl x ↦
          let paired = first_pair k.verdict (command k 0) (command k 1) s ok f.is.taken.verdict one x.entry in
          let yes = pair_says_yes c f.at.before p.ticket (posts_of f.at.before p.ticket) paired owes in
          let there = seen c past q j p f h in
          let two = ap (λ (z : Ticket). taken_entries z.verdict) there.ticket ∙ ap taken_entries paired in
          let at = published_at c past p.ticket q j h f.is.some there.known there.queue
          (omega (arith, there.number, x.number)) in
          let all = yes_later c f.at.later (Entry.Post p ∷ f.at.before) p.ticket 0
          (subst (λ (z : Past). IsLegal c z) f.at.is h) f.legal yes in
          record {
            ticket = p.ticket;
            takes = takes_from past p.ticket q j 2 f.is.some there.known there.queue two
                (omega (arith, there.number, x.number)) (omega (arith, there.number, x.number));
            first = at.first;
            second = at.second two;
            pair = ap op there.ticket ∙ ap (λ (v : Verdict). op_by v (first_fields k)) paired;
            yes = subst (λ (z : Past). says_yes z p.ticket 0 ≡ true) (sym f.at.is) all;
          }
      | inr x ↦ clash (eqb (fuse s) 2)
          (second_fuse k.verdict (command k 0) (command k 1) s x.two f.is.taken.verdict x.entry)
          (one_not_two (fuse s) one)
    ]

pub pair_differs : (c : ConfigNumbers) (past : Past) (q j : ℕ) (p : PostLine) (s : Submission) → IsLegal c past
    → slice_get (published_entries past q) j ≡ Some s → eqb (fuse s) 1 ≡ true
    → reaped_post c past q j ≡ Some p → cqe_status p.cqe ≡ compare_failure → PairDiffers past q j
pair_differs c past q j p s h e one r y =
    let f = post_of c past q j p h r in
    let k = Tickets.ticket f.at.before p.ticket in
    let owes = f.is.owed ∙ ap Some y in
    let ok = compare_passes c f.at.before p.ticket (posts_of f.at.before p.ticket) k.verdict (command k 0) (command k 1)
    refl f.is.taken.verdict owes in
    elim (which c past q j p s f e) [
      | inl x ↦
          let paired = first_pair k.verdict (command k 0) (command k 1) s ok f.is.taken.verdict one x.entry in
          let no = pair_says_no c f.at.before p.ticket (posts_of f.at.before p.ticket) compare_failure paired (inl refl)
          owes in
          let there = seen c past q j p f h in
          let two = ap (λ (z : Ticket). taken_entries z.verdict) there.ticket ∙ ap taken_entries paired in
          let at = published_at c past p.ticket q j h f.is.some there.known there.queue
          (omega (arith, there.number, x.number)) in
          let all = no_later c f.at.later (Entry.Post p ∷ f.at.before) p.ticket 0
          (subst (λ (z : Past). IsLegal c z) f.at.is h) f.legal no in
          record {
            ticket = p.ticket;
            takes = takes_from past p.ticket q j 2 f.is.some there.known there.queue
                (ap (λ (z : Ticket). taken_entries z.verdict) there.ticket ∙ ap taken_entries paired)
                (omega (arith, there.number, x.number)) (omega (arith, there.number, x.number));
            first = at.first;
            second = at.second two;
            pair = ap op there.ticket ∙ ap (λ (v : Verdict). op_by v (first_fields k)) paired;
            no = subst (λ (z : Past). says_no z p.ticket 0 ≡ true) (sym f.at.is) all;
          }
      | inr x ↦ clash (eqb (fuse s) 2)
          (second_fuse k.verdict (command k 0) (command k 1) s x.two f.is.taken.verdict x.entry)
          (one_not_two (fuse s) one)
    ]
