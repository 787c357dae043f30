-- What a completion says that is neither success nor a difference, and which statuses there are.
use Rattle.nvme_model.specs.Tickets
use Rattle.std.proofs.Common.{◌≡◌, ℕ, Bool, true, false, ◌&&◌, ◌||◌, cond, List, [], ◌∷◌, refl, sym, ap, ◌∙◌, subst}
use Rattle.std.proofs.Common.{Option, Some, None, inl, inr, ◌⊎◌, arith, eqb, slice_get}
use Rattle.std.proofs.lemmas.Bool.{or_right, cases_Bool}
use Rattle.nvme_model.specs.declared.config.ConfigNumbers.{ConfigNumbers}
use Rattle.nvme_model.specs.Statuses.{success, compare_failure, is_success, failed_fused, same_status}
use Rattle.nvme_model.specs.Verdict.{taken_entries, passed}
use Rattle.nvme_model.specs.History.{Past}
use Rattle.nvme_model.specs.Tickets.{Ticket, command, first_fields, posts_of}
use Rattle.nvme_model.specs.Queues.{published_entries}
use Rattle.nvme_model.specs.Operations.{op, op_by}
use Rattle.nvme_model.specs.Open.{blocks_of}
use Rattle.host_laws.specs.Calls.{reaped_post, cqe_status, FailsChecks, is_fault, is_known}
use Rattle.nvme_model.specs.Owed.{owed, owed_after, owed_by, some_no, all_done, all_ended}
use Rattle.nvme_model.specs.Legal.{IsLegal}
use Rattle.nvme_model.specs.declared.operation.Op.{Op}
use Rattle.nvme_model.specs.declared.status.Status.{Status}
use Rattle.nvme_model.specs.declared.status.Verdict.{Verdict}
use Rattle.nvme_model.specs.declared.submission.Submission.{Submission}
use Rattle.nvme_model.specs.declared.entry.PostLine.{PostLine}
use Rattle.nvme_model.specs.EntryBytes.{Sqe}
use Rattle.nvme_model.proofs.StepCounts.{idle_counts}
use Rattle.nvme_model.proofs.Lists.{Each, each_get}
use Rattle.nvme_model.proofs.Cut.{clash}
use Rattle.host_laws.proofs.Elements.{same_some}
use Rattle.host_laws.proofs.Verdicts.{fuse, Fails, VerdictIs}
use Rattle.host_laws.proofs.TicketsApart.{taken_some}
use Rattle.host_laws.proofs.Calls.{published_at, post_of, which, seen, takes_from, second_fuse}

-- ---- the status that is owed first

first_single_owed : (some done : Bool) (x : Status)
    → slice_get (cond some (compare_failure ∷ []) (cond done (success ∷ []) [])) 0 ≡ Some x
    → (x ≡ success) ⊎ (x ≡ compare_failure)
first_single_owed true done x h = inr (sym (same_some compare_failure x (Some compare_failure) refl h))
first_single_owed false true x h = inl (sym (same_some success x (Some success) refl h))
first_single_owed false false x h = absurd (let f : None ≡ Some x = h in cc)

first_pair_owed : (some done : Bool) (x : Status)
    → slice_get (cond some (compare_failure ∷ failed_fused ∷ []) (cond done (success ∷ success ∷ []) [])) 0 ≡ Some x
    → (x ≡ success) ⊎ (x ≡ compare_failure)
first_pair_owed true done x h = inr (sym (same_some compare_failure x (Some compare_failure) refl h))
first_pair_owed false true x h = inl (sym (same_some success x (Some success) refl h))
first_pair_owed false false x h = absurd (let f : None ≡ Some x = h in cc)

first_by : (c : ConfigNumbers) (past : Past) (t : ℕ) (o : Option Op) (x : Status)
    → slice_get (owed_by c past t o) 0 ≡ Some x → (x ≡ success) ⊎ (x ≡ compare_failure)
first_by c past t None x h = inl (sym (same_some success x (Some success) refl h))
first_by c past t (Some Op.Pair) x h = first_pair_owed (some_no c past t && all_ended c past t) (all_done c past t) x h
first_by c past t (Some Op.Read) x h = first_single_owed (some_no c past t) (all_done c past t) x h
first_by c past t (Some Op.Compare) x h = first_single_owed (some_no c past t) (all_done c past t) x h
first_by c past t (Some Op.Write) x h = first_single_owed (some_no c past t) (all_done c past t) x h
first_by c past t (Some Op.WriteZeroes) x h = first_single_owed (some_no c past t) (all_done c past t) x h

first_passed : (c : ConfigNumbers) (past : Past) (t : ℕ) (k : Ticket) (v : Verdict) (x : Status) → passed v ≡ true
    → slice_get (owed_after c past t k v) 0 ≡ Some x → (x ≡ success) ⊎ (x ≡ compare_failure)
first_passed c past t k Verdict.Single x p h = first_by c past t (op k) x h
first_passed c past t k Verdict.Pair x p h = first_by c past t (op k) x h
first_passed c past t k (Verdict.SingleFailed s) x p h = clash false p refl
first_passed c past t k (Verdict.PairFailed s r) x p h = clash false p refl

not_passed : (v : Verdict) (e : Sqe) → passed v ≡ false → op_by v e ≡ None
not_passed Verdict.Single e p = clash true refl p
not_passed Verdict.Pair e p = clash true refl p
not_passed (Verdict.SingleFailed s) e p = refl
not_passed (Verdict.PairFailed s r) e p = refl

-- a ticket that failed its checks has no Block
pub failed_idle : (c : ConfigNumbers) (past : Past) (t : ℕ) → IsLegal c past
    → passed (Tickets.ticket past t).verdict ≡ false → blocks_of past t ≡ 0
failed_idle c past t h p =
    (idle_counts c past t h (not_passed (Tickets.ticket past t).verdict (first_fields (Tickets.ticket past t)) p)).1

-- another status than success and 2/85, of an entry that is no second of a pair
pub failed_checks : (c : ConfigNumbers) (past : Past) (q j : ℕ) (p : PostLine) (s : Submission) → IsLegal c past
    → slice_get (published_entries past q) j ≡ Some s → eqb (fuse s) 2 ≡ false
    → reaped_post c past q j ≡ Some p → is_success (cqe_status p.cqe) ≡ false
    → same_status (cqe_status p.cqe) compare_failure ≡ false → FailsChecks past q j
failed_checks c past q j p s h e two r y z =
    let f = post_of c past q j p h r in
    let k = Tickets.ticket f.at.before p.ticket in
    elim (which c past q j p s f e) [
      | inl x ↦
          let there = seen c past q j p f h in
          let failed : passed k.verdict ≡ false = elim (cases_Bool (passed k.verdict)) [
            | inr n ↦ n
            | inl ok ↦ elim (first_passed c f.at.before p.ticket k k.verdict (cqe_status p.cqe) ok
                (subst (λ (i : ℕ). slice_get (owed c f.at.before p.ticket) i ≡ Some (cqe_status p.cqe)) x.posts
                f.is.owed)) [
                  | inl a ↦ clash (is_success (cqe_status p.cqe)) (ap is_success a) y
                  | inr a ↦ clash (same_status (cqe_status p.cqe) compare_failure)
                      (ap (λ (w : Status). same_status w compare_failure) a) z
                ]
          ] in
          let now : passed (Tickets.ticket past p.ticket).verdict ≡ false =
          ap (λ (w : Ticket). passed w.verdict) there.ticket ∙ failed in
          record {
            ticket = p.ticket;
            takes = takes_from past p.ticket q j (taken_entries k.verdict) f.is.some there.known there.queue
                (ap (λ (w : Ticket). taken_entries w.verdict) there.ticket)
                (omega (arith, there.number, x.number)) (omega (arith, there.number, x.number, (taken_some k.verdict)));
            first = (published_at c past p.ticket q j h f.is.some there.known there.queue
                (omega (arith, there.number, x.number))).first;
            failed = now;
            idle = failed_idle c past p.ticket h now;
          }
      | inr x ↦ clash (eqb (fuse s) 2)
          (second_fuse k.verdict (command k 0) (command k 1) s x.two f.is.taken.verdict x.entry) two
    ]

-- ---- which statuses there are

abbrev pub IsKnown : Status → Type 0
IsKnown x = is_known x ≡ true

fails_known : (s : Status) → Fails s → IsKnown s
fails_known s f = or_right (is_success s || same_status s compare_failure) (is_fault s) f.listed

known_cond : (b : Bool) (xs ys : List Status) → Each IsKnown xs → Each IsKnown ys → Each IsKnown (cond b xs ys)
known_cond true xs ys f g = f
known_cond false xs ys f g = g

single_known : (some done : Bool) → Each IsKnown (cond some (compare_failure ∷ []) (cond done (success ∷ []) []))
single_known some done =
    known_cond some (compare_failure ∷ []) (cond done (success ∷ []) []) (refl, tt)
    (known_cond done (success ∷ []) [] (refl, tt) tt)

by_known : (c : ConfigNumbers) (past : Past) (t : ℕ) (o : Option Op) → Each IsKnown (owed_by c past t o)
by_known c past t None = (refl, tt)
by_known c past t (Some Op.Pair) =
    known_cond (some_no c past t && all_ended c past t) (compare_failure ∷ failed_fused ∷ [])
    (cond (all_done c past t) (success ∷ success ∷ []) []) (refl, (refl, tt))
    (known_cond (all_done c past t) (success ∷ success ∷ []) [] (refl, (refl, tt)) tt)
by_known c past t (Some Op.Read) = single_known (some_no c past t) (all_done c past t)
by_known c past t (Some Op.Compare) = single_known (some_no c past t) (all_done c past t)
by_known c past t (Some Op.Write) = single_known (some_no c past t) (all_done c past t)
by_known c past t (Some Op.WriteZeroes) = single_known (some_no c past t) (all_done c past t)

after_known : (c : ConfigNumbers) (past : Past) (t : ℕ) (k : Ticket) (v : Verdict) (a b : Submission) → VerdictIs v a b
    → Each IsKnown (owed_after c past t k v)
after_known c past t k Verdict.Single a b h = by_known c past t (op k)
after_known c past t k Verdict.Pair a b h = by_known c past t (op k)
after_known c past t k (Verdict.SingleFailed s) a b h = (fails_known s h, tt)
after_known c past t k (Verdict.PairFailed s r) a b h = (fails_known s h.0, (fails_known r h.1, tt))

pub status_known : (c : ConfigNumbers) (past : Past) (q j : ℕ) (p : PostLine) → IsLegal c past
    → reaped_post c past q j ≡ Some p → IsKnown (cqe_status p.cqe)
status_known c past q j p h r =
    let f = post_of c past q j p h r in
    let k = Tickets.ticket f.at.before p.ticket in
    each_get IsKnown (owed c f.at.before p.ticket) (posts_of f.at.before p.ticket) (cqe_status p.cqe)
    (after_known c f.at.before p.ticket k k.verdict (command k 0) (command k 1) f.is.taken.verdict) f.is.owed
