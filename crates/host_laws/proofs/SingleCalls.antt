-- What a reaped completion says of a command by itself.
use Rattle.nvme_model.specs.Tickets
use Rattle.std.proofs.Common.{◌≡◌, ℕ, true, false, List, ◌∷◌, ◌++◌, refl, sym, ap, ◌∙◌, subst, Some, inl, inr, arith}
use Rattle.std.proofs.Common.{eqb, slice_get}
use Rattle.std.specs.List.{list_any}
use Rattle.std.proofs.lemmas.Bool.{and_parts}
use Rattle.nvme_model.specs.declared.config.ConfigNumbers.{ConfigNumbers}
use Rattle.nvme_model.specs.Statuses.{success, compare_failure, is_success}
use Rattle.nvme_model.specs.Verdict.{taken_entries}
use Rattle.nvme_model.specs.History.{Past}
use Rattle.nvme_model.specs.Tickets.{Ticket, command, first_fields, posts_of}
use Rattle.nvme_model.specs.Queues.{published_entries}
use Rattle.nvme_model.specs.Operations.{op, op_by, op_of_fields, is_pair, has_compare}
use Rattle.host_laws.specs.Calls.{reaped_post, cqe_status, IsDone, CompareDiffers}
use Rattle.nvme_model.specs.Answered.{says_no}
use Rattle.nvme_model.specs.Owed.{some_no, all_ended, units_of, completion_data, read_data_by}
use Rattle.nvme_model.specs.Legal.{IsLegal}
use Rattle.nvme_model.specs.declared.array.Range.{Range}
use Rattle.nvme_model.specs.declared.operation.Op.{Op}
use Rattle.nvme_model.specs.declared.status.Verdict.{Verdict}
use Rattle.nvme_model.specs.declared.submission.Submission.{Submission}
use Rattle.nvme_model.specs.declared.entry.PostLine.{PostLine}
use Rattle.nvme_model.specs.declared.entry.Entry.{Entry}
use Rattle.nvme_model.specs.EntryBytes.{sqe_fields}
use Rattle.nvme_model.proofs.Cut.{clash}
use Rattle.host_laws.proofs.Verdicts.{fuse}
use Rattle.host_laws.proofs.Outcomes.{passes, single_done, single_no}
use Rattle.host_laws.proofs.Later.{no_later}
use Rattle.host_laws.proofs.Calls.{published_at, post_of, which, seen, takes_from, success_is, first_single}
use Rattle.host_laws.proofs.Calls.{second_fuse, compare_passes}
use Rattle.host_laws.proofs.Units.{Effects, units_later, effects_later, none_no_later, reads_by, any_more}
use Rattle.host_laws.proofs.Units.{some_compares}

pub done : (c : ConfigNumbers) (past : Past) (q j : ℕ) (p : PostLine) (s : Submission) (o : Op) → IsLegal c past
    → slice_get (published_entries past q) j ≡ Some s → eqb (fuse s) 1 ≡ false → eqb (fuse s) 2 ≡ false
    → op_of_fields (sqe_fields s.entry) ≡ Some o → is_pair (Some o) ≡ false
    → reaped_post c past q j ≡ Some p → is_success (cqe_status p.cqe) ≡ true → IsDone c past q j o p.payload
done c past q j p s o h e one two oe np r y =
    let f = post_of c past q j p h r in
    let before = f.at.before in
    let k = Tickets.ticket before p.ticket in
    let owes = f.is.owed ∙ ap Some (success_is (cqe_status p.cqe) y) in
    let ok = passes c before p.ticket (posts_of before p.ticket) k.verdict (command k 0) (command k 1) refl
    f.is.taken.verdict owes in
    elim (which c past q j p s f e) [
      | inl x ↦
          let single = first_single k.verdict (command k 0) (command k 1) s ok f.is.taken.verdict one x.entry in
          let oper : op k ≡ Some o = ap (λ (v : Verdict). op_by v (first_fields k)) single
          ∙ (ap (λ (z : Submission). op_of_fields (sqe_fields z.entry)) x.entry ∙ oe) in
          let d = single_done c before p.ticket (posts_of before p.ticket) o single oper np owes in
          let effects = (and_parts (all_ended c before p.ticket) _ d.1).1 in
          let there = seen c past q j p f h in
          let all : Past = f.at.later ++ (Entry.Post p ∷ before) in
          let l : IsLegal c all = subst (λ (z : Past). IsLegal c z) f.at.is h in
          let kept : Tickets.ticket all p.ticket ≡ k = ap (λ (z : Past). Tickets.ticket z p.ticket) (sym f.at.is)
          ∙ there.ticket in
          let bytes : p.payload ≡ completion_data c before p.ticket success = f.is.contents
          ∙ ap (completion_data c before p.ticket) (success_is (cqe_status p.cqe) y) in
          let same : completion_data c all p.ticket success ≡ completion_data c before p.ticket success =
          ap (λ (z : Ticket). read_data_by c all p.ticket (op z)) kept
          ∙ reads_by c f.at.later (Entry.Post p ∷ before) p.ticket (op k) l kept effects in
          record {
            ticket = p.ticket;
            takes = takes_from past p.ticket q j 1 f.is.some there.known there.queue
                (ap (λ (z : Ticket). taken_entries z.verdict) there.ticket ∙ ap taken_entries single)
                (omega (arith, there.number, x.number)) (omega (arith, there.number, x.number));
            first = (published_at c past p.ticket q j h f.is.some there.known there.queue
                (omega (arith, there.number, x.number))).first;
            does = ap op there.ticket ∙ oper;
            effects = subst (λ (z : Past). Effects c z p.ticket) (sym f.at.is)
                (effects_later c f.at.later (Entry.Post p ∷ before) p.ticket l kept effects);
            none_no = subst (λ (z : Past). some_no c z p.ticket ≡ false) (sym f.at.is)
                (none_no_later c f.at.later (Entry.Post p ∷ before) p.ticket l f.legal kept effects ∙ d.0);
            reads = bytes ∙ (sym same ∙ ap (λ (z : Past). completion_data c z p.ticket success) (sym f.at.is));
          }
      | inr x ↦ clash (eqb (fuse s) 2)
          (second_fuse k.verdict (command k 0) (command k 1) s x.two f.is.taken.verdict x.entry) two
    ]

-- a command by itself that compares
compare_is : (o : Op) → is_pair (Some o) ≡ false → has_compare (Some o) ≡ true → o ≡ Op.Compare
compare_is Op.Compare n c = refl
compare_is Op.Pair n c = clash true refl n
compare_is Op.Read n c = clash false c refl
compare_is Op.Write n c = clash false c refl
compare_is Op.WriteZeroes n c = clash false c refl

pub compare_differs : (c : ConfigNumbers) (past : Past) (q j : ℕ) (p : PostLine) (s : Submission) (o : Op)
    → IsLegal c past → slice_get (published_entries past q) j ≡ Some s → eqb (fuse s) 1 ≡ false → eqb (fuse s) 2 ≡ false
    → op_of_fields (sqe_fields s.entry) ≡ Some o → is_pair (Some o) ≡ false
    → reaped_post c past q j ≡ Some p → cqe_status p.cqe ≡ compare_failure → CompareDiffers c past q j
compare_differs c past q j p s o h e one two oe np r y =
    let f = post_of c past q j p h r in
    let before = f.at.before in
    let k = Tickets.ticket before p.ticket in
    let owes = f.is.owed ∙ ap Some y in
    let ok = compare_passes c before p.ticket (posts_of before p.ticket) k.verdict (command k 0) (command k 1) refl
    f.is.taken.verdict owes in
    elim (which c past q j p s f e) [
      | inl x ↦
          let single = first_single k.verdict (command k 0) (command k 1) s ok f.is.taken.verdict one x.entry in
          let oper : op k ≡ Some o = ap (λ (v : Verdict). op_by v (first_fields k)) single
          ∙ (ap (λ (z : Submission). op_of_fields (sqe_fields z.entry)) x.entry ∙ oe) in
          let d = single_no c before p.ticket (posts_of before p.ticket) o single oper np owes in
          let there = seen c past q j p f h in
          let all : Past = f.at.later ++ (Entry.Post p ∷ before) in
          let l : IsLegal c all = subst (λ (z : Past). IsLegal c z) f.at.is h in
          let kept : Tickets.ticket all p.ticket ≡ k = ap (λ (z : Past). Tickets.ticket z p.ticket) (sym f.at.is)
          ∙ there.ticket in
          let no : some_no c all p.ticket ≡ true =
          subst (λ (us : List (ℕ × Range)). list_any (λ u. says_no all p.ticket u.0) us ≡ true)
          (sym (units_later c before all p.ticket kept))
          (any_more (λ u. says_no before p.ticket u.0) (λ u. says_no all p.ticket u.0) (units_of c before p.ticket)
          (λ u n. no_later c f.at.later (Entry.Post p ∷ before) p.ticket u.0 l f.legal n) d) in
          let seen_no : some_no c past p.ticket ≡ true =
          subst (λ (z : Past). some_no c z p.ticket ≡ true) (sym f.at.is) no in
          record {
            ticket = p.ticket;
            takes = takes_from past p.ticket q j 1 f.is.some there.known there.queue
                (ap (λ (z : Ticket). taken_entries z.verdict) there.ticket ∙ ap taken_entries single)
                (omega (arith, there.number, x.number)) (omega (arith, there.number, x.number));
            first = (published_at c past p.ticket q j h f.is.some there.known there.queue
                (omega (arith, there.number, x.number))).first;
            compares = ap op there.ticket
                ∙ (oper ∙ ap Some (compare_is o np (ap has_compare (sym oper) ∙ some_compares c before p.ticket d)));
            no = seen_no;
          }
      | inr x ↦ clash (eqb (fuse s) 2)
          (second_fuse k.verdict (command k 0) (command k 1) s x.two f.is.taken.verdict x.entry) two
    ]

-- 2/85 is of a Compare
pub only_compares : (c : ConfigNumbers) (past : Past) (q j : ℕ) (p : PostLine) (s : Submission) (o : Op)
    → IsLegal c past → slice_get (published_entries past q) j ≡ Some s → eqb (fuse s) 1 ≡ false → eqb (fuse s) 2 ≡ false
    → op_of_fields (sqe_fields s.entry) ≡ Some o → is_pair (Some o) ≡ false
    → reaped_post c past q j ≡ Some p → cqe_status p.cqe ≡ compare_failure → o ≡ Op.Compare
only_compares c past q j p s o h e one two oe np r y =
    let f = post_of c past q j p h r in
    let before = f.at.before in
    let k = Tickets.ticket before p.ticket in
    let owes = f.is.owed ∙ ap Some y in
    let ok = compare_passes c before p.ticket (posts_of before p.ticket) k.verdict (command k 0) (command k 1) refl
    f.is.taken.verdict owes in
    elim (which c past q j p s f e) [
      | inl x ↦
          let single = first_single k.verdict (command k 0) (command k 1) s ok f.is.taken.verdict one x.entry in
          let oper : op k ≡ Some o = ap (λ (v : Verdict). op_by v (first_fields k)) single
          ∙ (ap (λ (z : Submission). op_of_fields (sqe_fields z.entry)) x.entry ∙ oe) in
          compare_is o np (ap has_compare (sym oper)
          ∙ some_compares c before p.ticket
          (single_no c before p.ticket (posts_of before p.ticket) o single oper np owes))
      | inr x ↦ clash (eqb (fuse s) 2)
          (second_fuse k.verdict (command k 0) (command k 1) s x.two f.is.taken.verdict x.entry) two
    ]
