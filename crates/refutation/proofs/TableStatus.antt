-- Each completion of a legal history has a status that its entry's own fields, and those of its neighbours, allow.
use Rattle.nvme_model.specs.Tickets
use Rattle.std.proofs.Common.{◌≡◌, ℕ, ◌+◌, Bool, true, false, ◌&&◌, ◌||◌, cond, List, [], ◌∷◌}
use Rattle.std.proofs.Common.{◌⊎◌, Option, None, Some, map, slice_get, nat_lt, is_some, unwrap_or}
use Rattle.std.proofs.Common.{refl, sym, ap, ap₂, ◌∙◌, subst, inl, inr, arith, eqb, not}
use Rattle.std.proofs.lemmas.Bool.{and_from, or_left}
use Rattle.std.proofs.lemmas.Bool.{or_right}
use Rattle.host_laws.proofs.Outcomes.{one_at}
use Rattle.nvme_model.proofs.Runs.{status_same}
use Rattle.nvme_model.specs.Commands.{data_length, is_compare, is_flush, is_read, is_write, is_write_zeroes}
use Rattle.nvme_model.specs.EntryBytes.{Sqe, block_count, slba, sqe_fields}
use Rattle.nvme_model.specs.History.{Past}
use Rattle.nvme_model.specs.Operations.{has_compare, is_pair, op, op_by, op_of_fields}
use Rattle.nvme_model.specs.Owed.{all_done, all_ended, owed, owed_after, owed_by, some_no}
use Rattle.nvme_model.specs.Statuses.{cid_conflict, compare_failure, data_transfer_error, failed_fused, invalid_field}
use Rattle.nvme_model.specs.Statuses.{invalid_namespace, invalid_opcode, is_success, missing_fused, out_of_range}
use Rattle.nvme_model.specs.Statuses.{same_status}
use Rattle.nvme_model.specs.Statuses.{success, unit_exceeded}
use Rattle.nvme_model.specs.Tables.{first_row}
use Rattle.nvme_model.specs.Tickets.{Ticket, cids_in_use, command, first_fields, posts_of}
use Rattle.nvme_model.specs.Verdict.{command_fault, has_invalid_field, is_in, item_of, pair_fault, taken_entries}
use Rattle.nvme_model.specs.Cells.{pair_fits}
use Rattle.nvme_model.specs.Verdict.{of_command, of_pair, verdict_of}
use Rattle.nvme_model.specs.declared.config.ConfigNumbers.{ConfigNumbers}
use Rattle.nvme_model.specs.declared.operation.Op.{Op}
use Rattle.nvme_model.specs.declared.status.Status.{Status}
use Rattle.nvme_model.specs.declared.status.Verdict.{Verdict}
use Rattle.nvme_model.specs.declared.submission.Submission.{Submission}
use Rattle.nvme_model.proofs.NextPost.{not_pair}
use Rattle.host_laws.specs.Book.{cid_of}
use Rattle.host_laws.proofs.Elements.{same_some}
use Rattle.host_laws.proofs.Units.{some_compares}
use Rattle.refutation.specs.MayAnswer.{answers_first, answers_second, verdict_at}

-- ---- what a ticket owes, by its verdict

same_if : (s x : Status) → s ≡ x → same_status x s ≡ true
same_if s x e = subst (λ (y : Status). same_status y s ≡ true) e (status_same s)

-- success, or Compare Failure where some effect says no
by_effects : (some done : Bool) (x : Status)
    → slice_get (cond some (compare_failure ∷ []) (cond done (success ∷ []) [])) 0 ≡ Some x
    → (is_success x ≡ true) ⊎ ((some ≡ true) × (same_status x compare_failure ≡ true))
by_effects true done x h = inr (refl, same_if compare_failure x (one_at compare_failure x 0 h))
by_effects false true x h = inl (ap is_success (sym (one_at success x 0 h)))
by_effects false false x h = absurd (let f : None ≡ Some x = h in cc)

pair_first : (some done : Bool) (x : Status)
    → slice_get (cond some (compare_failure ∷ failed_fused ∷ []) (cond done (success ∷ success ∷ []) [])) 0 ≡ Some x
    → (is_success x || same_status x compare_failure) ≡ true
pair_first true done x h =
    or_right (is_success x) _ (same_if compare_failure x (same_some compare_failure x (Some compare_failure) refl h))
pair_first false true x h = or_left _ _ (ap is_success (sym (same_some success x (Some success) refl h)))
pair_first false false x h = absurd (let f : None ≡ Some x = h in cc)

pair_second : (some done : Bool) (x : Status)
    → slice_get (cond some (compare_failure ∷ failed_fused ∷ []) (cond done (success ∷ success ∷ []) [])) 1 ≡ Some x
    → (is_success x || same_status x failed_fused) ≡ true
pair_second true done x h =
    or_right (is_success x) _ (same_if failed_fused x (same_some failed_fused x (Some failed_fused) refl h))
pair_second false true x h = or_left _ _ (ap is_success (sym (same_some success x (Some success) refl h)))
pair_second false false x h = absurd (let f : None ≡ Some x = h in cc)

-- of the single commands only a Compare compares
compares_alone : (e : Sqe) → has_compare (op_of_fields e) ≡ true → is_compare e ≡ true
compares_alone e h = go (is_write e) (is_read e) (is_compare e) (is_write_zeroes e) h
  where
    go : (w r k z : Bool)
        → has_compare (cond w (Some Op.Write) (cond r (Some Op.Read) (cond k (Some Op.Compare)
        (cond z (Some Op.WriteZeroes) None)))) ≡ true → k ≡ true
    go true r k z h = absurd (let f : false ≡ true = h in cc)
    go false true k z h = absurd (let f : false ≡ true = h in cc)
    go false false true z h = refl
    go false false false true h = absurd (let f : false ≡ true = h in cc)
    go false false false false h = absurd (let f : false ≡ true = h in cc)

alone_owes : (c : ConfigNumbers) (past : Past) (t : ℕ) (o : Option Op) (x : Status) → is_pair o ≡ false
    → slice_get (owed_by c past t o) 0 ≡ Some x
    → (is_success x ≡ true) ⊎ ((some_no c past t ≡ true) × (same_status x compare_failure ≡ true))
alone_owes c past t None x p h = inl (ap is_success (sym (one_at success x 0 h)))
alone_owes c past t (Some Op.Read) x p h = by_effects (some_no c past t) (all_done c past t) x h
alone_owes c past t (Some Op.Compare) x p h = by_effects (some_no c past t) (all_done c past t) x h
alone_owes c past t (Some Op.Write) x p h = by_effects (some_no c past t) (all_done c past t) x h
alone_owes c past t (Some Op.WriteZeroes) x p h = by_effects (some_no c past t) (all_done c past t) x h
alone_owes c past t (Some Op.Pair) x p h = absurd (let f : true ≡ false = p in cc)

-- its first completion
pub owes_first : (c : ConfigNumbers) (past : Past) (t : ℕ) (v : Verdict) (x : Status)
    → (Tickets.ticket past t).verdict ≡ v → slice_get (owed c past t) 0 ≡ Some x
    → answers_first v (first_fields (Tickets.ticket past t)) x ≡ true
owes_first c past t v x e h =
    go v e (subst (λ (w : Verdict). slice_get (owed_after c past t (Tickets.ticket past t) w) 0 ≡ Some x) e h)
  where
    fields : Sqe
    fields = first_fields (Tickets.ticket past t)

    single : op (Tickets.ticket past t) ≡ op_of_fields fields
        → (is_success x ≡ true) ⊎ ((some_no c past t ≡ true) × (same_status x compare_failure ≡ true))
        → (is_success x || (is_compare fields && same_status x compare_failure)) ≡ true
    single o (inl a) = or_left _ _ a
    single o (inr a) =
        let compares = compares_alone fields (ap has_compare (sym o) ∙ some_compares c past t a.0) in
        or_right (is_success x) _ (and_from _ _ compares a.1)

    go : (w : Verdict) → (Tickets.ticket past t).verdict ≡ w
        → slice_get (owed_after c past t (Tickets.ticket past t) w) 0 ≡ Some x → answers_first w fields x ≡ true
    go Verdict.Single f g =
        let o : op (Tickets.ticket past t) ≡ op_of_fields fields = ap (λ (w : Verdict). op_by w fields) f in
        single o (alone_owes c past t (op (Tickets.ticket past t)) x (ap is_pair o ∙ not_pair fields) g)
    go (Verdict.SingleFailed s) f g = same_if s x (one_at s x 0 g)
    go Verdict.Pair f g =
        let o : op (Tickets.ticket past t) ≡ Some Op.Pair = ap (λ (w : Verdict). op_by w fields) f in
        pair_first (some_no c past t && all_ended c past t) (all_done c past t) x
        (subst (λ (y : Option Op). slice_get (owed_by c past t y) 0 ≡ Some x) o g)
    go (Verdict.PairFailed s r) f g = same_if s x (same_some s x (Some s) refl g)

-- and its second
pub owes_second : (c : ConfigNumbers) (past : Past) (t : ℕ) (v : Verdict) (x : Status)
    → (Tickets.ticket past t).verdict ≡ v → slice_get (owed c past t) 1 ≡ Some x → taken_entries v ≡ 2
    → answers_second v x ≡ true
owes_second c past t v x e h two =
    go v e (subst (λ (w : Verdict). slice_get (owed_after c past t (Tickets.ticket past t) w) 1 ≡ Some x) e h) two
  where
    fields : Sqe
    fields = first_fields (Tickets.ticket past t)

    go : (w : Verdict) → (Tickets.ticket past t).verdict ≡ w
        → slice_get (owed_after c past t (Tickets.ticket past t) w) 1 ≡ Some x → taken_entries w ≡ 2
        → answers_second w x ≡ true
    go Verdict.Single f g n = absurd (omega (arith, n))
    go (Verdict.SingleFailed s) f g n = absurd (omega (arith, n))
    go Verdict.Pair f g n =
        let o : op (Tickets.ticket past t) ≡ Some Op.Pair = ap (λ (w : Verdict). op_by w fields) f in
        pair_second (some_no c past t && all_ended c past t) (all_done c past t) x
        (subst (λ (y : Option Op). slice_get (owed_by c past t y) 1 ≡ Some x) o g)
    go (Verdict.PairFailed s r) f g n = same_if r x (same_some r x (Some r) refl g)

-- ---- without a conflict of CIDs

-- the faults of a command, where this says whether its CID is in use
abbrev fault_by : ℕ → Bool → Submission → Option Status
fault_by size conflict s =
    let i = item_of s in
    let e = i.fields in
    first_row ((not (is_flush e || is_write e || is_read e || is_compare e || is_write_zeroes e), invalid_opcode)
    ∷ (has_invalid_field e, invalid_field)
    ∷ (conflict, cid_conflict)
    ∷ (not (eqb e.nsid 1), invalid_namespace)
    ∷ (not (is_flush e) && nat_lt 256 (block_count e), invalid_field)
    ∷ (not (is_flush e) && nat_lt size (slba e + block_count e), out_of_range)
    ∷ (not (eqb i.length (data_length e)), data_transfer_error)
    ∷ [])

free_fault : (size : ℕ) (in_use : List ℕ) (s : Submission) → is_in (cid_of s) in_use ≡ false
    → command_fault size in_use (item_of s) ≡ command_fault size [] (item_of s)
free_fault size in_use s h = ap (λ (b : Bool). fault_by size b s) h

-- the faults of a pair, where these say whether its CIDs conflict and what is wrong with each command
abbrev pair_by : ConfigNumbers → Submission → Submission → Bool → Option Status → Option Status
    → Option (Status × Status)
pair_by c a b conflict first second =
    let e = sqe_fields a.entry in
    let d = sqe_fields b.entry in
    first_row ((not (is_compare e && is_write d), (invalid_field, invalid_field))
    ∷ (conflict, (cid_conflict, cid_conflict))
    ∷ (is_some first, (unwrap_or first success, failed_fused))
    ∷ (is_some second, (failed_fused, unwrap_or second success))
    ∷ (not (eqb (slba e) (slba d) && eqb (block_count e) (block_count d)), (invalid_field, invalid_field))
    ∷ (not (pair_fits c.atomic (slba e) (block_count e)), (unit_exceeded, unit_exceeded))
    ∷ [])

free_pair : (c : ConfigNumbers) (in_use : List ℕ) (a b : Submission) → is_in (cid_of a) in_use ≡ false
    → is_in (cid_of b) in_use ≡ false
    → pair_fault c.atomic c.blocks in_use (item_of a) (item_of b)
    ≡ pair_fault c.atomic c.blocks [] (item_of a) (item_of b)
free_pair c in_use a b h g =
    let first = command_fault c.blocks in_use (item_of a) in
    let second = command_fault c.blocks in_use (item_of b) in
    ap₂ (λ (x y : Bool). pair_by c a b (x || y || eqb (cid_of a) (cid_of b)) first second) h g
    ∙ ap₂ (λ (x y : Option Status). pair_by c a b (false || false || eqb (cid_of a) (cid_of b)) x y)
    (free_fault c.blocks in_use a h) (free_fault c.blocks in_use b g)

pub free_verdict : (c : ConfigNumbers) (in_use : List ℕ) (a : Submission) (rest : List Submission)
    → is_in (cid_of a) in_use ≡ false → ((b : Submission) → slice_get rest 0 ≡ Some b → is_in (cid_of b) in_use ≡ false)
    → verdict_of c.atomic c.blocks in_use (map item_of (a ∷ rest)) ≡ verdict_at c a (slice_get rest 0)
free_verdict c in_use a [] h g =
    ap (λ (x : Option Status). cond (eqb (sqe_fields a.entry).fuse 1) (Verdict.SingleFailed missing_fused)
    (cond (eqb (sqe_fields a.entry).fuse 2) (Verdict.SingleFailed missing_fused) (of_command x)))
    (free_fault c.blocks in_use a h)
free_verdict c in_use a (b ∷ rest) h g =
    ap₂ (λ (x : Option Status) (y : Option (Status × Status)).
    cond (eqb (sqe_fields a.entry).fuse 1)
    (cond (eqb (sqe_fields b.entry).fuse 2) (of_pair y) (Verdict.SingleFailed missing_fused))
    (cond (eqb (sqe_fields a.entry).fuse 2) (Verdict.SingleFailed missing_fused) (of_command x)))
    (free_fault c.blocks in_use a h) (free_pair c in_use a b h (g b refl))
