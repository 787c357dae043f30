-- A verdict asks of the CIDs in use only which they are.
use Rattle.std.proofs.Common.{◌≡◌, ℕ, Bool, not, ◌&&◌, ◌||◌, cond, List, [], ◌∷◌, refl, ap, ap₂, Option, is_some}
use Rattle.std.proofs.Common.{unwrap_or, eqb, nat_lt, ◌+◌}
use Rattle.nvme_model.specs.declared.config.AtomicParameters.{AtomicParameters}
use Rattle.nvme_model.specs.declared.status.Status.{Status}
use Rattle.nvme_model.specs.Tables.{first_row}
use Rattle.nvme_model.specs.EntryBytes.{block_count, slba}
use Rattle.nvme_model.specs.Commands.{data_length, is_compare, is_flush, is_read, is_write, is_write_zeroes}
use Rattle.nvme_model.specs.Cells.{pair_fits}
use Rattle.nvme_model.specs.Statuses.{cid_conflict, data_transfer_error, failed_fused, invalid_field, invalid_namespace}
use Rattle.nvme_model.specs.Statuses.{invalid_opcode, missing_fused, out_of_range, success, unit_exceeded}
use Rattle.nvme_model.specs.Verdict.{Item, command_fault, has_invalid_field, is_in, of_command, of_pair, pair_fault}
use Rattle.nvme_model.specs.Verdict.{pair_verdict, verdict_of}
use Rattle.nvme_model.specs.declared.status.Verdict.{Verdict}

-- the same CIDs, in whatever order and however often
abbrev pub SameIn : List ℕ → List ℕ → Type 0
SameIn xs ys = (cid : ℕ) → is_in cid xs ≡ is_in cid ys

command_same : (size : ℕ) (xs ys : List ℕ) (i : Item) → SameIn xs ys → command_fault size xs i ≡ command_fault size ys i
command_same size xs ys i h =
    let e = i.fields in
    ap (λ (b : Bool). first_row (
    (not (is_flush e || is_write e || is_read e || is_compare e || is_write_zeroes e), invalid_opcode)
    ∷ (has_invalid_field e, invalid_field)
    ∷ (b, cid_conflict)
    ∷ (not (eqb e.nsid 1), invalid_namespace)
    ∷ (not (is_flush e) && nat_lt 256 (block_count e), invalid_field)
    ∷ (not (is_flush e) && nat_lt size (slba e + block_count e), out_of_range)
    ∷ (not (eqb i.length (data_length e)), data_transfer_error)
    ∷ [])) (h e.cid)

pair_same : (u : AtomicParameters) (size : ℕ) (xs ys : List ℕ) (first second : Item) → SameIn xs ys
    → pair_fault u size xs first second ≡ pair_fault u size ys first second
pair_same u size xs ys first second h =
    let e = first.fields in
    let d = second.fields in
    let x = command_same size xs ys first h in
    let y = command_same size xs ys second h in
    (λ k. first_row (
    (not (is_compare e && is_write d), (invalid_field, invalid_field))
    ∷ (h e.cid k || h d.cid k || eqb e.cid d.cid, (cid_conflict, cid_conflict))
    ∷ (is_some (x k), (unwrap_or (x k) success, failed_fused))
    ∷ (is_some (y k), (failed_fused, unwrap_or (y k) success))
    ∷ (not (eqb (slba e) (slba d) && eqb (block_count e) (block_count d)), (invalid_field, invalid_field))
    ∷ (not (pair_fits u (slba e) (block_count e)), (unit_exceeded, unit_exceeded))
    ∷ []))

pair_verdict_same : (u : AtomicParameters) (size : ℕ) (xs ys : List ℕ) (first : Item) (rest : List Item) → SameIn xs ys
    → pair_verdict u size xs first rest ≡ pair_verdict u size ys first rest
pair_verdict_same u size xs ys first [] h = refl
pair_verdict_same u size xs ys first (second ∷ rest) h =
    ap (λ o. cond (eqb second.fields.fuse 2) (of_pair o) (Verdict.SingleFailed missing_fused))
    (pair_same u size xs ys first second h)

-- the verdict is the same
pub verdict_same : (u : AtomicParameters) (size : ℕ) (xs ys : List ℕ) (items : List Item) → SameIn xs ys
    → verdict_of u size xs items ≡ verdict_of u size ys items
verdict_same u size xs ys [] h = refl
verdict_same u size xs ys (first ∷ rest) h =
    ap₂ (λ (v : Verdict) (o : Option Status).
    cond (eqb first.fields.fuse 1) v
    (cond (eqb first.fields.fuse 2) (Verdict.SingleFailed missing_fused) (of_command o)))
    (pair_verdict_same u size xs ys first rest h) (command_same size xs ys first h)
