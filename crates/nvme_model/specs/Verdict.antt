-- Which status a command or a fused pair is answered with before it runs.
use Rattle.std.specs.List.{list_any}
use Rattle.std.specs.Prelude.{Bool, List, None, Option, Some, [], false, if◌then◌else◌, is_some, length, nat_lt, not}
use Rattle.std.specs.Prelude.{true, unwrap_or, ℕ, ◌&&◌, ◌+◌, ◌/◌, ◌==◌, ◌||◌, ◌∷◌}
use Rattle.nvme_model.specs.Cells.{pair_fits}
use Rattle.nvme_model.specs.Commands.{data_length, is_compare, is_flush, is_read, is_write, is_write_zeroes}
use Rattle.nvme_model.specs.declared.config.AtomicParameters.{AtomicParameters}
use Rattle.nvme_model.specs.EntryBytes.{Sqe, block_count, slba, sqe_fields}
use Rattle.nvme_model.specs.Statuses.{cid_conflict, data_transfer_error, failed_fused, invalid_field, invalid_namespace}
use Rattle.nvme_model.specs.Statuses.{invalid_opcode, missing_fused, out_of_range, same_status, success, unit_exceeded}
use Rattle.nvme_model.specs.Tables.{first_row}
use Rattle.nvme_model.specs.declared.status.Status.{Status}
use Rattle.nvme_model.specs.declared.submission.Submission.{Submission}
use Rattle.nvme_model.specs.declared.status.Verdict.{Verdict}

-- What a check sees of a submission: the fields of its entry, and how many bytes of data lie beside it.
pub record Item : Type 0 where
  pub fields : Sqe
  pub length : ℕ

-- what a check sees of this submission
abbrev pub item_of : Submission → Item
item_of s = record { fields = sqe_fields s.entry; length = length s.payload }

-- a field that has to be zero in this profile isn't, or FUSE is 11b (Base 2.0, Submission Queue Entry)
abbrev pub has_invalid_field : Sqe → Bool
has_invalid_field e =
    not (e.reserved + e.psdt + e.cdw2 + e.cdw3 + e.mptr + e.dptr + e.cdw12 / 65536 + e.cdw13 + e.cdw14 + e.cdw15 == 0)
    || (e.fuse == 3)
    || (is_flush e && not (e.cdw10 + e.cdw11 + e.cdw12 == 0))

-- n is one of these
abbrev pub is_in : ℕ → List ℕ → Bool
is_in n ns = list_any (λ m. m == n) ns

-- What is wrong with one command on a volume of `size` blocks, where these CIDs are in use, the first fault first. The
-- order of the rows is this profile's.
abbrev pub command_faults : ℕ → List ℕ → Item → List (Bool × Status)
command_faults size in_use i =
    let e = i.fields in
    (not (is_flush e || is_write e || is_read e || is_compare e || is_write_zeroes e), invalid_opcode)
    ∷ (has_invalid_field e, invalid_field)
    ∷ (is_in e.cid in_use, cid_conflict)
    ∷ (not (e.nsid == 1), invalid_namespace)
    ∷ (not (is_flush e) && nat_lt 256 (block_count e), invalid_field)
    ∷ (not (is_flush e) && nat_lt size (slba e + block_count e), out_of_range)
    ∷ (not (i.length == data_length e), data_transfer_error)
    ∷ []

-- the status of a command that fails its checks
abbrev pub command_fault : ℕ → List ℕ → Item → Option Status
command_fault size in_use i = first_row (command_faults size in_use i)

-- What is wrong with a matched pair, as the statuses of its first and its second command (Base 2.0, Fused Operations;
-- NVM 1.0, Compare and Write).
abbrev pub pair_faults : AtomicParameters → ℕ → List ℕ → Item → Item → List (Bool × (Status × Status))
pair_faults u size in_use first second =
    let e = first.fields in
    let d = second.fields in
    let e_fault = command_fault size in_use first in
    let d_fault = command_fault size in_use second in
    (not (is_compare e && is_write d), (invalid_field, invalid_field))
    ∷ (is_in e.cid in_use || is_in d.cid in_use || (e.cid == d.cid), (cid_conflict, cid_conflict))
    ∷ (is_some e_fault, (unwrap_or e_fault success, failed_fused))
    ∷ (is_some d_fault, (failed_fused, unwrap_or d_fault success))
    ∷ (not ((slba e == slba d) && (block_count e == block_count d)), (invalid_field, invalid_field))
    ∷ (not (pair_fits u (slba e) (block_count e)), (unit_exceeded, unit_exceeded))
    ∷ []

-- the statuses of a matched pair that fails its checks
abbrev pub pair_fault : AtomicParameters → ℕ → List ℕ → Item → Item → Option (Status × Status)
pair_fault u size in_use first second = first_row (pair_faults u size in_use first second)

-- a command that failed so, or passed
abbrev pub of_command : Option Status → Verdict
of_command None = Verdict.Single
of_command (Some s) = Verdict.SingleFailed s

-- a pair that failed so, or passed
abbrev pub of_pair : Option (Status × Status) → Verdict
of_pair None = Verdict.Pair
of_pair (Some s) = Verdict.PairFailed s.0 s.1

-- The first of a pair, and what follows it (Base 2.0, Fused Operations: the two stand next to each other).
abbrev pub pair_verdict : AtomicParameters → ℕ → List ℕ → Item → List Item → Verdict
pair_verdict u size in_use first [] = Verdict.SingleFailed missing_fused
pair_verdict u size in_use first (second ∷ _) =
    if second.fields.fuse == 2 then of_pair (pair_fault u size in_use first second)
    else Verdict.SingleFailed missing_fused

-- What a Fetch says of the entries that wait, the first of them at the front.
abbrev pub verdict_of : AtomicParameters → ℕ → List ℕ → List Item → Verdict
verdict_of u size in_use [] = Verdict.Single
verdict_of u size in_use (first ∷ rest) =
    let fuse = first.fields.fuse in
    if fuse == 1 then pair_verdict u size in_use first rest
    else (if fuse == 2 then Verdict.SingleFailed missing_fused
    else of_command (command_fault size in_use first))

-- how many entries the Fetch took
abbrev pub taken_entries : Verdict → ℕ
taken_entries Verdict.Single = 1
taken_entries (Verdict.SingleFailed s) = 1
taken_entries Verdict.Pair = 2
taken_entries (Verdict.PairFailed s r) = 2

-- the checks were passed
abbrev pub passed : Verdict → Bool
passed Verdict.Single = Bool.true
passed (Verdict.SingleFailed s) = Bool.false
passed Verdict.Pair = Bool.true
passed (Verdict.PairFailed s r) = Bool.false

-- the same verdict
abbrev pub same_verdict : Verdict → Verdict → Bool
same_verdict Verdict.Single Verdict.Single = true
same_verdict (Verdict.SingleFailed s) (Verdict.SingleFailed r) = same_status s r
same_verdict Verdict.Pair Verdict.Pair = true
same_verdict (Verdict.PairFailed s t) (Verdict.PairFailed r v) = same_status s r && same_status t v
same_verdict _ _ = false
