-- What the commands of a trace do, and with which data, by their entries.
use Rattle.std.proofs.Common.{List, None, Option, Some, ap, arith, drop, length, suc, sym, take, ℕ}
use Rattle.std.proofs.Common.{get_or, slice_get, ◌*◌, ◌-◌, ◌∙◌, ◌≡◌, ◌≤◌}
use Rattle.std.proofs.lemmas.List.{length-drop, take_all}
use Rattle.std.proofs.lemmas.Option.{get_or_from_slice_get}
use Rattle.nvme_model.specs.EntryBytes.{slba, sqe_fields}
use Rattle.nvme_model.specs.Operations.{data_block, op}
use Rattle.nvme_model.specs.Tickets.{first_fields}
use Rattle.nvme_model.specs.declared.operation.Op.{Op}
use Rattle.nvme_model.specs.declared.submission.Submission.{Submission}
use Rattle.trace.specs.declared.seen.Seen.{Seen}
use Rattle.refutation.specs.Lines.{published_in}
use Rattle.refutation.specs.Told.{told_ticket}
use Rattle.refutation_check.specs.Commands.{entry_op}
use Rattle.refutation_check.specs.EntryData.{block_of, found_payload, found_slba}
use Rattle.refutation_check.proofs.Units.{no_command, none_there}

-- what it does, where there is an entry
abbrev pub found_op : Option Submission → Option Op
found_op None = None
found_op (Some s) = entry_op s

pub op_by_entry : (trace : List Seen) (q j : ℕ) (o : Option Submission) → o ≡ slice_get (published_in trace q) j
    → op (told_ticket trace q j) ≡ found_op o
op_by_entry trace q j None e = ap entry_op (none_there (published_in trace q) j (sym e))
op_by_entry trace q j (Some s) e =
    ap entry_op (get_or_from_slice_get (published_in trace q) j s no_command (sym e))

pub slba_by_entry : (trace : List Seen) (q j : ℕ) (o : Option Submission) → o ≡ slice_get (published_in trace q) j
    → slba (first_fields (told_ticket trace q j)) ≡ found_slba o
slba_by_entry trace q j None e =
    ap (λ (s : Submission). slba (sqe_fields s.entry)) (none_there (published_in trace q) j (sym e))
slba_by_entry trace q j (Some s) e =
    ap (λ (x : Submission). slba (sqe_fields x.entry))
    (get_or_from_slice_get (published_in trace q) j s no_command (sym e))

-- the data beside an entry of a submission queue
payload_of : (entries : List Submission) (j : ℕ) (o : Option Submission) → o ≡ slice_get entries j
    → (get_or entries j no_command).payload ≡ found_payload o
payload_of entries j None e = ap (λ (s : Submission). s.payload) (none_there entries j (sym e))
payload_of entries j (Some s) e =
    ap (λ (x : Submission). x.payload) (get_or_from_slice_get entries j s no_command (sym e))

-- a block of what lies beside the first command, by its entry
pub first_by_entry : (trace : List Seen) (q j l : ℕ) (o : Option Submission) → o ≡ slice_get (published_in trace q) j
    → block_of (found_payload o) (found_slba o) l ≡ data_block (told_ticket trace q j) 0 l
first_by_entry trace q j l o e =
    ap (λ (bytes : List ℕ). block_of bytes (found_slba o) l) (sym (payload_of (published_in trace q) j o e))
    ∙ ap (λ (s : ℕ). block_of (get_or (published_in trace q) j no_command).payload s l)
    (sym (slba_by_entry trace q j o e))

-- and beside the second
pub second_by_entries : (trace : List Seen) (q j l : ℕ) (o p : Option Submission)
    → o ≡ slice_get (published_in trace q) j → p ≡ slice_get (published_in trace q) (suc j)
    → block_of (found_payload p) (found_slba o) l ≡ data_block (told_ticket trace q j) 1 l
second_by_entries trace q j l o p e f =
    ap (λ (bytes : List ℕ). block_of bytes (found_slba o) l) (sym (payload_of (published_in trace q) (suc j) p f))
    ∙ ap (λ (s : ℕ). block_of (get_or (published_in trace q) (suc j) no_command).payload s l)
    (sym (slba_by_entry trace q j o e))

-- what is left of bytes, where that is a block at most
pub rest_is : (bytes : List ℕ) (skipped l s : ℕ) → skipped ≡ l - s → length bytes - 512 * skipped ≤ 512
    → take (length bytes - 512 * skipped) (drop (512 * skipped) bytes) ≡ block_of bytes s l
rest_is bytes skipped l s e few =
    let left : length (drop (512 * skipped) bytes) ≡ length bytes - 512 * skipped = length-drop (512 * skipped) bytes in
    take_all (length bytes - 512 * skipped) (drop (512 * skipped) bytes) (omega (arith, left))
    ∙ sym (take_all 512 (drop (512 * skipped) bytes) (omega (arith, left, few)))
    ∙ ap (λ n. take 512 (drop (512 * n) bytes)) e
