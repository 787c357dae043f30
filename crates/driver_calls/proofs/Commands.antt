-- The entry of one command.
use Rattle.std.proofs.Common.{List, arith, ap, ap₂, eqb, true, false, ℕ, ◌%◌, ◌&&◌, ◌*◌, ◌+◌, ◌-◌, ◌/◌, ◌<◌, ◌^◌, ◌||◌}
use Rattle.std.proofs.Common.{◌∙◌, ◌≡◌, ◌≤◌, not, refl}
use Rattle.nvme_model.specs.Array.{overlap}
use Rattle.nvme_model.specs.Commands.{is_write, is_write_zeroes}
use Rattle.nvme_model.specs.EntryBytes.{Sqe, block_count, slba}
use Rattle.nvme_model.specs.Slots.{touches}
use Rattle.nvme_model.specs.Verdict.{has_invalid_field}
use Rattle.nvme_model.specs.declared.array.Range.{Range}
use Rattle.nvme_model.specs.declared.submission.Submission.{Submission}
use Rattle.entry_codec.specs.Sqe.{command_fields}
use Rattle.host_laws.specs.Book.{cid_of}
use Rattle.host_laws.specs.Calls.{is_proper}
use Rattle.driver_calls.specs.Entries.{IsCommand}

pub command_cid : (s : Submission) (opcode fuse cid l n : ℕ) (payload : List ℕ)
    → IsCommand s opcode fuse cid l n payload → cid_of s ≡ cid
command_cid s opcode fuse cid l n payload c = ap (λ (e : Sqe). e.cid) c.entry.1

-- the first block and the number of blocks are those that the fields were made of
pub halves : (l : ℕ) → l % 2 ^ 32 + 2 ^ 32 * (l / 2 ^ 32) ≡ l
halves l = omega arith

zeros_based : (n : ℕ) → 1 ≤ n → n ≤ 65536 → (n - 1) % 65536 + 1 ≡ n
zeros_based n some most = omega (arith, some, most)

no_high_half : (n : ℕ) → n ≤ 65536 → (n - 1) / 65536 ≡ 0
no_high_half n most = omega (arith, most)

other : (a b : ℕ) → a < b → eqb a b ≡ false
other a b h = grind (arith, h)

positive : (a : ℕ) → 0 < a → eqb a 0 ≡ false
positive a h = grind (arith, h)

valid : (opcode fuse cid l n : ℕ) → 0 < opcode → fuse < 3 → n ≤ 65536
    → has_invalid_field (command_fields opcode fuse cid l (n - 1)) ≡ false
valid opcode fuse cid l n some low most =
    rw (no_high_half n most, other fuse 3 low, positive opcode some) refl

pub command_proper : (s : Submission) (opcode fuse cid l n : ℕ) (payload : List ℕ) → 0 < opcode → fuse < 3 → n ≤ 65536
    → IsCommand s opcode fuse cid l n payload → is_proper s ≡ true
command_proper s opcode fuse cid l n payload some low most c =
    ap (λ (e : Sqe). eqb e.nsid 1 && not (has_invalid_field e)) c.entry.1
    ∙ ap not (valid opcode fuse cid l n some low most)

pub command_touches : (slots : Range) (s : Submission) (opcode fuse cid l n : ℕ) (payload : List ℕ) → 1 ≤ n → n ≤ 65536
    → IsCommand s opcode fuse cid l n payload
    → touches slots s ≡ ((eqb opcode 1 || eqb opcode 8) && overlap (record { slba = l; blocks = n }) slots)
command_touches slots s opcode fuse cid l n payload some most c =
    ap (λ (e : Sqe). (is_write e || is_write_zeroes e)
    && overlap (record { slba = slba e; blocks = block_count e }) slots)
    c.entry.1
    ∙ ap₂ (λ (m k : ℕ). (eqb opcode 1 || eqb opcode 8) && overlap (record { slba = m; blocks = k }) slots) (halves l)
    (zeros_based n some most)
