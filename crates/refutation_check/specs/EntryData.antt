-- What lies beside the entries of commands.
use Rattle.std.specs.Prelude.{List, None, Option, Some, [], drop, take, ℕ, ◌*◌, ◌-◌}
use Rattle.nvme_model.specs.EntryBytes.{slba, sqe_fields}
use Rattle.nvme_model.specs.declared.submission.Submission.{Submission}

-- the first block of a command, where there is its first entry
abbrev pub found_slba : Option Submission → ℕ
found_slba None = 0
found_slba (Some s) = slba (sqe_fields s.entry)

-- the data beside an entry, where there is one
abbrev pub found_payload : Option Submission → List ℕ
found_payload None = []
found_payload (Some s) = s.payload

-- block l of these bytes, of which the first are block s's
abbrev pub block_of : List ℕ → ℕ → ℕ → List ℕ
block_of bytes s l = take 512 (drop (512 * (l - s)) bytes)
