-- One entry of a `publish` line.
use Rattle.std.specs.Prelude.{ℕ, ◌==◌, List, [], ◌∷◌, Option, Some, None, codes, if◌then◌else◌}
use Rattle.std.specs.Str.{bytes_eq}
use Rattle.line_text.specs.Number.{number_in}
use Rattle.line_text.specs.Digits.{bytes_in, fixed_in}
use Rattle.line_text.specs.Data.{data_in}
use Rattle.nvme_model.specs.declared.submission.Submission.{Submission}
use Rattle.entry_codec.specs.declared.fuse.Fuse.{Fuse}
use Rattle.entry_codec.specs.Fuse.{fuse_number}
use Rattle.entry_codec.specs.Sqe.{command_fields, sqe_bytes}
use Rattle.history.specs.BatchWords.{item_from}

-- the opcode of a command's name (Base 2.0, Flush command; NVM 1.0, Write, Read, Compare and Write Zeroes commands)
abbrev pub opcode_in : List ℕ → Option ℕ
opcode_in name =
    if bytes_eq name (codes "flush") then Some 0
    else if bytes_eq name (codes "write") then Some 1
    else if bytes_eq name (codes "read") then Some 2
    else if bytes_eq name (codes "compare") then Some 5
    else if bytes_eq name (codes "zeroes") then Some 8
    else None

-- FUSE of this number, 0 to 3
abbrev pub fuse_from : Option ℕ → Option Fuse
fuse_from None = None
fuse_from (Some n) =
    if n == 0 then Some Fuse.Normal
    else if n == 1 then Some Fuse.First
    else if n == 2 then Some Fuse.Second
    else if n == 3 then Some Fuse.Reserved
    else None

-- FUSE by its word
abbrev pub fuse_in : List ℕ → Option Fuse
fuse_in word = fuse_from (number_in 16 word)

-- the 64 bytes of a command: namespace 1, SLBA in CDW10 and CDW11, NLB as stored in CDW12, and zeros elsewhere
abbrev pub command_bytes : (opcode fuse cid slba nlb : ℕ) → List ℕ
command_bytes opcode fuse cid slba nlb = sqe_bytes (command_fields opcode fuse cid slba nlb)

-- the command of these parts, where all are there
abbrev pub command_from : Option ℕ → Option Fuse → (cid slba nlb : Option ℕ) → Option (List ℕ)
command_from (Some opcode) (Some fuse) (Some cid) (Some slba) (Some nlb) =
    Some (command_bytes opcode (fuse_number fuse) cid slba nlb)
command_from _ _ _ _ _ = None

-- the command that a name and four numbers spell
abbrev pub command_entry_in : (name fuse cid slba nlb : List ℕ) → Option (List ℕ)
command_entry_in name fuse cid slba nlb =
    command_from (opcode_in name) (fuse_in fuse) (number_in 16 cid) (number_in 64 slba) (number_in 16 nlb)

-- the 64 bytes that the words of a `raw` entry spell
abbrev pub raw_in : (name digits : List ℕ) → Option (List ℕ)
raw_in name digits = if bytes_eq name (codes "raw") then fixed_in 64 (bytes_in digits) else None

-- the entry that words spell: `raw HEX DATA`, or a command's name, FUSE, CID, SLBA, NLB and data
unfoldable pub script_item_in : List (List ℕ) → Option Submission
script_item_in (name ∷ digits ∷ payload ∷ []) = item_from (raw_in name digits) (data_in 512 payload)
script_item_in (name ∷ fuse ∷ cid ∷ slba ∷ nlb ∷ payload ∷ []) =
    item_from (command_entry_in name fuse cid slba nlb) (data_in 512 payload)
script_item_in words = None
