-- Commands in words.
use Rattle.std.specs.Prelude.{List, None, Option, Some, [], codes, decimal, flat_map, if◌then◌else◌, ℕ, ◌++◌, ◌==◌, ◌∷◌}
use Rattle.std.specs.List.{concat}
use Rattle.hex.specs.Hex.{encode_upper}
use Rattle.nvme_model.specs.Commands.{is_compare, is_flush, is_read, is_write, is_write_zeroes}
use Rattle.nvme_model.specs.EntryBytes.{Sqe, block_count, slba, sqe_fields}
use Rattle.nvme_model.specs.Operations.{op_of_fields}
use Rattle.nvme_model.specs.declared.operation.Op.{Op}
use Rattle.nvme_model.specs.declared.submission.Submission.{Submission}
use Rattle.history_words.specs.Texts.{blocks_told}

-- the name of a command, or its opcode
abbrev pub command_name : Sqe → List ℕ
command_name e =
    if is_flush e then codes "Flush"
    else if is_write e then codes "Write"
    else if is_read e then codes "Read"
    else if is_compare e then codes "Compare"
    else if is_write_zeroes e then codes "Write Zeroes"
    else concat (codes "opcode " ∷ encode_upper (e.opcode ∷ []) ∷ codes "h" ∷ [])

-- the blocks of a command that does something with them
abbrev pub range_words : Option Op → List ℕ → List ℕ
range_words None block_count = []
range_words (Some op) block_count = codes " of " ++ block_count

-- the blocks of a command that has some
abbrev pub range_told : Sqe → List ℕ
range_told e = range_words (op_of_fields e) (blocks_told (slba e) (block_count e))

-- how a command is fused, where it is
abbrev pub fuse_told : ℕ → List ℕ
fuse_told fuse =
    if fuse == 0 then []
    else if fuse == 1 then codes ", first of a pair"
    else if fuse == 2 then codes ", second"
    else codes ", FUSE 3"

-- the namespace, where it isn't the one that there is
abbrev pub namespace_told : ℕ → List ℕ
namespace_told nsid = if nsid == 1 then [] else concat (codes ", namespace " ∷ decimal nsid ∷ [])

-- a command by its fields: `Compare of block 3, CID 7, first of a pair`
abbrev pub command_told : Sqe → List ℕ
command_told e =
    concat (command_name e ∷ range_told e ∷ codes ", CID " ∷ decimal e.cid ∷ fuse_told e.fuse ∷ namespace_told e.nsid
    ∷ [])

-- a command behind another
abbrev pub next_told : Submission → List ℕ
next_told x = codes "; " ++ command_told (sqe_fields x.entry)

-- the commands of a Publish, parted by semicolons
abbrev pub batch_told : List Submission → List ℕ
batch_told [] = []
batch_told (x ∷ xs) = command_told (sqe_fields x.entry) ++ flat_map next_told xs
