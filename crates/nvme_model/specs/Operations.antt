-- What a ticket does, in which units, and with which data.
use Rattle.std.specs.Prelude.{Bool, List, None, Option, Some, [], drop, false, if◌then◌else◌, take, true, ℕ, ◌*◌, ◌-◌}
use Rattle.std.specs.Prelude.{◌∷◌}
use Rattle.nvme_model.specs.Array.{zeros}
use Rattle.nvme_model.specs.Commands.{is_compare, is_read, is_write, is_write_zeroes}
use Rattle.nvme_model.specs.declared.config.AtomicParameters.{AtomicParameters}
use Rattle.nvme_model.specs.declared.config.ConfigNumbers.{ConfigNumbers}
use Rattle.nvme_model.specs.Cut.{cut}
use Rattle.nvme_model.specs.EntryBytes.{Sqe, block_count, slba}
use Rattle.nvme_model.specs.Tickets.{Ticket, command, first_fields}
use Rattle.nvme_model.specs.declared.array.Mode.{Mode}
use Rattle.nvme_model.specs.declared.operation.Op.{Op}
use Rattle.nvme_model.specs.declared.array.Range.{Range}
use Rattle.nvme_model.specs.declared.status.Verdict.{Verdict}

-- what a ticket that passed its checks does; None for a Flush, and where the checks failed
abbrev pub op_of_fields : Sqe → Option Op
op_of_fields e =
    if is_write e then Some Op.Write
    else (if is_read e then Some Op.Read
    else (if is_compare e then Some Op.Compare
    else (if is_write_zeroes e then Some Op.WriteZeroes else None)))

-- the operation by the verdict and the first command
abbrev pub op_by : Verdict → Sqe → Option Op
op_by Verdict.Single e = op_of_fields e
op_by Verdict.Pair e = Some Op.Pair
op_by (Verdict.SingleFailed s) e = None
op_by (Verdict.PairFailed s r) e = None

-- the operation of a ticket
abbrev pub op : Ticket → Option Op
op k = op_by k.verdict (first_fields k)

-- how many commands an operation has, each of one entry
abbrev pub command_count : Op → ℕ
command_count Op.Pair = 2
command_count _ = 1

-- it is a fused pair
abbrev pub is_pair : Option Op → Bool
is_pair (Some Op.Pair) = true
is_pair _ = false

-- it compares blocks
abbrev pub has_compare : Option Op → Bool
has_compare (Some Op.Compare) = true
has_compare (Some Op.Pair) = true
has_compare _ = false

-- it writes blocks
abbrev pub has_write : Option Op → Bool
has_write (Some Op.Write) = true
has_write (Some Op.WriteZeroes) = true
has_write (Some Op.Pair) = true
has_write _ = false

-- the units of a ticket: the cut of a command's range, and the whole range of a pair
abbrev pub units_by : AtomicParameters → Option Op → ℕ → ℕ → List Range
units_by u None s n = []
units_by u (Some Op.Pair) s n = record { slba = s; blocks = n } ∷ []
units_by u (Some o) s n = cut u s n

-- the units of a ticket
abbrev pub units : ConfigNumbers → Ticket → List Range
units c k = units_by c.atomic (op k) (slba (first_fields k)) (block_count (first_fields k))

-- a unit that writes is Exclusive, any other Shared (this profile's)
abbrev pub mode : Ticket → Mode
mode k = if has_write (op k) then Mode.Exclusive else Mode.Shared

-- block l of the data that lies beside the i-th command
abbrev pub data_block : Ticket → ℕ → ℕ → List ℕ
data_block k i l = take 512 (drop (512 * (l - slba (first_fields k))) (command k i).payload)

-- block l of the Compare's data
abbrev pub compare_data : Ticket → ℕ → List ℕ
compare_data k l = data_block k 0 l

-- the data that an operation writes at block l: a Write's, that of a pair's Write, or zeros
abbrev pub write_data_by : Option Op → Ticket → ℕ → List ℕ
write_data_by (Some Op.WriteZeroes) k l = zeros
write_data_by (Some Op.Pair) k l = data_block k 1 l
write_data_by _ k l = data_block k 0 l

-- what the ticket writes at block l
abbrev pub write_data : Ticket → ℕ → List ℕ
write_data k l = write_data_by (op k) k l

-- the mode is Exclusive
abbrev pub is_exclusive : Mode → Bool
is_exclusive Mode.Exclusive = true
is_exclusive Mode.Shared = false
