-- What a command does by its first entry.
use Rattle.std.specs.Prelude.{List, None, Option, Some, [], if◌then◌else◌, nat_le, suc, ℕ, ◌+◌}
use Rattle.nvme_model.specs.EntryBytes.{block_count, slba, sqe_fields}
use Rattle.nvme_model.specs.Operations.{is_pair, op_by, units_by}
use Rattle.nvme_model.specs.declared.array.Range.{Range}
use Rattle.nvme_model.specs.declared.config.ConfigNumbers.{ConfigNumbers}
use Rattle.nvme_model.specs.declared.operation.Op.{Op}
use Rattle.nvme_model.specs.declared.submission.Submission.{Submission}
use Rattle.refutation.specs.EffectOrders.{EffectName}
use Rattle.refutation.specs.Told.{told_verdict}
use Rattle.refutation_check.specs.declared.order.Effect.{Effect}

-- What it does, where nothing is wrong with it.
abbrev pub entry_op : Submission → Option Op
entry_op s = op_by (told_verdict (sqe_fields s.entry).fuse) (sqe_fields s.entry)

-- Its units; none where the volume doesn't have all its blocks.
abbrev pub entry_units : ConfigNumbers → Submission → List Range
entry_units c s =
    let e = sqe_fields s.entry in
    if nat_le (slba e + block_count e) c.blocks then units_by c.atomic (entry_op s) (slba e) (block_count e) else []

-- Its units, where there is an entry.
abbrev pub found_units : ConfigNumbers → Option Submission → List Range
found_units c None = []
found_units c (Some s) = entry_units c s

-- The number of its command's last entry, where there is an entry with number j: of a pair its second.
abbrev pub found_last : Option Submission → ℕ → ℕ
found_last None j = j
found_last (Some s) j = if is_pair (entry_op s) then suc j else j

-- The effect with this queue, number and unit.
abbrev pub name_of : Effect → EffectName
name_of e = record { queue = e.queue; number = e.number; unit = e.unit }
