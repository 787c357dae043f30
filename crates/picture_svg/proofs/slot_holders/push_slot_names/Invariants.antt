-- What was added, and the lanes that are left.
use Rattle.std.proofs.Common.{◌≡◌, ◌++◌, drop}
use Rattle.std.specs.Prelude.{flat_map}
use Rattle.picture_svg.specs.SlotHolders.{slot_name}
use Rattle.picture_svg.proofs.slot_holders.push_slot_names.Given as goal

abbrev pub invariant-loop-lba : goal.invariant-loop-lba
invariant-loop-lba l =
    l.initial.text.items ++ flat_map (slot_name l.layout) l.lanes
    ≡ l.text.items ++ flat_map (slot_name l.layout) (drop l.lba-index l.lanes)
