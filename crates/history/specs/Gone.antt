-- What a history has forgotten.
use Rattle.std.specs.Prelude.{[], reverse, take, ◌++◌}
use Rattle.nvme_model.specs.History.{Past}
use Rattle.history.specs.declared.part.Part.{Part}
use Rattle.history.specs.declared.part.Part.TheVariants.{Front, Nothing}

-- the entries that were forgotten, the newest first, with so many of those that were kept
abbrev pub part_past : Part → Past
part_past Nothing = []
part_past (Front earlier count entries) = reverse (take count entries.value.items) ++ earlier.value.past
