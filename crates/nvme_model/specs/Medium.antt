-- What each block of the volume is, as it lies in memory.
use Rattle.std.specs.Prelude.{List, [], if◌then◌else◌, ℕ, ◌&&◌, ◌==◌, ◌∷◌}
use Rattle.nvme_model.specs.Array.{zeros}
use Rattle.nvme_model.specs.History.{Past}
use Rattle.nvme_model.specs.Open.{is_written}
use Rattle.nvme_model.specs.Operations.{write_data}
use Rattle.nvme_model.specs.Tickets.{ticket}
use Rattle.nvme_model.specs.declared.entry.Entry.{Entry}

-- Block l as it lies in the volume: by the last entry that says `written` of it.
abbrev pub medium : Past → ℕ → List ℕ
medium [] l = zeros
medium (Entry.Block b ∷ past) l =
    if is_written b.found && (b.lba == l) then write_data (ticket past b.ticket) l else medium past l
medium (_ ∷ past) l = medium past l
