-- What a controller that makes these steps keeps of its history: more than that it is legal, since a legal history may
-- have its marks elsewhere, and then not every step of this controller that nothing refuses keeps it legal.
use Rattle.std.specs.Prelude.{[], length, ◌∷◌, ◌≡◌}
use Rattle.nvme_model.specs.History.{Past}
use Rattle.nvme_model.specs.Laws.{MarkedRight}
use Rattle.nvme_model.specs.Legal.{IsLegal}
use Rattle.nvme_model.specs.Open.{blocks_made, unit_range}
use Rattle.nvme_model.specs.Operations.{op}
use Rattle.nvme_model.specs.Steps.{word}
use Rattle.nvme_model.specs.Tickets.{ticket}
use Rattle.nvme_model.specs.declared.config.ConfigNumbers.{ConfigNumbers}
use Rattle.nvme_model.specs.declared.entry.Entry.{Entry}

-- each word is what the volume then holds
abbrev pub WordsRight : Past → Type 0
WordsRight [] = Unit {0}
WordsRight (Entry.Block b ∷ past) =
    let k = ticket past b.ticket in
    WordsRight past
    × (b.found ≡
    word past k (op k) (unit_range past b.ticket b.unit).blocks (length (blocks_made past b.ticket b.unit)) b.lba)
WordsRight (_ ∷ past) = WordsRight past

-- The history is legal, and its marks and words are where and what this controller makes them.
pub record ControllerInvariant (c : ConfigNumbers) (past : Past) : Type 0 where
  pub legal : IsLegal c past
  pub marks : MarkedRight past
  pub words : WordsRight past
