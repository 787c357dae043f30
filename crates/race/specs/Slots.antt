-- What a race promises of its slots and of its hosts' rounds.
use Rattle.std.specs.Prelude.{List, Option, reverse, ℕ}
use Rattle.std.specs.Io.KnownBytes.{Appends}
use Rattle.nvme_model.specs.History.{Past}
use Rattle.nvme_model.specs.Legal.{IsLegal}
use Rattle.nvme_model.specs.declared.array.Range.{Range}
use Rattle.nvme_model.specs.declared.config.ConfigNumbers.{ConfigNumbers}
use Rattle.many_host_laws.specs.Closing.{HasRounds, KeepsSlots}
use Rattle.race_numbers.specs.declared.race.Race.{Race}
use Rattle.history.specs.Texts.{history_text}

-- the slots of a race: blocks 0 to S - 1
abbrev pub slots_of : Race → Range
slots_of r = record { slba = 0; blocks = r.slots }

-- the whole text of a legal history was written, which keeps its slots
abbrev pub PrintsSlots : ConfigNumbers → Range → Option (List ℕ) → Option (List ℕ) → Type 0
PrintsSlots c slots old new =
    (past : Past) × IsLegal c past × KeepsSlots c slots past × Appends old new (history_text c (reverse past))

-- the whole text of a legal history was written, in which each host began so many rounds
abbrev pub PrintsRounds : ConfigNumbers → Range → ℕ → Option (List ℕ) → Option (List ℕ) → Type 0
PrintsRounds c slots rounds old new =
    (past : Past) × IsLegal c past × HasRounds c slots rounds past × Appends old new (history_text c (reverse past))
