-- The text of a history.
use Rattle.std.specs.Prelude.{List, map, ℕ, ◌∷◌}
use Rattle.line_text.specs.Lines.{with_feeds}
use Rattle.nvme_model.specs.declared.config.ConfigNumbers.{ConfigNumbers}
use Rattle.nvme_model.specs.declared.entry.Entry.{Entry}
use Rattle.history.specs.ConfigLine.{config_line}
use Rattle.history.specs.Lines.{entry_line}

-- the line of the configuration, and of each entry, the oldest first
abbrev pub history_lines : ConfigNumbers → List Entry → List (List ℕ)
history_lines c entries = config_line c ∷ map entry_line entries

-- each with its line feed
abbrev pub history_text : ConfigNumbers → List Entry → List ℕ
history_text c entries = with_feeds (history_lines c entries)
