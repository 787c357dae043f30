-- The text of a trace.
use Rattle.std.specs.Prelude.{List, None, Option, Some, [], map, reverse, ℕ, ◌++◌, ◌∷◌}
use Rattle.history.specs.ConfigLine.{config_line}
use Rattle.line_text.specs.Lines.{with_feeds}
use Rattle.nvme_model.specs.History.{Past}
use Rattle.nvme_model.specs.declared.config.ConfigNumbers.{ConfigNumbers}
use Rattle.trace.specs.Observed.{observed}
use Rattle.trace.specs.declared.seen.Seen.{Seen}
use Rattle.trace.specs.SeenLines.{seen_line}

-- what hosts saw of a history as a text: the configuration line, and the line of each thing seen, the oldest first
abbrev pub trace_text : ConfigNumbers → Past → List ℕ
trace_text c past = with_feeds (config_line c ∷ map seen_line (reverse (observed c past)))

-- the line of what hosts see of one more entry, with its line feed; nothing where they see nothing
abbrev pub seen_text : Option Seen → List ℕ
seen_text None = []
seen_text (Some s) = seen_line s ++ 10 ∷ []
