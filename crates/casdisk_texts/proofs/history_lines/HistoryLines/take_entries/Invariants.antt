-- The entries of the lines so far are taken.
use Rattle.std.proofs.Common.{List, Option, [], ℕ, ◌≡◌}
use Rattle.nvme_model.specs.History.{Past}
use Rattle.casdisk_texts.specs.Entries.{IsBegun, IsReadTo}
use Rattle.casdisk_texts.proofs.history_lines.HistoryLines.take_entries.Given as goal

abbrev pub invariant-loop-number : goal.invariant-loop-number
invariant-loop-number g l =
    record {
      kept : g.T.EntryMeaning.kept l.taker ≡ g.T.EntryMeaning.kept l.initial.taker;
      taken : (input : Option (List ℕ))
          → IsBegun l.initial.self.config input (g.R.Read.remaining l.initial.reader) l.initial.self.lines
          → g.T.EntryMeaning.stands l.initial.taker l.initial.self.config []
          → (past : Past) × g.T.EntryMeaning.stands l.taker l.initial.self.config past
          × IsReadTo past l.number input (g.R.Read.remaining l.reader) l.self.lines;
    }
