-- The lines so far are done.
use Rattle.std.proofs.Common.{◌≡◌}
use Rattle.nvme_model.specs.History.{Past}
use Rattle.nvme_model.specs.declared.config.ConfigNumbers.{ConfigNumbers}
use Rattle.casdisk_texts.specs.Running.{lines_from}
use Rattle.casdisk_texts.specs.Running.{Reaches}
use Rattle.casdisk_texts.proofs.running.run_lines.Given as goal

abbrev pub invariant-loop-number : goal.invariant-loop-number
invariant-loop-number g l =
    record {
      fixed : g.M.LineMeaning.fixed l.actor ≡ g.M.LineMeaning.fixed l.initial.actor;
      done : (k : ConfigNumbers) (past : Past) → g.M.LineMeaning.stands l.initial.actor k past
          → (g.M.LineMeaning.meaning l.actor ≡ g.M.LineMeaning.meaning l.initial.actor)
          × Reaches (g.M.LineMeaning.stands l.actor k)
          (lines_from (g.M.LineMeaning.meaning l.initial.actor) past 2 l.initial.lines)
          (g.M.LineMeaning.meaning l.initial.actor) l.number
          (g.R.Read.remaining l.initial.reader) (g.R.Read.remaining l.reader) (g.W.Write.contents l.initial.writer)
          (g.W.Write.contents l.writer) l.lines;
    }
