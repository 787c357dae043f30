-- Some steps were done, and the rest is what is said of the history by now.
use Rattle.std.proofs.Common.{◌≡◌}
use Rattle.nvme_model.specs.declared.config.ConfigNumbers.{ConfigNumbers}
use Rattle.casdisk_texts.proofs.Settling.{Settled}
use Rattle.casdisk_texts.proofs.performing.Performer.settle.Given as goal

abbrev pub invariant-loop-turn : goal.invariant-loop-turn
invariant-loop-turn g l =
    record {
      config : l.self.core.config ≡ l.fn.self.core.config;
      kinds : l.self.kinds ≡ l.fn.self.kinds;
      settled : Settled l.fn.self.kinds.0 l.fn.self.core.config l.fn.self.core.past l.self.core.past l._turn
          (g.W.Write.contents l.fn.writer) (g.W.Write.contents l.writer);
      seen : (k : ConfigNumbers) → g.J.Watch.stands l.fn.self.watch k l.fn.self.core.past
          → g.J.Watch.stands l.self.watch k l.self.core.past;
    }
