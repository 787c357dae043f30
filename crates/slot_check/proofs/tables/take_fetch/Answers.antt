use Rattle.std.proofs.Common.{refl}
use Rattle.nvme_model.specs.declared.entry.Entry.{Entry}
use Rattle.slot_check.specs.Takeovers.{takeovers_kept}
use Rattle.slot_check.proofs.Cutting.{still_known}
use Rattle.slot_check.proofs.tables.take_fetch.Goals as goal

pub returns-clause-kept : goal.returns-clause-kept
returns-clause-kept c = λ d area past h legal.
    record {
      legal = legal;
      disciplined = h.disciplined;
      progress = c.in_ok-fetch.ensures.ok d past h.progress legal;
      names = record { claim = h.names.claim; won = h.names.won; released = h.names.released };
      takeovers = still_known d area (Entry.Fetch c.args.line.now) past (takeovers_kept c.args.tables.now.takeovers)
          legal (λ t. refl) refl refl h.takeovers;
    }
