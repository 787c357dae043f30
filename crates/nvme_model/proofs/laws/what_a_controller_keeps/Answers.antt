use Rattle.std.proofs.Common.{ap, is_none}
use Rattle.nvme_model.proofs.EveryRun.{after_kept, none_kept, step_kept}
use Rattle.nvme_model.proofs.laws.what_a_controller_keeps.Goals as goal

pub returns : goal.returns
returns c =
    record {
      begins = none_kept;
      accepted = λ d past step h e. step_kept d past step h (ap is_none e);
      after = after_kept;
      legal = λ d past h. h.legal;
      marks = λ d past h. h.marks;
    }
