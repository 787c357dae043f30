use Rattle.race.proofs.run.judge.Goals as goal
use Rattle.nvme_model.proofs.FirstBad.{not_both}

pub returns-in-Err-BadAt : goal.returns-in-Err-BadAt
returns-in-Err-BadAt c =
    absurd (not_both _ _ c.in-Err-BadAt.place c.requires.legal
    (rw c.in-Err-BadAt.field-0-is at c.in-Err-BadAt.ensures.value))
