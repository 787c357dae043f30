use Rattle.job_table.proofs.Rising.{IsRising-push}
use Rattle.job_table.proofs.index.JobIndex.push.Goals as goal

-- the new ticket is above all
pub invariant_of-self : goal.invariant_of-self
invariant_of-self c =
    let above = rw (← c.self.view_is) at c.requires.above in
    rw c.push.ensures.pushed (IsRising-push _ _ c.self.invariant above)
