use Rattle.std.proofs.Common.{arith}
use Rattle.job_table.proofs.Slots.{length_in}
use Rattle.job_table.proofs.jobs.Jobs.is_full.Goals as goal

pub returns-clause-value : goal.returns-clause-value
returns-clause-value c = rw (← c.self.view_is, length_in _ _ c.self.invariant.each, c.len.ensures.value)

pub returns-clause-most : goal.returns-clause-most
returns-clause-most c = rw (← c.self.view_is)
    (omega (arith, length_in _ _ c.self.invariant.each, c.self.invariant.within))
