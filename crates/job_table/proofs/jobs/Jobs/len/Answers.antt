use Rattle.std.proofs.Common.{sym, ◌∙◌}
use Rattle.job_table.proofs.Slots.{length_in, rises_in}
use Rattle.job_table.proofs.jobs.Jobs.len.Goals as goal

pub returns-clause-value : goal.returns-clause-value
returns-clause-value c = rw (← c.self.view_is) (c.len.ensures.value ∙ sym (length_in _ _ c.self.invariant.each))

pub returns-clause-law : goal.returns-clause-law
returns-clause-law c = rw (← c.self.view_is) (rises_in _ _ c.self.invariant.each c.self.invariant.rising)
