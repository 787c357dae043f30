use Rattle.std.proofs.Common.{ap}
use Rattle.job_table.specs.Slots.{jobs_in}
use Rattle.job_table.proofs.Slots.{none_in}
use Rattle.job_table.proofs.jobs.Jobs.is_empty.Goals as goal

pub returns : goal.returns
returns c = record {
  value =
      rw (← c.self.view_is) (
        λ y. ap (jobs_in c.self.inside.jobs) (c.is_empty.ensures.value.0 y),
        λ e. c.is_empty.ensures.value.1 (none_in _ _ c.self.invariant.each e),
      );
}
