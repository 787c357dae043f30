use Rattle.std.proofs.Common.{ap}
use Rattle.job_table.specs.Keeping.{Keeping}
use Rattle.job_table.proofs.job.Job.into_parts.Goals as goal

pub returns-clause-write : goal.returns-clause-write
returns-clause-write c = (c.self.inside.written, ap (λ (j : Keeping). j.write) c.self.view_is)
