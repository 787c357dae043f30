use Rattle.std.specs.Prelude.{◌-◌}
use Rattle.job_table.proofs.Search.{Searches}
use Rattle.job_table.proofs.index.JobIndex.place.Given as goal

abbrev pub invariant-loop-from : goal.invariant-loop-from
invariant-loop-from g l = Searches l.self.keyed l.t l.from l.to l.initial.steps l.steps

abbrev pub decreases-loop-from : goal.decreases-loop-from
decreases-loop-from g l = l.to - l.from
