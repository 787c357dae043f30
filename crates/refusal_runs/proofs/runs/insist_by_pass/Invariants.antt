use Rattle.meet_lock.specs.Passes.{IsSame}
use Rattle.refusal_runs.proofs.runs.insist_by_pass.Given as goal

abbrev pub invariant-loop : goal.invariant-loop
invariant-loop l = IsSame l.fn.pass l.pass
