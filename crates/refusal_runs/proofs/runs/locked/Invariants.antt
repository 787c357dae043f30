use Rattle.std.specs.Prelude.{[], ◌≡◌}
use Rattle.refusal_runs.proofs.runs.locked.Given as goal

abbrev pub invariant-loop : goal.invariant-loop
invariant-loop l = l.core.past ≡ []
