use Rattle.host_laws.proofs.Fencing.{fenced}
use Rattle.host_laws.proofs.rule_laws.a_host_that_is_taken_over_is_fenced.Goals as goal

pub returns : goal.returns
returns c = fenced
