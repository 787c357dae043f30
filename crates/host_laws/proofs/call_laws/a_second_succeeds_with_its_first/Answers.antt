use Rattle.host_laws.proofs.Seconds.{second_succeeds}
use Rattle.host_laws.proofs.call_laws.a_second_succeeds_with_its_first.Goals as goal

pub returns : goal.returns
returns c = second_succeeds
