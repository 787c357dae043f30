use Rattle.many_host_laws.proofs.Rosters.{one_believes}
use Rattle.many_host_laws.proofs.history_laws.one_driver_believes_a_slot.Goals as goal

pub returns : goal.returns
returns c = one_believes
