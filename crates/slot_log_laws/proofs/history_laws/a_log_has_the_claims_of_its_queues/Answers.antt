use Rattle.slot_log_laws.proofs.Counting.{own_claims}
use Rattle.slot_log_laws.proofs.history_laws.a_log_has_the_claims_of_its_queues.Goals as goal

pub returns : goal.returns
returns c = own_claims
