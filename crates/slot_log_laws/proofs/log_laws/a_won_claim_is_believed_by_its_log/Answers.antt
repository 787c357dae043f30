use Rattle.slot_log_laws.proofs.Winning.{won_by_log}
use Rattle.slot_log_laws.proofs.log_laws.a_won_claim_is_believed_by_its_log.Goals as goal

pub returns : goal.returns
returns c = won_by_log
