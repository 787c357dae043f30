use Rattle.slot_log_laws.proofs.Releasing.{release_answer}
use Rattle.slot_log_laws.proofs.history_laws.a_release_is_answered_by_success.Goals as goal

pub returns : goal.returns
returns c = release_answer
