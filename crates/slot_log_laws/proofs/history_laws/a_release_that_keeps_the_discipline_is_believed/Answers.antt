use Rattle.slot_log_laws.proofs.Releasing.{kept_is_believed}
use Rattle.slot_log_laws.proofs.history_laws.a_release_that_keeps_the_discipline_is_believed.Goals as goal

pub returns : goal.returns
returns c = kept_is_believed
