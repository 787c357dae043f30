use Rattle.slot_log_laws.proofs.Views.{view_disciplined}
use Rattle.slot_log_laws.proofs.history_laws.logs_that_keep_the_rules_keep_the_discipline.Goals as goal

pub returns : goal.returns
returns c = view_disciplined
