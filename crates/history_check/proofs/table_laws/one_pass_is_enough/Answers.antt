use Rattle.history_check.proofs.Taking.{pass_is}
use Rattle.history_check.proofs.table_laws.one_pass_is_enough.Goals as goal

pub returns : goal.returns
returns c = pass_is
