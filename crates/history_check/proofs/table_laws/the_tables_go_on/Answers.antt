use Rattle.history_check.proofs.Taking.{start_is, taken_is}
use Rattle.history_check.proofs.table_laws.the_tables_go_on.Goals as goal

pub returns-clause-start : goal.returns-clause-start
returns-clause-start c = start_is

pub returns-clause-taken : goal.returns-clause-taken
returns-clause-taken c = taken_is
