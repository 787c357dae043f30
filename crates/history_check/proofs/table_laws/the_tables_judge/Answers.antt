use Rattle.history_check.proofs.Judging.{judged_is, refusal_is}
use Rattle.history_check.proofs.table_laws.the_tables_judge.Goals as goal

pub returns-clause-refusal : goal.returns-clause-refusal
returns-clause-refusal c = refusal_is

pub returns-clause-judged : goal.returns-clause-judged
returns-clause-judged c = judged_is
