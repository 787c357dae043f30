use Rattle.many_host_laws.proofs.Rosters.{all_keep, slot_view}
use Rattle.many_host_laws.proofs.history_laws.drivers_that_keep_the_rules_keep_the_discipline.Goals as goal

pub returns : goal.returns
returns c = record { whole = all_keep; each = slot_view }
