use Rattle.ticket_laws.proofs.Owing.{owed_is, has_next}
use Rattle.ticket_laws.proofs.a_ticket_owes_by_where_it_stands.Goals as goal

pub returns-clause-owed : goal.returns-clause-owed
returns-clause-owed c = owed_is

pub returns-clause-next : goal.returns-clause-next
returns-clause-next c = has_next
