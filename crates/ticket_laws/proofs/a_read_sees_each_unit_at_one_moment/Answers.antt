use Rattle.ticket_laws.proofs.WholeRead.{read_is}
use Rattle.ticket_laws.proofs.ReadPlace.{read_length}
use Rattle.ticket_laws.proofs.a_read_sees_each_unit_at_one_moment.Goals as goal

pub returns-clause-whole : goal.returns-clause-whole
returns-clause-whole c = read_is

pub returns-clause-length : goal.returns-clause-length
returns-clause-length c = read_length
