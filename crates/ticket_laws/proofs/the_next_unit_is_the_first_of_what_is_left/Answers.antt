use Rattle.ticket_laws.proofs.Left.{next_unit_left, none_left_is}
use Rattle.ticket_laws.proofs.the_next_unit_is_the_first_of_what_is_left.Goals as goal

pub returns-clause-next : goal.returns-clause-next
returns-clause-next c = next_unit_left

pub returns-clause-none : goal.returns-clause-none
returns-clause-none c = none_left_is
