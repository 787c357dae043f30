use Rattle.ticket_laws.proofs.Allowed.{block_in_place, grant_in_place, post_in_place}
use Rattle.ticket_laws.proofs.Later.{duty_later}
use Rattle.ticket_laws.proofs.a_ticket_stands_by_its_own_entries.Goals as goal

pub returns-clause-grant : goal.returns-clause-grant
returns-clause-grant c = grant_in_place

pub returns-clause-block : goal.returns-clause-block
returns-clause-block c = block_in_place

pub returns-clause-post : goal.returns-clause-post
returns-clause-post c = post_in_place

pub returns-clause-stays : goal.returns-clause-stays
returns-clause-stays c = duty_later
