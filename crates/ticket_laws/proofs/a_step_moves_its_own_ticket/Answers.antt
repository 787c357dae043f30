use Rattle.ticket_laws.proofs.Unfetched.{fetch_here, fetch_other}
use Rattle.ticket_laws.proofs.Standings.{grant_here, grant_other, block_other, post_here, post_other}
use Rattle.ticket_laws.proofs.a_step_moves_its_own_ticket.Goals as goal

pub returns-clause-fetched : goal.returns-clause-fetched
returns-clause-fetched c = fetch_here

pub returns-clause-beside_fetch : goal.returns-clause-beside_fetch
returns-clause-beside_fetch c = fetch_other

pub returns-clause-granted : goal.returns-clause-granted
returns-clause-granted c = grant_here

pub returns-clause-beside_grant : goal.returns-clause-beside_grant
returns-clause-beside_grant c = grant_other

pub returns-clause-beside_block : goal.returns-clause-beside_block
returns-clause-beside_block c = block_other

pub returns-clause-posted : goal.returns-clause-posted
returns-clause-posted c = post_here

pub returns-clause-beside_post : goal.returns-clause-beside_post
returns-clause-beside_post c = post_other
