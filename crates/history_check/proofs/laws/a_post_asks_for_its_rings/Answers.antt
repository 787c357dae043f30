use Rattle.history_check.proofs.TicketPosting.{by_rings}
use Rattle.history_check.proofs.laws.a_post_asks_for_its_rings.Goals as goal

pub returns : goal.returns
returns c = by_rings
