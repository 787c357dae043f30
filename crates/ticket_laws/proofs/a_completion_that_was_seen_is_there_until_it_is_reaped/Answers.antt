use Rattle.ticket_laws.proofs.Noticed.{reaped_all}
use Rattle.ticket_laws.proofs.a_completion_that_was_seen_is_there_until_it_is_reaped.Goals as goal

pub returns : goal.returns
returns c = record { reaped = reaped_all }
