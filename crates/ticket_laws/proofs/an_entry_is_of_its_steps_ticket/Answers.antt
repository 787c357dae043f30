use Rattle.ticket_laws.proofs.NewEntries.{named_entry, new_entry, no_entries}
use Rattle.ticket_laws.proofs.an_entry_is_of_its_steps_ticket.Goals as goal

pub returns-clause-new : goal.returns-clause-new
returns-clause-new c = new_entry

pub returns-clause-named : goal.returns-clause-named
returns-clause-named c = named_entry

pub returns-clause-unfetched : goal.returns-clause-unfetched
returns-clause-unfetched c = no_entries
