use Rattle.driver_calls.proofs.Commands.{command_cid, command_proper, command_touches}
use Rattle.driver_calls.proofs.command_laws.an_entry_is_its_command.Goals as goal

pub returns : goal.returns
returns c = record { cid = command_cid; proper = command_proper; touches = command_touches }
