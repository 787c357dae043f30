use Rattle.driver_calls.proofs.Calls.{call_on_one, call_proper, call_touches}
use Rattle.driver_calls.proofs.command_laws.the_blocks_of_a_call.Goals as goal

pub returns : goal.returns
returns c = record { proper = call_proper; touches = call_touches; on_one = call_on_one }
