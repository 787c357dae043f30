use Rattle.driver_calls.proofs.Calls.{call_cids, call_count, call_fused, call_payloads, call_single}
use Rattle.driver_calls.proofs.command_laws.the_entries_of_a_call.Goals as goal

pub returns : goal.returns
returns c = record {
  count = call_count;
  payloads = call_payloads;
  cids = call_cids;
  single = call_single;
  fused = call_fused;
}
