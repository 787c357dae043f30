use Rattle.slot_log_laws.proofs.Meeting.{one_name, other_hosts, other_passes, other_queues}
use Rattle.slot_log_laws.proofs.history_laws.no_slot_has_two_claims.Goals as goal

pub returns : goal.returns
returns c = record { one = one_name; hosts = other_hosts; queues = other_queues; passes = other_passes }
