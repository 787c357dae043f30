use Rattle.driver_calls.proofs.Following.{all_beside_no_events, others_add_none, own_comes_first}
use Rattle.driver_calls.proofs.laws.events_follow_the_entries.Goals as goal

pub returns : goal.returns
returns c = record { others = others_add_none; own = own_comes_first; none = all_beside_no_events }
