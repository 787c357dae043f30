use Rattle.slot_log_laws.proofs.Views.{view_back, view_believed, view_holder}
use Rattle.slot_log_laws.proofs.history_laws.the_believed_hold_their_slots.Goals as goal

pub returns : goal.returns
returns c = record { believed = view_believed; holder = view_holder; back = view_back }
