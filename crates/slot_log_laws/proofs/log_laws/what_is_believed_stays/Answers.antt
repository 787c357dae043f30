use Rattle.slot_log_laws.proofs.Staying.{believed_claim, believed_got, believed_other, believed_outside}
use Rattle.slot_log_laws.proofs.log_laws.what_is_believed_stays.Goals as goal

pub returns : goal.returns
returns c = record { got = believed_got; outside = believed_outside; claim = believed_claim; release = believed_other }
