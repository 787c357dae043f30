use Rattle.slot_log_laws.proofs.Winning.{claim_in, claim_in_later, release_in, release_in_later}
use Rattle.slot_log_laws.proofs.log_laws.a_call_is_in_its_log.Goals as goal

pub returns : goal.returns
returns c = record {
  claim = claim_in;
  release = release_in;
  claim_later = claim_in_later;
  release_later = release_in_later;
}
