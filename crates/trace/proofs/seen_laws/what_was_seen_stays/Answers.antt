use Rattle.trace.proofs.Beginnings.{goes_on, never_fewer}
use Rattle.trace.proofs.seen_laws.what_was_seen_stays.Goals as goal

pub returns : goal.returns
returns c = record {
  begins = goes_on;
  count = never_fewer;
}
