use Rattle.trace.proofs.Beginnings.{seen_more, seen_same}
use Rattle.trace.proofs.seen_laws.only_publishes_and_reaps_are_seen.Goals as goal

pub returns : goal.returns
returns c = record {
  seen = seen_more;
  hidden = seen_same;
}
