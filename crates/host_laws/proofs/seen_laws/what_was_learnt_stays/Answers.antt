use Rattle.nvme_model.proofs.Beginnings.{earlier}
use Rattle.host_laws.proofs.Calls.{takes_later}
use Rattle.host_laws.proofs.Later.{published_later}
use Rattle.host_laws.proofs.Lifts.{fused_later, proper_later, single_later, compare_differs_later, done_later}
use Rattle.host_laws.proofs.Lifts.{failed_later, pair_differs_later, pair_swaps_later}
use Rattle.host_laws.proofs.seen_laws.what_was_learnt_stays.Goals as goal

pub returns : goal.returns
returns c = record {
  legal = earlier;
  published = published_later;
  single = single_later;
  fused = fused_later;
  proper = proper_later;
  takes = takes_later;
  pair_swaps = pair_swaps_later;
  pair_differs = pair_differs_later;
  done = done_later;
  compare_differs = compare_differs_later;
  failed = failed_later;
}
