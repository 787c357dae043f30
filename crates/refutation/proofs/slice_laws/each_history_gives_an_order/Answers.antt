use Rattle.refutation.proofs.Refuted.{none_lacks}
use Rattle.refutation.proofs.WholeSlices.{order_as_read}
use Rattle.refutation.proofs.slice_laws.each_history_gives_an_order.Goals as goal

pub returns : goal.returns
returns c = record {
  order = order_as_read;
  refuted = none_lacks;
}
