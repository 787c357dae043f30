use Rattle.refutation.proofs.ReadOrders.{order_as_read, sure_as_read}
use Rattle.refutation.proofs.slice_laws.effects_keep_the_order_of_lines.Goals as goal

pub returns : goal.returns
returns c = record {
  sure = sure_as_read;
  order = order_as_read;
}
