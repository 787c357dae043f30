use Rattle.refutation.proofs.Steps.{no_order}
use Rattle.refutation.proofs.order_laws.no_list_is_an_order.Goals as goal

pub returns : goal.returns
returns c = no_order
