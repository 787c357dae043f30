use Rattle.refutation.proofs.Found.{order_found}
use Rattle.refutation.proofs.order_laws.else_some_list_is_an_order.Goals as goal

pub returns : goal.returns
returns c = order_found
