use Rattle.host_laws.proofs.Beside.{entries_append, own_beside, published_beside, reaped_beside, reaped_post_beside}
use Rattle.host_laws.proofs.Beside.{sole_beside, swaps_beside}
use Rattle.host_laws.proofs.Elements.{contains_in, in_contains}
use Rattle.host_laws.proofs.seen_laws.others_leave_a_queue_alone.Goals as goal

pub returns : goal.returns
returns c = record {
  sole = sole_beside;
  own = own_beside;
  entries = entries_append;
  published = published_beside;
  reaped = reaped_beside;
  reaped_post = reaped_post_beside;
  swaps = λ n later past q s b e i. in_contains _ s (swaps_beside n later past q s b e (contains_in _ s i));
}
