use Rattle.std.proofs.Common.{ap}
use Rattle.nvme_model.specs.Operations.{is_pair}
use Rattle.nvme_model.proofs.Unwritten.{unwritten}
use Rattle.host_laws.proofs.PairCalls.{pair_differs, pair_swaps}
use Rattle.host_laws.proofs.call_laws.a_pair_is_answered.Goals as goal

pub returns : goal.returns
returns c = record {
  swaps = λ n past q j p h x. pair_swaps n past q j p x.second h x.second_published x.second_fuse;
  differs = λ n past q j p h x. pair_differs n past q j p x.first h x.first_published x.first_fuse;
  unwritten = λ n past q j d h. unwritten n past d.ticket 0 h (ap is_pair d.pair) d.no;
}
