use Rattle.range_reserve.proofs.Pairs.{overlap_shared, overlap_touching}
use Rattle.range_reserve.proofs.laws.an_overlap_is_a_shared_block.Goals as goal

pub returns : goal.returns
returns c = record { shared = overlap_shared; touching = overlap_touching }
