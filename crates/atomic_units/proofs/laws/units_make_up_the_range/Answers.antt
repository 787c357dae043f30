use Rattle.nvme_model.specs.Cut.{cut}
use Rattle.nvme_model.proofs.Cut.{cut-is}
use Rattle.nvme_model.proofs.StepCounts.{cut_sum}
use Rattle.atomic_units.proofs.Tiling.{adjoin_from, all_atomic_from, count_from}
use Rattle.atomic_units.proofs.laws.units_make_up_the_range.Goals as goal

pub returns : goal.returns
returns c = record {
  adjoin = λ u s n. adjoin_from u s n (cut u s n) (cut-is u s n);
  atomic = λ u s n. all_atomic_from u s n (cut u s n) (cut-is u s n);
  sum = cut_sum;
  once = λ u s n l. count_from s n l (cut u s n) (adjoin_from u s n (cut u s n) (cut-is u s n));
}
