use Rattle.nvme_model.proofs.Cut.{cut-is, cut-unique}
use Rattle.atomic_units.proofs.laws.the_cut_is_one_list.Goals as goal

pub returns : goal.returns
returns c = record { is = cut-is; unique = cut-unique }
