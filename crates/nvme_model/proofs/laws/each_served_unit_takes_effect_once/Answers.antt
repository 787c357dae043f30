use Rattle.nvme_model.proofs.Once.{exactly_once, at_most_once, unit_before, effect_stands}
use Rattle.nvme_model.proofs.laws.each_served_unit_takes_effect_once.Goals as goal

pub returns : goal.returns
returns c = record { served = exactly_once; most = at_most_once; in_order = unit_before; stands = effect_stands }
