use Rattle.nvme_model.proofs.Cut.{cut-atomic, one_unit}
use Rattle.atomic_units.proofs.laws.an_atomic_range_is_one_unit.Goals as goal

pub returns : goal.returns
returns c = record { whole = cut-atomic; only = λ u s n e. (one_unit u s n).0 e }
