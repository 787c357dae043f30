use Rattle.picture_shapes.proofs.OneColumn.{one_column}
use Rattle.picture_shapes.proofs.laws.each_entry_has_one_column.Goals as goal

pub returns : goal.returns
returns c = record { heads = λ d from to a w past. one_column d from to a w past }
