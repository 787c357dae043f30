use Rattle.atomic_units.proofs.Ends.{ends_decide}
use Rattle.atomic_units.proofs.laws.the_ends_decide_a_crossing.Goals as goal

pub returns : goal.returns
returns c = record { ends = ends_decide }
