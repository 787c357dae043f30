use Rattle.atomic_units.proofs.Longest.{longest_room}
use Rattle.atomic_units.proofs.laws.a_unit_ends_at_the_next_boundary.Goals as goal

pub returns : goal.returns
returns c = record { reach = longest_room }
