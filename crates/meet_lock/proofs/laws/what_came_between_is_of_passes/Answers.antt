use Rattle.meet_lock.specs.Lock.{unmade}
use Rattle.meet_lock.specs.Passes.{passes_of, seen}
use Rattle.meet_lock.proofs.Beginnings.{between}
use Rattle.meet_lock.proofs.laws.what_came_between_is_of_passes.Goals as goal

pub returns : goal.returns
returns g c =
    λ opening before a b later.
    between (passes_of c.args.pass.now) (unmade opening) before (seen c.args.pass.now) a b later
