use Rattle.meet_lock.proofs.Told.{missed_knows, refused_knows}
use Rattle.meet_lock.specs.Lock.{boxed}
use Rattle.meet_lock.proofs.shared.Shared.glance.Goals as goal

pub returns-clause-knows : goal.returns-clause-knows
returns-clause-knows g c =
    refused_knows (boxed g.M.Machine.config) (boxed g.M.Machine.history) g.M.Machine.legal _ _ _ _
    c.in-Some.ensures.taken
    c.give_same.ensures.shown

pub returns-in_default-clause-knows : goal.returns-in_default-clause-knows
returns-in_default-clause-knows g c =
    missed_knows (boxed g.M.Machine.config) (boxed g.M.Machine.history) g.M.Machine.legal _ _ c.in_default.ensures.taken
