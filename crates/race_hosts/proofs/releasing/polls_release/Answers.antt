use Rattle.std.proofs.Common.{None, refl}
use Rattle.race_hosts.proofs.Going.{goes_called, goes_far, goes_same}
use Rattle.race_hosts.proofs.releasing.polls_release.Goals as goal

pub returns-in-Pending-clause-goes : goal.returns-in-Pending-clause-goes
returns-in-Pending-clause-goes g c =
    goes_far _ _ (record c.args.host.now { driver = c.poll_release.new.driver }) _
    (goes_called _ _ _ _ None (goes_same _ _ c.requires.own) refl refl refl c.poll_release.ensures.slot_rules
    c.poll_release.ensures.goes_on)
    c.busy_turn.ensures.goes

pub returns-else-eq-clause-goes : goal.returns-else-eq-clause-goes
returns-else-eq-clause-goes g c =
    goes_far _ _ (record c.args.host.now { driver = c.poll_release.new.driver }) _
    (goes_called _ _ _ _ None (goes_same _ _ c.requires.own) refl refl refl c.poll_release.ensures.slot_rules
    c.poll_release.ensures.goes_on)
    c.busy_turn-in-Later.ensures.goes
