use Rattle.std.proofs.Common.{refl}
use Rattle.race_hosts.proofs.Going.{goes_called, goes_far, goes_same}
use Rattle.race_hosts.proofs.releasing.give_back.Goals as goal

pub returns-in-Ok-clause-goes : goal.returns-in-Ok-clause-goes
returns-in-Ok-clause-goes g c =
    goes_called _ _ _ _ _ (goes_same _ _ c.requires.own) refl refl refl c.release.ensures.slot_rules
    c.release.ensures.goes_on

pub returns-in-Ok-clause-begun : goal.returns-in-Ok-clause-begun
returns-in-Ok-clause-begun g c = c.release.ensures.claims 0

pub returns-in-Again-clause-goes : goal.returns-in-Again-clause-goes
returns-in-Again-clause-goes g c =
    goes_far _ _ (record c.args.host.now { driver = c.release.new.driver }) _
    (goes_called _ _ _ _ _ (goes_same _ _ c.requires.own) refl refl refl c.release.ensures.slot_rules
    c.release.ensures.goes_on)
    c.pause.ensures.goes
