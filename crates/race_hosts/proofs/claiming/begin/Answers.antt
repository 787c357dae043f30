use Rattle.std.proofs.Common.{None, refl}
use Rattle.race_hosts.proofs.Going.{goes_called, goes_far, goes_same}
use Rattle.race_hosts.proofs.claiming.begin.Goals as goal

pub returns-else-ne-clause-goes : goal.returns-else-ne-clause-goes
returns-else-ne-clause-goes g c =
    goes_far _ _ (record c.args.host.now { driver = c.claim_any.new.driver }) _
    (goes_called _ _ _ _ None (goes_same _ _ c.requires.own) refl refl refl c.claim_any.ensures.slot_rules
    c.claim_any.ensures.goes_on)
    c.pause.ensures.goes
