use Rattle.race.proofs.Callers.{racer_ended}
use Rattle.race.proofs.racers.caller_of.Goals as goal

pub returns-clause-ended : goal.returns-clause-ended
returns-clause-ended c =
    let is = c.requires.racer.is in
    racer_ended c.args._system.now c.args._play.now c.args._servers c.args.racer c.into_caller.result.pass
    c.requires.racer c.requires.over c.into_caller.ensures.pass
    (c.what_a_hosts_pass_did.ensures _ _ _ _ _ is)
    (c.what_a_hosts_pass_claimed.ensures _ _ _ _ _ c.args._play.now.slots.slba is)
