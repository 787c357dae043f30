use Rattle.std.proofs.Common.{arith, subst, sym}
use Rattle.race_hosts.specs.Stages.{IsStageOf}
use Rattle.race_hosts.proofs.Going.{goes_far, goes_same, host_on}
use Rattle.race_hosts.proofs.rounds.host.Goals as goal

pub loop-init : goal.loop-init
loop-init g c =
    let left = c.of-now.ensures.left in
    (goes_same _ _ c.requires, subst (IsStageOf c.args.host.now) (sym c.of-now.ensures.stage) tt, omega (arith, left))

pub loop-preserved : goal.loop-preserved
loop-preserved g c =
    let was = c.loop.invariant.2 in
    let sum = c.in_ok-now.ensures.sum in
    (goes_far _ _ _ _ c.loop.invariant.0 c.host_turn.ensures.goes, c.in_ok-now.ensures.stage, omega (arith, was, sum))

pub returns-in_err-now-clause-goes : goal.returns-in_err-now-clause-goes
returns-in_err-now-clause-goes g c = goes_far _ _ _ _ c.loop.invariant.0 c.host_turn.ensures.goes

pub returns-in_err-now-clause-hosts : goal.returns-in_err-now-clause-hosts
returns-in_err-now-clause-hosts g c = host_on _ _ _ (goes_far _ _ _ _ c.loop.invariant.0 c.host_turn.ensures.goes)
