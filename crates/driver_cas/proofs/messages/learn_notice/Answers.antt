use Rattle.std.proofs.Common.{refl}
use Rattle.driver_cas.proofs.Listening.{saw_nothing, saw_on}
use Rattle.driver_cas.proofs.messages.learn_notice.Goals as goal

pub returns-in-Ok-clause-on : goal.returns-in-Ok-clause-on
returns-in-Ok-clause-on g c =
    let k = c.in-Ok.ensures in
    saw_on c.args.pass.now c.loop.pass c.learn.new.pass c.loop.invariant.0 k.same.0 k.same.1 (k.knows.1, k.knows.2)

pub loop-init : goal.loop-init
loop-init g c =
    (saw_nothing c.args.pass.now c.args.pass.now (refl, refl, refl, refl) refl refl, c.requires.notice, refl, refl)
