use Rattle.std.proofs.Common.{subst, ◌+◌}
use Rattle.meet_lock.specs.Passes.{IsNew}
use Rattle.controller_interface.specs.State.{ControllerState}
use Rattle.work_queue.proofs.NewPasses.{all_fresh}
use Rattle.work_queue.proofs.engine.Engine.of_config.Goals as goal

pub returns-clause-each : goal.returns-clause-each
returns-clause-each c = λ k p at.
    let new = c.in-Ok.ensures.each k p at in
    (new.0, subst (λ (s : ControllerState). IsNew c.args.count s.config s.past (k + 1) p) c.in_ok-core.ensures.ok new.1)

pub returns-clause-fresh : goal.returns-clause-fresh
returns-clause-fresh c = all_fresh c.in-Ok.engine c.args.count c.args.config _ (returns-clause-each c)
