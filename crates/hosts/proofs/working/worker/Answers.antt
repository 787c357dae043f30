use Rattle.shared_system.proofs.Going.{goes_on}
use Rattle.hosts.proofs.working.worker.Goals as goal

pub returns-in_err-stage-clause-goes : goal.returns-in_err-stage-clause-goes
returns-in_err-stage-clause-goes g c = goes_on _ _ _ _ c.loop.invariant.0 c.work_turn.ensures.goes

pub loop-preserved : goal.loop-preserved
loop-preserved g c = (
  goes_on _ _ _ _ c.loop.invariant.0 c.work_turn.ensures.goes,
  c.work_turn.ensures.notices,
  c.in_ok-stage.ensures.stage,
)
