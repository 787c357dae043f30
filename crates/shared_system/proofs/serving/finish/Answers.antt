use Rattle.shared_system.proofs.Going.{goes_on}
use Rattle.shared_system.proofs.serving.finish.Goals as goal

pub returns-in_default-attempt-clause-goes : goal.returns-in_default-attempt-clause-goes
returns-in_default-attempt-clause-goes g c = goes_on _ _ _ _ c.loop.invariant.0 c.attempt.ensures.goes

pub returns-then-not-told-clause-goes : goal.returns-then-not-told-clause-goes
returns-then-not-told-clause-goes g c =
    goes_on _ _ _ _ (goes_on _ _ _ _ c.loop.invariant.0 c.attempt.ensures.goes) c.told.ensures.goes

pub loop-preserved : goal.loop-preserved
loop-preserved g c = (
  goes_on _ _ _ _ (goes_on _ _ _ _ c.loop.invariant.0 c.attempt.ensures.goes) c.told.ensures.goes,
  c.attempt.ensures.work.0,
  c.told.ensures.notices,
)
