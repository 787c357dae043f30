use Rattle.shared_system.proofs.Going.{goes_on, notices_on}
use Rattle.shared_system.proofs.serving.serve.Goals as goal

pub returns-in_default : goal.returns-in_default
returns-in_default g c = record {
  goes = (
    goes_on _ _ _ _ c.loop.invariant.0 c.fetch.ensures.goes,
    record {
      caller = c.fetch.ensures.goes.of;
      notices = notices_on _ _ _ _ c.fetch.ensures.goes c.loop.invariant.1.notices;
    },
  );
}

pub returns-then-not-finish : goal.returns-then-not-finish
returns-then-not-finish g c = record {
  goes = (
    goes_on _ _ _ _ (goes_on _ _ _ _ c.loop.invariant.0 c.fetch.ensures.goes) c.finish.ensures.goes,
    record { caller = c.finish.ensures.goes.of; notices = c.finish.ensures.notices },
  );
}

pub loop-preserved : goal.loop-preserved
loop-preserved g c = (
  goes_on _ _ _ _ (goes_on _ _ _ _ c.loop.invariant.0 c.fetch.ensures.goes) c.finish.ensures.goes,
  record { caller = c.finish.ensures.goes.of; notices = c.finish.ensures.notices },
)
