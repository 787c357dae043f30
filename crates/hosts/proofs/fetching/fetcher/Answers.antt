use Rattle.shared_system.proofs.Going.{goes_on}
use Rattle.hosts.proofs.fetching.fetcher.Goals as goal

pub returns-in_err-stage : goal.returns-in_err-stage
returns-in_err-stage g c = record { goes = goes_on _ _ _ _ c.loop.invariant.0 c.fetch_turn.ensures.goes }

pub loop-preserved : goal.loop-preserved
loop-preserved g c = (goes_on _ _ _ _ c.loop.invariant.0 c.fetch_turn.ensures.goes, c.in_ok-stage.ensures.stage)
