use Rattle.shared_system.proofs.Going.{goes_on}
use Rattle.hosts.proofs.working.works.Goals as goal

pub returns-in-Made-clause-goes : goal.returns-in-Made-clause-goes
returns-in-Made-clause-goes g c = goes_on _ _ _ _ c.attempt.ensures.goes c.made.ensures.goes
