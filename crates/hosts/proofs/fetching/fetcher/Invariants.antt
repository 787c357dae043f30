use Rattle.shared_system.specs.Callers.{Continues}
use Rattle.hosts.specs.Stages.{IsFetchStage}
use Rattle.hosts.proofs.fetching.fetcher.Given as goal

abbrev pub invariant-loop : goal.invariant-loop
invariant-loop g l = Continues l.system l.fn.caller l.caller × IsFetchStage l.system l.queues l.stage
