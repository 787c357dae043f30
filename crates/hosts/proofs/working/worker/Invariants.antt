use Rattle.meet_lock.specs.Passes.{config_of}
use Rattle.shared_system.specs.Callers.{AreNoticesOf, Continues}
use Rattle.hosts.specs.Stages.{IsWorkStage}
use Rattle.hosts.proofs.working.worker.Given as goal

abbrev pub invariant-loop : goal.invariant-loop
invariant-loop g l = Continues l.system l.fn.caller l.caller
    × AreNoticesOf l.system (config_of l.caller.pass).cqs l.notices.items
    × IsWorkStage l.system l.stage
