use Rattle.std.proofs.Common.{◌+◌, ◌≡◌}
use Rattle.race_hosts.specs.Hosts.{HostContinues, rounds_begun}
use Rattle.race_hosts.specs.Stages.{IsStageOf}
use Rattle.race_hosts.proofs.rounds.host.Given as goal

abbrev pub invariant-loop : goal.invariant-loop
invariant-loop g l = HostContinues l.system l.fn.host l.host × IsStageOf l.host l.now.stage
    × (rounds_begun l.host + l.now.left ≡ rounds_begun l.fn.host + l.fn.rounds)
