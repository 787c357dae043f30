use Rattle.race.specs.Racers.{AreServers}
use Rattle.race.proofs.servers.works_each.Given as goal

abbrev pub invariant-loop-k : goal.invariant-loop-k
invariant-loop-k g l = AreServers l.scene l.servers
