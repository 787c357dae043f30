use Rattle.race.specs.Racers.{AreServers}
use Rattle.race.proofs.servers.asks_each.Given as goal

abbrev pub invariant-loop : goal.invariant-loop
invariant-loop g l = AreServers l.scene l.servers
