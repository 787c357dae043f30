use Rattle.std.proofs.Common.{arith}
use Rattle.race.proofs.Callers.{front_hosts, last_host}
use Rattle.race.proofs.racers.last_caller.Goals as goal

pub returns-clause-rest : goal.returns-clause-rest
returns-clause-rest c =
    front_hosts c.args._system.now c.args._play.now.config c.args._all c.args.hosts.now.items c.pop.new.self.items
    c.pop.result c.pop.ensures.items c.requires.hosts

pub returns-clause-own : goal.returns-clause-own
returns-clause-own c =
    (last_host c.args._system.now c.args._play.now.config c.args._all c.args.hosts.now.items c.pop.new.self.items
    c.unwrap.result (rw c.unwrap.ensures at c.pop.ensures.items) c.requires.hosts).0

pub returns-clause-last : goal.returns-clause-last
returns-clause-last c =
    (last_host c.args._system.now c.args._play.now.config c.args._all c.args.hosts.now.items c.pop.new.self.items
    c.unwrap.result (rw c.unwrap.ensures at c.pop.ensures.items) c.requires.hosts).2

pub returns-clause-queue : goal.returns-clause-queue
returns-clause-queue c =
    let is = (last_host c.args._system.now c.args._play.now.config c.args._all c.args.hosts.now.items
    c.pop.new.self.items c.unwrap.result (rw c.unwrap.ensures at c.pop.ensures.items) c.requires.hosts).1 in
    let long = c.pop.new.self.ok.0 in
    omega (arith, is, long)
