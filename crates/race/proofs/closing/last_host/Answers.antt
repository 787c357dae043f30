use Rattle.std.proofs.Common.{arith, vec_len}
use Rattle.shared_system.specs.declared.system.HostPasses.{HostPasses}
use Rattle.race.proofs.Ended.{popped_last, popped_rest}
use Rattle.race.proofs.closing.last_host.Goals as goal

pub returns-clause-rest : goal.returns-clause-rest
returns-clause-rest c =
    popped_rest c.args._system.now.engine c.args._play.now c.args._servers (λ (h : HostPasses). h.pass) c.args._top
    c.args.hosts.now.items c.pop.new.self.items c.pop.result c.pop.ensures.items c.requires.hosts

pub returns-clause-last : goal.returns-clause-last
returns-clause-last c =
    (popped_last c.args._system.now.engine c.args._play.now c.args._servers (λ (h : HostPasses). h.pass) c.args._top
    (vec_len c.pop.new.self) c.args.hosts.now.items c.pop.new.self.items c.unwrap.result
    (omega (arith, c.pop.new.self.ok.0)) (rw c.unwrap.ensures at c.pop.ensures.items) c.requires.hosts).1

pub returns-clause-number : goal.returns-clause-number
returns-clause-number c =
    (popped_last c.args._system.now.engine c.args._play.now c.args._servers (λ (h : HostPasses). h.pass) c.args._top
    (vec_len c.pop.new.self) c.args.hosts.now.items c.pop.new.self.items c.unwrap.result
    (omega (arith, c.pop.new.self.ok.0)) (rw c.unwrap.ensures at c.pop.ensures.items) c.requires.hosts).0
