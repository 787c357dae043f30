use Rattle.std.proofs.Common.{subst, ℕ, ◌+◌}
use Rattle.shared_system.specs.declared.system.HostPasses.{HostPasses}
use Rattle.race.specs.Ended.{EndDown}
use Rattle.race.proofs.racers.hosts_back.Goals as goal

pub returns-clause-hosts : goal.returns-clause-hosts
returns-clause-hosts c =
    subst (λ (n : ℕ). EndDown (λ (h : HostPasses). h.pass) c.args.system.now.engine c.args.play.now c.args.servers
    (c.args.servers + n) c.loop.hosts.items) c.len-count.ensures c.loop.invariant.2
