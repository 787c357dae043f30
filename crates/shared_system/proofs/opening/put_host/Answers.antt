use Rattle.std.proofs.Common.{arith, subst, sym}
use Rattle.shared_system.specs.Callers.{AreLastHosts}
use Rattle.shared_system.proofs.Systems.{hosts_more}
use Rattle.shared_system.proofs.opening.put_host.Goals as goal

pub returns-clause-hosts : goal.returns-clause-hosts
returns-clause-hosts g c =
    let system = c.args._system.now in
    let config = c.args._config.now in
    let place = c.requires.place in
    let len = c.args.hosts.now.ok.0 in
    subst (AreLastHosts system config c.args._all) (sym c.push_reserved.ensures.items)
    (hosts_more system config c.args._all c.args.hosts.now.items c.args.host c.requires.hosts c.requires.host
    c.requires.pass (omega (arith, place, len)))
