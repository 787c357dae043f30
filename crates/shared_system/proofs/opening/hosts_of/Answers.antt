use Rattle.std.proofs.Common.{rules, subst, sym}
use Rattle.shared_system.specs.Callers.{AreFirstPasses, AreLastHosts}
use Rattle.shared_system.proofs.Systems.{hosts_are}
use Rattle.shared_system.proofs.opening.hosts_of.Goals as goal

pub next_host-requires-clause-passes : goal.next_host-requires-clause-passes
next_host-requires-clause-passes g c =
    subst (λ n. AreFirstPasses c.args.system.now c.args.config.now n c.loop-k.passes.items) (sym c.len-all.ensures)
    c.loop-k.invariant.0

pub put_host-requires-clause-hosts : goal.put_host-requires-clause-hosts
put_host-requires-clause-hosts g c =
    subst (λ n. AreLastHosts c.args.system.now c.args.config.now n c.loop-k.hosts.items) (sym c.len-all.ensures)
    c.loop-k.invariant.1

pub loop-k-preserved : goal.loop-k-preserved
loop-k-preserved g c =
    let system = c.args.system.now in
    let config = c.args.config.now in (
      subst (λ n. AreFirstPasses system config n c.next_host.new.passes.items) c.len-all.ensures
          c.next_host.ensures.passes,
      subst (λ n. AreLastHosts system config n c.put_host.new.hosts.items) c.len-all.ensures c.put_host.ensures.hosts,
      c.next_host.ensures.places,
      search rules,
      search rules,
      search rules,
      search rules,
      c.len-all.ensures,
    )

pub returns-clause-hosts : goal.returns-clause-hosts
returns-clause-hosts g c = hosts_are _ _ _ _ c.loop-k.invariant.1 (search rules)
