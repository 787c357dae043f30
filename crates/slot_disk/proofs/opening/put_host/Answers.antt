use Rattle.std.specs.Arc.{arc_value}
use Rattle.std.proofs.Common.{List, rules, subst, sym, ◌-◌, ◌∷◌, ◌≡◌}
use Rattle.driver_cas.specs.contracts.shared_port.SharedPortPort.TheImpl.{ghosts}
use Rattle.driver_cas.specs.declared.shared_port.SharedPort.{SharedPort}
use Rattle.slot_host.specs.declared.slot_host.SlotHost.{SlotHost}
use Rattle.slot_disk.specs.Hosts.{AreHostsAbove}
use Rattle.slot_disk.proofs.Passes.{host_before}
use Rattle.slot_disk.proofs.opening.put_host.Goals as goal

pub returns-clause-hosts : goal.returns-clause-hosts
returns-clause-hosts c =
    let s = c.args._setting.now in
    let is : c.insert.new.self.items ≡ c.args.host ∷ c.args.hosts.now.items = search rules in
    subst (λ (hs : List (SlotHost SharedPort ghosts)).
    AreHostsAbove (arc_value s.engine) s.config s.slots (c.args._number - 1) hs) (sym is)
    (host_before (arc_value s.engine) s.config s.slots c.args._number c.args.hosts.now.items c.args.host
    c.requires.hosts c.requires.some c.requires.host)
