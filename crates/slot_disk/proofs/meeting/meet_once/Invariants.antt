use Rattle.std.specs.Arc.{arc_value}
use Rattle.std.specs.Prelude.{◌≡◌}
use Rattle.slot_disk.specs.Hosts.{AreHosts, HaveMet, IsServer, views}
use Rattle.slot_disk.proofs.meeting.meet_once.Given as goal

abbrev pub invariant-loop-k : goal.invariant-loop-k
invariant-loop-k l =
    AreHosts (arc_value l.setting.engine) l.setting.config l.setting.slots l.hosts.items
    × IsServer (arc_value l.setting.engine) l.setting.config l.server
    × (views l.hosts.items ≡ views l.fn.hosts.items)
    × HaveMet l.k l.fn.hosts.items l.hosts.items l.fn.server l.server
