use Rattle.std.specs.Arc.{arc_value}
use Rattle.std.specs.Prelude.{replicate, vec_len, ◌+◌, ◌-◌, ◌≡◌}
use Rattle.slot_disk.specs.Hosts.{AreHostsAbove, ArePasses, views}
use Rattle.slot_disk.specs.Views.{idle_host}
use Rattle.slot_disk.proofs.opening.hosts_of.Given as goal

abbrev pub invariant-loop-k : goal.invariant-loop-k
invariant-loop-k l =
    ArePasses (arc_value l.setting.engine) l.setting.config l.passes.items × (vec_len l.passes + l.k ≡ l.count)
    × AreHostsAbove (arc_value l.setting.engine) l.setting.config l.setting.slots (l.count - l.k) l.hosts.items
    × (views l.hosts.items ≡ replicate l.k (idle_host l.setting.slots.blocks))
