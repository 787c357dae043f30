use Rattle.std.specs.Arc.{arc_value}
use Rattle.slot_disk.specs.Hosts.{IsServer}
use Rattle.slot_disk.proofs.serving.serves.Given as goal

abbrev pub invariant-loop : goal.invariant-loop
invariant-loop l = IsServer (arc_value l.setting.engine) l.setting.config l.server
