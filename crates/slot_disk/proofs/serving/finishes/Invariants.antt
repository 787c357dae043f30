use Rattle.std.specs.Arc.{arc_value}
use Rattle.slot_disk.specs.Hosts.{IsServer}
use Rattle.work_queue.specs.Engines.{IsWorkOf}
use Rattle.slot_disk.proofs.serving.finishes.Given as goal

abbrev pub invariant-loop : goal.invariant-loop
invariant-loop l =
    IsServer (arc_value l.setting.engine) l.setting.config l.server × IsWorkOf (arc_value l.setting.engine) l.work
