use Rattle.std.specs.Arc.{arc_value}
use Rattle.work_queue.specs.Engines.{IsWorkOf}
use Rattle.driver_example.proofs.owned.serve.Given as goal

-- what is served is of the controller
abbrev pub invariant-loop : goal.invariant-loop
invariant-loop l = IsWorkOf (arc_value l.disk.engine) l.work
