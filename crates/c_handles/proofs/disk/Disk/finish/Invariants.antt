use Rattle.c_handles.specs.Disks.{Works}
use Rattle.c_handles.proofs.disk.Disk.finish.Given as goal

-- so many tasks were made
abbrev pub invariant-loop : goal.invariant-loop
invariant-loop l = Works l.counter l.fn.self l.self
