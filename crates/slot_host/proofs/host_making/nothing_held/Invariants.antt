use Rattle.slot_host.specs.SlotHosts.{AreNothing}
use Rattle.slot_host.proofs.host_making.nothing_held.Given as goal

-- so many places are there
abbrev pub invariant-loop : goal.invariant-loop
invariant-loop l = AreNothing l.holds.items l.counter
