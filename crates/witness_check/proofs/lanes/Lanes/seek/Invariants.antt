-- What was read waits by lane.
use Rattle.std.proofs.Common.{List, ℕ, ◌<◌, ◌≡◌}
use Rattle.trace.specs.declared.seen.Seen.{Seen}
use Rattle.witness_check.specs.Lanes.{AreLanes}
use Rattle.witness_check.proofs.lanes.Lanes.seek.Given as goal

abbrev pub invariant-loop : goal.invariant-loop
invariant-loop l =
    (size : ℕ) (came : List Seen) → 0 < size → AreLanes size l.trace came l.fn.self
    → AreLanes size l.trace came l.self × (l.self.read ≡ l.counter)
