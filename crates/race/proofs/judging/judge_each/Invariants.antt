use Rattle.std.proofs.Common.{take}
use mathlib.Core.List.{reverse}
use Rattle.slot_check.specs.Watched.{Watches, area_state}
use Rattle.race.proofs.judging.judge_each.Given as goal

abbrev pub invariant-loop-k : goal.invariant-loop-k
invariant-loop-k l = Watches l.config l.fn.slots (reverse (take l.k l.entries)) (area_state l.check)
