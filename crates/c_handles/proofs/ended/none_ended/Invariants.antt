use Rattle.std.specs.Prelude.{None, replicate, ◌≡◌}
use Rattle.c_handles.proofs.ended.none_ended.Given as goal

-- so many places are there
abbrev pub invariant-loop : goal.invariant-loop
invariant-loop l = l.ended.items ≡ replicate l.counter None
