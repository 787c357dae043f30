use Rattle.std.specs.Prelude.{replicate, ◌≡◌}
use Rattle.c_handles.proofs.host_numbers.zeros.Given as goal

-- so many zeros are there
abbrev pub invariant-loop : goal.invariant-loop
invariant-loop l = l.numbers.items ≡ replicate l.counter 0
