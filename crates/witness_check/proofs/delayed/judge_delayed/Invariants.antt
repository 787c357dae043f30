-- The entries so far are compared.
use Rattle.std.proofs.Common.{take}
use mathlib.Core.List.{reverse}
use Rattle.witness_check.specs.Delays.{IsDelayedTo}
use Rattle.witness_check.proofs.delayed.judge_delayed.Given as goal

abbrev pub invariant-loop-place : goal.invariant-loop-place
invariant-loop-place l = IsDelayedTo l.options l.config l.trace (reverse (take l.place l.entries)) l.comparison
