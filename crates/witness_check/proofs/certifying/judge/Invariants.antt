-- The entries so far are compared.
use Rattle.std.proofs.Common.{take}
use mathlib.Core.List.{reverse}
use Rattle.witness_check.specs.Compared.{IsComparedTo}
use Rattle.witness_check.proofs.certifying.judge.Given as goal

abbrev pub invariant-loop-place : goal.invariant-loop-place
invariant-loop-place l = IsComparedTo l.options l.config l.trace (reverse (take l.place l.entries)) l.comparison
