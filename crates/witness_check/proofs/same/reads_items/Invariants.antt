use Rattle.std.proofs.Common.{take}
use Rattle.trace.specs.Options.{Pointwise, ReadsEntry}
use Rattle.witness_check.proofs.same.reads_items.Given as goal

abbrev pub invariant-loop-place : goal.invariant-loop-place
invariant-loop-place l = Pointwise (ReadsEntry l.options) (take l.place l.some) (take l.place l.told)
