-- So many steps were made, each the one that was ready.
use Rattle.vandrexu_c.specs.Settling.{Settles}
use Rattle.vandrexu_c.proofs.settling.settle.Given as goal

abbrev pub invariant-loop-turn : goal.invariant-loop-turn
invariant-loop-turn l = Settles l._turn l.fn.core l.core
