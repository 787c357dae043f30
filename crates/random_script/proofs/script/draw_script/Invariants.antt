-- The lines so far are of the kind.
use Rattle.random_script.specs.Scripts.{AreOfKind}
use Rattle.random_script.proofs.script.draw_script.Given as goal

abbrev pub invariant-loop-turn : goal.invariant-loop-turn
invariant-loop-turn l = AreOfKind l.kind l.turn l.lines.items
