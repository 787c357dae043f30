use Rattle.std.proofs.Common.{◌≡◌, ℕ, arith, subst}
use Rattle.random_script.proofs.Drawn.{none_drawn, one_drawn}
use Rattle.random_script.specs.Scripts.{AreOfKind}
use Rattle.random_script.proofs.script.draw_script.Goals as goal

pub loop-turn-init : goal.loop-turn-init
loop-turn-init c = rw c.new-lines.ensures.items (none_drawn c.args.kind)

pub loop-turn-preserved : goal.loop-turn-preserved
loop-turn-preserved c =
    rw c.in_ok-push.ensures.items
    (one_drawn c.args.kind c.loop-turn.turn c.loop-turn.lines.items c.in_ok-line.line c.loop-turn.invariant
    c.in_ok-line.ensures.kind)

pub returns : goal.returns
returns c =
    let e : c.loop-turn.turn ≡ c.args.count = omega arith in
    record {
      lines = subst (λ (n : ℕ). AreOfKind c.args.kind n c.loop-turn.lines.items) e c.loop-turn.invariant;
    }
