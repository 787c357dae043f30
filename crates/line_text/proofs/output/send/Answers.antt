use Rattle.std.proofs.Common.{◌+◌, ◌-◌, ◌≤◌, length, take, drop, sym, subst, arith, length-take, length-drop}
use Rattle.std.specs.Io.KnownBytes.{Appends}
use Rattle.std.proofs.KnownBytes.{Appends-kept}
use Rattle.line_text.proofs.Known.{front_of_take, sent_more}
use Rattle.line_text.proofs.output.send.Goals as goal
use Rattle.line_text.proofs.output.send.Goals.{in-Ok, in-Err+else-ne}

pub returns-in-Ok-eq0-clause-front : goal.returns-in-Ok-eq0-clause-front
returns-in-Ok-eq0-clause-front g c =
    front_of_take _ _ (c.loop.sent + c.in-Ok-eq0.field-0) _
    (sent_more _ _ _ c.loop.sent c.in-Ok-eq0.field-0 c.args.bytes.now c.loop.invariant.0 c.in-Ok-eq0.ensures.bound
    c.loop.invariant.1 c.in-Ok-eq0.ensures.bytes)

pub returns-then-ne-clause-front : goal.returns-then-ne-clause-front
returns-then-ne-clause-front g c =
    front_of_take _ _ c.loop.sent _ (Appends-kept _ _ _ _ c.loop.invariant.1 c.in-Err.ensures.bytes)

pub loop-preserved : goal.loop-preserved
loop-preserved g c =
    let xs = c.args.bytes.now in
    let done = c.loop.sent in
    elim c.match-write.branch as
    (λ _. (c.match-write.sent ≤ length xs)
    × Appends (g.W.Write.contents c.args.writer.now) (g.W.Write.contents c.write.new.self)
    (take c.match-write.sent xs)) [
      | in-Ok w ↦
          let before = c.loop.invariant in
          let most = length-take (length xs - done) (drop done xs) in
          let more = sent_more _ _ _ done w.in-Ok.n xs before.0 w.in-Ok.ensures.bound before.1
          w.in-Ok.ensures.bytes in (
            omega (arith, w.in-Ok.ensures.bound, length-drop done xs),
            subst (λ k. Appends (g.W.Write.contents c.args.writer.now) (g.W.Write.contents c.write.new.self)
                (take k xs)) (sym w.sent-is) more,
          )
      | in-Err+else-ne w ↦
          let before = c.loop.invariant in
          let kept = Appends-kept _ _ _ _ before.1 w.in-Err.ensures.bytes in (
            omega arith,
            subst (λ k.
                Appends (g.W.Write.contents c.args.writer.now) (g.W.Write.contents c.write.new.self) (take k xs))
                (sym w.sent-is) kept,
          )
    ]

pub returns-clause-front : goal.returns-clause-front
returns-clause-front g c = front_of_take _ _ c.loop.sent _ c.loop.invariant.1
