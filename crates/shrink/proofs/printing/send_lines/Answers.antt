use Rattle.std.proofs.Common.{arith}
use Rattle.std.proofs.KnownBytes.{Appends-nil}
use Rattle.line_text.proofs.Known.{on_err}
use Rattle.shrink.proofs.LinesOut.{printed_all, printed_next, printed_none, printed_stopped}
use Rattle.shrink.proofs.printing.send_lines.Goals as goal

pub returns-in_err-send_line-clause-front : goal.returns-in_err-send_line-clause-front
returns-in_err-send_line-clause-front g c =
    on_err _ (printed_stopped c.args.lines.now c.loop-k.k _ _ _ c.index-lines-k.result c.loop-k.invariant
    c.loop-k-test.true c.index-lines-k.is (rw c.as_slice.ensures.value at c.in_err-send_line.ensures.front))

pub loop-k-preserved : goal.loop-k-preserved
loop-k-preserved g c =
    printed_next c.args.lines.now c.loop-k.k _ _ _ c.index-lines-k.result c.loop-k.invariant c.loop-k-test.true
    c.index-lines-k.is (rw c.as_slice.ensures.value at c.in_ok-send_line.ensures.whole)

pub returns-clause-whole : goal.returns-clause-whole
returns-clause-whole g c =
    printed_all c.args.lines.now c.loop-k.k _ _ (omega (arith, c.loop-k-test.false)) c.loop-k.invariant

pub loop-k-init : goal.loop-k-init
loop-k-init g c = printed_none c.args.lines.now _ (Appends-nil _)
