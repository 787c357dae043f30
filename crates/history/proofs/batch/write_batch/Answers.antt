use Rattle.std.proofs.Common.{◌++◌, sym, ap, subst, ◌∙◌, append_assoc, append-nil}
use Rattle.std.specs.List.{join_with_byte}
use Rattle.std.specs.Io.KnownBytes.{Appends}
use Rattle.std.proofs.KnownBytes.{Appends-trans}
use Rattle.line_text.specs.Known.{AppendsFront}
use Rattle.line_text.proofs.Known.{front_at, front_first, on_err}
use Rattle.history.specs.BatchWords.{publish_words}
use Rattle.history.proofs.BatchSpelling.{publish_first, more_next, more_none}
use Rattle.history.proofs.batch.write_batch.Goals as goal

pub returns-in_err-send_words-clause-front : goal.returns-in_err-send_words-clause-front
returns-in_err-send_words-clause-front g c =
    let text = ap (λ l. join_with_byte 32 (publish_words c.args.queue l)) c.in-Some.ensures.cases.0
    ∙ publish_first c.args.queue c.in-Some.first.now c.in-Some.others.now in
    let sent = rw (c.from.ensures, c.as_slice.ensures) at c.in_err-send_words.ensures.front in
    on_err c.from_residual.result
    (subst (AppendsFront (g.W.Write.contents c.args.writer.now) (g.W.Write.contents c.send_words.new.writer))
    (sym text) (front_first _ _ _ _ sent))

pub loop-item-init : goal.loop-item-init
loop-item-init g c =
    let text = ap (λ l. join_with_byte 32 (publish_words c.args.queue l)) c.in-Some.ensures.cases.0
    ∙ publish_first c.args.queue c.in-Some.first.now c.in-Some.others.now in
    let sent = rw (c.from.ensures, c.as_slice.ensures) at c.in_ok-send_words.ensures.whole in
    (_, sent, text)

pub returns-in_err-send_behind-clause-front : goal.returns-in_err-send_behind-clause-front
returns-in_err-send_behind-clause-front g c =
    let at = c.loop-item.invariant in
    let item = c.item-item.result in
    let next = more_next c.in-Some.others.now c.loop-item.item-index item c.loop-item-test.true in
    let same = rw (sym c.item-item.is) at next in
    let sent = rw c.as_slice-in-loop-item.ensures at c.in_err-send_behind.ensures.front in
    on_err c.from_residual-in_err-send_behind.result
    (front_at _ _ _ at.0 _ _ _ (at.2 ∙ ap (λ l. at.0 ++ l) same) at.1 sent)

pub loop-item-preserved : goal.loop-item-preserved
loop-item-preserved g c =
    let at = c.loop-item.invariant in
    let item = c.item-item.result in
    let next = more_next c.in-Some.others.now c.loop-item.item-index item c.loop-item-test.true in
    let same = rw (sym c.item-item.is) at next in
    let sent = rw c.as_slice-in-loop-item.ensures at c.in_ok-send_behind.ensures.whole in
    (_, Appends-trans _ _ _ at.0 _ at.1 sent, at.2 ∙ ap (λ l. at.0 ++ l) same ∙ sym (append_assoc at.0 _ _))

pub returns-clause-whole : goal.returns-clause-whole
returns-clause-whole g c =
    let at = c.loop-item.invariant in
    let text = at.2 ∙ ap (λ l. at.0 ++ l) (more_none c.in-Some.others.now c.loop-item.item-index c.loop-item-test.false)
    ∙ append-nil at.0 in
    subst (Appends (g.W.Write.contents c.args.writer.now) (g.W.Write.contents c.loop-item.writer)) (sym text) at.1
