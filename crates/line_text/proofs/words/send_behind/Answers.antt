use Rattle.std.proofs.Common.{◌≡◌, [], ◌++◌, map, sym, ap, subst, refl, ◌∙◌, append_assoc, append-nil}
use Rattle.std.specs.Io.KnownBytes.{Appends}
use Rattle.std.proofs.KnownBytes.{Appends-trans, Appends-nil}
use Rattle.line_text.proofs.Known.{front_at, on_err}
use Rattle.line_text.specs.declared.words.Word.TheVariants.{Text}
use Rattle.line_text.specs.Words.{behind, word_text}
use Rattle.line_text.proofs.WordLaws.{behind_end, one_more}
use Rattle.line_text.proofs.words.send_behind.Goals as goal

pub loop-word-init : goal.loop-word-init
loop-word-init g c = ([], Appends-nil _, refl)

pub returns-in_err-send_spaced-clause-front : goal.returns-in_err-send_spaced-clause-front
returns-in_err-send_spaced-clause-front g c =
    let at = c.loop-word.invariant in
    let e = one_more word_text 32 c.args.words.now c.loop-word.word-index (behind 32 (map word_text c.args.words.now))
    at.0 (Text (record { ref_ptr = (0, 0); now = [] })) c.loop-word-test.true at.2 in
    on_err c.from_residual.result (front_at _ _ _ at.0 _ _ _ e at.1 c.in_err-send_spaced.ensures.front)

pub loop-word-preserved : goal.loop-word-preserved
loop-word-preserved g c =
    let at = c.loop-word.invariant in
    let e = one_more word_text 32 c.args.words.now c.loop-word.word-index (behind 32 (map word_text c.args.words.now))
    at.0 (Text (record { ref_ptr = (0, 0); now = [] })) c.loop-word-test.true at.2 in
    (_, Appends-trans _ _ _ at.0 _ at.1 c.in_ok-send_spaced.ensures.whole, e ∙ sym (append_assoc at.0 _ _))

pub returns-clause-whole : goal.returns-clause-whole
returns-clause-whole g c =
    let at = c.loop-word.invariant in
    let text : behind 32 (map word_text c.args.words.now) ≡ at.0 = at.2
    ∙ ap (λ l. at.0 ++ l) (behind_end word_text 32 c.args.words.now c.loop-word.word-index c.loop-word-test.false)
    ∙ append-nil at.0 in
    subst (Appends (g.W.Write.contents c.args.writer.now) (g.W.Write.contents c.loop-word.writer)) (sym text) at.1
