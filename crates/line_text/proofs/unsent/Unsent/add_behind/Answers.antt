use Rattle.std.proofs.Common.{◌≡◌, List, ℕ, [], ◌++◌, ◌∷◌, append-nil, append_assoc, ap, get_or, map, refl, sym, ◌∙◌}
use Rattle.line_text.specs.Unsent.{unsent}
use Rattle.line_text.specs.Words.{behind, word_text}
use Rattle.line_text.specs.declared.words.Word.{Word}
use Rattle.line_text.specs.declared.words.Word.TheVariants.{Text}
use Rattle.line_text.proofs.WordLaws.{behind_end, one_more}
use Rattle.line_text.proofs.unsent.Unsent.add_behind.Goals as goal

pub loop-word-init : goal.loop-word-init
loop-word-init c = ([], sym (append-nil _), refl)

pub loop-word-preserved : goal.loop-word-preserved
loop-word-preserved c =
    let at = c.loop-word.invariant in
    let none : Word = Text (record { ref_ptr = (0, 0); now = [] }) in
    let next : List ℕ = 32 ∷ word_text (get_or c.args.words.now c.loop-word.word-index none) in
    let e = one_more word_text 32 c.args.words.now c.loop-word.word-index (behind 32 (map word_text c.args.words.now))
    at.0 none c.loop-word-test.true at.2 in (
      _,
      c.add_spaced.ensures c.if-not-add_spaced.false ∙ ap (λ l. l ++ next) at.1 ∙ append_assoc _ at.0 next,
      e ∙ sym (append_assoc at.0 _ _),
    )

pub returns : goal.returns
returns c = λ added.
    let at = c.loop-word.invariant in
    let text : behind 32 (map word_text c.args.words.now) ≡ at.0 = at.2
    ∙ ap (λ l. at.0 ++ l) (behind_end word_text 32 c.args.words.now c.loop-word.word-index c.loop-word-test.false)
    ∙ append-nil at.0 in
    at.1 ∙ ap (λ l. unsent c.args.self.now ++ l) (sym text)
