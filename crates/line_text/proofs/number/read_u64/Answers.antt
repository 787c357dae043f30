use Rattle.std.proofs.Common.{◌≡◌, arith, get_or, length, sym, ◌∙◌}
use Rattle.line_text.proofs.NumberLaws.{no_word, number_added, number_spelled, zero_first}
use Rattle.line_text.proofs.number.read_u64.Goals as goal
use Rattle.line_text.proofs.number.read_u64.Goals.{else-first-eq48-via-else-first-eq48}
use Rattle.line_text.proofs.number.read_u64.Goals.{else-first-eq48-via-then-first-eq48+else-word-gt1}

pub returns-in_err-first : goal.returns-in_err-first
returns-in_err-first c = number_spelled 64 _ _ (omega arith)
    (c.from_residual.ensures ∙ sym (no_word c.args.word.now c.in_err-first.ensures.item.3))

pub returns-then-word-gt1 : goal.returns-then-word-gt1
returns-then-word-gt1 c = number_spelled 64 _ _ (omega arith)
    (sym (zero_first c.args.word.now (sym (c.in_ok-first.ensures.item.3.1 0) ∙ c.if-first-eq48.true)
    (omega (arith, c.if-word-gt1.true))))

pub returns : goal.returns
returns c =
    let there = c.in_ok-first.ensures.item.3 in
    let alone : get_or c.args.word.now 0 0 ≡ 48 → length c.args.word.now ≡ 1 = λ zero.
    elim c.else-first-eq48.branch [
      | else-first-eq48-via-then-first-eq48+else-word-gt1 w ↦ omega (arith, there.0, w.if-word-gt1.false)
      | else-first-eq48-via-else-first-eq48 w ↦ absurd (w.if-first-eq48.false (there.1 0 ∙ zero))
    ] in
    number_spelled 64 _ _ (omega arith)
    (number_added c.args.word.now c.added_up.result there.0 alone c.added_up.ensures)
