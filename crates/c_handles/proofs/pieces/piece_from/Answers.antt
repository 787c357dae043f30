use Rattle.std.proofs.Common.{◌+◌, ◌≡◌, ◌∙◌, ap, arith, drop, reverse, ℕ}
use Rattle.c_handles.proofs.PieceKept.{first_line, kept_piece, whole_piece}
use Rattle.c_handles.proofs.pieces.piece_from.Goals as goal

pub returns-then-forgotten-eq0 : goal.returns-then-forgotten-eq0
returns-then-forgotten-eq0 c =
    let past = c.history-history.ensures in
    let kept = c.as_slice.ensures ∙ (λ i. drop (past.forgotten i) (reverse (past.past i))) in
    let none : c.args.core.now.forgotten ≡ 0 = omega (arith, past.forgotten, c.forgotten-forgotten.ensures.value) in
    whole_piece c.args.core.now _ _ c.args.from c.args.room _ c.config-config.ensures.value kept none
    c.in_ok-piece.ensures

pub returns-then-from-eq0 : goal.returns-then-from-eq0
returns-then-from-eq0 c =
    let past = c.history-history.ensures in
    first_line c.args.core.now _ c.args.from c.args.room _ c.config-config.ensures.value (omega arith)
    (omega (arith, past.forgotten, c.forgotten-forgotten.ensures.value)) c.in_ok-first.ensures

pub returns : goal.returns
returns c =
    let past = c.history-history.ensures in
    let kept = c.as_slice-2.ensures ∙ (λ i. drop (past.forgotten i) (reverse (past.past i))) in
    let lost : c.forgotten-forgotten.result ≡ c.args.core.now.forgotten =
    omega (arith, past.forgotten, c.forgotten-forgotten.ensures.value) in
    kept_piece c.args.core.now _ _ c.args.from _ c.args.room _ _ c.config-config.ensures.value kept
    (omega (arith, past.forgotten, c.forgotten-forgotten.ensures.value))
    (omega (arith, past.forgotten, c.forgotten-forgotten.ensures.value)) c.in_ok-kept.ensures
    (c.in_ok-moved.ensures ∙ ap (λ (n : ℕ). record c.in_ok-kept.kept { next = c.in_ok-kept.kept.next + n }) lost)
