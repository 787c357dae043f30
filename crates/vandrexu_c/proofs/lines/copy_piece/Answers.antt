use Rattle.std.proofs.Common.{ap, arith, drop, length, refl, rules, take, List, ℕ, ◌++◌, ◌<◌, ◌≡◌}
use Rattle.vandrexu_c.proofs.PieceGiven.{copies, lacks}
use Rattle.vandrexu_c.proofs.lines.copy_piece.Goals as goal
use Rattle.vandrexu_c.proofs.lines.copy_piece.Goals.{else-fit-eq0-via-else-fit-eq0}
use Rattle.vandrexu_c.proofs.lines.copy_piece.Goals.{else-fit-eq0-via-then-fit-eq0+else-text-gt0}

pub returns-then-text-gt0-clause-too_small : goal.returns-then-text-gt0-clause-too_small
returns-then-text-gt0-clause-too_small c lines from is told =
    let none : c.args.piece.now.fit ≡ 0 = search rules in
    let same : length c.as_slice-text.result.now ≡ length c.args.piece.now.text.items = search rules in
    let some : 0 < length c.args.piece.now.text.items = search rules in
    lacks lines from (length c.args.out.now) c.args.piece.now (length c.as_slice-text.result.now) is none some same

pub returns-clause-done : goal.returns-clause-done
returns-clause-done c lines from is told =
    let text : c.copy_from_slice.new.self ≡ take c.args.piece.now.fit c.args.piece.now.text.items = search rules in
    let same : length c.as_slice-text.result.now ≡ length c.args.piece.now.text.items = search rules in
    let bare : c.args.piece.now.fit ≡ 0 → length c.args.piece.now.text.items ≡ 0 =
    λ (none : c.args.piece.now.fit ≡ 0). elim (c.else-fit-eq0.branch) [
      | else-fit-eq0-via-then-fit-eq0+else-text-gt0 w ↦ omega (arith, w.if-text-gt0, same)
      | else-fit-eq0-via-else-fit-eq0 w ↦ absurd (omega (arith, w.if-fit-eq0, none))
    ] in
    copies lines from c.args.piece.now c.args.out.now _ c.args.piece.now.fit c.args.piece.now.next is
    (ap (λ (t : List ℕ). t ++ drop c.args.piece.now.fit c.args.out.now) text) refl refl bare
