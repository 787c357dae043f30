use Rattle.std.proofs.Common.{◌≡◌, ◌≤◌, List, ℕ, length, slice_range, take, sym, subst}
use Rattle.line_text.proofs.Pieces.{found, not_found}
use Rattle.line_text.proofs.lines.Lines.take_piece.Goals as goal

pub returns-in_ok-extend_from_slice-in-Some-clause-piece : goal.returns-in_ok-extend_from_slice-in-Some-clause-piece
returns-in_ok-extend_from_slice-in-Some-clause-piece c =
    let s = c.self.inside.start in
    let e = c.self.inside.end in
    let at = c.in-Some.at in
    let same : c.deref.result.now ≡ c.self.inside.chunk.items = c.deref.ensures.value in
    let here = found c.deref.result.now s e at
    (subst (λ (l : List ℕ). e ≤ length l) (sym same) (rw (← c.self.inside.chunk.ok.0) c.self.invariant.1))
    c.in-Some.ensures.0 c.in-Some.ensures.1 in
    let moved = rw same at here in (
      take at (slice_range c.deref.result.now s e),
      c.in_ok-extend_from_slice-in-Some.ensures.items,
      rw (sym c.self.view_is, same) moved,
    )

pub returns-in_ok-extend_from_slice-in-None-clause-piece : goal.returns-in_ok-extend_from_slice-in-None-clause-piece
returns-in_ok-extend_from_slice-in-None-clause-piece c =
    let s = c.self.inside.start in
    let e = c.self.inside.end in
    let same : c.deref.result.now ≡ c.self.inside.chunk.items = c.deref.ensures.value in
    let here = not_found c.deref.result.now s e c.in-None.ensures in
    let moved = rw same at here in (
      slice_range c.deref.result.now s e,
      c.in_ok-extend_from_slice-in-None.ensures.items,
      rw (sym c.self.view_is, same) moved,
    )
