use Rattle.std.proofs.Common.{◌≡◌, ◌≤◌, [], ◌∷◌, ◌++◌, subst, sym, arith}
use Rattle.std.specs.Vec.{vec_capacity}
use Rattle.line_text.specs.Lines.{IsPiece, NoFeed, GivesBytes, GivesFront}
use Rattle.line_text.proofs.Known.{on_err}
use Rattle.line_text.proofs.Moves.{no_feed_append, gives_feed, gives_all, gives_read, gives_kept}
use Rattle.line_text.proofs.lines.Lines.next_line.Goals as goal
use Rattle.line_text.proofs.lines.Lines.next_line.Goals.{in-Ok+in_ok-take_piece-in-Ok+else-branch-2, in-Err+else-ne}

pub returns-in_err-take_piece-in-Ok-clause-err : goal.returns-in_err-take_piece-in-Ok-clause-err
returns-in_err-take_piece-in-Ok-clause-err g c =
    let a = g.R.Read.remaining c.args.reader.now in
    let d = g.R.Read.remaining c.refill.new.reader in
    let before = c.args.self.now in
    let at = c.loop.invariant in
    let kept = c.in_err-take_piece-in-Ok.ensures.kept in
    let read : GivesBytes a d before c.refill.new.self c.loop.line.items =
    gives_read a _ d before c.loop.line.items c.refill.new.self c.loop.self at.given.0 at.empty
    c.in-Ok.ensures.ok in
    on_err c.from_residual-in_err-take_piece-in-Ok.result
    (subst (λ l. GivesFront a d before c.take_piece-in-Ok.new.self l) (sym kept.1)
    (subst (λ l. GivesBytes a d before l c.loop.line.items) (sym kept.0) read, at.given.1))

pub returns-then-branch-2-clause-line : goal.returns-then-branch-2-clause-line
returns-then-branch-2-clause-line g c =
    let a = g.R.Read.remaining c.args.reader.now in
    let d = g.R.Read.remaining c.refill.new.reader in
    let before = c.args.self.now in
    let after = c.take_piece-in-Ok.new.self in
    let at = c.loop.invariant in
    let p = c.in_ok-take_piece-in-Ok.ensures.piece in
    let is = subst (λ f. IsPiece f c.refill.new.self after p.0) c.if-branch-2.true p.2 in
    let read : GivesBytes a d before c.refill.new.self c.loop.line.items =
    gives_read a _ d before c.loop.line.items c.refill.new.self c.loop.self at.given.0 at.empty
    c.in-Ok.ensures.ok in
    subst (λ l. GivesBytes a d before after (l ++ 10 ∷ []) × NoFeed l) (sym p.1) (
      gives_feed a d before c.refill.new.self after c.loop.line.items p.0 read is.0,
      no_feed_append c.loop.line.items p.0 at.given.1 is.1,
    )

pub loop-preserved : goal.loop-preserved
loop-preserved g c =
    let a = g.R.Read.remaining c.args.reader.now in
    let d = g.R.Read.remaining c.refill.new.reader in
    let before = c.args.self.now in
    let at = c.loop.invariant in
    let line = c.loop.line.items in
    elim c.match-refill.branch as (λ _. record {
      given : GivesFront a d before c.match-refill.self c.match-refill.line.items;
      empty : c.match-refill.self ≡ [];
      room : vec_capacity c.args.line.now ≤ vec_capacity c.match-refill.line;
    }) [
      | in-Ok+in_ok-take_piece-in-Ok+else-branch-2 w ↦
          let held = w.take_piece-in-Ok.new.self in
          let p = w.in_ok-take_piece-in-Ok.ensures.piece in
          let is = subst (λ f. IsPiece f c.refill.new.self held p.0) w.if-branch-2.false p.2 in
          let read : GivesBytes a d before c.refill.new.self line =
          gives_read a _ d before line c.refill.new.self c.loop.self at.given.0 at.empty w.in-Ok.ensures.ok in
          let given : GivesFront a d before held w.take_piece-in-Ok.new.line.items =
          subst (GivesFront a d before held) (sym p.1) (
            gives_all a d before c.refill.new.self held line p.0 read is.0 is.1,
            no_feed_append line p.0 at.given.1 is.2,
          ) in
          let capacity = w.in_ok-take_piece-in-Ok.ensures.capacity in
          rw (w.self-is, w.line-is) (record { given = given; empty = is.1; room = omega (arith, at.room, capacity) })
      | in-Err+else-ne w ↦
          let err = w.in-Err.ensures.err in
          let given = gives_kept a _ d before line c.refill.new.self c.loop.self at.given.0 at.empty err.0 err.1 in
          rw (w.self-is, w.line-is) (record { given = (given, at.given.1); empty = err.0; room = at.room })
    ]
