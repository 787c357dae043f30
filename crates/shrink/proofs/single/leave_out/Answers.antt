use Rattle.std.proofs.Common.{◌∙◌, ap, refl}
use Rattle.std.specs.Prelude.{remove}
use Rattle.std.proofs.lemmas.Result.{err_from_is_err_and}
use Rattle.shrink.proofs.Asking.{leaves, needs, rest_part, scanned, unanswered}
use Rattle.shrink.proofs.single.leave_out.Goals as goal

pub returns-then-fails-clause-leaves : goal.returns-then-fails-clause-leaves
returns-then-fails-clause-leaves g c first whole n from le h =
    let same = c.in_ok-rest.ensures.rest ∙ ap (λ l. remove l c.args.k) c.as_slice.ensures.value in
    let now = rw (c.as_slice-2.ensures.value, c.if-fails.true) at c.in_ok-fails.ensures.answered in
    rw c.if-fails.true (
      same,
      leaves g.Q.Question.asks first c.args.question.now c.still_fails.new.self whole
          c.args.lines.now.items c.in_ok-rest.rest.items n c.args.k from h same now,
    )

pub returns-else-fails-clause-leaves : goal.returns-else-fails-clause-leaves
returns-else-fails-clause-leaves g c first whole n from le h =
    let same = c.in_ok-rest.ensures.rest ∙ ap (λ l. remove l c.args.k) c.as_slice.ensures.value in
    let now = rw (c.as_slice-2.ensures.value, c.if-fails.false) at c.in_ok-fails.ensures.answered in
    rw c.if-fails.false (
      refl,
      needs g.Q.Question.asks first c.args.question.now c.still_fails.new.self whole
          c.args.lines.now.items c.in_ok-rest.rest.items n c.args.k from h same now,
    )

pub returns-in_err-fails-clause-leaves : goal.returns-in_err-fails-clause-leaves
returns-in_err-fails-clause-leaves g c first whole n from le h =
    let p = err_from_is_err_and c.from_residual-in_err-fails.result c.from_residual-in_err-fails.ensures.1 in
    let same = c.in_ok-rest.ensures.rest ∙ ap (λ l. remove l c.args.k) c.as_slice.ensures.value in
    let now = rw c.as_slice-2.ensures.value at c.in_err-fails.ensures.stopped in
    rw (p.1, p.2) (unanswered g.Q.Question.asks g.Q.Question.stops first c.args.question.now c.still_fails.new.self
    whole c.args.lines.now.items c.in_ok-rest.rest.items n _
    (scanned g.Q.Question.asks first c.args.question.now whole c.args.lines.now.items n from c.args.k h)
    (rest_part c.args.lines.now.items c.in_ok-rest.rest.items c.args.k same) now)
