use Rattle.std.proofs.Common.{ap, arith, length, length-append, ◌∷◌, ◌≡◌}
use Rattle.std.proofs.lemmas.Grind.{common_steps}
use Rattle.std.specs.Vec.Iter.{into_iter_items}
use Rattle.rings.proofs.Counts.{submitted_more}
use Rattle.rings.specs.Submissions.{SubmissionRing}
use Rattle.rings.proofs.submission_ring.SqRing.publish.Goals as goal

pub push-requires : goal.push-requires
push-requires c =
    let at = c.loop-submission in
    let next = c.in-Some-submission in
    let steps : into_iter_items at.submission-iterator ≡ next.submission ∷ into_iter_items c.next.new.self =
    next.ensures.steps.0 in
    record {
      room = omega (
        arith,
        at.invariant.2,
        ap (λ (r : SubmissionRing). r.size) at.invariant.0,
        ap (λ (r : SubmissionRing). length r.waiting) at.invariant.0,
        length-append at.self-inside.slots.items (into_iter_items at.submission-iterator),
        length-append c.args.self.now.waiting c.args.batch,
        ap length steps,
      );
    }

pub returns-clause-ok : goal.returns-clause-ok
returns-clause-ok c = grind (arith, common_steps)

pub returns-clause-counts : goal.returns-clause-counts
returns-clause-counts c = λ s h. submitted_more s c.args.self.now _ c.args.batch (returns-clause-ok c) h
