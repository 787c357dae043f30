use Rattle.std.proofs.Common.{ap, rules, subst, ◌<◌, ◌∙◌}
use Rattle.rings.specs.Submissions.{SubmissionRing, advanced}
use Rattle.rings.proofs.Counts.{advanced-more, advanced-none, submitted_fetched}
use Rattle.rings.proofs.submission_ring.SqRing.advance.Goals as goal

pub loop-init : goal.loop-init
loop-init c =
    c.self.view_is
    ∙ advanced-none c.args.self.now (subst (λ (r : SubmissionRing). r.head < r.size) c.self.view_is c.self.invariant)

pub loop-preserved : goal.loop-preserved
loop-preserved c =
    ap (λ q. record { size = q.size; head = q.head; waiting = q.items }) c.pop-entry.ensures.rest
    ∙ ap (λ r. advanced r 1) c.loop.invariant ∙ advanced-more c.args.self.now c.loop.counter

pub returns-clause-rest : goal.returns-clause-rest
returns-clause-rest c = search rules

pub returns-clause-counts : goal.returns-clause-counts
returns-clause-counts c =
    λ s h. submitted_fetched s c.args.self.now _ c.args.k (returns-clause-rest c) c.requires.some h
