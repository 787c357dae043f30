use Rattle.std.proofs.Common.{◌≡◌, ap, arith, ◌∙◌}
use Rattle.rings.specs.Submissions.{SubmissionRing, advanced}
use Rattle.rings.proofs.Counts.{advanced-more, submitted_fetched}
use Rattle.rings.proofs.submission_ring.SqRing.take_commands.Goals as goal

pub returns-clause-rest : goal.returns-clause-rest
returns-clause-rest c =
    let two : 2 ≡ c.args.count = omega arith in
    c.take-second.ensures.rest ∙ ap (λ (r : SubmissionRing). advanced r 1) c.take-first.ensures.rest
    ∙ advanced-more c.args.self.now 1 ∙ ap (advanced c.args.self.now) two

pub returns-clause-counts : goal.returns-clause-counts
returns-clause-counts c =
    λ s h. submitted_fetched s c.args.self.now _ c.args.count (returns-clause-rest c) c.requires.within h
