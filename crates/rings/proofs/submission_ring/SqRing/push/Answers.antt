use Rattle.std.proofs.Common.{[], arith, rules, ◌∷◌}
use Rattle.std.proofs.lemmas.Grind.{common_steps}
use Rattle.rings.proofs.Counts.{submitted_more}
use Rattle.rings.proofs.submission_ring.SqRing.push.Goals as goal

pub returns-clause-more : goal.returns-clause-more
returns-clause-more c = grind (arith, common_steps)

pub returns-clause-counts : goal.returns-clause-counts
returns-clause-counts c = λ s h. submitted_more s c.args.self.now _ (c.args.one ∷ []) (search rules) h
