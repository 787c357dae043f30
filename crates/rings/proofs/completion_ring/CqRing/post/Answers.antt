use Rattle.std.proofs.Common.{arith, rules}
use Rattle.rings.proofs.Counts.{completed_more}
use Rattle.rings.proofs.completion_ring.CqRing.post.Goals as goal

pub returns-clause-ok : goal.returns-clause-ok
returns-clause-ok c = search rules

pub returns-clause-counts : goal.returns-clause-counts
returns-clause-counts c = λ s h. completed_more s c.args.self.now _ _ (returns-clause-ok c) (omega arith) h
