use Rattle.std.proofs.Common.{rules}
use Rattle.rings.proofs.Counts.{submitted_fetched}
use Rattle.rings.proofs.submission_ring.SqRing.take.Goals as goal

pub returns-clause-rest : goal.returns-clause-rest
returns-clause-rest c = search rules

pub returns-clause-counts : goal.returns-clause-counts
returns-clause-counts c = λ s h. submitted_fetched s c.args.self.now _ 1 (returns-clause-rest c) c.requires.some h
