use Rattle.std.proofs.Common.{length, rules, sym, ◌<◌, ◌∙◌}
use Rattle.rings.proofs.Counts.{completed_reaped, slice_get-reaped}
use Rattle.rings.proofs.completion_ring.CqRing.reap.Goals as goal

some : (c : goal.After-pop) → 0 < length c.args.self.now.waiting
some c = search rules

pub returns-clause-ok : goal.returns-clause-ok
returns-clause-ok c = search rules

pub returns-clause-rest : goal.returns-clause-rest
returns-clause-rest c = search rules

pub returns-clause-counts : goal.returns-clause-counts
returns-clause-counts c = λ s h. completed_reaped s c.args.self.now _ (returns-clause-rest c) (some c) h

pub returns-clause-numbered : goal.returns-clause-numbered
returns-clause-numbered c = λ s h. sym (slice_get-reaped s c.args.self.now h) ∙ returns-clause-ok c
