use Rattle.std.proofs.Common.{sym, ◌∙◌}
use Rattle.job_table.proofs.Rising.{IsRising-beside, beside_absent, key_absent, key_at, remove_at}
use Rattle.job_table.proofs.index.JobIndex.remove.Goals as goal

-- what is left beside a ticket still rises
pub invariant_of-self : goal.invariant_of-self
invariant_of-self g c =
    let there = rw (← c.self.view_is) at c.in-Some.ensures.found in
    rw (c.remove.ensures.removed, remove_at _ _ _ c.self.invariant there) (IsRising-beside _ _ c.self.invariant)

pub returns-in-Some-clause-key : goal.returns-in-Some-clause-key
returns-in-Some-clause-key g c =
    let key = rw c.self.view_is at c.remove.ensures.key in
    sym key ∙ key_at _ _ _ c.place.ensures.law c.in-Some.ensures.found

pub returns-in-Some-clause-rest : goal.returns-in-Some-clause-rest
returns-in-Some-clause-rest g c =
    let there = rw (← c.self.view_is) at c.in-Some.ensures.found in
    rw (← c.self.view_is, c.remove.ensures.removed, remove_at _ _ _ c.self.invariant there)

pub returns-in-None-clause-key : goal.returns-in-None-clause-key
returns-in-None-clause-key g c = sym (key_absent c.args.self.now.keyed c.args.t (sym c.in-None.ensures.any))

pub returns-in-None-clause-rest : goal.returns-in-None-clause-rest
returns-in-None-clause-rest g c = rw (beside_absent c.args.self.now.keyed c.args.t (sym c.in-None.ensures.any))
