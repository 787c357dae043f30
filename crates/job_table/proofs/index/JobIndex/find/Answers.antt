use Rattle.std.proofs.Common.{sym, ◌∙◌}
use Rattle.job_table.proofs.Rising.{key_absent, key_at}
use Rattle.job_table.proofs.index.JobIndex.find.Goals as goal

pub returns-in-Some-clause-key : goal.returns-in-Some-clause-key
returns-in-Some-clause-key g c =
    let key = rw c.self.view_is at c.key.ensures.key in
    sym key ∙ key_at _ _ _ c.place.ensures.law c.in-Some.ensures.found

pub returns-in-None-clause-key : goal.returns-in-None-clause-key
returns-in-None-clause-key g c = sym (key_absent c.args.self.now.keyed c.args.t (sym c.in-None.ensures.any))
