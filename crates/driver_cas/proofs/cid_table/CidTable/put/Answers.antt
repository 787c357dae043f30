use Rattle.std.proofs.Common.{◌∙◌}
use Rattle.driver_cas.proofs.CidsLemmas.{ChangesOnly-set, held_read}
use Rattle.driver_cas.proofs.cid_table.CidTable.put.Goals as goal

pub returns-clause-was : goal.returns-clause-was
returns-clause-was c =
    let at = rw (← c.self.view_is) at c.requires in
    rw (← c.self.view_is) (c.replace.ensures.value
    ∙ held_read _ _ _ _ c.index_mut.result.now c.self.invariant at c.index_mut.ensures.value)

pub returns-clause-held : goal.returns-clause-held
returns-clause-held c =
    let at = rw (← c.self.view_is) at c.requires in
    rw (← c.self.view_is, c.replace.ensures.after) (ChangesOnly-set _ _ _ c.args.place c.args.now c.self.invariant at)
