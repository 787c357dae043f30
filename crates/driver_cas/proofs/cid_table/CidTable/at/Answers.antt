use Rattle.driver_cas.proofs.CidsLemmas.{held_read}
use Rattle.driver_cas.proofs.cid_table.CidTable.at.Goals as goal

pub returns : goal.returns
returns c =
    let at = rw (← c.self.view_is) at c.requires in
    rw (← c.self.view_is) (record { value = held_read _ _ _ _ c.index.result.now c.self.invariant at c.index.ensures })
