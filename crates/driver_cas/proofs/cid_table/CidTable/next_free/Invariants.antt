use Rattle.driver_cas.specs.Cids.{NoneFreeBetween}
use Rattle.driver_cas.proofs.cid_table.CidTable.next_free.Given as goal

-- none was free so far
abbrev pub invariant-loop-cid : goal.invariant-loop-cid
invariant-loop-cid l = NoneFreeBetween l.self l.queue l.from l.cid
