use Rattle.std.proofs.Common.{replicate, vec_capacity, ◌≡◌}
use Rattle.driver_cas.specs.declared.held.CidUse.TheVariants.{Free}
use Rattle.driver_cas.proofs.cid_table.free_cids.Given as goal

-- so many free CIDs, and room for the rest
abbrev pub invariant-loop : goal.invariant-loop
invariant-loop l = (l.cids.items ≡ replicate l.counter Free) × (vec_capacity l.cids ≡ l.count)
