use Rattle.std.proofs.Common.{arith}
use Rattle.std.proofs.lemmas.List.{length-replicate}
use Rattle.driver_cas.proofs.CidsLemmas.{held_free}
use Rattle.driver_cas.proofs.Places.{few}
use Rattle.driver_cas.proofs.cid_table.CidTable.new.Goals as goal

pub free_cids-requires : goal.free_cids-requires
free_cids-requires c = omega (arith, few c.args.queues.items c.requires.rising (λ k h. omega arith))

pub invariant_of-result : goal.invariant_of-result
invariant_of-result c = record {
  rising = c.requires.rising;
  few = few c.args.queues.items c.requires.rising (λ k h. omega arith);
  whole = rw (c.in-Ok.ensures.free, length-replicate) (omega arith);
}

pub returns-in-Ok-clause-free : goal.returns-in-Ok-clause-free
returns-in-Ok-clause-free c = rw c.in-Ok.ensures.free (held_free c.args.queues.items _)
