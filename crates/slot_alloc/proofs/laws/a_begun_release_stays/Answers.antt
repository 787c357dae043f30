use Rattle.slot_alloc.proofs.Staying.{releasing_on}
use Rattle.slot_alloc.proofs.laws.a_begun_release_stays.Goals as goal

pub returns : goal.returns
returns g c = record {
  releasing = λ released x kept of.
      releasing_on g.P.Port c.args.old.now.value c.args.new.now c.args.releasing.now released x kept of;
}
