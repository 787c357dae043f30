use Rattle.slot_alloc.proofs.Asking.{claim_kept}
use Rattle.slot_alloc.proofs.laws.a_claim_by_itself.Goals as goal

pub returns : goal.returns
returns g c = λ settings later lba r start named narrow fits inside.
    claim_kept g.P.Port c.args.old.now.value c.args.new.now lba r settings later start named narrow fits inside
