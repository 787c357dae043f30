use Rattle.std.proofs.Common.{Err, Ok, suc, ◌+◌, add-one, refl}
use Rattle.std.proofs.lemmas.Result.{err_from_is_err_and}
use Rattle.driver_cas.proofs.Drawing.{as_claim, claimed, next_block, not_claimed}
use Rattle.driver_cas.proofs.driver.Driver.start_claim.Goals as goal

pub returns-in_err-call-clause-is : goal.returns-in_err-call-clause-is
returns-in_err-call-clause-is g c =
    let d = c.args.self.now in
    let e = c.start_pair.new.self in
    let p = err_from_is_err_and c.from_residual.result c.from_residual.ensures.1 in
    rw (p.1, p.2)
    (not_claimed g.P.Port d e c.args.lba c.in_err-call.field-0.0 c.start_pair.ensures.same c.if-self.false
    (as_claim g.P.Port d e c.swap.result c.args.lba (suc d.serial) c.slot_block-name.result
    (Err c.in_err-call.field-0.0) c.swap.ensures
    (next_block d.host d.serial c.slot_block-name.result c.slot_block-name.ensures.value) c.in_err-call.ensures.is))

pub returns-clause-is : goal.returns-clause-is
returns-clause-is g c =
    let d = c.args.self.now in
    let e = c.start_pair.new.self in
    let k = c.in_ok-call.call in (
      add-one d.serial,
      refl,
      claimed g.P.Port d e _ k c.args.lba (d.serial + 1) refl refl refl (add-one d.serial)
          (as_claim g.P.Port d e c.swap.result c.args.lba (suc d.serial) c.slot_block-name.result (Ok k) c.swap.ensures
          (next_block d.host d.serial c.slot_block-name.result c.slot_block-name.ensures.value)
          c.in_ok-call.ensures.is),
    )
