use Rattle.std.proofs.Common.{Err, Ok, add-one, refl, suc, ◌+◌}
use Rattle.std.proofs.lemmas.Result.{err_from_is_err_and}
use Rattle.driver_cas.proofs.Drawing.{next_block}
use Rattle.driver_cas.proofs.Overtaking.{as_takeover, not_taking, taking}
use Rattle.driver_cas.proofs.driver.Driver.start_takeover.Goals as goal

pub returns-in_err-call-clause-is : goal.returns-in_err-call-clause-is
returns-in_err-call-clause-is g c =
    let d = c.args.self.now in
    let e = c.start_pair.new.self in
    let p = err_from_is_err_and c.from_residual.result c.from_residual.ensures.1 in
    rw (p.1, p.2)
    (not_taking g.P.Port d e c.args.lba c.args.dead_host c.args.dead_serial c.in_err-call.field-0.0
    c.start_pair.ensures.same c.if-self.false
    (as_takeover g.P.Port d e c.swap.result c.args.lba c.args.dead_host c.args.dead_serial (suc d.serial)
    c.slot_block-dead.result c.slot_block-name.result (Err c.in_err-call.field-0.0) c.swap.ensures
    c.slot_block-dead.ensures.value
    (next_block d.host d.serial c.slot_block-name.result c.slot_block-name.ensures.value) c.in_err-call.ensures.is))

pub returns-clause-is : goal.returns-clause-is
returns-clause-is g c =
    let d = c.args.self.now in
    let e = c.start_pair.new.self in
    let k = c.in_ok-call.call in (
      add-one d.serial,
      refl,
      taking g.P.Port d e _ k c.args.lba c.args.dead_host c.args.dead_serial (d.serial + 1) refl refl refl
          (add-one d.serial)
          (as_takeover g.P.Port d e c.swap.result c.args.lba c.args.dead_host c.args.dead_serial (suc d.serial)
          c.slot_block-dead.result c.slot_block-name.result (Ok k) c.swap.ensures c.slot_block-dead.ensures.value
          (next_block d.host d.serial c.slot_block-name.result c.slot_block-name.ensures.value)
          c.in_ok-call.ensures.is),
    )
