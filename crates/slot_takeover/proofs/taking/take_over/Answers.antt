use Rattle.std.proofs.Common.{Err, Ok, ap, arith, refl, subst, sym, ℕ, ◌<◌, ◌∙◌, ◌≡◌}
use Rattle.std.proofs.lemmas.Result.{err_from_is_err_and}
use Rattle.nvme_model.specs.declared.array.Range.{Range}
use Rattle.driver_cas.specs.Drivers.{area_of}
use Rattle.driver_cas.specs.TakeoverStarts.{IsTakeoverStart}
use Rattle.slot_alloc.specs.Areas.{block_of}
use Rattle.slot_alloc.proofs.Starting.{goes_on_same}
use Rattle.slot_takeover.proofs.Going.{takeover_on}
use Rattle.slot_takeover.proofs.Starting.{taking_now}
use Rattle.slot_takeover.proofs.taking.take_over.Goals as goal

pub returns-in_err-call-clause-is : goal.returns-in_err-call-clause-is
returns-in_err-call-clause-is g c =
    let d = c.args.driver.now in
    let e = c.start_takeover.new.self in
    let p = err_from_is_err_and c.from_residual.result c.from_residual.ensures.1 in
    let at : c.block.result ≡ block_of (area_of d) c.args.i = c.block.ensures
    ∙ ap (λ (r : Range). block_of r c.args.i) (sym c.requires.area) in
    rw (p.1, p.2)
    (subst (λ (s : ℕ). IsTakeoverStart d e (block_of (area_of d) c.args.i) c.args.dead.host s
    (Err c.in_err-call.field-0.0)) c.serial_of_name-dead_serial.ensures.value
    (subst (λ (h : ℕ). IsTakeoverStart d e (block_of (area_of d) c.args.i) h c.serial_of_name-dead_serial.result
    (Err c.in_err-call.field-0.0)) c.host_of_name-dead_host.ensures.value
    (subst (λ (l : ℕ). IsTakeoverStart d e l c.host_of_name-dead_host.result c.serial_of_name-dead_serial.result
    (Err c.in_err-call.field-0.0)) at
    c.in_err-call.ensures.is)))

pub returns-clause-is : goal.returns-clause-is
returns-clause-is g c =
    let d = c.args.driver.now in
    let e = c.start_takeover.new.self in
    let x = c.in_ok-call in
    let at : c.block.result ≡ block_of (area_of d) c.args.i = c.block.ensures
    ∙ ap (λ (r : Range). block_of r c.args.i) (sym c.requires.area) in (
      refl,
      refl,
      subst (λ (s : ℕ). IsTakeoverStart d e (block_of (area_of d) c.args.i) c.args.dead.host s
          (Ok (x.call, x.serial))) c.serial_of_name-dead_serial.ensures.value
          (subst (λ (h : ℕ). IsTakeoverStart d e (block_of (area_of d) c.args.i) h c.serial_of_name-dead_serial.result
          (Ok (x.call, x.serial))) c.host_of_name-dead_host.ensures.value
          (subst (λ (l : ℕ). IsTakeoverStart d e l c.host_of_name-dead_host.result c.serial_of_name-dead_serial.result
          (Ok (x.call, x.serial))) at
          x.ensures.is)),
    )

pub returns-clause-of : goal.returns-clause-of
returns-clause-of g c =
    let d = c.args.driver.now in
    let e = c.start_takeover.new.self in
    let x = c.in_ok-call in
    let at : c.block.result ≡ block_of (area_of d) c.args.i = c.block.ensures
    ∙ ap (λ (r : Range). block_of r c.args.i) (sym c.requires.area) in
    let host = c.host_of_name-dead_host.ensures.value in
    let serial = c.serial_of_name-dead_serial.ensures.value in
    taking_now g.P.Port d e c.args.i c.args.dead x.call x.serial
    (record {
      settings = x.ensures.settings;
      start = subst (λ (s : ℕ). IsTakeoverStart d e (block_of (area_of d) c.args.i) c.args.dead.host s
          (Ok (x.call, x.serial))) serial
          (subst (λ (h : ℕ). IsTakeoverStart d e (block_of (area_of d) c.args.i) h c.serial_of_name-dead_serial.result
          (Ok (x.call, x.serial))) host
          (subst (λ (l : ℕ). IsTakeoverStart d e l c.host_of_name-dead_host.result c.serial_of_name-dead_serial.result
          (Ok (x.call, x.serial))) at
          x.ensures.is));
      inside = subst (λ (r : Range). c.args.i < r.blocks) (sym c.requires.area) c.requires.slot;
      other = c.requires.other;
      dead_name = record {
        host = c.requires.named.0;
        host_fits = subst (λ (h : ℕ). h < 4294967296) host c.fits.ensures.law.0;
        serial = c.requires.named.1;
        serial_fits = subst (λ (s : ℕ). s < 18446744073709551616) serial c.fits.ensures.law.1;
      };
      named = x.ensures.law.0;
      narrow = x.ensures.law.1;
      fits = x.ensures.law.2;
    })

pub returns-in_err-call-clause-goes_on : goal.returns-in_err-call-clause-goes_on
returns-in_err-call-clause-goes_on g c =
    let x = c.in_err-call.ensures in
    goes_on_same g.P.Port c.args.driver.now c.start_takeover.new.self x.settings x.is.0 x.later x.is.1.0

pub returns-clause-goes_on : goal.returns-clause-goes_on
returns-clause-goes_on g c =
    let d = c.args.driver.now in
    let e = c.start_takeover.new.self in
    let x = c.in_ok-call in
    let host = c.host_of_name-dead_host.ensures.value in
    let serial = c.serial_of_name-dead_serial.ensures.value in
    takeover_on g.P.Port d e c.block.result c.args.dead x.call x.serial x.ensures.settings x.ensures.later
    (subst (λ (s : ℕ). IsTakeoverStart d e c.block.result c.args.dead.host s (Ok (x.call, x.serial))) serial
    (subst (λ (h : ℕ). IsTakeoverStart d e c.block.result h c.serial_of_name-dead_serial.result
    (Ok (x.call, x.serial))) host x.ensures.is))
    (record {
      host = c.requires.named.0;
      host_fits = subst (λ (h : ℕ). h < 4294967296) host c.fits.ensures.law.0;
      serial = c.requires.named.1;
      serial_fits = subst (λ (s : ℕ). s < 18446744073709551616) serial c.fits.ensures.law.1;
    })
    (record {
      host = x.ensures.law.0;
      host_fits = x.ensures.law.1;
      serial = omega (arith, x.ensures.is.0);
      serial_fits = x.ensures.law.2;
    })
