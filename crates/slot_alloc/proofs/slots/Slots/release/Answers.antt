use Rattle.std.proofs.Common.{Err, ap, refl, subst, sym, ℕ, ◌∙◌, ◌≡◌}
use Rattle.nvme_model.specs.declared.array.Range.{Range}
use Rattle.driver_cas.specs.Drivers.{area_of}
use Rattle.driver_cas.specs.SlotStarts.{IsReleaseStart}
use Rattle.slot_alloc.specs.Areas.{area, block_of}
use Rattle.slot_alloc.proofs.Counting.{counts_released, counts_same}
use Rattle.slot_alloc.proofs.GivingBack.{slot_rules_released, goes_on_released, releases_of, releasing_now}
use Rattle.slot_alloc.proofs.slots.Slots.release.Goals as goal

pub returns-in-Ok-clause-slot_rules : goal.returns-in-Ok-clause-slot_rules
returns-in-Ok-clause-slot_rules g c =
    let d = c.args.driver.now in
    let e = c.start_release.new.self in
    let x = c.in-Ok.ensures in
    slot_rules_released g.P.Port d e c.args.claim c.in-Ok.call
    (releases_of g.P.Port d e c.args.claim c.in-Ok.call (area c.args.self.now) c.block.result c.block.ensures
    c.requires.area x.same x.later x.is c.requires.held)

pub returns-in-Ok-clause-goes_on : goal.returns-in-Ok-clause-goes_on
returns-in-Ok-clause-goes_on g c =
    let d = c.args.driver.now in
    let e = c.start_release.new.self in
    let x = c.in-Ok.ensures in
    goes_on_released g.P.Port d e c.args.claim c.in-Ok.call
    (releases_of g.P.Port d e c.args.claim c.in-Ok.call (area c.args.self.now) c.block.result c.block.ensures
    c.requires.area x.same x.later x.is c.requires.held)

pub returns-in-Ok-clause-of : goal.returns-in-Ok-clause-of
returns-in-Ok-clause-of g c =
    let d = c.args.driver.now in
    let e = c.start_release.new.self in
    let x = c.in-Ok.ensures in
    releasing_now g.P.Port d e c.args.claim c.in-Ok.call
    (releases_of g.P.Port d e c.args.claim c.in-Ok.call (area c.args.self.now) c.block.result c.block.ensures
    c.requires.area x.same x.later x.is c.requires.held)

pub returns-in-Err-clause-is : goal.returns-in-Err-clause-is
returns-in-Err-clause-is g c =
    let d = c.args.driver.now in
    let e = c.start_release.new.self in
    let at : c.block.result ≡ block_of (area_of d) c.args.claim.slot = c.block.ensures
    ∙ ap (λ (r : Range). block_of r c.args.claim.slot) (sym c.requires.area) in
    (refl, subst (λ (l : ℕ). IsReleaseStart d e l c.args.claim.serial (Err c.in-Err.fault)) at c.in-Err.ensures.is)

pub returns-in-Ok-clause-claims : goal.returns-in-Ok-clause-claims
returns-in-Ok-clause-claims g c =
    let d = c.args.driver.now in
    let e = c.start_release.new.self in
    let x = c.in-Ok.ensures in
    counts_released g.P.Port d e c.args.claim c.in-Ok.call
    (releases_of g.P.Port d e c.args.claim c.in-Ok.call (area c.args.self.now) c.block.result c.block.ensures
    c.requires.area x.same x.later x.is c.requires.held)

pub returns-in-Err-clause-claims : goal.returns-in-Err-clause-claims
returns-in-Err-clause-claims g c =
    let x = c.in-Err.ensures in
    counts_same g.P.Port c.args.driver.now c.start_release.new.self x.same.slots x.is.0.0
