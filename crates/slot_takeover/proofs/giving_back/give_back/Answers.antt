use Rattle.std.proofs.Common.{Err, Ok, ap, refl, subst, sym, ℕ, ◌∙◌, ◌≡◌}
use Rattle.nvme_model.specs.declared.array.Range.{Range}
use Rattle.driver_cas.specs.Drivers.{area_of}
use Rattle.driver_cas.specs.SlotStarts.{IsReleaseStart}
use Rattle.slot_alloc.specs.Areas.{block_of}
use Rattle.slot_alloc.proofs.GivingBack.{goes_on_start, releasing_begun}
use Rattle.slot_alloc.proofs.Starting.{goes_on_same, settings_of}
use Rattle.slot_takeover.proofs.giving_back.give_back.Goals as goal

pub returns-in-Ok-clause-of : goal.returns-in-Ok-clause-of
returns-in-Ok-clause-of g c =
    let d = c.args.driver.now in
    let e = c.start_release.new.self in
    let x = c.in-Ok in
    let at : c.block.result ≡ block_of (area_of d) c.args.held.slot = c.block.ensures
    ∙ ap (λ (r : Range). block_of r c.args.held.slot) (sym c.requires.area) in
    releasing_begun g.P.Port d e c.args.held.slot c.args.held.serial x.call x.ensures.same
    (subst (λ (l : ℕ). IsReleaseStart d e l c.args.held.serial (Ok x.call)) at x.ensures.is) c.requires.held.inside
    c.requires.held.name

pub returns-in-Err-clause-is : goal.returns-in-Err-clause-is
returns-in-Err-clause-is g c =
    let d = c.args.driver.now in
    let e = c.start_release.new.self in
    let at : c.block.result ≡ block_of (area_of d) c.args.held.slot = c.block.ensures
    ∙ ap (λ (r : Range). block_of r c.args.held.slot) (sym c.requires.area) in
    (refl, subst (λ (l : ℕ). IsReleaseStart d e l c.args.held.serial (Err c.in-Err.fault)) at c.in-Err.ensures.is)

pub returns-in-Ok-clause-goes_on : goal.returns-in-Ok-clause-goes_on
returns-in-Ok-clause-goes_on g c =
    let d = c.args.driver.now in
    let e = c.start_release.new.self in
    let x = c.in-Ok in
    let at : c.block.result ≡ block_of (area_of d) c.args.held.slot = c.block.ensures
    ∙ ap (λ (r : Range). block_of r c.args.held.slot) (sym c.requires.area) in
    goes_on_start g.P.Port d e (block_of (area_of d) c.args.held.slot) c.args.held.serial (Ok x.call) x.ensures.same
    x.ensures.later (subst (λ (l : ℕ). IsReleaseStart d e l c.args.held.serial (Ok x.call)) at x.ensures.is)
    c.requires.held.name

pub returns-in-Err-clause-goes_on : goal.returns-in-Err-clause-goes_on
returns-in-Err-clause-goes_on g c =
    let d = c.args.driver.now in
    let e = c.start_release.new.self in
    let x = c.in-Err.ensures in
    goes_on_same g.P.Port d e (settings_of g.P.Port d e x.same) x.same.serial x.later x.is.0.0
