use Rattle.std.proofs.Common.{Err, List, ap, refl, subst, sym, ℕ, ◌≡◌, ◌∙◌}
use Rattle.std.proofs.lemmas.Result.{err_from_is_err_and}
use Rattle.nvme_model.specs.declared.array.Range.{Range}
use Rattle.driver_cas.specs.Drivers.{area_of}
use Rattle.driver_cas.specs.SlotStarts.{IsClaimStart}
use Rattle.driver_cas.specs.declared.call.Call.{Call}
use Rattle.driver_cas.specs.declared.driver.Driver.{Driver}
use Rattle.slot_alloc.specs.Areas.{block_of}
use Rattle.slot_alloc.specs.Claims.{AreTaken, claims_in}
use Rattle.slot_alloc.proofs.Asking.{claiming_now, claims_of, none_taken, unreleased_now}
use Rattle.slot_alloc.proofs.Counting.{counts_claimed, counts_same}
use Rattle.slot_alloc.proofs.Starting.{slot_rules_claimed, goes_on_claimed, goes_on_same}
use Rattle.slot_alloc.proofs.Drawn.{drawn_ruled}
use Rattle.slot_alloc.proofs.slots.Slots.begin.Goals as goal

pub returns-in_err-call-clause-goes_on : goal.returns-in_err-call-clause-goes_on
returns-in_err-call-clause-goes_on g c =
    let x = c.in_err-call.ensures.is in
    goes_on_same g.P.Port c.args.driver.now c.start_claim.new.self c.start_claim.ensures.settings x.0
    c.start_claim.ensures.later x.1.0

pub returns-in_err-call-clause-is : goal.returns-in_err-call-clause-is
returns-in_err-call-clause-is g c =
    let d = c.args.driver.now in
    let e = c.start_claim.new.self in
    let p = err_from_is_err_and c.from_residual.result c.from_residual.ensures.1 in
    let at : c.block.result ≡ block_of (area_of d) c.args.slot = c.block.ensures
    ∙ ap (λ (r : Range). block_of r c.args.slot) (sym c.requires.area) in
    rw (p.1, p.2) (subst (λ (l : ℕ). IsClaimStart d e l (Err c.in_err-call.field-0.0)) at c.in_err-call.ensures.is)

pub returns-clause-slot_rules : goal.returns-clause-slot_rules
returns-clause-slot_rules g c =
    let d = c.args.driver.now in
    let e = c.start_claim.new.self in
    let x = c.in_ok-call in
    slot_rules_claimed g.P.Port d e (block_of (area_of d) c.args.slot) x.call x.serial
    (claims_of g.P.Port d e c.args.self.now c.args.slot c.block.result x.call x.serial c.block.ensures
    x.ensures.settings x.ensures.later x.ensures.is x.ensures.law.0 x.ensures.law.1 x.ensures.law.2 c.requires.area
    c.requires.slot)

pub returns-clause-drawn : goal.returns-clause-drawn
returns-clause-drawn g c = λ drawn.
    let d = c.args.driver.now in
    let e = c.start_claim.new.self in
    let x = c.in_ok-call in
    unreleased_now g.P.Port d e c.args.slot x.call x.serial
    (claims_of g.P.Port d e c.args.self.now c.args.slot c.block.result x.call x.serial c.block.ensures
    x.ensures.settings x.ensures.later x.ensures.is x.ensures.law.0 x.ensures.law.1 x.ensures.law.2 c.requires.area
    c.requires.slot) drawn

pub returns-clause-unreleased : goal.returns-clause-unreleased
returns-clause-unreleased g c = λ slot_rules.
    let d = c.args.driver.now in
    let e = c.start_claim.new.self in
    let x = c.in_ok-call in
    unreleased_now g.P.Port d e c.args.slot x.call x.serial
    (claims_of g.P.Port d e c.args.self.now c.args.slot c.block.result x.call x.serial c.block.ensures
    x.ensures.settings x.ensures.later x.ensures.is x.ensures.law.0 x.ensures.law.1 x.ensures.law.2 c.requires.area
    c.requires.slot) (drawn_ruled g.P.Port d slot_rules)

pub returns-clause-goes_on : goal.returns-clause-goes_on
returns-clause-goes_on g c =
    let d = c.args.driver.now in
    let e = c.start_claim.new.self in
    let x = c.in_ok-call in
    goes_on_claimed g.P.Port d e (block_of (area_of d) c.args.slot) x.call x.serial
    (claims_of g.P.Port d e c.args.self.now c.args.slot c.block.result x.call x.serial c.block.ensures
    x.ensures.settings x.ensures.later x.ensures.is x.ensures.law.0 x.ensures.law.1 x.ensures.law.2 c.requires.area
    c.requires.slot)

pub returns-clause-is : goal.returns-clause-is
returns-clause-is g c =
    let d = c.args.driver.now in
    let e = c.start_claim.new.self in
    let x = c.in_ok-call in (
      refl,
      refl,
      refl,
      c.of-began.ensures,
      c.no_claims.ensures,
      (claims_of g.P.Port d e c.args.self.now c.args.slot c.block.result x.call x.serial c.block.ensures
          x.ensures.settings x.ensures.later x.ensures.is x.ensures.law.0 x.ensures.law.1 x.ensures.law.2
          c.requires.area c.requires.slot).start,
    )

pub returns-clause-of : goal.returns-clause-of
returns-clause-of g c =
    let d = c.args.driver.now in
    let e = c.start_claim.new.self in
    let x = c.in_ok-call in
    let began = c.of-began.result in
    claiming_now g.P.Port g.met.P.Port.goes_on d e began c.args.self.now c.args.reach c.args.slot x.call x.serial
    c.no_claims.result
    (claims_of g.P.Port d e c.args.self.now c.args.slot c.block.result x.call x.serial c.block.ensures
    x.ensures.settings x.ensures.later x.ensures.is x.ensures.law.0 x.ensures.law.1 x.ensures.law.2 c.requires.area
    c.requires.slot)
    c.requires.area c.requires.slot
    (subst (λ (b : Driver _ _). g.P.Port.follows b.port d.port) (sym c.of-began.ensures)
    (g.met.P.Port.stays d.port))
    (λ any.
    let none : c.args.slot ≡ 0 = c.requires.lower any in
    subst (λ (n : ℕ). AreTaken d began.value n (claims_in c.no_claims.result.value)) (sym none)
    (subst (λ (claims : List (Call _ × ℕ)). AreTaken d began.value 0 claims) (sym c.no_claims.ensures)
    (none_taken g.P.Port d began.value)))

pub returns-clause-claims : goal.returns-clause-claims
returns-clause-claims g c =
    let d = c.args.driver.now in
    let e = c.start_claim.new.self in
    let x = c.in_ok-call in
    counts_claimed g.P.Port d e c.args.slot x.call x.serial
    (claims_of g.P.Port d e c.args.self.now c.args.slot c.block.result x.call x.serial c.block.ensures
    x.ensures.settings x.ensures.later x.ensures.is x.ensures.law.0 x.ensures.law.1 x.ensures.law.2 c.requires.area
    c.requires.slot)

pub returns-in_err-call-clause-claims : goal.returns-in_err-call-clause-claims
returns-in_err-call-clause-claims g c =
    let p = err_from_is_err_and c.from_residual.result c.from_residual.ensures.1 in
    rw p.1 (counts_same g.P.Port c.args.driver.now c.start_claim.new.self c.start_claim.ensures.settings.slots
    c.in_err-call.ensures.is.1.0)
