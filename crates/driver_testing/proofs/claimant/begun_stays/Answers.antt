use Rattle.std.proofs.Common.{subst, sym}
use Rattle.driver_cas.specs.Starts.{IsUntouched}
use Rattle.driver_cas.specs.declared.driver.Driver.{Driver}
use Rattle.driver_cas.specs.declared.shared_port.SharedPort.{SharedPort}
use Rattle.slot_alloc.specs.Claims.{IsClaimingOf, IsHeldBy, IsReleasingOf, IsUnreleased}
use Rattle.driver_testing.proofs.Claimants.{begun_on}
use Rattle.driver_testing.proofs.claimant.begun_stays.Goals as goal

pub returns : goal.returns
returns c = λ h same u stage of.
    let x = c.an_untouched_driver_keeps_its_slots.ensures in
    let e = c.args.host.now.driver in
    let still = subst (λ (d : Driver SharedPort _). IsUntouched d e) (sym same) u in
    begun_on h c.args.host.now stage
    (λ k held. x.held still k (subst (λ (d : Driver SharedPort _). IsHeldBy d k) (sym same) held))
    (λ k begun. x.claiming still k (subst (λ (d : Driver SharedPort _). IsClaimingOf d k) (sym same) begun))
    (λ k begun free. x.unreleased still k (subst (λ (d : Driver SharedPort _). IsClaimingOf d k) (sym same) begun)
    (subst (λ (d : Driver SharedPort _). IsUnreleased d k) (sym same) free))
    (λ k begun. x.releasing still k (subst (λ (d : Driver SharedPort _). IsReleasingOf d k) (sym same) begun)) of
