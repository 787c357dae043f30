-- A slot that is taken out of its place and then released.
use Rattle.std.proofs.Common.{Bool, Err, List, Ok, Result, Some, ap, length, length-set, subst, sym, ℕ, ◌∙◌, ◌≡◌}
use Rattle.std.specs.Prelude.{slice_get, slice_set}
use Rattle.driver_cas.specs.declared.fault.Fault.{Fault}
use Rattle.slot_alloc.specs.Releases.{IsReleaseBegun}
use Rattle.slot_alloc.specs.declared.claim.Claim.{Claim}
use Rattle.slot_alloc.specs.declared.release.Releasing.{Releasing}
use Rattle.slot_alloc.specs.declared.slots.Slots.{Slots}
use Rattle.slot_takeover.specs.Takeovers.{IsGivingBackBegun}
use Rattle.slot_takeover.specs.declared.held.HeldSlot.{HeldSlot}
use Rattle.slot_host.specs.Begins.{GiveBackBegins, GiveBackEnds, ReleaseBegins, ReleaseEnds, claim_back}
use Rattle.slot_host.specs.Begins.{released_holds, slot_back}
use Rattle.slot_host.specs.SlotStates.{IsHoldAt, KeepsSlots, SlotState}
use Rattle.slot_host.specs.declared.hold.Hold.{Hold}
use Rattle.slot_alloc.specs.declared.claim.KeptClaim.{KeptClaim}
use Rattle.slot_takeover.specs.declared.held.KeptSlot.{KeptSlot}
use Rattle.slot_host.specs.declared.under_way.UnderWay.{UnderWay}
use Rattle.slot_host.proofs.Places.{element_of, set_back}
use Rattle.driver_cas.specs.declared.driver.Driver.{Driver}
use Rattle.driver_cas.specs.declared.port.Port.{Ghosts}
use Rattle.slot_host.specs.declared.not_begun.NotBegun.{NotBegun}
use Rattle.std.specs.Prelude.{⊤}

same_claim : (a b : KeptClaim) → Some (Hold.Claimed a) ≡ Some (Hold.Claimed b) → a ≡ b
same_claim a b h = cc

same_slot : (a b : KeptSlot) → Some (Hold.TakenOver a) ≡ Some (Hold.TakenOver b) → a ≡ b
same_slot a b h = cc

module _ {P : Type 0} {g : Ghosts P} where
  -- with nothing at one place, all is kept
  pub emptied_kept : (d : Driver P g) (number : ℕ) (slots : Slots) (holds later : List Hold) (u : UnderWay P g)
      (took : Bool)
      (i : ℕ) → KeepsSlots d number slots holds u took → later ≡ slice_set holds i Hold.Nothing
      → KeepsSlots d number slots later u took
  emptied_kept d number slots holds later u took i k e =
      record {
        named = k.named;
        area_is = k.area_is;
        count = ap length e ∙ (length-set holds i Hold.Nothing ∙ k.count);
        holds_are = subst (λ (hs : List Hold). (j : ℕ) (w : Hold) → slice_get hs j ≡ Some w → IsHoldAt d took j w)
            (sym e)
            (element_of (IsHoldAt d took) holds i Hold.Nothing (λ j w apart there. k.holds_are j w there) tt);
        call = k.call;
        drawn = k.drawn;
        rules = k.rules;
      }

  pub release_begins : (d : Driver P g) (slots : Slots) (holds later : List Hold) (u : UnderWay P g) (took : Bool)
      (j : SlotState P g) (i : ℕ) (told : Result ⊤ NotBegun) (k kept : KeptClaim) (c : Claim)
      → slice_get holds i ≡ Some (Hold.Claimed kept)
      → later ≡ slice_set holds i Hold.Nothing → c ≡ kept.claim
      → ReleaseEnds (record { driver = d; slots = slots; holds = later; under_way = u; took_over = took }) j i c told
      → slice_get holds i ≡ Some (Hold.Claimed k)
      → ReleaseBegins (record { driver = d; slots = slots; holds = holds; under_way = u; took_over = took }) j i k.claim
      told
  release_begins d slots holds later u took j i told k kept c was now is ends there =
      let one : kept ≡ k = same_claim kept k (sym was ∙ there) in
      let e : c ≡ k.claim = is ∙ ap (λ (x : KeptClaim). x.claim) one in
      let x = subst (λ (b : Claim). ReleaseEnds
      (record { driver = d; slots = slots; holds = later; under_way = u; took_over = took }) j i b told) e ends in
      record {
        answer = x.answer;
        is = x.is;
        goes_on = x.goes_on;
        told_is = x.told_is;
        holds_are = go x.answer x.is x.holds_are;
        same = x.same;
      }
    where
      go : (r : Result (Releasing P) (Claim × Fault)) → IsReleaseBegun d j.driver k.claim r
          → j.holds ≡ claim_back later i r → j.holds ≡ released_holds holds i r
      go (Ok w) b h = h ∙ now
      go (Err w) b h = h ∙ ((λ m. slice_set (now m) i (Hold.Claimed (record { claim = b.0 m })))
          ∙ set_back holds i (Hold.Claimed k) Hold.Nothing there)

  pub give_back_begins : (d : Driver P g) (slots : Slots) (holds later : List Hold) (u : UnderWay P g) (took : Bool)
      (j : SlotState P g) (i : ℕ) (told : Result ⊤ NotBegun) (k kept : KeptSlot) (s : HeldSlot)
      → slice_get holds i ≡ Some (Hold.TakenOver kept)
      → later ≡ slice_set holds i Hold.Nothing → s ≡ kept.held
      → GiveBackEnds (record { driver = d; slots = slots; holds = later; under_way = u; took_over = took }) j i s told
      → slice_get holds i ≡ Some (Hold.TakenOver k)
      → GiveBackBegins (record { driver = d; slots = slots; holds = holds; under_way = u; took_over = took }) j i k.held
      told
  give_back_begins d slots holds later u took j i told k kept s was now is ends there =
      let one : kept ≡ k = same_slot kept k (sym was ∙ there) in
      let e : s ≡ k.held = is ∙ ap (λ (x : KeptSlot). x.held) one in
      let x = subst (λ (b : HeldSlot). GiveBackEnds
      (record { driver = d; slots = slots; holds = later; under_way = u; took_over = took }) j i b told) e ends in
      record {
        answer = x.answer;
        is = x.is;
        same_driver = x.same_driver;
        later = x.later;
        told_is = x.told_is;
        holds_are = go x.answer x.is x.holds_are;
        same = x.same;
      }
    where
      go : (r : Result (Releasing P) (HeldSlot × Fault)) → IsGivingBackBegun d j.driver k.held r
          → j.holds ≡ slot_back later i r → j.holds ≡ released_holds holds i r
      go (Ok w) b h = h ∙ now
      go (Err w) b h = h ∙ ((λ m. slice_set (now m) i (Hold.TakenOver (record { held = b.0 m })))
          ∙ set_back holds i (Hold.TakenOver k) Hold.Nothing there)
