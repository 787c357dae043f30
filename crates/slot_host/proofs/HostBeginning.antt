-- What always is so of a slot host, after a call was begun or wasn't.
use Rattle.std.proofs.Common.{Bool, Err, List, Ok, Result, Some, ap, arith, false, length, refl, subst, sym, true}
use Rattle.std.proofs.Common.{ℕ, ◌∙◌, ◌≡◌}
use Rattle.std.specs.Prelude.{IfOk, None, [], slice_get}
use Rattle.nvme_model.specs.Slots.{Name}
use Rattle.nvme_model.specs.declared.operation.Op.{Op}
use Rattle.driver_calls.specs.declared.request.CallData.{CallData}
use Rattle.driver_cas.specs.Drivers.{IsSameDriver, area_of}
use Rattle.driver_cas.specs.declared.fault.Fault.{Fault}
use Rattle.slot_alloc.proofs.Drawn.{drawn_released}
use Rattle.slot_alloc.proofs.Keeping.{IsSound, start_kept}
use Rattle.slot_alloc.proofs.Starting.{slot_rules_same}
use Rattle.slot_alloc.specs.Areas.{block_of, claim_serial, slot_of}
use Rattle.slot_alloc.specs.Claims.{IsClaimingOf, IsHeldBy, IsReleasingOf, IsUnreleased}
use Rattle.slot_alloc.specs.Releases.{IsReleaseBegun, released_by}
use Rattle.slot_alloc.specs.SlotRules.{DriverContinues, KeepsSlotRules, ReleasesDrawn, own_name}
use Rattle.slot_alloc.specs.declared.claim.Claim.{Claim}
use Rattle.slot_alloc.specs.declared.claiming.Claiming.{Claiming}
use Rattle.slot_alloc.specs.declared.release.Releasing.{Releasing}
use Rattle.slot_alloc.specs.declared.slots.Slots.{Slots}
use Rattle.slot_takeover.specs.Holders.{IsHolderBegun, IsReadingOf}
use Rattle.slot_takeover.specs.Takeovers.{HoldsTaken, IsGivingBackBegun, IsTakeoverBegun, IsTakingOverOf}
use Rattle.slot_takeover.specs.Takeovers.{given_back, held_serial, slot_held}
use Rattle.slot_takeover.specs.declared.held.HeldSlot.{HeldSlot}
use Rattle.slot_takeover.specs.declared.holder.ReadingHolder.{ReadingHolder}
use Rattle.slot_takeover.specs.declared.taking.TakingOver.{TakingOver}
use Rattle.slot_host.specs.Begins.{BeginTold, ReleaseTold, claim_back, slot_back, took_over_by}
use Rattle.slot_host.specs.SlotStates.{AreHolds, IsHoldAt, IsUnderWay, KeepsSlots}
use Rattle.slot_host.specs.declared.hold.Hold.{Hold}
use Rattle.slot_host.specs.declared.under_way.UnderWay.{UnderWay}
use Rattle.slot_host.proofs.HostKeeping.{call_of, kept, kept_on, kept_with, ok_of}
use Rattle.slot_host.proofs.HoldsStaying.{claim_stays, holds_stay_released, taken_stays}
use Rattle.driver_cas.specs.declared.driver.Driver.{Driver}
use Rattle.driver_cas.specs.declared.port.Port.{Ghosts}
use Rattle.slot_host.specs.declared.not_begun.NotBegun.{NotBegun}
use Rattle.std.specs.Prelude.{⊤}

-- true isn't false
clash : {b : Bool} {X : Type 0} → b ≡ true → b ≡ false → X
clash t f = absurd (let e : true ≡ false = sym t ∙ f in cc)

module _ {P : Type 0} {g : Ghosts P} where
  pub claim_kept : (d e : Driver P g) (number : ℕ) (slots : Slots) (holds : List Hold) (took : Bool)
      (n : Result ⊤ NotBegun)
      (r : Result (Claiming P g) Fault) (u : UnderWay P g)
      → KeepsSlots d number slots holds UnderWay.Nothing took → DriverContinues d e None
      → (KeepsSlotRules d → KeepsSlotRules e) → IfOk r (λ k. IsClaimingOf e k)
      → (ReleasesDrawn d → IfOk r (λ k. IsUnreleased e k)) → BeginTold UnderWay.Claim r n u
      → KeepsSlots e number slots holds u took
  claim_kept d e number slots holds took n r u k x rules of free told =
      kept_on d e number slots holds UnderWay.Nothing u took took k x (λ t. t)
      (call_of UnderWay.Claim e took r n u
      (λ c is. (
        ok_of (λ (w : Claiming P g). IsClaimingOf e w) r of c is,
        ok_of (λ (w : Claiming P g). IsUnreleased e w) r (free k.drawn) c is,
      )) told)
      (λ f. rules (k.rules f))

  pub release_kept : (d e : Driver P g) (number : ℕ) (slots : Slots) (holds later : List Hold) (took : Bool) (i : ℕ)
      (n : Result ⊤ NotBegun)
      (c : Claim) (r : Result (Releasing P) (Claim × Fault)) (u : UnderWay P g)
      → KeepsSlots d number slots holds UnderWay.Nothing took → slice_get holds i ≡ Some Hold.Nothing → slot_of c ≡ i
      → IsHeldBy d c → DriverContinues d e (released_by d c r) → IsReleaseBegun d e c r
      → (KeepsSlotRules d → KeepsSlotRules e) → IfOk r (λ k. IsReleasingOf e k) → ReleaseTold UnderWay.Release r n u
      → later ≡ claim_back holds i r → KeepsSlots e number slots later u took
  release_kept d e number slots holds later took i n c (Ok j) u k nothing at held x is rules of told back =
      let y : DriverContinues d e (Some (block_of (area_of d) i, own_name d (claim_serial c))) =
      subst (λ (s : ℕ). DriverContinues d e (Some (block_of (area_of d) s, own_name d (claim_serial c)))) at x in
      kept d e number slots holds later UnderWay.Nothing u took took k x.settings (ap length back)
      (subst (λ (hs : List Hold). AreHolds e took hs) (sym back)
      (holds_stay_released d e i (own_name d (claim_serial c)) took holds y nothing k.holds_are))
      (subst (λ (v : UnderWay P g). IsUnderWay e took v) (sym told.1) of)
      (drawn_released g d e (block_of (area_of d) i) (claim_serial c) y held.drawn k.drawn) (λ f. rules (k.rules f))
  release_kept d e number slots holds later took i n c (Err w) u k nothing at held x is rules of told back =
      let same : w.0 ≡ c = is.0 in
      let this : IsHoldAt e took i (Hold.Claimed (record { claim = w.0 })) =
      subst (λ (b : Claim). (slot_of b ≡ i) × IsHeldBy e b) (sym same) (at, claim_stays d e None c x refl held) in
      subst (λ (hs : List Hold). KeepsSlots e number slots hs u took) (sym back)
      (kept_with d e number slots holds UnderWay.Nothing u took i (Hold.Claimed (record { claim = w.0 })) k x this
      (subst (λ (v : UnderWay P g). IsUnderWay e took v) (sym told.1) tt) (λ f. rules (k.rules f)))

  pub give_back_kept : (d e : Driver P g) (number : ℕ) (slots : Slots) (holds later : List Hold) (took : Bool) (i : ℕ)
      (n : Result ⊤ NotBegun)
      (h : HeldSlot) (r : Result (Releasing P) (HeldSlot × Fault)) (u : UnderWay P g)
      → KeepsSlots d number slots holds UnderWay.Nothing took → slice_get holds i ≡ Some Hold.Nothing → slot_held h ≡ i
      → took ≡ true → HoldsTaken d h → DriverContinues d e (given_back d h r) → IsGivingBackBegun d e h r
      → IfOk r (λ k. IsReleasingOf e k) → ReleaseTold UnderWay.Release r n u → later ≡ slot_back holds i r
      → KeepsSlots e number slots later u took
  give_back_kept d e number slots holds later took i n h (Ok j) u k nothing at old held x is of told back =
      let name = own_name d (held_serial h) in
      let y : DriverContinues d e (Some (block_of (area_of d) i, name)) =
      subst (λ (s : ℕ). DriverContinues d e (Some (block_of (area_of d) s, name))) at x in
      kept d e number slots holds later UnderWay.Nothing u took took k x.settings (ap length back)
      (subst (λ (hs : List Hold). AreHolds e took hs) (sym back)
      (holds_stay_released d e i name took holds y nothing k.holds_are))
      (subst (λ (v : UnderWay P g). IsUnderWay e took v) (sym told.1) of)
      (drawn_released g d e (block_of (area_of d) i) (held_serial h) y held.drawn k.drawn) (λ f. clash old f)
  give_back_kept d e number slots holds later took i n h (Err w) u k nothing at old held x is of told back =
      let this : IsHoldAt e took i (Hold.TakenOver (record { held = w.0 })) =
      subst (λ (b : HeldSlot). (slot_held b ≡ i) × (took ≡ true) × HoldsTaken e b) (sym is.0)
      (at, old, taken_stays d e None h x held) in
      subst (λ (hs : List Hold). KeepsSlots e number slots hs u took) (sym back)
      (kept_with d e number slots holds UnderWay.Nothing u took i (Hold.TakenOver (record { held = w.0 })) k x this
      (subst (λ (v : UnderWay P g). IsUnderWay e took v) (sym told.1) tt) (λ f. clash old f))

  pub takeover_kept : (d e : Driver P g) (number : ℕ) (slots : Slots) (holds : List Hold) (took : Bool) (i : ℕ)
      (n : Result ⊤ NotBegun)
      (dead : Name) (r : Result (TakingOver P) Fault) (u : UnderWay P g)
      → KeepsSlots d number slots holds UnderWay.Nothing took → DriverContinues d e None
      → IsTakeoverBegun d e i dead r → IfOk r (λ k. IsTakingOverOf e k) → BeginTold UnderWay.Takeover r n u
      → KeepsSlots e number slots holds u (took_over_by took r)
  takeover_kept d e number slots holds took i n dead (Ok j) u k x is of told =
      kept_on d e number slots holds UnderWay.Nothing u took true k x (λ t. refl)
      (subst (λ (v : UnderWay P g). IsUnderWay e true v) (sym told.1) (refl, of)) (λ f. clash refl f)
  takeover_kept d e number slots holds took i n dead (Err w) u k x is of told =
      kept_on d e number slots holds UnderWay.Nothing u took took k x (λ t. t)
      (subst (λ (v : UnderWay P g). IsUnderWay e took v) (sym told.1) tt)
      (λ f. slot_rules_same g d e x.settings is.0 is.1.0 (k.rules f))

  -- a Read asks for one block, and writes none
  reads_one : (d : Driver P g) (l : ℕ) → IsSound (area_of d) (record { op = Op.Read; slba = l; blocks = 1 })
  reads_one d l = record { some = omega arith; most = omega arith; outside = refl }

  pub holder_kept : (d e : Driver P g) (number : ℕ) (slots : Slots) (holds : List Hold) (took : Bool) (i : ℕ)
      (n : Result ⊤ NotBegun)
      (r : Result (ReadingHolder P) Fault) (u : UnderWay P g)
      → KeepsSlots d number slots holds UnderWay.Nothing took → IsSameDriver d e → g.follows d.port e.port
      → IsHolderBegun d e i r → IfOk r (λ k. IsReadingOf e k) → BeginTold UnderWay.Holder r n u
      → KeepsSlots e number slots holds u took
  holder_kept d e number slots holds took i n (Ok j) u k same follows is of told =
      let l = block_of (area_of d) i in
      let x = start_kept g d e (Ok (record { op = Op.Read; slba = l; blocks = 1 })) (CallData.One []) (Ok j.call)
      same follows (reads_one d l) is.1 in
      kept_on d e number slots holds UnderWay.Nothing u took took k x.1 (λ t. t)
      (subst (λ (v : UnderWay P g). IsUnderWay e took v) (sym told.1) of) (λ f. x.0 (k.rules f))
  holder_kept d e number slots holds took i n (Err w) u k same follows is of told =
      let l = block_of (area_of d) i in
      let x = start_kept g d e (Ok (record { op = Op.Read; slba = l; blocks = 1 })) (CallData.One []) (Err w) same
      follows (reads_one d l) is in
      kept_on d e number slots holds UnderWay.Nothing u took took k x.1 (λ t. t)
      (subst (λ (v : UnderWay P g). IsUnderWay e took v) (sym told.1) tt) (λ f. x.0 (k.rules f))
