-- What always is so of a slot host, with another driver, another call and other holds.
use Rattle.std.proofs.Common.{Bool, Err, List, Ok, Result, false, length, length-set, refl, subst}
use Rattle.std.proofs.Common.{sym, true, ℕ, ◌∙◌, ◌≡◌}
use Rattle.std.specs.Prelude.{IfOk, None, slice_set}
use Rattle.driver_cas.specs.Drivers.{HasSettings}
use Rattle.driver_cas.specs.declared.fault.Fault.{Fault}
use Rattle.slot_alloc.proofs.Drawn.{drawn_on}
use Rattle.slot_alloc.specs.SlotRules.{DriverContinues, KeepsSlotRules, ReleasesDrawn}
use Rattle.slot_alloc.specs.declared.slots.Slots.{Slots}
use Rattle.slot_host.specs.Begins.{BeginTold}
use Rattle.slot_host.specs.SlotStates.{AreHolds, IsHoldAt, IsUnderWay, KeepsSlots}
use Rattle.slot_host.specs.declared.hold.Hold.{Hold}
use Rattle.slot_host.specs.declared.under_way.UnderWay.{UnderWay}
use Rattle.slot_host.proofs.Places.{element_of}
use Rattle.slot_host.proofs.HoldsStaying.{holds_stay}
use Rattle.driver_cas.specs.declared.driver.Driver.{Driver}
use Rattle.driver_cas.specs.declared.port.Port.{Ghosts}
use Rattle.slot_host.specs.declared.not_begun.NotBegun.{NotBegun}
use Rattle.std.specs.Prelude.{⊤}

-- ---- results

ok_same : {A E : Type 0} (j k : A) (r : Result A E) → r ≡ Ok j → r ≡ Ok k → j ≡ k
ok_same j k r h e = let a = h in let b = e in cc

err_ok : {A E : Type 0} {X : Type 0} (x : E) (k : A) (r : Result A E) → r ≡ Err x → r ≡ Ok k → X
err_ok x k r h e = absurd (let a = h in let b = e in cc)

pub ok_of : {A E : Type 0} (P : A → Type 0) (r : Result A E) → IfOk r P → (k : A) → r ≡ Ok k → P k
ok_of P (Ok j) h k e = subst P (ok_same j k (Ok j) refl e) h
ok_of P (Err x) h k e = err_ok x k (Err x) refl e

module _ {P : Type 0} {g : Ghosts P} where
  -- ---- the call

  pub call_of : {A : Type 0} (f : A → UnderWay P g) (e : Driver P g) (took : Bool) (r : Result A Fault)
      (told : Result ⊤ NotBegun) (u : UnderWay P g)
      → ((k : A) → r ≡ Ok k → IsUnderWay e took (f k)) → BeginTold f r told u → IsUnderWay e took u
  call_of f e took (Ok k) n u h t = subst (λ (v : UnderWay P g). IsUnderWay e took v) (sym t.1) (h k refl)
  call_of f e took (Err x) n u h t = subst (λ (v : UnderWay P g). IsUnderWay e took v) (sym t.1) tt

  -- ---- all of it

  pub kept : (d e : Driver P g) (number : ℕ) (slots : Slots) (holds later : List Hold) (u v : UnderWay P g)
      (took took' : Bool) → KeepsSlots d number slots holds u took → HasSettings d e → length later ≡ length holds
      → AreHolds e took' later
      → IsUnderWay e took' v → ReleasesDrawn e → (took' ≡ false → KeepsSlotRules e)
      → KeepsSlots e number slots later v took'
  kept d e number slots holds later u v took took' k s count holds_are call drawn rules =
      record {
        named = k.named ∙ sym s.host;
        area_is = s.slots ∙ k.area_is;
        count = count ∙ k.count;
        holds_are = holds_are;
        call = call;
        drawn = drawn;
        rules = rules;
      }

  -- with the same holds, where nothing is released
  pub kept_on : (d e : Driver P g) (number : ℕ) (slots : Slots) (holds : List Hold) (u v : UnderWay P g)
      (took took' : Bool)
      → KeepsSlots d number slots holds u took → DriverContinues d e None → (took ≡ true → took' ≡ true)
      → IsUnderWay e took' v → (took' ≡ false → KeepsSlotRules e) → KeepsSlots e number slots holds v took'
  kept_on d e number slots holds u v took took' k x so call rules =
      kept d e number slots holds holds u v took took' k x.settings refl
      (holds_stay d e took took' holds x so k.holds_are) call (drawn_on g d e x k.drawn) rules

  -- and with one more, at its place
  pub kept_with : (d e : Driver P g) (number : ℕ) (slots : Slots) (holds : List Hold) (u v : UnderWay P g) (took : Bool)
      (i : ℕ) (h : Hold) → KeepsSlots d number slots holds u took → DriverContinues d e None → IsHoldAt e took i h
      → IsUnderWay e took v → (took ≡ false → KeepsSlotRules e) → KeepsSlots e number slots (slice_set holds i h) v took
  kept_with d e number slots holds u v took i h k x this call rules =
      kept d e number slots holds (slice_set holds i h) u v took took k x.settings (length-set holds i h)
      (element_of (IsHoldAt e took) holds i h
      (λ j w apart there. holds_stay d e took took holds x (λ t. t) k.holds_are j w there) this) call
      (drawn_on g d e x k.drawn) rules

  -- the same of a call that is none
  pub idle : (d : Driver P g) (number : ℕ) (slots : Slots) (holds : List Hold) (u : UnderWay P g) (took : Bool)
      → KeepsSlots d number slots holds u took → u ≡ UnderWay.Nothing
      → KeepsSlots d number slots holds UnderWay.Nothing took
  idle d number slots holds u took k e = subst (λ (v : UnderWay P g). KeepsSlots d number slots holds v took) e k
