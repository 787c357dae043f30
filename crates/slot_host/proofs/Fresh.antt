-- A host that was made just now.
use Rattle.std.proofs.Common.{Bool, List, Some, [], ap, arith, length, subst, suc, sym, take, zero, ℕ, ◌-◌, ◌∙◌, ◌∷◌}
use Rattle.std.proofs.Common.{◌≡◌}
use Rattle.std.specs.Prelude.{All, slice_get}
use Rattle.std.proofs.lemmas.List.Elements.{All-head, All-tail}
use Rattle.plain_lemmas.proofs.Options.{some_one}
use Rattle.driver_calls.specs.Views.{since}
use Rattle.driver_calls.specs.declared.event.PortEvent.{PortEvent}
use Rattle.driver_cas.specs.Drivers.{area_of, before, host_of, made, serial_of}
use Rattle.driver_cas.specs.declared.driver.Driver.{Driver}
use Rattle.driver_cas.specs.declared.port.Port.{Ghosts}
use Rattle.slot_log_laws.specs.SlotRules.{keeps_slot_rules}
use Rattle.slot_alloc.specs.SlotRules.{KeepsSlotRules}
use Rattle.slot_host.specs.SlotHosts.{DidNothing}
use Rattle.slot_host.specs.SlotStates.{AreHolds, IsHoldAt}
use Rattle.slot_host.specs.declared.hold.Hold.{Hold}
use Rattle.slot_host.proofs.Places.{none_some}

since_self : (log : List PortEvent) → since log log ≡ []
since_self log = let e : length log - length log ≡ 0 = omega arith in ap (λ (n : ℕ). take n log) e

module _ {P : Type 0} {g : Ghosts P} where
  -- a driver whose port did nothing published nothing
  pub none_made : (d : Driver P g) → DidNothing d → made d ≡ []
  none_made d h = ap (λ (log : List PortEvent). since (before d) log) h ∙ since_self (before d)

  -- a driver that has published nothing keeps the rules of slots
  pub fresh_rules : (d : Driver P g) → made d ≡ [] → KeepsSlotRules d
  fresh_rules d h = ap (keeps_slot_rules (area_of d) (host_of d) (serial_of d)) h

  -- nothing is at each place, which is so of every driver
  pub nothing_at : (d : Driver P g) (took : Bool) (holds : List Hold) → All (λ k. k ≡ Hold.Nothing) holds
      → AreHolds d took holds
  nothing_at d took holds all i k there = subst (IsHoldAt d took i) (sym (all_at holds all i k there)) tt
    where
      all_at : (hs : List Hold) → All (λ w. w ≡ Hold.Nothing) hs → (j : ℕ) (w : Hold) → slice_get hs j ≡ Some w
          → w ≡ Hold.Nothing
      all_at [] a j w e = none_some w e
      all_at (h ∷ hs) a zero w e = subst (λ (v : Hold). v ≡ Hold.Nothing) (some_one h w e)
          (All-head (λ v. v ≡ Hold.Nothing) h hs a)
      all_at (h ∷ hs) a (suc j) w e = all_at hs (All-tail (λ v. v ≡ Hold.Nothing) h hs a) j w e
