-- What always is so of a slot host, where its driver did nothing.
use Rattle.std.proofs.Common.{Bool, List, subst, ◌≡◌}
use Rattle.driver_cas.specs.Starts.{IsUntouched}
use Rattle.driver_cas.specs.declared.driver.Driver.{Driver}
use Rattle.driver_cas.specs.declared.port.Port.{Ghosts}
use Rattle.slot_alloc.proofs.Untouched.{claiming_kept, goes_on_kept, releasing_kept, slot_rules_kept, unreleased_kept}
use Rattle.slot_alloc.specs.declared.slots.Slots.{Slots}
use Rattle.slot_host.proofs.HostKeeping.{kept_on}
use Rattle.slot_takeover.specs.Holders.{IsReadingOf}
use Rattle.slot_takeover.specs.Takeovers.{IsTakingOverOf}
use Rattle.slot_takeover.specs.declared.holder.ReadingHolder.{ReadingHolder}
use Rattle.slot_takeover.specs.declared.taking.TakingOver.{TakingOver}
use Rattle.slot_host.specs.SlotStates.{IsUnderWay, KeepsSlots}
use Rattle.slot_host.specs.declared.hold.Hold.{Hold}
use Rattle.slot_host.specs.declared.under_way.UnderWay.{UnderWay}
use Rattle.std.specs.Prelude.{ℕ}

module _ {P : Type 0} (g : Ghosts P) (on : (a b c : P) → g.follows a b → g.follows b c → g.follows a c) where
  call_kept : (d e : Driver P g) (took : Bool) (u : UnderWay P g) → IsUntouched d e
      → ((k : TakingOver P) → IsTakingOverOf d k → IsTakingOverOf e k)
      → ((k : ReadingHolder P) → IsReadingOf d k → IsReadingOf e k)
      → IsUnderWay d took u → IsUnderWay e took u
  call_kept d e took UnderWay.Nothing x taking reading of = tt
  call_kept d e took (UnderWay.Claim k) x taking reading of =
      (claiming_kept g on d e k x of.0, unreleased_kept g d e k x of.0 of.1)
  call_kept d e took (UnderWay.Release k) x taking reading of = releasing_kept g on d e k x of
  call_kept d e took (UnderWay.Takeover k) x taking reading of = (of.0, taking k of.1)
  call_kept d e took (UnderWay.Holder k) x taking reading of = reading k of

  -- by what the law says of its takeovers, of the driver as it was kept before
  pub untouched_kept : (d b e : Driver P g) (number : ℕ) (slots : Slots) (holds : List Hold) (u : UnderWay P g)
      (took : Bool) → KeepsSlots d number slots holds u took → IsUntouched d e → b ≡ d
      → (IsUntouched b e → (k : TakingOver P) → IsTakingOverOf b k → IsTakingOverOf e k)
      → (IsUntouched b e → (k : ReadingHolder P) → IsReadingOf b k → IsReadingOf e k)
      → KeepsSlots e number slots holds u took
  untouched_kept d b e number slots holds u took k x is taking reading =
      kept_on d e number slots holds u u took took k (goes_on_kept g d e x) (λ t. t)
      (call_kept d e took u x
      (subst (λ (a : Driver P g). IsUntouched a e → (j : TakingOver P) → IsTakingOverOf a j → IsTakingOverOf e j) is
      taking x)
      (subst (λ (a : Driver P g). IsUntouched a e → (j : ReadingHolder P) → IsReadingOf a j → IsReadingOf e j) is
      reading x) k.call) (λ f. slot_rules_kept g d e x (k.rules f))
