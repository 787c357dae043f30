-- What always is so of a slot host, after its call was polled.
use Rattle.std.proofs.Common.{Bool, List, ap, false, length, refl, subst, sym, true, ℕ, ◌∙◌, ◌<◌, ◌≡◌}
use Rattle.std.specs.Prelude.{None}
use Rattle.nvme_model.specs.declared.array.Range.{Range}
use Rattle.driver_cas.specs.Drivers.{area_of}
use Rattle.slot_alloc.proofs.Polling.{goes_on_polled, slot_rules_polled}
use Rattle.slot_alloc.specs.Areas.{slot_of}
use Rattle.slot_alloc.specs.Progresses.{IsClaimingOn, IsHeldOn, IsQuiet, IsUnreleasedOn}
use Rattle.slot_alloc.specs.Releases.{IsReleasePolled}
use Rattle.slot_alloc.specs.SlotRules.{DriverContinues, KeepsSlotRules}
use Rattle.slot_alloc.specs.declared.progress.Progress.{Progress}
use Rattle.slot_alloc.specs.declared.progress.Released.{Released}
use Rattle.slot_alloc.specs.declared.release.Releasing.{Releasing}
use Rattle.slot_alloc.specs.declared.slots.Slots.{Slots}
use Rattle.slot_takeover.specs.Holders.{IsHolderPolled}
use Rattle.slot_takeover.specs.Polls.{IsTakeoverPolled}
use Rattle.slot_takeover.specs.Takeovers.{slot_held}
use Rattle.slot_takeover.specs.declared.holder.HolderPoll.{HolderPoll}
use Rattle.slot_takeover.specs.declared.holder.ReadingHolder.{ReadingHolder}
use Rattle.slot_takeover.specs.declared.polling.TakeoverProgress.{TakeoverProgress}
use Rattle.slot_takeover.specs.declared.taking.TakingOver.{TakingOver}
use Rattle.slot_host.specs.HostPolls.{HasRoomFor, HasRoomToTake, IsLeft, Left, claim_left, holder_left}
use Rattle.slot_host.specs.HostPolls.{release_left, takeover_left}
use Rattle.slot_host.specs.SlotStates.{IsUnderWay, KeepsSlots}
use Rattle.slot_host.specs.declared.hold.Hold.{Hold}
use Rattle.slot_host.specs.declared.slot_told.SlotTold.{SlotTold}
use Rattle.slot_host.specs.declared.under_way.UnderWay.{UnderWay}
use Rattle.slot_host.proofs.HostKeeping.{kept_on, kept_with}
use Rattle.driver_cas.specs.declared.driver.Driver.{Driver}
use Rattle.driver_cas.specs.declared.port.Port.{Ghosts}

module _ {P : Type 0} {g : Ghosts P} where
  -- ---- a slot that is held now is one of those there are

  inside : (d e : Driver P g) (number : ℕ) (slots : Slots) (holds : List Hold) (u : UnderWay P g) (took : Bool) (i : ℕ)
      → KeepsSlots d number slots holds u took → area_of e ≡ area_of d → i < (area_of e).blocks → i < length holds
  inside d e number slots holds u took i k same less =
      subst (λ (n : ℕ). i < n) (ap (λ (r : Range). r.blocks) (same ∙ k.area_is) ∙ sym k.count) less

  pub room_for : (d e : Driver P g) (number : ℕ) (slots : Slots) (holds : List Hold) (u : UnderWay P g) (took : Bool)
      (p : Progress P g) → KeepsSlots d number slots holds u took → DriverContinues d e None → IsHeldOn e p
      → HasRoomFor p holds
  room_for d e number slots holds u took (Progress.Held c) k x held =
      inside d e number slots holds u took (slot_of c) k x.settings.slots held.inside
  room_for d e number slots holds u took (Progress.Pending j) k x held = tt
  room_for d e number slots holds u took (Progress.Later f j) k x held = tt
  room_for d e number slots holds u took Progress.Taken k x held = tt
  room_for d e number slots holds u took Progress.AllTaken k x held = tt
  room_for d e number slots holds u took (Progress.Failed f) k x held = tt

  pub room_to_take : (d e : Driver P g) (number : ℕ) (slots : Slots) (holds : List Hold) (u : UnderWay P g)
      (took : Bool)
      (t : TakingOver P) (p : TakeoverProgress P) → KeepsSlots d number slots holds u took → IsQuiet d e
      → IsTakeoverPolled e t p → HasRoomToTake p holds
  room_to_take d e number slots holds u took t (TakeoverProgress.Held s) k x is =
      inside d e number slots holds u took (slot_held s) k x.same.slots is.3.inside
  room_to_take d e number slots holds u took t (TakeoverProgress.Pending j) k x is = tt
  room_to_take d e number slots holds u took t (TakeoverProgress.Later f j) k x is = tt
  room_to_take d e number slots holds u took t TakeoverProgress.Taken k x is = tt
  room_to_take d e number slots holds u took t (TakeoverProgress.Failed f) k x is = tt

  -- ---- what is told is kept

  left_kept : (e : Driver P g) (number : ℕ) (slots : Slots) (took : Bool) (t : Left P g) (n : SlotTold)
      (u : UnderWay P g) (holds : List Hold) → KeepsSlots e number slots t.holds t.call took → IsLeft t n u holds
      → KeepsSlots e number slots holds u took
  left_kept e number slots took t n u holds k told =
      subst (λ (z : List Hold × UnderWay P g). KeepsSlots e number slots z.0 z.1 took)
      (λ i. (sym told.holds_are i, sym told.call_is i)) k

  pub claim_polled : (d e : Driver P g) (number : ℕ) (slots : Slots) (holds later : List Hold) (took : Bool)
      (n : SlotTold)
      (u : UnderWay P g) (p : Progress P g)
      → KeepsSlots d number slots holds UnderWay.Nothing took → DriverContinues d e None
      → (KeepsSlotRules d → KeepsSlotRules e) → IsClaimingOn e p → IsHeldOn e p → IsUnreleasedOn e p
      → IsLeft (claim_left holds p) n u later → KeepsSlots e number slots later u took
  claim_polled d e number slots holds later took n u p k x rules of held free told =
      left_kept e number slots took (claim_left holds p) n u later (go p of held free) told
    where
      stays : (v : UnderWay P g) → IsUnderWay e took v → KeepsSlots e number slots holds v took
      stays v call =
          kept_on d e number slots holds UnderWay.Nothing v took took k x (λ t. t) call (λ f. rules (k.rules f))

      go : (p : Progress P g) → IsClaimingOn e p → IsHeldOn e p → IsUnreleasedOn e p
          → KeepsSlots e number slots (claim_left holds p).holds (claim_left holds p).call took
      go (Progress.Pending j) of held free = stays (UnderWay.Claim j) (of, free)
      go (Progress.Later f j) of held free = stays (UnderWay.Claim j) (of, free)
      go (Progress.Held c) of held free =
          kept_with d e number slots holds UnderWay.Nothing UnderWay.Nothing took (slot_of c)
          (Hold.Claimed (record { claim = c })) k x (refl, held) tt (λ f. rules (k.rules f))
      go Progress.Taken of held free = stays UnderWay.Nothing tt
      go Progress.AllTaken of held free = stays UnderWay.Nothing tt
      go (Progress.Failed f) of held free = stays UnderWay.Nothing tt

  -- after a poll that publishes nothing
  quiet_kept : (d e : Driver P g) (number : ℕ) (slots : Slots) (holds : List Hold) (took : Bool) (v : UnderWay P g)
      → KeepsSlots d number slots holds UnderWay.Nothing took → IsQuiet d e → g.follows d.port e.port
      → IsUnderWay e took v → KeepsSlots e number slots holds v took
  quiet_kept d e number slots holds took v k q follows call =
      kept_on d e number slots holds UnderWay.Nothing v took took k
      (goes_on_polled g d e (record { same = q.same; later = follows; one = q.one })) (λ t. t) call
      (λ f. slot_rules_polled g d e (record { same = q.same; later = follows; one = q.one }) (k.rules f))

  pub release_polled : (d e : Driver P g) (number : ℕ) (slots : Slots) (holds : List Hold) (took : Bool) (n : SlotTold)
      (u : UnderWay P g) (w : Releasing P) (p : Released P)
      → KeepsSlots d number slots holds UnderWay.Nothing took → IsQuiet d e → g.follows d.port e.port
      → IsReleasePolled e w p → IsLeft (release_left holds p) n u holds → KeepsSlots e number slots holds u took
  release_polled d e number slots holds took n u w (Released.Pending j) k q follows is told =
      left_kept e number slots took _ n u holds
      (quiet_kept d e number slots holds took (UnderWay.Release j) k q follows is.1) told
  release_polled d e number slots holds took n u w (Released.Later f j) k q follows is told =
      left_kept e number slots took _ n u holds
      (quiet_kept d e number slots holds took (UnderWay.Release j) k q follows is.1) told
  release_polled d e number slots holds took n u w Released.Released k q follows is told =
      left_kept e number slots took _ n u holds
      (quiet_kept d e number slots holds took UnderWay.Nothing k q follows tt) told
  release_polled d e number slots holds took n u w (Released.Failed f) k q follows is told =
      left_kept e number slots took _ n u holds
      (quiet_kept d e number slots holds took UnderWay.Nothing k q follows tt) told

  pub holder_polled : (d e : Driver P g) (number : ℕ) (slots : Slots) (holds : List Hold) (took : Bool) (n : SlotTold)
      (u : UnderWay P g) (w : ReadingHolder P) (p : HolderPoll P)
      → KeepsSlots d number slots holds UnderWay.Nothing took → IsQuiet d e → g.follows d.port e.port
      → IsHolderPolled e w p → IsLeft (holder_left holds p) n u holds → KeepsSlots e number slots holds u took
  holder_polled d e number slots holds took n u w (HolderPoll.Pending j) k q follows is told =
      left_kept e number slots took _ n u holds
      (quiet_kept d e number slots holds took (UnderWay.Holder j) k q follows is.1) told
  holder_polled d e number slots holds took n u w (HolderPoll.Later f j) k q follows is told =
      left_kept e number slots took _ n u holds
      (quiet_kept d e number slots holds took (UnderWay.Holder j) k q follows is.1) told
  holder_polled d e number slots holds took n u w (HolderPoll.Done h) k q follows is told =
      left_kept e number slots took _ n u holds
      (quiet_kept d e number slots holds took UnderWay.Nothing k q follows tt) told
  holder_polled d e number slots holds took n u w (HolderPoll.Failed f) k q follows is told =
      left_kept e number slots took _ n u holds
      (quiet_kept d e number slots holds took UnderWay.Nothing k q follows tt) told

  pub takeover_polled : (d e : Driver P g) (number : ℕ) (slots : Slots) (holds later : List Hold) (took : Bool)
      (n : SlotTold)
      (u : UnderWay P g) (w : TakingOver P) (p : TakeoverProgress P)
      → KeepsSlots d number slots holds UnderWay.Nothing took → took ≡ true → IsQuiet d e → g.follows d.port e.port
      → IsTakeoverPolled e w p → IsLeft (takeover_left holds p) n u later → KeepsSlots e number slots later u took
  takeover_polled d e number slots holds later took n u w p k old q follows is told =
      left_kept e number slots took (takeover_left {g = g} holds p) n u later (go p is) told
    where
      x : DriverContinues d e None
      x = goes_on_polled g d e (record { same = q.same; later = follows; one = q.one })

      rules : took ≡ false → KeepsSlotRules e
      rules f = absurd (let c : true ≡ false = sym old ∙ f in cc)

      go : (p : TakeoverProgress P) → IsTakeoverPolled e w p
          → KeepsSlots e number slots (takeover_left {g = g} holds p).holds (takeover_left {g = g} holds p).call took
      go (TakeoverProgress.Pending j) is =
          quiet_kept d e number slots holds took (UnderWay.Takeover j) k q follows (old, is.1)
      go (TakeoverProgress.Later f j) is =
          quiet_kept d e number slots holds took (UnderWay.Takeover j) k q follows (old, is.1)
      go (TakeoverProgress.Held s) is =
          kept_with d e number slots holds UnderWay.Nothing UnderWay.Nothing took (slot_held s)
          (Hold.TakenOver (record { held = s })) k x (refl, old, is.3) tt rules
      go TakeoverProgress.Taken is = quiet_kept d e number slots holds took UnderWay.Nothing k q follows tt
      go (TakeoverProgress.Failed f) is = quiet_kept d e number slots holds took UnderWay.Nothing k q follows tt
