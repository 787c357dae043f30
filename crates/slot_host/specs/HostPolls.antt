-- What contracts say of a slot host's call that is polled.
use Rattle.std.specs.Prelude.{List, MatchOption, None, Option, length, slice_set, ℕ, ◌<◌, ◌≡◌}
use Rattle.driver_cas.specs.Drivers.{AsksPort, port_of}
use Rattle.driver_cas.specs.declared.fault.Fault.{Fault}
use Rattle.driver_cas.specs.declared.port.Port.{Ghosts}
use Rattle.slot_alloc.specs.Areas.{slot_of}
use Rattle.slot_alloc.specs.Claims.{claim_stage, release_call}
use Rattle.slot_alloc.specs.Progresses.{IsProgress, IsQuiet}
use Rattle.slot_alloc.specs.Releases.{IsReleasePolled, later_released}
use Rattle.slot_alloc.specs.SlotRules.{DriverContinues}
use Rattle.slot_alloc.specs.declared.claiming.Claiming.{Claiming}
use Rattle.slot_alloc.specs.declared.progress.Progress.{Progress}
use Rattle.slot_alloc.specs.declared.progress.Released.{Released}
use Rattle.slot_alloc.specs.declared.release.Releasing.{Releasing}
use Rattle.slot_takeover.specs.Holders.{IsHolderPolled}
use Rattle.slot_takeover.specs.Polls.{IsTakeoverPolled, later_taking}
use Rattle.slot_host.specs.SlotStates.{SlotState}
use Rattle.slot_takeover.specs.Takeovers.{slot_held, takeover_call}
use Rattle.slot_host.specs.declared.hold.Hold.{Hold}
use Rattle.slot_takeover.specs.declared.holder.HolderPoll.{HolderPoll}
use Rattle.slot_takeover.specs.declared.holder.ReadingHolder.{ReadingHolder}
use Rattle.slot_takeover.specs.declared.polling.TakeoverProgress.{TakeoverProgress}
use Rattle.slot_host.specs.declared.slot_told.SlotTold.{SlotTold}
use Rattle.slot_takeover.specs.declared.taking.TakingOver.{TakingOver}
use Rattle.slot_host.specs.declared.under_way.UnderWay.{UnderWay}

-- what a poll tells and leaves: the call that goes on, and what the host has at each slot
pub record Left (P : Type 0) (g : Ghosts P) : Type 0 where
  pub told : SlotTold
  pub call : UnderWay P g
  pub holds : List Hold

-- a slot that was taken over now is one of those there are
abbrev pub HasRoomToTake : {P : Type 0} → TakeoverProgress P → List Hold → Type 0
HasRoomToTake (TakeoverProgress.Held s) holds = slot_held s < length holds
HasRoomToTake _ holds = Unit {0}

module _ {P : Type 0} {g : Ghosts P} where
  -- the call goes on, for this reason
  abbrev pub goes_on_as : SlotTold → UnderWay P g → List Hold → Left P g
  goes_on_as told u holds = record { told = told; call = u; holds = holds }

  -- it is over, and this is told
  abbrev pub ends_as : SlotTold → List Hold → Left P g
  ends_as told holds = record { told = told; call = UnderWay.Nothing; holds = holds }

  -- that of a claim
  abbrev pub claim_left : List Hold → Progress P g → Left P g
  claim_left holds (Progress.Pending k) = goes_on_as SlotTold.Pending (UnderWay.Claim k) holds
  claim_left holds (Progress.Later f k) = goes_on_as (SlotTold.Later f) (UnderWay.Claim k) holds
  claim_left holds (Progress.Held c) =
      ends_as (SlotTold.Held (slot_of c)) (slice_set holds (slot_of c) (Hold.Claimed (record { claim = c })))
  claim_left holds Progress.Taken = ends_as SlotTold.Taken holds
  claim_left holds Progress.AllTaken = ends_as SlotTold.Taken holds
  claim_left holds (Progress.Failed f) = ends_as (SlotTold.Failed f) holds

  -- of a release
  abbrev pub release_left : List Hold → Released P → Left P g
  release_left holds (Released.Pending k) = goes_on_as SlotTold.Pending (UnderWay.Release k) holds
  release_left holds (Released.Later f k) = goes_on_as (SlotTold.Later f) (UnderWay.Release k) holds
  release_left holds Released.Released = ends_as SlotTold.Released holds
  release_left holds (Released.Failed f) = ends_as (SlotTold.Failed f) holds

  -- of a takeover
  abbrev pub takeover_left : List Hold → TakeoverProgress P → Left P g
  takeover_left holds (TakeoverProgress.Pending k) = goes_on_as SlotTold.Pending (UnderWay.Takeover k) holds
  takeover_left holds (TakeoverProgress.Later f k) = goes_on_as (SlotTold.Later f) (UnderWay.Takeover k) holds
  takeover_left holds (TakeoverProgress.Held s) =
      ends_as (SlotTold.Held (slot_held s)) (slice_set holds (slot_held s) (Hold.TakenOver (record { held = s })))
  takeover_left holds TakeoverProgress.Taken = ends_as SlotTold.Taken holds
  takeover_left holds (TakeoverProgress.Failed f) = ends_as (SlotTold.Failed f) holds

  -- of the question who holds a slot
  abbrev pub holder_left : List Hold → HolderPoll P → Left P g
  holder_left holds (HolderPoll.Pending k) = goes_on_as SlotTold.Pending (UnderWay.Holder k) holds
  holder_left holds (HolderPoll.Later f k) = goes_on_as (SlotTold.Later f) (UnderWay.Holder k) holds
  holder_left holds (HolderPoll.Done w) = ends_as (SlotTold.Holder w) holds
  holder_left holds (HolderPoll.Failed f) = ends_as (SlotTold.Failed f) holds

  -- just that is told and left
  pub record IsLeft (l : Left P g) (told : SlotTold) (call : UnderWay P g) (holds : List Hold) : Type 0 where
    pub told_is : told ≡ l.told
    pub call_is : call ≡ l.call
    pub holds_are : holds ≡ l.holds

  -- a slot that is held now is one of those there are
  abbrev pub HasRoomFor : Progress P g → List Hold → Type 0
  HasRoomFor (Progress.Held c) holds = slot_of c < length holds
  HasRoomFor _ holds = Unit {0}

  -- the claim was polled, and this came of it
  pub record ClaimPolls (h j : SlotState P g) (k : Claiming P g) (told : SlotTold) : Type 0 where
    pub progress : Progress P g
    pub is : IsProgress h.driver j.driver k (claim_stage k) progress
    pub goes_on : DriverContinues h.driver j.driver None
    pub left : IsLeft (claim_left h.holds progress) told j.under_way j.holds
    pub same : (j.slots ≡ h.slots) × (j.took_over ≡ h.took_over)

  -- the release was
  pub record ReleasePolls (h j : SlotState P g) (k : Releasing P) (told : SlotTold) : Type 0 where
    pub released : Released P
    pub is : IsReleasePolled j.driver k released
    pub quiet : IsQuiet h.driver j.driver
    pub goes_on : DriverContinues h.driver j.driver None
    pub asks : AsksPort h.driver j.driver (release_call k) (later_released released)
    pub left : IsLeft (release_left h.holds released) told j.under_way j.holds
    pub same : (j.slots ≡ h.slots) × (j.took_over ≡ h.took_over)

  -- the takeover was
  pub record TakeoverPolls (h j : SlotState P g) (k : TakingOver P) (told : SlotTold) : Type 0 where
    pub progress : TakeoverProgress P
    pub is : IsTakeoverPolled j.driver k progress
    pub quiet : IsQuiet h.driver j.driver
    pub later : g.follows (port_of h.driver) (port_of j.driver)
    pub asks : AsksPort h.driver j.driver (takeover_call k) (later_taking progress)
    pub left : IsLeft (takeover_left h.holds progress) told j.under_way j.holds
    pub same : (j.slots ≡ h.slots) × (j.took_over ≡ h.took_over)

  -- the question who holds a slot was
  pub record HolderPolls (h j : SlotState P g) (k : ReadingHolder P) (told : SlotTold) : Type 0 where
    pub polled : HolderPoll P
    pub is : IsHolderPolled j.driver k polled
    pub quiet : IsQuiet h.driver j.driver
    pub later : g.follows (port_of h.driver) (port_of j.driver)
    pub left : IsLeft (holder_left h.holds polled) told j.under_way j.holds
    pub same : (j.slots ≡ h.slots) × (j.took_over ≡ h.took_over)

  -- the host's call was polled, and this is told; nothing where it has none
  abbrev pub CallPolls : SlotState P g → SlotState P g → UnderWay P g → Option SlotTold → Type 0
  CallPolls h j UnderWay.Nothing told = (told ≡ None) × (j ≡ h)
  CallPolls h j (UnderWay.Claim k) told = MatchOption told ⊥ (ClaimPolls h j k)
  CallPolls h j (UnderWay.Release k) told = MatchOption told ⊥ (ReleasePolls h j k)
  CallPolls h j (UnderWay.Takeover k) told = MatchOption told ⊥ (TakeoverPolls h j k)
  CallPolls h j (UnderWay.Holder k) told = MatchOption told ⊥ (HolderPolls h j k)

  -- the call that it had
  abbrev pub HostPolls : SlotState P g → SlotState P g → Option SlotTold → Type 0
  HostPolls h j told = CallPolls h j h.under_way told
