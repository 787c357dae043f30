-- What contracts say of a slot host's calls that are begun.
use Rattle.std.specs.Prelude.{Bool, Err, List, None, Ok, Option, Result, Some, false, if◌then◌else◌, length, nat_lt}
use Rattle.std.specs.Prelude.{not, slice_get, slice_set, true, ℕ, ⊤, ◌==◌, ◌||◌, ◌≡◌}
use Rattle.nvme_model.specs.Slots.{Name}
use Rattle.driver_cas.specs.Drivers.{HasSettings, IsSameDriver, host_of, port_of}
use Rattle.driver_cas.specs.declared.fault.Fault.{Fault}
use Rattle.driver_cas.specs.declared.port.Port.{Ghosts}
use Rattle.slot_alloc.specs.Progresses.{IsFirstClaim}
use Rattle.slot_alloc.specs.Releases.{IsReleaseBegun, released_by}
use Rattle.slot_alloc.specs.SlotRules.{DriverContinues}
use Rattle.slot_alloc.specs.declared.claim.Claim.{Claim}
use Rattle.slot_alloc.specs.declared.claiming.Claiming.{Claiming}
use Rattle.slot_alloc.specs.declared.claiming.Reach.{Reach}
use Rattle.slot_alloc.specs.declared.release.Releasing.{Releasing}
use Rattle.slot_takeover.specs.Holders.{IsHolderBegun}
use Rattle.slot_host.specs.SlotStates.{SlotState}
use Rattle.slot_takeover.specs.Takeovers.{IsGivingBackBegun, IsTakeoverBegun}
use Rattle.slot_takeover.specs.declared.held.HeldSlot.{HeldSlot}
use Rattle.slot_host.specs.declared.hold.Hold.{Hold}
use Rattle.slot_alloc.specs.declared.claim.KeptClaim.{KeptClaim}
use Rattle.slot_takeover.specs.declared.held.KeptSlot.{KeptSlot}
use Rattle.slot_takeover.specs.declared.holder.ReadingHolder.{ReadingHolder}
use Rattle.slot_host.specs.declared.not_begun.NotBegun.{NotBegun}
use Rattle.slot_takeover.specs.declared.taking.TakingOver.{TakingOver}
use Rattle.slot_host.specs.declared.under_way.UnderWay.{UnderWay}

-- ---- why nothing is begun

-- the host has a slot
abbrev pub is_hold : Hold → Bool
is_hold Hold.Nothing = false
is_hold _ = true

-- the host has the slot that is asked for, if it is one
abbrev pub is_held : Option Hold → Bool
is_held None = false
is_held (Some k) = is_hold k

-- a call isn't begun for what bars it already, or else for this, unless that is none
abbrev pub or_bar : Option NotBegun → Bool → NotBegun → Option NotBegun
or_bar (Some n) bars why = Some n
or_bar None bars why = if bars then Some why else None

-- it is none of a dead host: it has a zero in it, or is of this host
abbrev pub is_no_dead_name : ℕ → Name → Bool
is_no_dead_name host n = (n.host == 0) || (n.serial == 0) || (n.host == host)

module _ {P : Type 0} {g : Ghosts P} where
  -- a call is under way
  abbrev pub is_under_way : UnderWay P g → Bool
  is_under_way UnderWay.Nothing = false
  is_under_way _ = true

  -- why no call about slot i is begun, if for one of these: one is under way, or there is no such slot
  abbrev pub slot_bar : UnderWay P g → List Hold → ℕ → Option NotBegun
  slot_bar u holds i =
      if is_under_way u then Some NotBegun.InCall
      else (if nat_lt i (length holds) then None else Some NotBegun.NoSlot)

  -- why no claim is: the host has the slot
  abbrev pub claim_bar : SlotState P g → ℕ → Option NotBegun
  claim_bar h i = or_bar (slot_bar h.under_way h.holds i) (is_held (slice_get h.holds i)) NotBegun.Held

  -- why no claim of any slot is: a call is under way
  abbrev pub any_bar : SlotState P g → Option NotBegun
  any_bar h = or_bar None (is_under_way h.under_way) NotBegun.InCall

  -- why no release is: the host hasn't the slot
  abbrev pub release_bar : SlotState P g → ℕ → Option NotBegun
  release_bar h i = or_bar (slot_bar h.under_way h.holds i) (not (is_held (slice_get h.holds i))) NotBegun.NotHeld

  -- why no takeover is: the host has the slot, or the name is none of a dead host
  abbrev pub takeover_bar : SlotState P g → ℕ → Name → Option NotBegun
  takeover_bar h i n =
      or_bar (or_bar (slot_bar h.under_way h.holds i) (is_held (slice_get h.holds i)) NotBegun.Held)
      (is_no_dead_name (host_of h.driver) n) NotBegun.BadName

-- ---- what is told of a call that is begun, or isn't

module _ {A P : Type 0} {g : Ghosts P} where
  -- the call is under way; or the fault is told, and none is
  abbrev pub BeginTold : (A → UnderWay P g) → Result A Fault → Result ⊤ NotBegun → UnderWay P g → Type 0
  BeginTold f (Ok k) told u = (told ≡ Ok tt) × (u ≡ f k)
  BeginTold f (Err x) told u = (told ≡ Err (NotBegun.Fault x)) × (u ≡ UnderWay.Nothing)

  -- the same of a release, whose slot comes back with the fault
  abbrev pub ReleaseTold : {B : Type 0} → (A → UnderWay P g) → Result A (B × Fault) → Result ⊤ NotBegun → UnderWay P g
      → Type 0
  ReleaseTold f (Ok k) told u = (told ≡ Ok tt) × (u ≡ f k)
  ReleaseTold f (Err x) told u = (told ≡ Err (NotBegun.Fault x.1)) × (u ≡ UnderWay.Nothing)

module _ {A : Type 0} where
  -- where it was begun the host hasn't the slot any more
  abbrev pub released_holds : {B : Type 0} → List Hold → ℕ → Result A (B × Fault) → List Hold
  released_holds holds i (Ok k) = slice_set holds i Hold.Nothing
  released_holds holds i (Err x) = holds

  -- the claim is back at its place where none was begun, and the same of a slot that was taken over
  abbrev pub claim_back : List Hold → ℕ → Result A (Claim × Fault) → List Hold
  claim_back holds i (Ok k) = holds
  claim_back holds i (Err x) = slice_set holds i (Hold.Claimed (record { claim = x.0 }))

  abbrev pub slot_back : List Hold → ℕ → Result A (HeldSlot × Fault) → List Hold
  slot_back holds i (Ok k) = holds
  slot_back holds i (Err x) = slice_set holds i (Hold.TakenOver (record { held = x.0 }))

  -- where it was begun the host has taken over
  abbrev pub took_over_by : Bool → Result A Fault → Bool
  took_over_by took (Ok k) = true
  took_over_by took (Err x) = took

-- ---- a call of a host

module _ {P : Type 0} {g : Ghosts P} where
  -- a claim of slot i was asked of the driver, and this is told
  pub record ClaimBegins (h j : SlotState P g) (i : ℕ) (told : Result ⊤ NotBegun) : Type 0 where
    pub answer : Result (Claiming P g) Fault
    pub is : IsFirstClaim h.driver j.driver h.slots Reach.One i answer
    pub goes_on : DriverContinues h.driver j.driver None
    pub told_is : BeginTold UnderWay.Claim answer told j.under_way
    pub same : (j.slots ≡ h.slots) × (j.holds ≡ h.holds) × (j.took_over ≡ h.took_over)

  -- a claim of any slot was, from slot 0 on
  pub record AnyClaimBegins (h j : SlotState P g) (told : Result ⊤ NotBegun) : Type 0 where
    pub answer : Result (Claiming P g) Fault
    pub is : IsFirstClaim h.driver j.driver h.slots Reach.Any 0 answer
    pub goes_on : DriverContinues h.driver j.driver None
    pub told_is : BeginTold UnderWay.Claim answer told j.under_way
    pub same : (j.slots ≡ h.slots) × (j.holds ≡ h.holds) × (j.took_over ≡ h.took_over)

  -- the release of a claim was asked of it, and this is told; by its answer the host then has this
  pub record Releases (after : Result (Releasing P) (Claim × Fault) → List Hold) (h j : SlotState P g) (c : Claim)
      (told : Result ⊤ NotBegun) : Type 0 where
    pub answer : Result (Releasing P) (Claim × Fault)
    pub is : IsReleaseBegun h.driver j.driver c answer
    pub goes_on : DriverContinues h.driver j.driver (released_by h.driver c answer)
    pub told_is : ReleaseTold UnderWay.Release answer told j.under_way
    pub holds_are : j.holds ≡ after answer
    pub same : (j.slots ≡ h.slots) × (j.took_over ≡ h.took_over)

  -- the release of a slot that was taken over
  pub record GivesBack (after : Result (Releasing P) (HeldSlot × Fault) → List Hold) (h j : SlotState P g)
      (s : HeldSlot) (told : Result ⊤ NotBegun) : Type 0 where
    pub answer : Result (Releasing P) (HeldSlot × Fault)
    pub is : IsGivingBackBegun h.driver j.driver s answer
    pub same_driver : IsSameDriver h.driver j.driver
    pub later : g.follows (port_of h.driver) (port_of j.driver)
    pub told_is : ReleaseTold UnderWay.Release answer told j.under_way
    pub holds_are : j.holds ≡ after answer
    pub same : (j.slots ≡ h.slots) × (j.took_over ≡ h.took_over)

  -- the release of what the host claimed at slot i
  abbrev pub ReleaseBegins : SlotState P g → SlotState P g → ℕ → Claim → Result ⊤ NotBegun → Type 0
  ReleaseBegins h j i c told = Releases (released_holds h.holds i) h j c told

  -- and of what it took over there
  abbrev pub GiveBackBegins : SlotState P g → SlotState P g → ℕ → HeldSlot → Result ⊤ NotBegun → Type 0
  GiveBackBegins h j i s told = GivesBack (released_holds h.holds i) h j s told

  -- the same of a claim, and of a slot that was taken over, that was taken out of its place before
  abbrev pub ReleaseEnds : SlotState P g → SlotState P g → ℕ → Claim → Result ⊤ NotBegun → Type 0
  ReleaseEnds h j i c told = Releases (claim_back h.holds i) h j c told

  abbrev pub GiveBackEnds : SlotState P g → SlotState P g → ℕ → HeldSlot → Result ⊤ NotBegun → Type 0
  GiveBackEnds h j i s told = GivesBack (slot_back h.holds i) h j s told

  -- a takeover of slot i from this name
  pub record TakeoverBegins (h j : SlotState P g) (i : ℕ) (dead : Name) (told : Result ⊤ NotBegun) : Type 0 where
    pub answer : Result (TakingOver P) Fault
    pub is : IsTakeoverBegun h.driver j.driver i dead answer
    pub settings : HasSettings h.driver j.driver
    pub later : g.follows (port_of h.driver) (port_of j.driver)
    pub told_is : BeginTold UnderWay.Takeover answer told j.under_way
    pub took_over : j.took_over ≡ took_over_by h.took_over answer
    pub same : (j.slots ≡ h.slots) × (j.holds ≡ h.holds)

  -- the question who holds slot i
  pub record HolderBegins (h j : SlotState P g) (i : ℕ) (told : Result ⊤ NotBegun) : Type 0 where
    pub answer : Result (ReadingHolder P) Fault
    pub is : IsHolderBegun h.driver j.driver i answer
    pub same_driver : IsSameDriver h.driver j.driver
    pub later : g.follows (port_of h.driver) (port_of j.driver)
    pub told_is : BeginTold UnderWay.Holder answer told j.under_way
    pub same : (j.slots ≡ h.slots) × (j.holds ≡ h.holds) × (j.took_over ≡ h.took_over)

  -- ---- what is told of a call that is asked for

  -- Where something bars it no claim is begun, nothing has changed, and that is told.
  pub record ClaimTells (h j : SlotState P g) (i : ℕ) (told : Result ⊤ NotBegun) : Type 0 where
    pub barred : (n : NotBegun) → claim_bar h i ≡ Some n → (told ≡ Err n) × (j ≡ h)
    pub begins : claim_bar h i ≡ None → ClaimBegins h j i told

  -- The same of a claim of any slot.
  pub record AnyClaimTells (h j : SlotState P g) (told : Result ⊤ NotBegun) : Type 0 where
    pub barred : (n : NotBegun) → any_bar h ≡ Some n → (told ≡ Err n) × (j ≡ h)
    pub begins : any_bar h ≡ None → AnyClaimBegins h j told

  -- So it is for a release, of a slot that was claimed, or taken over.
  pub record ReleaseTells (h j : SlotState P g) (i : ℕ) (told : Result ⊤ NotBegun) : Type 0 where
    pub barred : (n : NotBegun) → release_bar h i ≡ Some n → (told ≡ Err n) × (j ≡ h)
    pub releases : (k : KeptClaim) → release_bar h i ≡ None → slice_get h.holds i ≡ Some (Hold.Claimed k)
        → ReleaseBegins h j i k.claim told
    pub gives_back : (k : KeptSlot) → release_bar h i ≡ None → slice_get h.holds i ≡ Some (Hold.TakenOver k)
        → GiveBackBegins h j i k.held told

  -- For a takeover.
  pub record TakeoverTells (h j : SlotState P g) (i : ℕ) (dead : Name) (told : Result ⊤ NotBegun) : Type 0 where
    pub barred : (n : NotBegun) → takeover_bar h i dead ≡ Some n → (told ≡ Err n) × (j ≡ h)
    pub begins : takeover_bar h i dead ≡ None → TakeoverBegins h j i dead told

  -- And for the question who holds a slot.
  pub record HolderTells (h j : SlotState P g) (i : ℕ) (told : Result ⊤ NotBegun) : Type 0 where
    pub barred : (n : NotBegun) → slot_bar h.under_way h.holds i ≡ Some n → (told ≡ Err n) × (j ≡ h)
    pub begins : slot_bar h.under_way h.holds i ≡ None → HolderBegins h j i told
