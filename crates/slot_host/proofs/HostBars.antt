-- What is known where nothing bars a call.
use Rattle.std.proofs.Common.{Bool, List, None, Option, Some, false, length, not, nat_lt, refl, sym, true, ℕ, ◌∙◌}
use Rattle.std.proofs.Common.{arith, eq-eqb, ltb-true, ◌<◌, ◌==◌, ◌||◌, ◌≡◌, ◌≢◌, ◌≤◌}
use Rattle.std.specs.Prelude.{cond, slice_get}
use Rattle.std.proofs.lemmas.Bool.{or_parts}
use Rattle.nvme_model.specs.Slots.{Name}
use Rattle.driver_cas.specs.Drivers.{host_of}
use Rattle.driver_cas.specs.declared.port.Port.{Ghosts}
use Rattle.slot_host.specs.Begins.{any_bar, claim_bar, is_held, is_hold, is_no_dead_name, is_under_way, or_bar}
use Rattle.slot_host.specs.Begins.{release_bar, slot_bar, takeover_bar}
use Rattle.slot_host.specs.SlotStates.{SlotState}
use Rattle.slot_host.specs.declared.hold.Hold.{Hold}
use Rattle.slot_host.specs.declared.under_way.UnderWay.{UnderWay}
use Rattle.slot_host.specs.declared.not_begun.NotBegun.{NotBegun}

some_none : {A X : Type 0} (n : A) → Some n ≡ None → X
some_none n h = absurd (let a = h in cc)

pub or_open : (b : Option NotBegun) (bars : Bool) (n : NotBegun) → or_bar b bars n ≡ None → (b ≡ None) × (bars ≡ false)
or_open (Some m) bars n h = some_none m h
or_open None true n h = some_none n h
or_open None false n h = (refl, refl)

unlike : (a b : ℕ) → (a == b) ≡ false → a ≢ b
unlike a b h e = let t : true ≡ false = sym (eq-eqb a b e) ∙ h in absurd (let f = t in cc)

-- a name of a dead host
dead_open : (host : ℕ) (n : Name) → is_no_dead_name host n ≡ false
    → (n.host ≢ host) × (1 ≤ n.host) × (1 ≤ n.serial)
dead_open host n h =
    let a = or_parts ((n.host == 0) || (n.serial == 0)) (n.host == host) h in
    let b = or_parts (n.host == 0) (n.serial == 0) a.0 in
    let some : n.host ≢ 0 = unlike n.host 0 b.0 in
    let serial : n.serial ≢ 0 = unlike n.serial 0 b.1 in
    (unlike n.host host a.1, omega (arith, some), omega (arith, serial))

held_hold : (k : Hold) → not (is_hold k) ≡ false → k ≢ Hold.Nothing
held_hold Hold.Nothing e n = absurd (let a : true ≡ false = e in cc)
held_hold (Hold.Claimed c) e n = absurd (let a = n in cc)
held_hold (Hold.TakenOver t) e n = absurd (let a = n in cc)

module _ {P : Type 0} {g : Ghosts P} where
  -- no call is under way, and there is such a slot
  pub slot_open : (u : UnderWay P g) (holds : List Hold) (i : ℕ) → slot_bar u holds i ≡ None
      → (u ≡ UnderWay.Nothing) × (i < length holds)
  slot_open UnderWay.Nothing holds i h = (refl, go (nat_lt i (length holds)) refl h)
    where
      go : (b : Bool) → nat_lt i (length holds) ≡ b → cond {A = Option NotBegun} b None (Some NotBegun.NoSlot) ≡ None
          → i < length holds
      go true e k = ltb-true i (length holds) e
      go false e k = some_none NotBegun.NoSlot k
  slot_open (UnderWay.Claim k) holds i h = some_none NotBegun.InCall h
  slot_open (UnderWay.Release k) holds i h = some_none NotBegun.InCall h
  slot_open (UnderWay.Takeover k) holds i h = some_none NotBegun.InCall h
  slot_open (UnderWay.Holder k) holds i h = some_none NotBegun.InCall h

  pub claim_open : (h : SlotState P g) (i : ℕ) → claim_bar h i ≡ None
      → (h.under_way ≡ UnderWay.Nothing) × (i < length h.holds)
  claim_open h i e =
      slot_open h.under_way h.holds i (or_open _ (is_held (slice_get h.holds i)) NotBegun.Held e).0

  -- no call is under way
  nothing_on : (u : UnderWay P g) → is_under_way u ≡ false → u ≡ UnderWay.Nothing
  nothing_on UnderWay.Nothing e = refl
  nothing_on (UnderWay.Claim k) e = absurd (let f : true ≡ false = e in cc)
  nothing_on (UnderWay.Release k) e = absurd (let f : true ≡ false = e in cc)
  nothing_on (UnderWay.Takeover k) e = absurd (let f : true ≡ false = e in cc)
  nothing_on (UnderWay.Holder k) e = absurd (let f : true ≡ false = e in cc)

  pub any_open : (h : SlotState P g) → any_bar h ≡ None → h.under_way ≡ UnderWay.Nothing
  any_open h e = nothing_on h.under_way (or_open None (is_under_way h.under_way) NotBegun.InCall e).1

  pub takeover_open : (h : SlotState P g) (i : ℕ) (n : Name) → takeover_bar h i n ≡ None
      → (h.under_way ≡ UnderWay.Nothing) × (i < length h.holds)
      × ((n.host ≢ host_of h.driver) × (1 ≤ n.host) × (1 ≤ n.serial))
  takeover_open h i n e =
      let a = or_open _ (is_no_dead_name (host_of h.driver) n) NotBegun.BadName e in
      let b = or_open _ (is_held (slice_get h.holds i)) NotBegun.Held a.0 in
      let s = slot_open h.under_way h.holds i b.0 in
      (s.0, s.1, dead_open (host_of h.driver) n a.1)

  pub release_open : (h : SlotState P g) (i : ℕ) → release_bar h i ≡ None
      → (h.under_way ≡ UnderWay.Nothing) × (i < length h.holds)
      × ((k : Hold) → slice_get h.holds i ≡ Some k → k ≢ Hold.Nothing)
  release_open h i e =
      let a = or_open _ (not (is_held (slice_get h.holds i))) NotBegun.NotHeld e in
      let s = slot_open h.under_way h.holds i a.0 in
      (s.0, s.1, λ k there. held_hold k (sym (λ j. not (is_held (there j))) ∙ a.1))
