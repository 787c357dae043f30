-- What is told of a host's call that is begun, and that the host stays one of its disk's.
use Rattle.std.proofs.Common.{Bool, Err, List, None, Ok, Option, Result, Some, ap, cond, false, inl, inr, length}
use Rattle.std.proofs.Common.{suc, zero, ◌∷◌, []}
use Rattle.std.proofs.Common.{nat_lt, not, refl, subst, sym, true, ℕ, ◌∙◌, ◌≡◌, ◌⊎◌}
use Rattle.std.specs.Prelude.{map, slice_get, slice_set, ⊤}
use Rattle.std.proofs.lemmas.List.{length-map, map-set}
use Rattle.nvme_model.specs.declared.array.Range.{Range}
use Rattle.nvme_model.specs.declared.config.ConfigNumbers.{ConfigNumbers}
use Rattle.nvme_model.proofs.Cut.{clash}
use Rattle.driver_cas.specs.Ports.{PortFollows}
use Rattle.driver_cas.specs.declared.driver.Driver.{Driver}
use Rattle.driver_cas.specs.declared.fault.Fault.{Fault}
use Rattle.driver_cas.specs.contracts.shared_port.SharedPortPort.TheImpl.{ghosts}
use Rattle.driver_cas.specs.declared.shared_port.SharedPort.{SharedPort}
use Rattle.slot_alloc.specs.SlotRules.{DriverContinues, KeepsSlotRules, ReleasedName}
use Rattle.slot_alloc.specs.declared.claim.KeptClaim.{KeptClaim}
use Rattle.slot_alloc.specs.declared.claiming.Claiming.{Claiming}
use Rattle.slot_host.specs.Begins.{AnyClaimTells, BeginTold, ClaimTells, ReleaseTells, any_bar, claim_bar, is_held}
use Rattle.slot_host.specs.Begins.{is_hold, is_under_way, or_bar, release_bar, slot_bar}
use Rattle.slot_host.specs.SlotHosts.{IsKept, slot_state}
use Rattle.slot_host.specs.SlotStates.{SlotState}
use Rattle.slot_host.specs.declared.hold.Hold.{Hold}
use Rattle.slot_host.specs.declared.not_begun.NotBegun.{NotBegun}
use Rattle.slot_host.specs.declared.slot_host.SlotHost.{SlotHost}
use Rattle.slot_host.specs.declared.under_way.UnderWay.{UnderWay}
use Rattle.many_host_laws.specs.Hosts.{IsHost}
use Rattle.work_queue.specs.declared.engine.Engine.{Engine}
use Rattle.slot_disk.specs.Asks.{IsAskedOf, any_fault, claim_fault, claiming, release_fault, releasing, slot_fault}
use Rattle.slot_disk.specs.Hosts.{IsDiskHost, IsHostState, host_view, is_plain, state_view}
use Rattle.slot_disk.specs.Views.{HostView, has_slot, is_so}

-- ---- what bars a call, as contracts see the host

pub held_is : (holds : List Hold) (i : ℕ) → is_so (slice_get (map is_hold holds) i) ≡ is_held (slice_get holds i)
held_is [] i = refl
held_is (k ∷ ks) zero = refl
held_is (k ∷ ks) (suc i) = held_is ks i

bar_is : (h : SlotState SharedPort ghosts) (i : ℕ) → slot_fault i (state_view h) ≡ slot_bar h.under_way h.holds i
bar_is h i =
    ap (λ (n : ℕ). cond (is_under_way h.under_way) (Some NotBegun.InCall)
    (cond (nat_lt i n) None (Some NotBegun.NoSlot))) (length-map h.holds is_hold)

claim_bar_is : (h : SlotState SharedPort ghosts) (i : ℕ) → claim_fault i (state_view h) ≡ claim_bar h i
claim_bar_is h i = λ m. or_bar (bar_is h i m) (held_is h.holds i m) NotBegun.Held

pub release_bar_is : (h : SlotState SharedPort ghosts) (i : ℕ) → release_fault i (state_view h) ≡ release_bar h i
release_bar_is h i = λ m. or_bar (bar_is h i m) (not (held_is h.holds i m)) NotBegun.NotHeld

-- where nothing bars a call, none is under way
no_call : (calls : Bool) (b : Option NotBegun) → cond calls (Some NotBegun.InCall) b ≡ None → calls ≡ false
no_call true b h = absurd (let a : Some NotBegun.InCall ≡ None = h in cc)
no_call false b h = refl

or_none : (b : Option NotBegun) (bars : Bool) (n : NotBegun) → or_bar b bars n ≡ None → b ≡ None
or_none (Some m) bars n h = h
or_none None bars n h = refl

idle_claim : (i : ℕ) (v : HostView) → claim_fault i v ≡ None → v.calls ≡ false
idle_claim i v e = no_call v.calls _ (or_none (slot_fault i v) (has_slot v i) NotBegun.Held e)

pub idle_release : (i : ℕ) (v : HostView) → release_fault i v ≡ None → v.calls ≡ false
idle_release i v e = no_call v.calls _ (or_none (slot_fault i v) (not (has_slot v i)) NotBegun.NotHeld e)

idle_any : (v : HostView) → any_fault v ≡ None → v.calls ≡ false
idle_any v e = go v.calls e
  where
    go : (b : Bool) → or_bar None b NotBegun.InCall ≡ None → b ≡ false
    go true h = absurd (let a : Some NotBegun.InCall ≡ None = h in cc)
    go false h = refl

-- ---- the host stays one of its disk's

-- by what its driver is later
pub state_on : (eng : Engine) (c : ConfigNumbers) (slots : Range) (n : ℕ) (h j : SlotState SharedPort ghosts)
    → IsHostState eng c slots n h → PortFollows h.driver.port j.driver.port → IsHost c slots n n n j.driver
    → j.took_over ≡ h.took_over → is_plain j.under_way ≡ true → IsHostState eng c slots n j
state_on eng c slots n h j x follows host took plain =
    record {
      of = follows.same_lock ∙ x.of;
      passes = follows.same_passes ∙ x.passes;
      host = host;
      fresh = took ∙ x.fresh;
      plain = plain;
    }

-- what the law of hosts says of copies of two drivers, said of these
pub host_by : (c : ConfigNumbers) (slots : Range) (n : ℕ) (d e a b : Driver SharedPort ghosts) → a ≡ d → b ≡ e
    → ((released : Option ReleasedName) → DriverContinues a b released → KeepsSlotRules b
    → IsHost c slots n n n a → IsHost c slots n n n b)
    → (released : Option ReleasedName) → DriverContinues d e released → KeepsSlotRules e → IsHost c slots n n n d
    → IsHost c slots n n n e
host_by c slots n d e a b same later law released goes rules host =
    subst (λ (z : Driver SharedPort ghosts). IsHost c slots n n n z) later
    (law released
    (subst (λ (z : Driver SharedPort ghosts). DriverContinues z b released) (sym same)
    (subst (λ (z : Driver SharedPort ghosts). DriverContinues d z released) (sym later) goes))
    (subst (λ (z : Driver SharedPort ghosts). KeepsSlotRules z) (sym later) rules)
    (subst (λ (z : Driver SharedPort ghosts). IsHost c slots n n n z) (sym same) host))

-- ---- a call that is begun, or isn't

-- what the law says of each name that is released
abbrev pub GoesOn : ConfigNumbers → Range → ℕ → Driver SharedPort ghosts → Driver SharedPort ghosts → Type 0
GoesOn c slots n d e = (released : Option ReleasedName) → DriverContinues d e released → KeepsSlotRules e
    → IsHost c slots n n n d → IsHost c slots n n n e

-- a claim that was begun, or wasn't for a fault of the driver
claim_view : (h j : SlotState SharedPort ghosts) (r : Result (Claiming SharedPort ghosts) Fault)
    (told : Result ⊤ NotBegun)
    → BeginTold UnderWay.Claim r told j.under_way → j.holds ≡ h.holds → is_under_way h.under_way ≡ false
    → ((told ≡ Ok tt) × (state_view j ≡ claiming (state_view h)))
    ⊎ ((f : Fault) × (told ≡ Err (NotBegun.Fault f)) × (state_view j ≡ state_view h))
claim_view h j (Ok k) told t same idle =
    inl (t.0, λ m. record { calls = is_under_way (t.1 m); has = map is_hold (same m) })
claim_view h j (Err f) told t same idle =
    inr (
      f,
      t.0,
      (λ m. record { calls = is_under_way (t.1 m); has = map is_hold (same m) })
          ∙ (λ m. record { calls = sym idle m; has = map is_hold h.holds }),
    )

plain_claim : (u : UnderWay SharedPort ghosts) (r : Result (Claiming SharedPort ghosts) Fault)
    (told : Result ⊤ NotBegun)
    → BeginTold UnderWay.Claim r told u → is_plain u ≡ true
plain_claim u (Ok k) told t = ap is_plain t.1
plain_claim u (Err f) told t = ap is_plain t.1

-- where something bars it, or not
pub claim_asked : (h j : SlotState SharedPort ghosts) (i : ℕ) (told : Result ⊤ NotBegun) → ClaimTells h j i told
    → IsAskedOf (claim_fault i) claiming (state_view h) (state_view j) told
claim_asked h j i told x =
    record {
      barred = λ n e. let y = x.barred n (sym (claim_bar_is h i) ∙ e) in (y.0, ap state_view y.1);
      asked = λ e.
          let y = x.begins (sym (claim_bar_is h i) ∙ e) in
          claim_view h j y.answer told y.told_is y.same.1 (idle_claim i (state_view h) e);
    }

pub any_asked : (h j : SlotState SharedPort ghosts) (told : Result ⊤ NotBegun) → AnyClaimTells h j told
    → IsAskedOf any_fault claiming (state_view h) (state_view j) told
any_asked h j told x =
    record {
      barred = λ n e. let y = x.barred n e in (y.0, ap state_view y.1);
      asked = λ e.
          let y = x.begins e in
          claim_view h j y.answer told y.told_is y.same.1 (idle_any (state_view h) e);
    }

-- the host stays one, by a claim of a slot, and by one of any slot
pub claim_state : (eng : Engine) (c : ConfigNumbers) (slots : Range) (n : ℕ) (h j : SlotState SharedPort ghosts) (i : ℕ)
    (told : Result ⊤ NotBegun) → IsHostState eng c slots n h → GoesOn c slots n h.driver j.driver
    → (j.took_over ≡ false → KeepsSlotRules j.driver) → ClaimTells h j i told → IsHostState eng c slots n j
claim_state eng c slots n h j i told x law rules tells = go (claim_bar h i) refl
  where
    go : (b : Option NotBegun) → claim_bar h i ≡ b → IsHostState eng c slots n j
    go (Some why) e = subst (IsHostState eng c slots n) (sym (tells.barred why e).1) x
    go None e =
        let y = tells.begins e in
        state_on eng c slots n h j x y.goes_on.later
        (law None y.goes_on (rules (y.same.2 ∙ x.fresh)) x.host) y.same.2
        (plain_claim j.under_way y.answer told y.told_is)

pub any_state : (eng : Engine) (c : ConfigNumbers) (slots : Range) (n : ℕ) (h j : SlotState SharedPort ghosts)
    (told : Result ⊤ NotBegun) → IsHostState eng c slots n h → GoesOn c slots n h.driver j.driver
    → (j.took_over ≡ false → KeepsSlotRules j.driver) → AnyClaimTells h j told → IsHostState eng c slots n j
any_state eng c slots n h j told x law rules tells = go (any_bar h) refl
  where
    go : (b : Option NotBegun) → any_bar h ≡ b → IsHostState eng c slots n j
    go (Some why) e = subst (IsHostState eng c slots n) (sym (tells.barred why e).1) x
    go None e =
        let y = tells.begins e in
        state_on eng c slots n h j x y.goes_on.later
        (law None y.goes_on (rules (y.same.2 ∙ x.fresh)) x.host) y.same.2
        (plain_claim j.under_way y.answer told y.told_is)
