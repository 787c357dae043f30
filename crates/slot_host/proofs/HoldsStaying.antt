-- What a host has stays so over what its driver goes on to do.
use Rattle.std.proofs.Common.{Bool, List, None, Option, Some, [], ap, append_assoc, arith, eqb, false}
use Rattle.std.proofs.Common.{not, refl, subst, suc, sym, true, ℕ, ◌&&◌, ◌++◌, ◌+◌, ◌∙◌, ◌∷◌, ◌<◌, ◌≡◌, ◌≢◌}
use Rattle.std.specs.Prelude.{slice_get}
use Rattle.plain_lemmas.proofs.Numbers.{unlike}
use Rattle.nvme_model.specs.Slots.{Name, same_name}
use Rattle.nvme_model.specs.declared.array.Range.{Range}
use Rattle.nvme_model.specs.declared.submission.Submission.{Submission}
use Rattle.driver_calls.specs.declared.event.PortEvent.{PortEvent}
use Rattle.driver_cas.specs.Drivers.{area_of, made}
use Rattle.slot_log_laws.proofs.Staying.{success_got}
use Rattle.slot_log_laws.specs.Calls.{IsName, IsSentAs}
use Rattle.slot_log_laws.specs.Swaps.{log_believed, log_success}
use Rattle.slot_alloc.proofs.Asking.{inside_of}
use Rattle.slot_alloc.specs.Areas.{block_of, claim_serial, slot_of}
use Rattle.slot_alloc.specs.Claims.{IsHeldBy}
use Rattle.slot_alloc.specs.SlotRules.{DriverContinues, ReleasedName, is_another, own_name}
use Rattle.slot_alloc.specs.declared.claim.Claim.{Claim}
use Rattle.slot_takeover.specs.Takeovers.{HoldsTaken, IsTakeoverBatch, held_serial, slot_held}
use Rattle.slot_takeover.specs.declared.held.HeldSlot.{HeldSlot}
use Rattle.slot_host.specs.SlotStates.{AreHolds, IsHoldAt}
use Rattle.slot_host.specs.declared.hold.Hold.{Hold}
use Rattle.driver_cas.specs.declared.driver.Driver.{Driver}
use Rattle.driver_cas.specs.declared.port.Port.{Ghosts}

-- ---- what a log says, and a longer one

success_later : (more log : List PortEvent) (q j : ℕ) → log_success log q j ≡ true
    → log_success (more ++ log) q j ≡ true
success_later [] log q j h = h
success_later (PortEvent.Sent p batch ∷ more) log q j h = success_later more log q j h
success_later (PortEvent.Got cqe payload ∷ more) log q j h =
    success_got (more ++ log) cqe payload q j (success_later more log q j h)

sent_later : (more log : List PortEvent) (q j : ℕ) (batch : List Submission) → IsSentAs log q j batch
    → IsSentAs (more ++ log) q j batch
sent_later more log q j batch x =
    record {
      later = more ++ x.later;
      before = x.before;
      whole = append_assoc more x.later (PortEvent.Sent q batch ∷ x.before)
          ∙ ap (λ (xs : List PortEvent). more ++ xs) x.whole;
      number = x.number;
    }

-- ---- two slots

another_slot : (slots : Range) (s i : ℕ) (n m : Name) → i ≢ s
    → is_another (Some (block_of slots s, n)) (block_of slots i) m ≡ true
another_slot slots s i n m apart =
    let a : eqb (block_of slots s) (block_of slots i) ≡ false =
    unlike (slots.slba + s) (slots.slba + i) (λ e. apart (omega (arith, e))) in
    ap (λ (b : Bool). not (b && same_name n m)) a

is_nothing : (k : Hold) → Some k ≡ Some Hold.Nothing → k ≡ Hold.Nothing
is_nothing k h = cc

module _ {P : Type 0} {g : Ghosts P} where
  -- ---- one slot

  pub claim_stays : (d e : Driver P g) (r : Option ReleasedName) (c : Claim) → DriverContinues d e r
      → is_another r (block_of (area_of d) (slot_of c)) (own_name d (claim_serial c)) ≡ true → IsHeldBy d c
      → IsHeldBy e c
  claim_stays d e r c x other of =
      record {
        inside = subst (λ (s : Range). slot_of c < s.blocks) (sym x.settings.slots) of.inside;
        name = subst (λ (n : ℕ). IsName (record { host = n; serial = claim_serial c })) (sym x.settings.host) of.name;
        drawn = omega (arith, of.drawn, x.drawn);
        believed =
            let p : log_believed (made e) (block_of (area_of e) (slot_of c)) (own_name e (claim_serial c))
            ≡ log_believed (made e) (block_of (area_of d) (slot_of c)) (own_name d (claim_serial c)) =
            λ i. log_believed (made e) (block_of (x.settings.slots i) (slot_of c))
            (record { host = x.settings.host i; serial = claim_serial c }) in
            p ∙ x.log.believed (block_of (area_of d) (slot_of c)) (own_name d (claim_serial c))
            (inside_of (area_of d) (slot_of c) of.inside) other of.believed;
      }

  pub taken_stays : (d e : Driver P g) (r : Option ReleasedName) (h : HeldSlot) → DriverContinues d e r → HoldsTaken d h
      → HoldsTaken e h
  taken_stays d e r h x of =
      record {
        inside = subst (λ (s : Range). slot_held h < s.blocks) (sym x.settings.slots) of.inside;
        drawn = omega (arith, of.drawn, x.drawn);
        queue = of.queue;
        first = of.first;
        second = of.second;
        number = of.number;
        dead = of.dead;
        batch = of.batch;
        name = subst (λ (n : ℕ). IsName (record { host = n; serial = held_serial h })) (sym x.settings.host) of.name;
        dead_name = of.dead_name;
        apart = subst (λ (n : ℕ). eqb of.dead.host n ≡ false) (sym x.settings.host) of.apart;
        is = subst (λ (z : ℕ × Range).
            IsTakeoverBatch (block_of z.1 (slot_held h)) of.first of.second of.dead
            (record { host = z.0; serial = held_serial h }) of.batch)
            (λ i. (sym x.settings.host i, sym x.settings.slots i)) of.is;
        sent_as = subst (λ (log : List PortEvent). IsSentAs log of.queue of.number of.batch) (sym x.log.more)
            (sent_later x.log.log (made d) of.queue of.number of.batch of.sent_as);
        success = ap (λ (log : List PortEvent). log_success log of.queue (suc of.number)) x.log.more
            ∙ success_later x.log.log (made d) of.queue (suc of.number) of.success;
      }

  -- ---- each slot

  -- what is released, if anything is, isn't the claim of what the host has at slot i
  abbrev pub IsOther : Option ReleasedName → Driver P g → ℕ → Hold → Type 0
  IsOther r d i (Hold.Claimed k) =
      is_another r (block_of (area_of d) i) (own_name d (claim_serial k.claim)) ≡ true
  IsOther r d i _ = Unit {0}

  hold_stays : (d e : Driver P g) (r : Option ReleasedName) (took later : Bool) (i : ℕ) (k : Hold)
      → DriverContinues d e r → (took ≡ true → later ≡ true) → IsOther r d i k → IsHoldAt d took i k
      → IsHoldAt e later i k
  hold_stays d e r took later i Hold.Nothing x so other of = tt
  hold_stays d e r took later i (Hold.Claimed k) x so other of =
      let n = own_name d (claim_serial k.claim) in
      let here = subst (λ (j : ℕ). is_another r (block_of (area_of d) j) n ≡ true) (sym of.0) other in
      (of.0, claim_stays d e r k.claim x here of.1)
  hold_stays d e r took later i (Hold.TakenOver k) x so other of =
      (of.0, so of.1, taken_stays d e r k.held x of.2)

  none_released : (d : Driver P g) (i : ℕ) (k : Hold) → IsOther None d i k
  none_released d i Hold.Nothing = tt
  none_released d i (Hold.Claimed k) = refl
  none_released d i (Hold.TakenOver k) = tt

  -- where nothing is released
  pub holds_stay : (d e : Driver P g) (took later : Bool) (holds : List Hold) → DriverContinues d e None
      → (took ≡ true → later ≡ true) → AreHolds d took holds → AreHolds e later holds
  holds_stay d e took later holds x so of i k h =
      hold_stays d e None took later i k x so (none_released d i k) (of i k h)

  -- where the name of slot s is, at which the host has nothing any more
  pub holds_stay_released : (d e : Driver P g) (s : ℕ) (n : Name) (took : Bool) (holds : List Hold)
      → DriverContinues d e (Some (block_of (area_of d) s, n)) → slice_get holds s ≡ Some Hold.Nothing
      → AreHolds d took holds → AreHolds e took holds
  holds_stay_released d e s n took holds x nothing of i k h = go k h (of i k h)
    where
      go : (k : Hold) → slice_get holds i ≡ Some k → IsHoldAt d took i k → IsHoldAt e took i k
      go Hold.Nothing h o = tt
      go (Hold.Claimed c) h o =
          hold_stays d e (Some (block_of (area_of d) s, n)) took took i (Hold.Claimed c) x (λ t. t)
          (another_slot (area_of d) s i n (own_name d (claim_serial c.claim)) (λ (same : i ≡ s).
          let z : Some (Hold.Claimed c) ≡ Some Hold.Nothing =
          sym h ∙ (ap (slice_get holds) same ∙ nothing) in
          let w : Hold.Claimed c ≡ Hold.Nothing = is_nothing (Hold.Claimed c) z in cc)) o
      go (Hold.TakenOver t) h o =
          hold_stays d e (Some (block_of (area_of d) s, n)) took took i (Hold.TakenOver t) x (λ t. t) tt o
