-- How many claims of a slot each call publishes.
use Rattle.std.proofs.Common.{Bool, List, arith, cond, eq-eqb, eqb, eqb-true, false, inl, inr, refl, suc, true, ℕ, ◌+◌}
use Rattle.std.proofs.Common.{ap, subst, ◌∙◌, ◌∷◌, ◌<◌, ◌≡◌, ◌≤◌}
use Rattle.std.proofs.lemmas.Bool.{cases_Bool, eqb-false}
use Rattle.driver_calls.specs.declared.event.PortEvent.{PortEvent}
use Rattle.driver_cas.specs.Drivers.{IsOneMore, area_of, made}
use Rattle.driver_cas.specs.declared.call.Call.{Call}
use Rattle.driver_cas.specs.declared.driver.Driver.{Driver}
use Rattle.driver_cas.specs.declared.port.Port.{Ghosts}
use Rattle.slot_log_laws.proofs.Counting.{claim_counted, release_counted}
use Rattle.slot_log_laws.specs.Counts.{log_claims}
use Rattle.slot_alloc.specs.Areas.{block_of, claim_serial, slot_of}
use Rattle.slot_alloc.specs.Counts.{AddsNoClaim, IsBehind, claims_made}
use Rattle.slot_alloc.specs.SlotRules.{own_name}
use Rattle.slot_alloc.specs.declared.claim.Claim.{Claim}
use Rattle.slot_alloc.specs.declared.claiming.ClaimStage.{ClaimStage}
use Rattle.slot_alloc.proofs.GivingBack.{Releases}
use Rattle.slot_alloc.proofs.Polling.{Polls}
use Rattle.slot_alloc.proofs.Starting.{Claims, name_is}

-- two slots of an area are one where their blocks are
same_slot : (first i j : ℕ) → eqb (first + i) (first + j) ≡ eqb i j
same_slot first i j = go (eqb i j) refl
  where
    go : (b : Bool) → eqb i j ≡ b → eqb (first + i) (first + j) ≡ b
    go true z = eq-eqb (first + i) (first + j) (ap (λ (n : ℕ). first + n) (eqb-true i j z))
    go false z = elim (cases_Bool (eqb (first + i) (first + j))) [
      | inl e ↦
          let same = eqb-true (first + i) (first + j) e in
          absurd (eqb-false i j z (omega (arith, same)))
      | inr e ↦ e
    ]

-- a slot below the one of a claim isn't claimed by it
pub not_counted : (i slot n m : ℕ) → i < slot → n ≡ cond (eqb slot i) (suc m) m → n ≡ m
not_counted i slot n m less h = go (eqb slot i) refl h
  where
    go : (b : Bool) → eqb slot i ≡ b → n ≡ cond b (suc m) m → n ≡ m
    go true z h = let same = eqb-true slot i z in absurd (omega (arith, less, same))
    go false z h = h

-- after a completion a log has as many claims
counts_more : (log more : List PortEvent) (l : ℕ) → IsOneMore log more → log_claims more l ≡ log_claims log l
counts_more log more l (inl e) = ap (λ (xs : List PortEvent). log_claims xs l) e
counts_more log more l (inr e) = ap (λ (xs : List PortEvent). log_claims xs l) e.2

module _ {P : Type 0} (g : Ghosts P) where
  -- nothing was published
  pub counts_same : (d e : Driver P g) → area_of e ≡ area_of d → made e ≡ made d → AddsNoClaim d e
  counts_same d e slots m = λ j i. log_claims (m i) (block_of (slots i) j)

  -- a claim was begun
  pub counts_claimed : (d e : Driver P g) (slot : ℕ) (k : Call P) (serial : ℕ)
      → Claims g d e (block_of (area_of d) slot) k serial
      → (j : ℕ) → claims_made e j ≡ cond (eqb slot j) (suc (claims_made d j)) (claims_made d j)
  counts_claimed d e slot k serial c j =
      let s = c.start.2 in
      let p : claims_made e j ≡ log_claims (PortEvent.Sent k.queue s.batch ∷ made d) (block_of (area_of d) j) =
      λ i. log_claims (s.published i) (block_of (c.settings.slots i) j) in
      p ∙ (claim_counted (made d) k.queue (block_of (area_of d) slot) k.first k.second (own_name d serial) s.batch
      (block_of (area_of d) j) (name_is g d e (block_of (area_of d) slot) k serial c) s.is
      ∙ ap (λ (b : Bool). cond b (suc (claims_made d j)) (claims_made d j)) (same_slot (area_of d).slba slot j))

  -- a release was begun
  pub counts_released : (d e : Driver P g) (c : Claim) (k : Call P) → Releases g d e c k → AddsNoClaim d e
  counts_released d e c k x = λ j.
      let s = x.start in
      let p : claims_made e j ≡ log_claims (PortEvent.Sent k.queue s.batch ∷ made d) (block_of (area_of d) j) =
      λ i. log_claims (s.published i) (block_of (x.same.slots i) j) in
      p ∙ release_counted (made d) k.queue (block_of (area_of d) (slot_of c)) k.first k.second
      (own_name d (claim_serial c)) s.batch (block_of (area_of d) j) x.held.name s.is

  -- a call was polled
  pub counts_polled : (d e : Driver P g) → Polls g d e → AddsNoClaim d e
  counts_polled d e x = λ j.
      let p : claims_made e j ≡ log_claims (made e) (block_of (area_of d) j) =
      λ i. log_claims (made e) (block_of (x.same.slots i) j) in
      p ∙ counts_more (made d) (made e) (block_of (area_of d) j) x.one

  -- the slot is one behind the claim that is begun, or is due
  pub behind_asked : (i slot : ℕ) (call : Call P) (serial : ℕ) (s : ClaimStage P) → s ≡ ClaimStage.Asked call serial
      → IsBehind i slot s → i ≤ slot
  behind_asked i slot call serial s is h = subst (λ (t : ClaimStage P). IsBehind i slot t) is h

  pub behind_due : (i slot : ℕ) (s : ClaimStage P) → s ≡ ClaimStage.Due → IsBehind i slot s → i < slot
  behind_due i slot s is h = subst (λ (t : ClaimStage P). IsBehind i slot t) is h
