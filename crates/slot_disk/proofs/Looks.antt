-- What is seen of a disk's hosts, and what they have.
use Rattle.std.proofs.Common.{Bool, List, None, Option, Some, [], arith, cond, eq-eqb, eqb, false, refl, suc, true}
use Rattle.std.proofs.Common.{zero, ℕ, ◌+◌, ◌-◌, ◌<◌, ◌∷◌, ◌≡◌, ◌≢◌, ◌≤◌, length}
use Rattle.std.specs.Prelude.{map, slice_get}
use Rattle.nvme_model.specs.declared.array.Range.{Range}
use Rattle.nvme_model.specs.declared.config.ConfigNumbers.{ConfigNumbers}
use Rattle.nvme_model.proofs.Cut.{clash}
use Rattle.driver_cas.specs.contracts.shared_port.SharedPortPort.TheImpl.{ghosts}
use Rattle.driver_cas.specs.declared.shared_port.SharedPort.{SharedPort}
use Rattle.slot_host.specs.Begins.{is_hold}
use Rattle.slot_host.specs.SlotHosts.{slot_state}
use Rattle.slot_host.specs.declared.hold.Hold.{Hold}
use Rattle.slot_host.specs.declared.slot_host.SlotHost.{SlotHost}
use Rattle.slot_disk.specs.Hosts.{host_view, views}
use Rattle.slot_disk.specs.Views.{disk_of, has, has_slot, host_in, is_had_by, is_so}

-- one is there at each place below the count
pub there : {A : Type 0} (xs : List A) (k : ℕ) → k < length xs → (x : A) × (slice_get xs k ≡ Some x)
there [] k h = absurd (omega (arith, h))
there (x ∷ xs) zero h = (x, refl)
there (x ∷ xs) (suc k) h = there xs k (omega (arith, h))

-- a slot that is had is one of the holds
had_hold : (holds : List Hold) (i : ℕ) → is_so (slice_get (map is_hold holds) i) ≡ true
    → (k : Hold) × (slice_get holds i ≡ Some k) × (is_hold k ≡ true)
had_hold [] i h = clash false h refl
had_hold (k ∷ ks) zero h = (k, refl, h)
had_hold (k ∷ ks) (suc i) h = had_hold ks i h

-- a host that has a slot is one of the hosts
had_host : (hs : List (SlotHost SharedPort ghosts)) (k i : ℕ) → is_had_by (slice_get (views hs) k) i ≡ true
    → (s : SlotHost SharedPort ghosts) × (slice_get hs k ≡ Some s) × (has_slot (host_view s) i ≡ true)
had_host [] k i h = clash false h refl
had_host (s ∷ hs) zero i h = (s, refl, h)
had_host (s ∷ hs) (suc k) i h = had_host hs k i h

-- A host that has a slot, and its hold of it.
pub record Has (hs : List (SlotHost SharedPort ghosts)) (h i : ℕ) : Type 0 where
  pub some : 1 ≤ h
  pub host : SlotHost SharedPort ghosts
  pub host_is : slice_get hs (h - 1) ≡ Some host
  pub hold : Hold
  pub hold_is : slice_get (slot_state host).holds i ≡ Some hold
  pub held : is_hold hold ≡ true

pub what_has : (c : ConfigNumbers) (slots : Range) (hs : List (SlotHost SharedPort ghosts)) (h i : ℕ)
    → has (disk_of c slots (views hs)) h i ≡ true → Has hs h i
what_has c slots hs h i e = go (eqb h 0) refl e
  where
    found : (1 ≤ h) → is_had_by (slice_get (views hs) (h - 1)) i ≡ true → Has hs h i
    found some x =
        let s = had_host hs (h - 1) i x in
        let k = had_hold (slot_state s.0).holds i s.2 in
        record { some = some; host = s.0; host_is = s.1; hold = k.0; hold_is = k.1; held = k.2 }

    go : (b : Bool) → eqb h 0 ≡ b
        → is_had_by (cond b None (slice_get (views hs) (h - 1))) i ≡ true → Has hs h i
    go true z x = clash false x refl
    go false z x =
        let apart : h ≢ 0 = λ f. clash (eqb h 0) (eq-eqb h 0 f) z in
        found (omega (arith, apart)) x
