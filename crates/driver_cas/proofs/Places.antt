-- Where the CIDs of submission queues are, 64 of each.
use Rattle.std.proofs.Common.{Bool, Contains, IsSome, List, None, Option, Some, add-one, ap, arith, cond, false, get_or}
use Rattle.std.proofs.Common.{inl, inr, length, ltb-true, nat_lt, refl, slice_index, suc, sym, true, zero, ℕ, ◌*◌, ◌+◌}
use Rattle.std.proofs.Common.{◌<◌, ◌==◌, ◌≡◌, ◌≤◌, ◌∙◌}
use Rattle.std.proofs.lemmas.Bool.{cases_lt}
use Rattle.std.proofs.lemmas.Bool.Decides.{nat_tests}
use Rattle.std.proofs.lemmas.Grind.{get_or_default_zero}
use Rattle.std.proofs.lemmas.List.Quantifiers.{position-Some}
use Rattle.std.proofs.lemmas.List.Sums.{fails_before_first}
use Rattle.std.specs.List.{position}
use Rattle.std.specs.List.Sorted.{IsStrictlyIncreasing}
use Rattle.std.specs.Option.{option_map}
use Rattle.driver_cas.specs.Cids.{place_of}

-- ---- places

-- the place of a CID of the k-th queue
pub record IsPlace (queues : List ℕ) (queue cid place : ℕ) : Type 0 where
  pub k : ℕ
  pub within : k < length queues
  pub named : get_or queues k 0 ≡ queue
  pub below : cid < 64
  pub at : place ≡ 64 * k + cid

-- a place is one of a queue and a CID
pub place_parts : (queues : List ℕ) (queue cid place : ℕ) → place_of queues queue cid ≡ Some place
    → IsPlace queues queue cid place
place_parts queues queue cid place e = go (nat_lt cid 64) refl (position (λ q. q == queue) queues) refl e
  where
    go : (b : Bool) → nat_lt cid 64 ≡ b → (o : Option ℕ) → position (λ q. q == queue) queues ≡ o
        → cond b (option_map (λ k. 64 * k + cid) o) None ≡ Some place → IsPlace queues queue cid place
    go false t o p f = absurd (let g : None ≡ Some place = f in cc)
    go true t None p f = absurd (let g : None ≡ Some place = f in cc)
    go true t (Some k) p f =
        let g : Some (64 * k + cid) ≡ Some place = f in
        let found = position-Some (λ q. q == queue) queues k 0 p in
        let passes : (get_or queues k 0 == queue) ≡ true = found.1 in
        record { k = k; within = found.0; named = grind (arith, nat_tests); below = ltb-true cid 64 t; at = cc }

-- each queue and CID has a place of its own
pub place_unlike : (queues : List ℕ) (q r i j place : ℕ) → IsPlace queues q i place → IsPlace queues r j place
    → (q ≡ r) × (i ≡ j)
place_unlike queues q r i j place a b =
    let below = a.below in
    let below' = b.below in
    let at : place ≡ 64 * a.k + i = a.at in
    let at' : place ≡ 64 * b.k + j = b.at in
    let same : a.k ≡ b.k = omega arith in
    (sym a.named ∙ ap (λ k. get_or queues k 0) same ∙ b.named, omega arith)

-- a queue with a place is one of them
pub place_known : (queues : List ℕ) (queue cid place : ℕ) → place_of queues queue cid ≡ Some place
    → Contains queues queue
place_known queues queue cid place e =
    let p = place_parts queues queue cid place e in
    (p.k, p.within, get_or_default_zero queues p.k queue p.within ∙ p.named)

-- a place is among 64 of each
pub place_within : (queues : List ℕ) (queue cid place : ℕ) → place_of queues queue cid ≡ Some place
    → place < 64 * length queues
place_within queues queue cid place e =
    let p = place_parts queues queue cid place e in
    omega (arith, p.within, p.below, p.at)

-- each CID of a queue has a place
pub place_there : (queues : List ℕ) (queue cid : ℕ) → Contains queues queue → cid < 64
    → IsSome (place_of queues queue cid)
place_there queues queue cid (k, within, named) below = go (nat_lt cid 64) refl (position (λ q. q == queue) queues) refl
  where
    go : (b : Bool) → nat_lt cid 64 ≡ b → (o : Option ℕ) → position (λ q. q == queue) queues ≡ o
        → IsSome (cond b (option_map (λ k. 64 * k + cid) o) None)
    go false t o p = absurd (grind (arith, nat_tests))
    go true t None p = absurd (grind (arith, nat_tests, fails_before_first (λ q. q == queue) queues k queue))
    go true t (Some k) p = refl

-- the CIDs of a queue are side by side
pub place_beside : (queues : List ℕ) (queue cid start : ℕ) → place_of queues queue 0 ≡ Some start → cid < 64
    → place_of queues queue cid ≡ Some (start + cid)
place_beside queues queue cid start e below = go (nat_lt cid 64) refl (position (λ q. q == queue) queues) e
  where
    go : (b : Bool) → nat_lt cid 64 ≡ b → (o : Option ℕ) → option_map (λ k. 64 * k + 0) o ≡ Some start
        → cond b (option_map (λ k. 64 * k + cid) o) None ≡ Some (start + cid)
    go false t o f = absurd (grind (arith, nat_tests))
    go true t None f = absurd (let g : None ≡ Some start = f in cc)
    go true t (Some k) f =
        let g : Some (64 * k + 0) ≡ Some start = f in
        let h : 64 * k + 0 ≡ start = cc in
        ap Some (omega arith)

-- ---- rising queues

-- so many are below the one at a place
rises : (queues : List ℕ) → IsStrictlyIncreasing queues → (k : ℕ) → k < length queues → k ≤ slice_index queues k
rises queues r zero h = omega arith
rises queues r (suc k) h =
    let before = rises queues r k (omega (arith, h)) in
    let next : slice_index queues k < slice_index queues (k + 1) = r k (omega (arith, h)) in
    rw (← add-one) (omega arith)

-- there are no more of them than numbers of 16 bits
pub few : (queues : List ℕ) → IsStrictlyIncreasing queues → ((k : ℕ) → k < length queues → slice_index queues k < 65536)
    → length queues ≤ 65536
few queues r fits = elim (cases_lt 65536 (length queues)) [
  | inl more ↦ absurd (omega (arith, rises queues r 65536 more, fits 65536 more))
  | inr most ↦ most
]
