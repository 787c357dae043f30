-- Lists as tables, and the rings of queues that are there.
use Rattle.std.proofs.Common.{◌≡◌, ◌≢◌, ℕ, suc, ◌+◌, ◌≤◌, ◌<◌, ◌==◌, ◌||◌, false, List, get_or}
use Rattle.std.proofs.Common.{sym, ap, ◌∙◌, arith, nat_lt, ne_eqb}
use Rattle.std.proofs.lemmas.Bool.{or_from}
use Rattle.std.proofs.lemmas.Bool.Decides.{nat_tests}
use Rattle.rings.specs.Tables.{IsTable}

-- ---- tables

-- ---- queues

-- the queue at this place, of so many
pub record IsPlace (n q i : ℕ) : Type 0 where
  pub next : i + 1 ≡ q
  pub within : i < n

-- there is such a queue
pub there : (n q i : ℕ) → IsPlace n q i → ((q == 0) || nat_lt n q) ≡ false
there n q i p = or_from _ _ (ne_eqb q 0 (λ e. omega (arith, e, p.next)))
    (not_above n q (omega (arith, p.next, p.within)))
  where
    not_above : (n q : ℕ) → q ≤ n → nat_lt n q ≡ false
    not_above n q l = grind (arith, nat_tests)

-- its ring
pub ring_at : {X : Type 0} (f : ℕ → X) (n q i : ℕ) (xs : List X) (x : X) → IsTable (λ k. f (suc k)) n xs → IsPlace n q i
    → x ≡ get_or xs i x → x ≡ f q
ring_at f n q i xs x t p e =
    let same : suc i ≡ q = omega (arith, p.next) in
    e ∙ t.at i x p.within ∙ ap f same

-- another ring is of another queue
pub apart : (n q i k : ℕ) → IsPlace n q i → k ≢ i → q ≢ suc k
apart n q i k p ne e = ne (omega (arith, e, p.next))

-- one ring is at one place
pub one_ring : {X : Type 0} (f : ℕ → X) (n q i : ℕ) (xs : List X) (x y : X) → IsTable (λ k. f (suc k)) n xs
    → IsPlace n q i → x ≡ get_or xs i x → y ≡ get_or xs i y → x ≡ y
one_ring f n q i xs x y t p e h = ring_at f n q i xs x t p e ∙ sym (ring_at f n q i xs y t p h)
