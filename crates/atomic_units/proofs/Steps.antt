-- The cut, one unit at a time.
use Rattle.std.proofs.Common.{◌≡◌, ℕ, zero, suc, ◌+◌, ◌-◌, ◌≤◌, List, ◌∷◌, refl, ap, arith}
use Rattle.nvme_model.specs.Cut.{IsCut, cut, cut_within, longest}
use Rattle.nvme_model.specs.declared.array.Range.{Range}
use Rattle.nvme_model.specs.declared.config.AtomicParameters.{AtomicParameters}
use Rattle.nvme_model.proofs.Cut.{atomic_parts, cut-is, longest_facts}

pub longest_some : (u : AtomicParameters) (s n : ℕ) → 1 ≤ n → 1 ≤ longest u s n
longest_some u s zero l = absurd (omega (arith, l))
longest_some u s (suc n) l = (atomic_parts u s (longest u s (suc n)) (longest_facts u s n).atomic).some

pub longest_within : (u : AtomicParameters) (s n : ℕ) → longest u s n ≤ n
longest_within u s zero = omega arith
longest_within u s (suc n) = (longest_facts u s n).within

-- a higher limit on the number of units changes nothing
within_more : (k m : ℕ) (u : AtomicParameters) (s n : ℕ) → n ≤ k → n ≤ m → cut_within k u s n ≡ cut_within m u s n
within_more k m u s zero a b = refl
within_more zero m u s (suc n) a b = absurd (omega (arith, a))
within_more (suc k) zero u s (suc n) a b = absurd (omega (arith, b))
within_more (suc k) (suc m) u s (suc n) a b =
    let some : 1 ≤ longest u s (suc n) = longest_some u s (suc n) (omega arith) in
    ap (λ (rs : List Range). record { slba = s; blocks = longest u s (suc n) } ∷ rs)
    (within_more k m u (s + longest u s (suc n)) (suc n - longest u s (suc n)) (omega (arith, a, some))
    (omega (arith, b, some)))

-- the first unit, and the cut of what it leaves
pub cut_step : (u : AtomicParameters) (s n : ℕ) → 1 ≤ n
    → cut u s n ≡ record { slba = s; blocks = longest u s n } ∷ cut u (s + longest u s n) (n - longest u s n)
cut_step u s zero l = absurd (omega (arith, l))
cut_step u s (suc n) l =
    let some : 1 ≤ longest u s (suc n) = longest_some u s (suc n) l in
    ap (λ (rs : List Range). record { slba = s; blocks = longest u s (suc n) } ∷ rs)
    (within_more n (suc n - longest u s (suc n)) u (s + longest u s (suc n)) (suc n - longest u s (suc n))
    (omega (arith, some)) (omega arith))

-- the list that is the cut keeps its law
pub is_cut : (u : AtomicParameters) (s n : ℕ) (rs : List Range) → rs ≡ cut u s n → IsCut u s n rs
is_cut u s n rs e = rw e (cut-is u s n)
