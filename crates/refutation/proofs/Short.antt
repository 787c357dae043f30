-- A list of unlike numbers below n has at most n of them.
use Rattle.std.proofs.Common.{Bool, List, [], ap, arith, eqb-true, false, if◌then◌else◌, length, refl, suc, sym, true}
use Rattle.std.proofs.Common.{zero, ℕ, ◌<◌, ◌==◌, ◌≤◌, ◌∙◌, ◌∷◌, ◌≡◌}
use Rattle.std.proofs.lemmas.Bool.{eqb-false, or_from, or_parts}
use Rattle.refutation.specs.Orders.{has}

-- no number stands twice
abbrev pub Unlike : List ℕ → Type 0
Unlike [] = Unit {0}
Unlike (x ∷ xs) = (has xs x ≡ false) × Unlike xs

-- each is below n
abbrev pub Below : ℕ → List ℕ → Type 0
Below n [] = Unit {0}
Below n (x ∷ xs) = (x < n) × Below n xs

-- without a number
abbrev without : ℕ → List ℕ → List ℕ
without n [] = []
without n (x ∷ xs) = if x == n then without n xs else x ∷ without n xs

without_none : (n : ℕ) (xs : List ℕ) → has xs n ≡ false → length (without n xs) ≡ length xs
without_none n [] h = refl
without_none n (x ∷ xs) h =
    let both = or_parts (x == n) (has xs n) h in
    ap (λ b. length (if b then without n xs else x ∷ without n xs)) both.0 ∙ ap suc (without_none n xs both.1)

one_less : (n : ℕ) (xs : List ℕ) → Unlike xs → length xs ≤ suc (length (without n xs))
one_less n [] u = omega arith
one_less n (x ∷ xs) u = step (x == n) refl (one_less n xs u.1)
  where
    step : (b : Bool) → (x == n) ≡ b → length xs ≤ suc (length (without n xs))
        → suc (length xs) ≤ suc (length (if b then without n xs else x ∷ without n xs))
    step true e rest =
        let same : x ≡ n = eqb-true x n e in
        let none : has xs n ≡ false = ap (has xs) (sym same) ∙ u.0 in
        omega (arith, without_none n xs none)
    step false e rest = omega arith

still_without : (n m : ℕ) (xs : List ℕ) → has xs m ≡ false → has (without n xs) m ≡ false
still_without n m [] h = refl
still_without n m (x ∷ xs) h = step (x == n) (still_without n m xs (or_parts (x == m) (has xs m) h).1)
  where
    step : (b : Bool) → has (without n xs) m ≡ false → has (if b then without n xs else x ∷ without n xs) m ≡ false
    step true rest = rest
    step false rest = or_from _ _ (or_parts (x == m) (has xs m) h).0 rest

still_unlike : (n : ℕ) (xs : List ℕ) → Unlike xs → Unlike (without n xs)
still_unlike n [] u = tt
still_unlike n (x ∷ xs) u = step (x == n) (still_unlike n xs u.1)
  where
    step : (b : Bool) → Unlike (without n xs) → Unlike (if b then without n xs else x ∷ without n xs)
    step true rest = rest
    step false rest = (still_without n x xs u.0, rest)

below_without : (n : ℕ) (xs : List ℕ) → Below (suc n) xs → Below n (without n xs)
below_without n [] l = tt
below_without n (x ∷ xs) l = step (x == n) refl (below_without n xs l.1)
  where
    step : (b : Bool) → (x == n) ≡ b → Below n (without n xs) → Below n (if b then without n xs else x ∷ without n xs)
    step true e rest = rest
    step false e rest =
        let other : x ≡ n → ⊥ = eqb-false x n e in
        let less : x < suc n = l.0 in
        (omega arith, rest)

pub short : (n : ℕ) (xs : List ℕ) → Unlike xs → Below n xs → length xs ≤ n
short zero [] u l = omega arith
short zero (x ∷ xs) u l = absurd (let no : x < 0 = l.0 in omega arith)
short (suc n) xs u l =
    let fewer : length (without n xs) ≤ n = short n (without n xs) (still_unlike n xs u) (below_without n xs l) in
    let one : length xs ≤ suc (length (without n xs)) = one_less n xs u in
    omega arith
