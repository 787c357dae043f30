-- How many bytes two lists both begin with.
use Rattle.std.proofs.Common.{◌≡◌, ℕ, zero, suc, ◌<◌, ◌≤◌, Bool, true, false, cond, List, [], ◌∷◌, drop, length, refl}
use Rattle.std.proofs.Common.{arith, eqb, bytes_eq}
use Rattle.std.proofs.lemmas.Slice.Eq.{bytes_eq-Decides}
use Rattle.std.proofs.lemmas.Bool.{eqb-true}
use Rattle.broken_rules.specs.Unlike.{first_apart}

none_shared : (zs : List ℕ) → first_apart zs [] ≡ 0
none_shared [] = refl
none_shared (z ∷ zs) = refl

pub apart_short : (xs ys : List ℕ) (n : ℕ) → length ys ≤ n → first_apart (drop n xs) (drop n ys) ≡ 0
apart_short [] ys zero l = refl
apart_short [] ys (suc n) l = refl
apart_short (x ∷ xs) [] zero l = refl
apart_short (x ∷ xs) [] (suc n) l = none_shared (drop n xs)
apart_short (x ∷ xs) (y ∷ ys) zero l = absurd (omega (arith, l))
apart_short (x ∷ xs) (y ∷ ys) (suc n) l = apart_short xs ys n (omega (arith, l))

-- lists of one length that aren't one part before their end
pub apart_inside : (xs ys : List ℕ) → length xs ≡ length ys → (xs ≡ ys → ⊥) → first_apart xs ys < length xs
apart_inside [] [] e h = absurd (h refl)
apart_inside [] (y ∷ ys) e h = absurd (omega (arith, e))
apart_inside (x ∷ xs) [] e h = absurd (omega (arith, e))
apart_inside (x ∷ xs) (y ∷ ys) e h = by (eqb x y) refl (apart_inside xs ys (omega (arith, e)))
  where
    by : (b : Bool) → eqb x y ≡ b → ((xs ≡ ys → ⊥) → first_apart xs ys < length xs)
        → cond b (suc (first_apart xs ys)) 0 < suc (length xs)
    by false p ih = omega arith
    by true p ih = omega (arith, ih (λ (q : xs ≡ ys). h (let r : x ≡ y = eqb-true x y p in cc)))

pub parts : (xs ys : List ℕ) → length xs ≡ length ys → bytes_eq xs ys ≡ false → first_apart xs ys < length xs
parts xs ys e h = apart_inside xs ys e
    (λ (q : xs ≡ ys). let t : bytes_eq xs ys ≡ true = (bytes_eq-Decides xs ys).1 q in let f : true ≡ false = cc in cc)
