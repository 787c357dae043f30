-- Lists that agree place by place.
use Rattle.std.proofs.Common.{◌≡◌, ℕ, zero, suc, ◌+◌, ◌<◌, List, [], ◌∷◌, ◌++◌, length, take, Option, Some, None}
use Rattle.std.proofs.Common.{get_or, slice_get, refl, sym, ap, ◌∙◌, subst, arith}
use mathlib.Core.List.{reverse}
use Rattle.std.proofs.lemmas.List.{reverse-append}
use Rattle.trace.specs.Options.{Pointwise}

module _ {A : Type 0} (R : A → A → Type 0) where
  pub same_length : (xs ys : List A) → Pointwise R xs ys → length xs ≡ length ys
  same_length [] [] h = refl
  same_length [] (y ∷ ys) h = absurd h
  same_length (x ∷ xs) [] h = absurd h
  same_length (x ∷ xs) (y ∷ ys) h = ap suc (same_length xs ys h.1)

  -- what stands at one place
  pub at_place : (xs ys : List A) (i : ℕ) (x y : A) → Pointwise R xs ys → slice_get xs i ≡ Some x
      → slice_get ys i ≡ Some y → R x y
  at_place [] ys i x y h e f = absurd (let w : None ≡ Some x = e in cc)
  at_place (u ∷ xs) [] i x y h e f = absurd h
  at_place (u ∷ xs) (v ∷ ys) zero x y h e f =
      subst (λ (a : A). R a y) (there u x e) (subst (λ (b : A). R u b) (there v y f) h.0)
    where
      there : (a b : A) → Some a ≡ Some b → a ≡ b
      there a b e = cc
  at_place (u ∷ xs) (v ∷ ys) (suc i) x y h e f = at_place xs ys i x y h.1 e f

  pub one_behind : (xs ys us vs : List A) → Pointwise R xs ys → Pointwise R us vs → Pointwise R (xs ++ us) (ys ++ vs)
  one_behind [] [] us vs h g = g
  one_behind [] (y ∷ ys) us vs h g = absurd h
  one_behind (x ∷ xs) [] us vs h g = absurd h
  one_behind (x ∷ xs) (y ∷ ys) us vs h g = (h.0, one_behind xs ys us vs h.1 g)

  pub turned : (xs ys : List A) → Pointwise R xs ys → Pointwise R (reverse xs) (reverse ys)
  turned [] [] h = tt
  turned [] (y ∷ ys) h = absurd h
  turned (x ∷ xs) [] h = absurd h
  turned (x ∷ xs) (y ∷ ys) h =
      let both = one_behind (reverse xs) (reverse ys) (x ∷ []) (y ∷ []) (turned xs ys h.1) (h.0, tt) in
      subst (λ (zs : List A). Pointwise R zs (reverse (y ∷ ys))) (sym (reverse-append (x ∷ []) xs))
      (subst (λ (zs : List A). Pointwise R (reverse xs ++ x ∷ []) zs) (sym (reverse-append (y ∷ []) ys)) both)

  -- what goes with the front of a list, and with the rest
  pub parted : (xs us zs : List A) → Pointwise R (xs ++ us) zs
      → (ys vs : List A) × (zs ≡ ys ++ vs) × Pointwise R xs ys × Pointwise R us vs
  parted [] us zs h = ([], zs, refl, tt, h)
  parted (x ∷ xs) us [] h = absurd h
  parted (x ∷ xs) us (z ∷ zs) h =
      let p = parted xs us zs h.1 in
      (z ∷ p.0, p.1, ap (λ (l : List A). z ∷ l) p.2, (h.0, p.3), p.4)

  -- where it holds of equal things
  pub of_same : ((x : A) → R x x) → (xs : List A) → Pointwise R xs xs
  of_same each [] = tt
  of_same each (x ∷ xs) = (each x, of_same each xs)

  -- where it holds of equal things alone
  pub are_same : ((x y : A) → R x y → x ≡ y) → (xs ys : List A) → Pointwise R xs ys → xs ≡ ys
  are_same each [] [] h = refl
  are_same each [] (y ∷ ys) h = absurd h
  are_same each (x ∷ xs) [] h = absurd h
  are_same each (x ∷ xs) (y ∷ ys) h =
      ap (λ (a : A). a ∷ xs) (each x y h.0) ∙ ap (λ (l : List A). y ∷ l) (are_same each xs ys h.1)

  -- what stands at one place, where it is there
  pub of_place : (xs ys : List A) (i : ℕ) (x y : A) → i < length xs → i < length ys → x ≡ get_or xs i x
      → y ≡ get_or ys i y → Pointwise R xs ys → R x y
  of_place [] ys i x y l k e f h = absurd (omega (arith, l))
  of_place (u ∷ xs) [] i x y l k e f h = absurd h
  of_place (u ∷ xs) (v ∷ ys) zero x y l k e f h =
      subst (λ (a : A). R a y) (sym e) (subst (λ (b : A). R u b) (sym f) h.0)
  of_place (u ∷ xs) (v ∷ ys) (suc i) x y l k e f h =
      of_place xs ys i x y (omega (arith, l)) (omega (arith, k)) e f h.1

  -- beginnings that are one longer
  pub one_more : (xs ys : List A) (i : ℕ) (x y : A) → i < length xs → i < length ys → x ≡ get_or xs i x
      → y ≡ get_or ys i y → Pointwise R (take i xs) (take i ys) → R x y
      → Pointwise R (take (i + 1) xs) (take (i + 1) ys)
  one_more [] ys i x y l k e f h r = absurd (omega (arith, l))
  one_more (u ∷ xs) [] i x y l k e f h r = absurd (omega (arith, k))
  one_more (u ∷ xs) (v ∷ ys) zero x y l k e f h r =
      (subst (λ (a : A). R a v) e (subst (λ (b : A). R x b) f r), tt)
  one_more (u ∷ xs) (v ∷ ys) (suc i) x y l k e f h r =
      let longer : suc (i + 1) ≡ suc i + 1 = omega arith in
      subst (λ j. Pointwise R (take j (u ∷ xs)) (take j (v ∷ ys))) longer
      (h.0, one_more xs ys i x y (omega (arith, l)) (omega (arith, k)) e f h.1 r)
