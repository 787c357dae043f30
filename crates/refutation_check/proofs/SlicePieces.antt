-- Lists that are made of a slice's effects one by one.
use Rattle.std.proofs.Common.{Bool, List, [], ap, arith, cond, false, get_or, length, map, suc, sym, take, true, ℕ}
use Rattle.std.proofs.Common.{◌++◌, ◌+◌, ◌<◌, ◌∙◌, ◌∷◌, ◌≡◌}
use Rattle.std.proofs.lemmas.List.{length-map, length-take, map-append, map_more}
use Rattle.refutation.specs.Pieces.{Piece}
use Rattle.refutation.specs.EffectOrders.{EffectName}
use Rattle.refutation.specs.Slices.{numbers_where}
use Rattle.refutation_check.specs.Commands.{name_of}
use Rattle.refutation_check.specs.declared.order.Effect.{Effect}

with_first : (b : Bool) (n : ℕ) (xs ys zs : List ℕ) → xs ≡ ys ++ zs → cond b (n ∷ xs) xs ≡ cond b (n ∷ ys) ys ++ zs
with_first true n xs ys zs e = ap (λ (ms : List ℕ). n ∷ ms) e
with_first false n xs ys zs e = e

-- the numbers of one more effect, at the end
numbers_at_end : (test : EffectName → Bool) (n : ℕ) (xs : List EffectName) (x : EffectName)
    → numbers_where test n (xs ++ x ∷ []) ≡ numbers_where test n xs ++ cond (test x) ((n + length xs) ∷ []) []
numbers_at_end test n [] x = ap (λ (m : ℕ). cond (test x) (m ∷ []) []) same
  where
    same : n ≡ n + 0
    same = omega arith
numbers_at_end test n (y ∷ xs) x =
    with_first (test y) n (numbers_where test (suc n) (xs ++ x ∷ [])) (numbers_where test (suc n) xs)
    (cond (test x) ((n + suc (length xs)) ∷ []) [])
    (numbers_at_end test (suc n) xs x
    ∙ ap (λ (m : ℕ). numbers_where test (suc n) xs ++ cond (test x) (m ∷ []) []) same)
  where
    same : suc n + length xs ≡ n + suc (length xs)
    same = omega arith

-- the numbers of the first so many effects, and of one more
pub numbers_more : (test : EffectName → Bool) (xs : List Effect) (i : ℕ) (d : Effect) → i < length xs
    → numbers_where test 0 (map name_of (take (i + 1) xs))
    ≡ numbers_where test 0 (map name_of (take i xs)) ++ cond (test (name_of (get_or xs i d))) (i ∷ []) []
numbers_more test xs i d l =
    let long : 0 + length (map name_of (take i xs)) ≡ i =
    omega (arith, length-map (take i xs) name_of, length-take i xs) in
    ap (numbers_where test 0) (map_more name_of xs i d l)
    ∙ numbers_at_end test 0 (map name_of (take i xs)) (name_of (get_or xs i d))
    ∙ ap (λ (m : ℕ). numbers_where test 0 (map name_of (take i xs))
    ++ cond (test (name_of (get_or xs i d))) (m ∷ []) [])
    long

-- what is made of the names of the first so many effects, and of one more
pub mapped_more : {X : Type 0} (f : EffectName → X) (xs : List Effect) (i : ℕ) (d : Effect) → i < length xs
    → map f (map name_of (take (i + 1) xs)) ≡ map f (map name_of (take i xs)) ++ f (name_of (get_or xs i d)) ∷ []
mapped_more f xs i d l =
    ap (map f) (map_more name_of xs i d l) ∙ map-append f (map name_of (take i xs)) (name_of (get_or xs i d) ∷ [])

-- two pieces with the same parts
pub same_piece : (p q : Piece) → p.sure ≡ q.sure → p.behind ≡ q.behind → p.finds ≡ q.finds → p.differs ≡ q.differs
    → p.writes ≡ q.writes → p ≡ q
same_piece p q sure behind finds differs writes =
    λ i. record {
      sure = sure i;
      behind = behind i;
      finds = finds i;
      differs = differs i;
      writes = writes i;
    }

-- the numbers, made so far, of the first so many effects, with the next
pub numbers_next : (test : EffectName → Bool) (xs : List Effect) (i : ℕ) (d : Effect) (old new : List ℕ) → i < length xs
    → old ≡ numbers_where test 0 (map name_of (take i xs))
    → new ≡ old ++ cond (test (name_of (get_or xs i d))) (i ∷ []) []
    → new ≡ numbers_where test 0 (map name_of (take (i + 1) xs))
numbers_next test xs i d old new l before e =
    e ∙ ap (λ (ns : List ℕ). ns ++ cond (test (name_of (get_or xs i d))) (i ∷ []) []) before
    ∙ sym (numbers_more test xs i d l)
