-- The order of words and of lines.
use Rattle.std.proofs.Common.{◌≡◌, ℕ, ◌+◌, ◌<◌, ◌≤◌, Bool, true, false, List, [], ◌∷◌, length, drop, get_or, map}
use Rattle.std.proofs.Common.{◌⊎◌, inl, inr, refl, sym, ap, ◌∙◌, subst, arith}
use Rattle.std.specs.Prelude.{nat_lt, ◌&&◌, ◌||◌}
use Rattle.std.specs.List.{slice_split}
use Rattle.std.proofs.Math.Dec.{eqb}
use Rattle.std.proofs.lemmas.Bool.{eqb-true, eq-eqb, ltb-true, lt-ltb}
use Rattle.std.proofs.lemmas.List.{drop_more, drop_all}
use Rattle.shrink.specs.Smaller.{AreAtMost, IsAtMost, IsSmallerLine, in_order}

-- what the first bytes say
view : (b c : ℕ) (t : Bool) → (nat_lt b c || (eqb b c && t)) ≡ true → (b < c) ⊎ ((b ≡ c) × (t ≡ true))
view b c t h = by_tests (nat_lt b c) (eqb b c) refl refl h
  where
    by_tests : (x y : Bool) → nat_lt b c ≡ x → eqb b c ≡ y → (x || (y && t)) ≡ true
        → (b < c) ⊎ ((b ≡ c) × (t ≡ true))
    by_tests true y p q k = inl (ltb-true b c p)
    by_tests false true p q k = inr (eqb-true b c q, k)
    by_tests false false p q k = absurd cc

or_true : (a : Bool) → (a || true) ≡ true
or_true true = refl
or_true false = refl

unview : (b c : ℕ) (t : Bool) → (b < c) ⊎ ((b ≡ c) × (t ≡ true)) → (nat_lt b c || (eqb b c && t)) ≡ true
unview b c t (inl low) = ap (λ x. x || (eqb b c && t)) (lt-ltb b c low)
unview b c t (inr same) =
    ap (λ y. nat_lt b c || (y && t)) (eq-eqb b c same.0)
    ∙ ap (λ u. nat_lt b c || u) same.1 ∙ or_true (nat_lt b c)

order_first : (b c : ℕ) (bs cs : List ℕ) → in_order (b ∷ bs) (c ∷ cs) ≡ (nat_lt b c || (eqb b c && in_order bs cs))
unfolding in_order
order_first b c bs cs = refl

order_refl : (w : List ℕ) → in_order w w ≡ true
unfolding in_order
order_refl [] = refl
order_refl (b ∷ bs) = unview b b (in_order bs bs) (inr (refl, order_refl bs))

order_trans : (u v w : List ℕ) → in_order u v ≡ true → in_order v w ≡ true → in_order u w ≡ true
unfolding in_order
order_trans [] v w h k = refl
order_trans (b ∷ bs) [] w h k = absurd cc
order_trans (b ∷ bs) (c ∷ cs) [] h k = absurd cc
order_trans (b ∷ bs) (c ∷ cs) (d ∷ ds) h k =
    unview b d (in_order bs ds)
    (joined (order_trans bs cs ds) (view b c (in_order bs cs) h) (view c d (in_order cs ds) k))
  where
    joined : (in_order bs cs ≡ true → in_order cs ds ≡ true → in_order bs ds ≡ true)
        → (b < c) ⊎ ((b ≡ c) × (in_order bs cs ≡ true)) → (c < d) ⊎ ((c ≡ d) × (in_order cs ds ≡ true))
        → (b < d) ⊎ ((b ≡ d) × (in_order bs ds ≡ true))
    joined others (inl p) (inl q) = inl (omega arith)
    joined others (inl p) (inr q) = let e : c ≡ d = q.0 in inl (omega arith)
    joined others (inr p) (inl q) = let e : b ≡ c = p.0 in inl (omega arith)
    joined others (inr p) (inr q) = inr (p.0 ∙ q.0, others p.1 q.1)

-- a word is at most itself
most_refl : (w : List ℕ) → IsAtMost w w
most_refl w = inr (refl, order_refl w)

most_trans : (u v w : List ℕ) → IsAtMost u v → IsAtMost v w → IsAtMost u w
most_trans u v w (inl p) (inl q) = inl (omega arith)
most_trans u v w (inl p) (inr q) = let e : length v ≡ length w = q.0 in inl (omega arith)
most_trans u v w (inr p) (inl q) = let e : length u ≡ length v = p.0 in inl (omega arith)
most_trans u v w (inr p) (inr q) = inr (p.0 ∙ q.0, order_trans u v w p.1 q.1)

all_refl : (ws : List (List ℕ)) → AreAtMost ws ws
unfolding AreAtMost
all_refl [] = tt
all_refl (w ∷ ws) = (most_refl w, all_refl ws)

all_trans : (us vs ws : List (List ℕ)) → AreAtMost us vs → AreAtMost vs ws → AreAtMost us ws
unfolding AreAtMost
all_trans [] [] [] h k = tt
all_trans [] [] (w ∷ ws) h k = absurd k
all_trans [] (v ∷ vs) ws h k = absurd h
all_trans (u ∷ us) [] ws h k = absurd h
all_trans (u ∷ us) (v ∷ vs) [] h k = absurd k
all_trans (u ∷ us) (v ∷ vs) (w ∷ ws) h k = (most_trans u v w h.0 k.0, all_trans us vs ws h.1 k.1)

-- a line is itself with no word made smaller
pub line_refl : (x : List ℕ) → IsSmallerLine x x
line_refl x = all_refl (slice_split (λ b. eqb b 32) x)

pub line_trans : (x y z : List ℕ) → IsSmallerLine x y → IsSmallerLine y z → IsSmallerLine x z
line_trans x y z =
    all_trans (slice_split (λ b. eqb b 32) x) (slice_split (λ b. eqb b 32) y) (slice_split (λ b. eqb b 32) z)

-- ---- the loops that compare

-- no bytes are left
pub order_end : (w v : List ℕ) (k : ℕ) → length w ≤ k → in_order (drop k w) (drop k v) ≡ true
unfolding in_order
order_end w v k high = ap (λ l. in_order l (drop k v)) (drop_all k w high)

-- the bytes at place k
order_at : (w v : List ℕ) (k : ℕ) → k < length w → k < length v
    → in_order (drop k w) (drop k v)
    ≡ (nat_lt (get_or w k 0) (get_or v k 0) || (eqb (get_or w k 0) (get_or v k 0)
    && in_order (drop (k + 1) w) (drop (k + 1) v)))
order_at w v k low high =
    ap (λ l. in_order l (drop k v)) (drop_more w k 0 low)
    ∙ ap (λ l. in_order (get_or w k 0 ∷ drop (k + 1) w) l) (drop_more v k 0 high)
    ∙ order_first (get_or w k 0) (get_or v k 0) (drop (k + 1) w) (drop (k + 1) v)

pub order_same : (w v : List ℕ) (k : ℕ) → k < length w → k < length v → get_or w k 0 ≡ get_or v k 0
    → in_order (drop k w) (drop k v) ≡ in_order (drop (k + 1) w) (drop (k + 1) v)
order_same w v k low high e =
    order_at w v k low high
    ∙ ap (λ b. nat_lt b (get_or v k 0) || (eqb b (get_or v k 0) && in_order (drop (k + 1) w) (drop (k + 1) v))) e
    ∙ plain (get_or v k 0) (in_order (drop (k + 1) w) (drop (k + 1) v))
  where
    plain : (b : ℕ) (t : Bool) → (nat_lt b b || (eqb b b && t)) ≡ t
    plain b true = unview b b true (inr (refl, refl))
    plain b false = by_test (nat_lt b b || (eqb b b && false)) refl
      where
        by_test : (x : Bool) → (nat_lt b b || (eqb b b && false)) ≡ x → x ≡ false
        by_test false h = refl
        by_test true h = no (view b b false h)
          where
            no : (b < b) ⊎ ((b ≡ b) × (false ≡ true)) → true ≡ false
            no (inl p) = absurd (omega arith)
            no (inr p) = sym p.1

pub order_other : (w v : List ℕ) (k : ℕ) → k < length w → k < length v → (get_or w k 0 ≡ get_or v k 0 → ⊥)
    → in_order (drop k w) (drop k v) ≡ nat_lt (get_or w k 0) (get_or v k 0)
order_other w v k low high ne =
    order_at w v k low high
    ∙ plain (get_or w k 0) (get_or v k 0) (in_order (drop (k + 1) w) (drop (k + 1) v)) ne
  where
    plain : (b c : ℕ) (t : Bool) → (b ≡ c → ⊥) → (nat_lt b c || (eqb b c && t)) ≡ nat_lt b c
    plain b c t ne = by_tests (nat_lt b c) (eqb b c) refl refl
      where
        by_tests : (x y : Bool) → nat_lt b c ≡ x → eqb b c ≡ y → (x || (y && t)) ≡ x
        by_tests true y p q = refl
        by_tests false true p q = absurd (ne (eqb-true b c q))
        by_tests false false p q = refl

-- no words are left
pub words_end : {X : Type 0} (f : X → List ℕ) (ws vs : List X) (k : ℕ) → length ws ≤ k → length vs ≤ k
    → AreAtMost (map f (drop k ws)) (map f (drop k vs))
unfolding AreAtMost
words_end {X} f ws vs k low high =
    let P : List X → Type 0 = λ l. AreAtMost (map f l) (map f (drop k vs)) in
    let R : List X → Type 0 = λ l. AreAtMost (map f []) (map f l) in
    subst P (sym (drop_all k ws low)) (subst R (sym (drop_all k vs high)) tt)

-- the words at place k
pub words_at : {X : Type 0} (f : X → List ℕ) (ws vs : List X) (k : ℕ) (d e : X) → k < length ws → k < length vs
    → IsAtMost (f (get_or ws k d)) (f (get_or vs k e))
    → AreAtMost (map f (drop (k + 1) ws)) (map f (drop (k + 1) vs)) → AreAtMost (map f (drop k ws)) (map f (drop k vs))
unfolding AreAtMost
words_at {X} f ws vs k d e low high most others =
    let P : List X → Type 0 = λ l. AreAtMost (map f l) (map f (drop k vs)) in
    let R : List X → Type 0 = λ l. AreAtMost (f (get_or ws k d) ∷ map f (drop (k + 1) ws)) (map f l) in
    subst P (sym (drop_more ws k d low)) (subst R (sym (drop_more vs k e high)) (most, others))
