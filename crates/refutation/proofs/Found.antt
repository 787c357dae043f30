-- Where layers don't end before one is whole, there is an order.
use Rattle.std.proofs.Common.{Bool, List, None, Option, Some, [], ap, arith, false, if◌then◌else◌, inl, inr, length}
use Rattle.std.proofs.Common.{not, refl, slice_get, subst, suc, sym, true, zero, ℕ, ◌+◌, ◌++◌, ◌<◌, ◌≤◌, ◌||◌, ◌∷◌}
use Rattle.std.proofs.Common.{◌≡◌, ◌⊎◌}
use Rattle.std.proofs.lemmas.Bool.{and_cases, and_parts, not-false, not-true, or_right, true≢false}
use Rattle.std.specs.List.{list_any, range_with_len}
use Rattle.refutation.specs.Layers.{ends, has_no_order, is_next, is_same, layer_from, next_layer, with_nexts}
use Rattle.refutation.specs.Layers.{with_order}
use Rattle.refutation.specs.Orders.{IsOrder, IsWay, follows_by, has, is_sure, is_whole, may_follow}
use Rattle.refutation.specs.Pieces.{Piece, Slice}
use Rattle.refutation.proofs.Members.{In, all_from, any_in}
use Rattle.refutation.proofs.Short.{Below, Unlike, short}
use Rattle.refutation.proofs.Steps.{there}

-- ---- what a way is of

-- a piece that may follow is there, and isn't among those before it
new_and_there : (blank : List ℕ) (slice : Slice) (order : List ℕ) (n : ℕ) → may_follow blank slice order n ≡ true
    → (has order n ≡ false) × (n < length slice)
new_and_there blank slice order n h = step (slice_get slice n) refl h
  where
    step : (o : Option Piece) → slice_get slice n ≡ o → follows_by blank slice order n o ≡ true
        → (has order n ≡ false) × (n < length slice)
    step None e g = absurd (true≢false (sym g))
    step (Some p) e g = (not-true _ (and_parts _ _ (and_parts _ _ g).0).0, there slice n p e)

unlike : (blank : List ℕ) (slice : Slice) (order : List ℕ) → IsWay blank slice order → Unlike order
unlike blank slice [] w = tt
unlike blank slice (n ∷ order) w = ((new_and_there blank slice order n w.0).0, unlike blank slice order w.1)

below : (blank : List ℕ) (slice : Slice) (order : List ℕ) → IsWay blank slice order → Below (length slice) order
below blank slice [] w = tt
below blank slice (n ∷ order) w = ((new_and_there blank slice order n w.0).1, below blank slice order w.1)

below_range : (a n k : ℕ) → In (range_with_len a n) k → k < a + n
below_range a zero k i = absurd i
below_range a (suc n) k i = elim i [ inl e ↦ omega arith | inr j ↦ (let l = below_range (a + 1) n k j in omega arith) ]

-- one that is as long as the slice has each of its pieces
all_there : (blank : List ℕ) (slice : Slice) (order : List ℕ) → IsWay blank slice order → length order ≡ length slice
    → is_whole slice order ≡ true
all_there blank slice order w e =
    all_from (λ n. not (is_sure slice n) || has order n) (range_with_len 0 (length slice))
    (λ n i. or_right _ _ (step n (below_range 0 (length slice) n i) (has order n) refl))
  where
    step : (n : ℕ) → n < 0 + length slice → (b : Bool) → has order n ≡ b → b ≡ true
    step n l true h = refl
    step n l false h = absurd
        (let less : n < length slice = omega arith in
        let few : suc (length order) ≤ length slice =
        short (length slice) (n ∷ order) (h, unlike blank slice order w) (less, below blank slice order w) in
        omega arith)

-- ---- what stands in a layer

-- each of these is a way of so many pieces
abbrev Ways : List ℕ → Slice → ℕ → List (List ℕ) → Type 0
Ways blank slice k layer = (o : List ℕ) → In layer o → IsWay blank slice o × (length o ≡ k)

in_more : {S : Type 0} (xs : List S) (x y : S) → In (xs ++ x ∷ []) y → In xs y ⊎ (x ≡ y)
in_more [] x y h = elim h [ inl e ↦ inr e | inr gone ↦ absurd gone ]
in_more (z ∷ xs) x y h = elim h [
  | inl e ↦ inl (inl e)
  | inr g ↦ elim (in_more xs x y g) [ inl i ↦ inl (inr i) | inr e ↦ inr e ]
]

module _ (blank : List ℕ) (slice : Slice) where
  ways_order : (k : ℕ) (made : List (List ℕ)) (x : List ℕ) → Ways blank slice k made → IsWay blank slice x
      → length x ≡ k → Ways blank slice k (with_order blank slice made x)
  ways_order k made x h w e = step (list_any (is_same blank slice x) made)
    where
      step : (t : Bool) → Ways blank slice k (if t then made else made ++ x ∷ [])
      step true o i = h o i
      step false o i = elim (in_more made x o i) [
        | inl j ↦ h o j
        | inr f ↦ subst (λ z. IsWay blank slice z × (length z ≡ k)) f (w, e)
      ]

  ways_nexts : (k : ℕ) (ns : List ℕ) (made : List (List ℕ)) (x : List ℕ) → Ways blank slice (suc k) made
      → IsWay blank slice x → length x ≡ k → Ways blank slice (suc k) (with_nexts blank slice made x ns)
  ways_nexts k [] made x h w e = h
  ways_nexts k (n ∷ ns) made x h w e =
      ways_nexts k ns _ x (step (is_next blank slice x n) refl) w e
    where
      step : (t : Bool) → is_next blank slice x n ≡ t
          → Ways blank slice (suc k) (if t then with_order blank slice made (n ∷ x) else made)
      step true f = ways_order (suc k) made (n ∷ x) h ((and_parts (may_follow blank slice x n) _ f).0, w) (ap suc e)
      step false f = h

  ways_layer : (k : ℕ) (layer made : List (List ℕ)) → Ways blank slice (suc k) made → Ways blank slice k layer
      → Ways blank slice (suc k) (layer_from blank slice made layer)
  ways_layer k [] made h g = h
  ways_layer k (x ∷ layer) made h g =
      let w = g x (inl refl) in
      ways_layer k layer _ (ways_nexts k (range_with_len 0 (length slice)) made x h w.0 w.1) (λ o i. g o (inr i))

  found : (steps k : ℕ) (layer : List (List ℕ)) → k + steps ≡ length slice → Ways blank slice k layer
      → ends blank slice steps layer ≡ false → (o : List ℕ) × IsOrder blank slice o
  found steps k [] e h f = absurd (true≢false f)
  found zero k (x ∷ layer) e h f =
      let w = h x (inl refl) in
      let long : length x ≡ length slice = (let same : length x ≡ k = w.1 in omega arith) in
      (x, (w.0, all_there blank slice x w.0 long))
  found (suc steps) k (x ∷ layer) e h f =
      elim (and_cases (not (list_any (is_whole slice) (x ∷ layer))) _ f) [
        | inl whole ↦
            (let m = any_in (is_whole slice) (x ∷ layer) (not-false _ whole) in (m.0, ((h m.0 m.1).0, m.2)))
        | inr later ↦
            found steps (suc k) (next_layer blank slice (x ∷ layer)) (omega arith)
            (ways_layer k (x ∷ layer) [] (λ o i. absurd i) h) later
      ]

pub order_found : (blank : List ℕ) (slice : Slice) → has_no_order blank slice ≡ false
    → (order : List ℕ) × IsOrder blank slice order
order_found blank slice e =
    found blank slice (length slice) 0 ([] ∷ []) (omega arith) none e
  where
    none : Ways blank slice 0 ([] ∷ [])
    none o i = elim i [
      | inl f ↦ subst (λ z. IsWay blank slice z × (length z ≡ 0)) f (tt, refl)
      | inr gone ↦ absurd gone
    ]
