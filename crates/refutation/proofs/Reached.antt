-- Each order whose pieces are next, one after the other, leads to a state of its layer.
use Rattle.std.proofs.Common.{Bool, List, [], false, if◌then◌else◌, inl, inr, length, refl, subst}
use Rattle.std.proofs.Common.{sym, true, ℕ, ◌++◌, ◌∙◌, ◌∷◌, ◌≡◌}
use Rattle.std.specs.List.{list_any, range_with_len}
use Rattle.refutation.specs.Layers.{is_next, is_same, layer_from, next_layer, with_nexts, with_order}
use Rattle.refutation.specs.Pieces.{Slice}
use Rattle.refutation.proofs.Members.{In, any_in, in_last, in_left}
use Rattle.refutation.proofs.SameState.{Same, next_same, same_from, same_more, same_self, same_trans}

-- one of these leads to its state
abbrev pub Reached : List ℕ → Slice → List (List ℕ) → List ℕ → Type 0
Reached blank slice layer order = (r : List ℕ) × In layer r × Same blank slice order r

module _ (blank : List ℕ) (slice : Slice) where
  order_kept : (made : List (List ℕ)) (x o : List ℕ) → Reached blank slice made o
      → Reached blank slice (with_order blank slice made x) o
  order_kept made x o h = step (list_any (is_same blank slice x) made)
    where
      step : (t : Bool) → Reached blank slice (if t then made else made ++ x ∷ []) o
      step true = h
      step false = (h.0, in_left made (x ∷ []) h.0 h.1, h.2)

  order_reached : (made : List (List ℕ)) (x : List ℕ) → Reached blank slice (with_order blank slice made x) x
  order_reached made x = step (list_any (is_same blank slice x) made) refl
    where
      step : (t : Bool) → list_any (is_same blank slice x) made ≡ t
          → Reached blank slice (if t then made else made ++ x ∷ []) x
      step true e = let m = any_in (is_same blank slice x) made e in (m.0, m.1, same_from blank slice x m.0 m.2)
      step false e = (x, in_last made x, same_self blank slice x)

  -- those there, and one more where it may be next
  abbrev one : List (List ℕ) → List ℕ → ℕ → Bool → List (List ℕ)
  one made x n t = if t then with_order blank slice made (n ∷ x) else made

  one_kept : (made : List (List ℕ)) (x : List ℕ) (n : ℕ) (t : Bool) (o : List ℕ) → Reached blank slice made o
      → Reached blank slice (one made x n t) o
  one_kept made x n true o h = order_kept made (n ∷ x) o h
  one_kept made x n false o h = h

  nexts_kept : (ns : List ℕ) (made : List (List ℕ)) (x o : List ℕ) → Reached blank slice made o
      → Reached blank slice (with_nexts blank slice made x ns) o
  nexts_kept [] made x o h = h
  nexts_kept (n ∷ ns) made x o h =
      nexts_kept ns (one made x n (is_next blank slice x n)) x o (one_kept made x n (is_next blank slice x n) o h)

  nexts_reached : (ns : List ℕ) (made : List (List ℕ)) (x : List ℕ) (n : ℕ) → In ns n → is_next blank slice x n ≡ true
      → Reached blank slice (with_nexts blank slice made x ns) (n ∷ x)
  nexts_reached [] made x n i e = absurd i
  nexts_reached (m ∷ ns) made x n i e = elim i [
    | inl f ↦ nexts_kept ns (one made x m (is_next blank slice x m)) x (n ∷ x)
        (subst (λ t. Reached blank slice (one made x m t) (n ∷ x))
        (sym (subst (λ k. is_next blank slice x k ≡ true) (sym f) e))
        (subst (λ k. Reached blank slice (with_order blank slice made (m ∷ x)) (k ∷ x)) f (order_reached made (m ∷ x))))
    | inr j ↦ nexts_reached ns (one made x m (is_next blank slice x m)) x n j e
  ]

  layer_kept : (layer made : List (List ℕ)) (o : List ℕ) → Reached blank slice made o
      → Reached blank slice (layer_from blank slice made layer) o
  layer_kept [] made o h = h
  layer_kept (x ∷ layer) made o h =
      layer_kept layer _ o (nexts_kept (range_with_len 0 (length slice)) made x o h)

  layer_reached : (layer made : List (List ℕ)) (x : List ℕ) (n : ℕ) → In layer x
      → In (range_with_len 0 (length slice)) n → is_next blank slice x n ≡ true
      → Reached blank slice (layer_from blank slice made layer) (n ∷ x)
  layer_reached [] made x n i j e = absurd i
  layer_reached (y ∷ layer) made x n i j e = elim i [
    | inl f ↦ layer_kept layer _ (n ∷ x)
        (subst (λ z. Reached blank slice (with_nexts blank slice made z (range_with_len 0 (length slice))) (n ∷ x))
        (sym f)
        (nexts_reached (range_with_len 0 (length slice)) made x n j e))
    | inr k ↦ layer_reached layer _ x n k j e
  ]

  pub next_reached : (layer : List (List ℕ)) (o : List ℕ) (n : ℕ) → Reached blank slice layer o
      → In (range_with_len 0 (length slice)) n → is_next blank slice o n ≡ true
      → Reached blank slice (next_layer blank slice layer) (n ∷ o)
  next_reached layer o n h i e =
      let g = layer_reached layer [] h.0 n h.1 i (sym (next_same blank slice o h.0 n h.2) ∙ e) in
      (g.0, g.1, same_trans blank slice (n ∷ o) (n ∷ h.0) g.0 (same_more blank slice o h.0 n h.2) g.2)
