-- What is left of those that hold blocks where one is put into their list, or let go in its place.
use Rattle.std.proofs.Common.{◌≡◌, ◌≢◌, ℕ, zero, suc, ◌≤◌, ◌<◌, Bool, true, false, cond, not, ◌||◌, ◌&&◌, List, [], ◌∷◌}
use Rattle.std.proofs.Common.{Some, None, refl, sym, ap, subst, ◌∙◌, ◌==◌, arith, eqb-true, nat_lt}
use Rattle.std.proofs.Common.{◌⊎◌, inl, inr, ltb-true, ltb-false, lt-ltb, le-ltb, length, true≢false}
use Rattle.std.specs.List.{find, insert, list_all, list_any}
use Rattle.std.specs.Prelude.{slice_set}
use Rattle.std.proofs.lemmas.Bool.{and_from, and_left, and_parts, and_right, cases_Bool, cond-false, cond-true}
use Rattle.std.proofs.lemmas.Bool.{not_from_false, not_from_true}
use Rattle.std.proofs.lemmas.Bool.Decides.{nat_tests}
use Rattle.nvme_model.specs.Array.{overlap}
use Rattle.nvme_model.specs.Open.{conflict}
use Rattle.nvme_model.specs.declared.array.Mode.{Mode}
use Rattle.nvme_model.specs.declared.array.Range.{Range}
use Rattle.range_reserve.specs.declared.held.HeldRange.{HeldRange}
use Rattle.range_reserve.specs.Reserved.{AreApart, has_conflict, holds_range, held_beside}
use Rattle.range_reserve.specs.Sorted.{HasPut, IsRisingBy, dead_at, is_free, is_living, let_go, living, place_by}
use Rattle.range_reserve.proofs.Kept.{beside_all}
use Rattle.range_reserve.proofs.Orders.{all_filter, all_found, all_insert, all_with, place_no, place_yes}

-- one without blocks conflicts with none
dead_apart : (r : Range) (m : Mode) (h : HeldRange) → is_living h ≡ false → conflict r m h.range h.mode ≡ false
dead_apart r m h e = and_left (overlap r h.range) _
    (and_left (nat_lt 0 r.blocks && nat_lt 0 h.range.blocks) _ (and_right (nat_lt 0 r.blocks) _ e))

pub conflict_living : (r : Range) (m : Mode) (xs : List HeldRange)
    → has_conflict xs r m ≡ has_conflict (living xs) r m
conflict_living r m [] = refl
conflict_living r m (x ∷ xs) = go (is_living x) refl (conflict_living r m xs)
  where
    go : (b : Bool) → is_living x ≡ b → has_conflict xs r m ≡ has_conflict (living xs) r m
        → (conflict r m x.range x.mode || has_conflict xs r m)
        ≡ has_conflict (cond b (x ∷ living xs) (living xs)) r m
    go true e later = ap (λ b. conflict r m x.range x.mode || b) later
    go false e later = ap (λ b. b || has_conflict xs r m) (dead_apart r m x e) ∙ later

pub all_set : (q : HeldRange → Bool) (xs : List HeldRange) (i : ℕ) (h : HeldRange) → list_all q xs ≡ true → q h ≡ true
    → list_all q (slice_set xs i h) ≡ true
all_set q [] i h a e = refl
all_set q (x ∷ xs) zero h a e = and_from (q h) (list_all q xs) e (and_parts (q x) (list_all q xs) a).1
all_set q (x ∷ xs) (suc i) h a e =
    let k = and_parts (q x) (list_all q xs) a in
    and_from (q x) (list_all q (slice_set xs i h)) k.0 (all_set q xs i h k.1 e)

module _ (n : HeldRange → ℕ) where
  -- none that lives stands before a number that all of them reach
  place_none : (k : ℕ) (xs : List HeldRange) → list_all (λ y. nat_lt k (n y)) xs ≡ true
      → place_by n k (living xs) ≡ 0
  place_none k [] a = refl
  place_none k (x ∷ xs) a =
      let p = and_parts (nat_lt k (n x)) (list_all (λ y. nat_lt k (n y)) xs) a in
      go (is_living x) (omega (arith, ltb-true k (n x) p.0)) (place_none k xs p.1)
    where
      go : (b : Bool) → k ≤ n x → place_by n k (living xs) ≡ 0
          → place_by n k (cond b (x ∷ living xs) (living xs)) ≡ 0
      go true l later = place_no n k x (living xs) (le-ltb (n x) k l)
      go false l later = later

  module _ (h : HeldRange) (lives : is_living h ≡ true) where
    -- behind one whose number is below
    past : (x : HeldRange) (xs ys : List HeldRange) → nat_lt (n x) (n h) ≡ true
        → list_all (λ y. nat_lt (n x) (n y)) ys ≡ true → HasPut n h xs ys → HasPut n h (x ∷ xs) (x ∷ ys)
    past x xs ys e a p = record { rising = (a, p.rising); added = go (is_living x) p.added }
      where
        go : (b : Bool) → living ys ≡ insert (living xs) (place_by n (n h) (living xs)) h
            → cond b (x ∷ living ys) (living ys)
            ≡ insert (cond b (x ∷ living xs) (living xs)) (place_by n (n h) (cond b (x ∷ living xs) (living xs))) h
        go true f = ap (λ (zs : List HeldRange). x ∷ zs) f
            ∙ sym (ap (λ i. insert (x ∷ living xs) i h) (place_yes n (n h) x (living xs) e))
        go false f = f

    -- before all whose numbers are above
    first : (xs ys : List HeldRange) → living xs ≡ living ys → list_all (λ y. nat_lt (n h) (n y)) ys ≡ true
        → IsRisingBy n ys → HasPut n h xs (h ∷ ys)
    first xs ys same a r = record {
      rising = (a, r);
      added = cond-true (is_living h) (h ∷ living ys) (living ys) lives
          ∙ sym (ap (λ zs. insert zs (place_by n (n h) zs) h) same
          ∙ ap (λ i. insert (living ys) i h) (place_none (n h) ys a));
    }

    free_behind : (x : HeldRange) (xs : List HeldRange) → is_free n (n h) (x ∷ xs) ≡ true → is_free n (n h) xs ≡ true
    free_behind x xs f = go (is_living x) f
      where
        go : (b : Bool) → not (list_any (λ y. n y == n h) (cond b (x ∷ living xs) (living xs))) ≡ true
            → is_free n (n h) xs ≡ true
        go true f = grind (arith, nat_tests, f)
        go false f = f

    free_first : (x : HeldRange) (xs : List HeldRange) → is_living x ≡ true → is_free n (n h) (x ∷ xs) ≡ true
        → (n x == n h) ≡ false
    free_first x xs l f =
        let g = ap (λ zs. not (list_any (λ y. n y == n h) zs))
        (sym (cond-true (is_living x) (x ∷ living xs) (living xs) l))
        ∙ f in
        grind (arith, nat_tests, g)

    -- where the first isn't below and isn't dead, all are above
    above : (xs : List HeldRange) → IsRisingBy n xs → is_free n (n h) xs ≡ true → dead_at xs 0 ≡ false
        → place_by n (n h) xs ≡ 0 → list_all (λ y. nat_lt (n h) (n y)) xs ≡ true
    above [] r f d p = refl
    above (x ∷ xs) r f d p = elim (cases_Bool (nat_lt (n x) (n h))) [
      | inl e ↦ absurd (omega (arith, p, place_yes n (n h) x xs e))
      | inr e ↦
          let l : is_living x ≡ true = grind (arith, nat_tests, d) in
          let b : nat_lt (n h) (n x) ≡ true = grind (arith, nat_tests, e, free_first x xs l f) in
          and_from (nat_lt (n h) (n x)) (list_all (λ y. nat_lt (n h) (n y)) xs) b
          (all_with (λ y. nat_lt (n x) (n y)) (λ y. nat_lt (n h) (n y))
          (λ y k. lt-ltb (n h) (n y) (omega (arith, ltb-true (n h) (n x) b, ltb-true (n x) (n y) k))) xs r.0)
    ]

    -- between two
    pub put_between : (xs : List HeldRange) → IsRisingBy n xs → is_free n (n h) xs ≡ true
        → dead_at xs (place_by n (n h) xs) ≡ false → HasPut n h xs (insert xs (place_by n (n h) xs) h)
    put_between [] r f d = record { rising = (refl, tt); added = cond-true (is_living h) (h ∷ []) [] lives }
    put_between (x ∷ xs) r f d = elim (cases_Bool (nat_lt (n x) (n h))) [
      | inl e ↦
          let at = place_yes n (n h) x xs e in
          let below = ltb-true (n x) (n h) e in
          subst (λ i. HasPut n h (x ∷ xs) (insert (x ∷ xs) i h)) (sym at)
          (past x xs (insert xs (place_by n (n h) xs) h) e
          (all_insert (λ y. nat_lt (n x) (n y)) xs (place_by n (n h) xs) h r.0 e)
          (put_between xs r.1 (free_behind x xs f) (sym (ap (dead_at (x ∷ xs)) at) ∙ d)))
      | inr e ↦
          let at = place_no n (n h) x xs e in
          subst (λ i. HasPut n h (x ∷ xs) (insert (x ∷ xs) i h)) (sym at)
          (first (x ∷ xs) (x ∷ xs) refl (above (x ∷ xs) r f (sym (ap (dead_at (x ∷ xs)) at) ∙ d) at) r)
    ]

    -- over the dead one that it stands before
    pub put_over : (xs : List HeldRange) → IsRisingBy n xs → dead_at xs (place_by n (n h) xs) ≡ true
        → HasPut n h xs (slice_set xs (place_by n (n h) xs) h)
    put_over [] r d = absurd (true≢false (sym d))
    put_over (x ∷ xs) r d = elim (cases_Bool (nat_lt (n x) (n h))) [
      | inl e ↦
          let at = place_yes n (n h) x xs e in
          subst (λ i. HasPut n h (x ∷ xs) (slice_set (x ∷ xs) i h)) (sym at)
          (past x xs (slice_set xs (place_by n (n h) xs) h) e
          (all_set (λ y. nat_lt (n x) (n y)) xs (place_by n (n h) xs) h r.0 e)
          (put_over xs r.1 (sym (ap (dead_at (x ∷ xs)) at) ∙ d)))
      | inr e ↦
          let at = place_no n (n h) x xs e in
          let dead : is_living x ≡ false = grind (arith, nat_tests, sym (ap (dead_at (x ∷ xs)) at) ∙ d) in
          let less = ltb-false (n x) (n h) e in
          subst (λ i. HasPut n h (x ∷ xs) (slice_set (x ∷ xs) i h)) (sym at)
          (first (x ∷ xs) xs (cond-false (is_living x) (x ∷ living xs) (living xs) dead)
          (all_with (λ y. nat_lt (n x) (n y)) (λ y. nat_lt (n h) (n y))
          (λ y k. lt-ltb (n h) (n y) (omega (arith, less, ltb-true (n x) (n y) k))) xs r.0) r.1)
    ]

    -- over the dead one that it stands behind
    pub put_behind : (xs : List HeldRange) (i : ℕ) → IsRisingBy n xs → is_free n (n h) xs ≡ true
        → place_by n (n h) xs ≡ suc i → dead_at xs i ≡ true → dead_at xs (suc i) ≡ false
        → HasPut n h xs (slice_set xs i h)
    put_behind [] i r f p d s = absurd (omega (arith, p))
    put_behind (x ∷ xs) zero r f p d s = elim (cases_Bool (nat_lt (n x) (n h))) [
      | inl e ↦
          let dead : is_living x ≡ false = grind (arith, nat_tests, d) in
          first (x ∷ xs) xs (cond-false (is_living x) (x ∷ living xs) (living xs) dead)
          (above xs r.1 (free_behind x xs f) s (omega (arith, p, place_yes n (n h) x xs e))) r.1
      | inr e ↦ absurd (omega (arith, p, place_no n (n h) x xs e))
    ]
    put_behind (x ∷ xs) (suc i) r f p d s = elim (cases_Bool (nat_lt (n x) (n h))) [
      | inl e ↦ past x xs (slice_set xs i h) e (all_set (λ y. nat_lt (n x) (n y)) xs i h r.0 e)
          (put_behind xs i r.1 (free_behind x xs f) (omega (arith, p, place_yes n (n h) x xs e)) d s)
      | inr e ↦ absurd (omega (arith, p, place_no n (n h) x xs e))
    ]

  -- ---- one less

  module _ (t : ℕ) (y : HeldRange) (same : n (let_go y) ≡ n y) where
    -- it is not the first
    other_ticket : (x : HeldRange) (xs : List HeldRange) → n x ≢ n y
        → find (λ h. h.ticket == t) (living (x ∷ xs)) ≡ Some y → is_living x ≡ true → (x.ticket == t) ≡ false
    other_ticket x xs ne e l = elim (cases_Bool (x.ticket == t)) [
      | inl k ↦
          let g : Some x ≡ Some y =
          sym (ap (find (λ h. h.ticket == t)) (cond-true (is_living x) (x ∷ living xs) (living xs) l)
          ∙ cond-true (x.ticket == t) (Some x) (find (λ h. h.ticket == t) (living xs)) k)
          ∙ e in
          absurd (ne (let d : x ≡ y = cc in ap n d))
      | inr k ↦ k
    ]

    found_behind : (x : HeldRange) (xs : List HeldRange) → (is_living x ≡ true → (x.ticket == t) ≡ false)
        → find (λ h. h.ticket == t) (living (x ∷ xs)) ≡ Some y → find (λ h. h.ticket == t) (living xs) ≡ Some y
    found_behind x xs ne e = go (is_living x) ne e
      where
        go : (b : Bool) → (b ≡ true → (x.ticket == t) ≡ false)
            → find (λ h. h.ticket == t) (cond b (x ∷ living xs) (living xs)) ≡ Some y
            → find (λ h. h.ticket == t) (living xs) ≡ Some y
        go true ne e = sym (cond-false (x.ticket == t) (Some x) (find (λ h. h.ticket == t) (living xs)) (ne refl)) ∙ e
        go false ne e = e

    apart_behind : (x : HeldRange) (xs : List HeldRange) → AreApart (living (x ∷ xs)) → AreApart (living xs)
    apart_behind x xs a = go (is_living x) a
      where
        go : (b : Bool) → AreApart (cond b (x ∷ living xs) (living xs)) → AreApart (living xs)
        go true a = a.3
        go false a = a

    kept_first : (x : HeldRange) (xs ys : List HeldRange) → (is_living x ≡ true → (x.ticket == t) ≡ false)
        → living ys ≡ held_beside (living xs) t → living (x ∷ ys) ≡ held_beside (living (x ∷ xs)) t
    kept_first x xs ys ne f = go (is_living x) ne
      where
        go : (b : Bool) → (b ≡ true → (x.ticket == t) ≡ false)
            → cond b (x ∷ living ys) (living ys) ≡ held_beside (cond b (x ∷ living xs) (living xs)) t
        go true ne = ap (λ (zs : List HeldRange). x ∷ zs) f
            ∙ sym (cond-true (not (x.ticket == t)) (x ∷ held_beside (living xs) t) (held_beside (living xs) t)
            (not_from_false (x.ticket == t) (ne refl)))
        go false ne = f

    -- those behind have greater numbers
    less_behind : (x : HeldRange) (xs : List HeldRange) → list_all (λ z. nat_lt (n x) (n z)) xs ≡ true
        → find (λ h. h.ticket == t) (living xs) ≡ Some y → n x < n y
    less_behind x xs a e = ltb-true (n x) (n y)
        (all_found (λ z. nat_lt (n x) (n z)) t y (living xs) (all_filter is_living (λ z. nat_lt (n x) (n z)) xs a) e)

    at_first : (x : HeldRange) (xs : List HeldRange) → n y ≤ n x → AreApart (living (x ∷ xs)) → IsRisingBy n (x ∷ xs)
        → find (λ h. h.ticket == t) (living (x ∷ xs)) ≡ Some y
        → (living xs ≡ held_beside (living (x ∷ xs)) t) × IsRisingBy n (let_go y ∷ xs) × (0 < length (x ∷ xs))
    at_first x xs least a r e = elim (cases_Bool (is_living x)) [
      | inr d ↦ absurd (omega (
        arith,
        least,
        less_behind x xs r.0
            (sym (ap (find (λ h. h.ticket == t)) (cond-false (is_living x) (x ∷ living xs) (living xs) d)) ∙ e),
      ))
      | inl l ↦
          let all = cond-true (is_living x) (x ∷ living xs) (living xs) l in
          let f = sym (ap (find (λ h. h.ticket == t)) all) ∙ e in
          let b : AreApart (x ∷ living xs) = subst AreApart all a in
          elim (cases_Bool (x.ticket == t)) [
            | inl k ↦
                let g : Some x ≡ Some y =
                sym (cond-true (x.ticket == t) (Some x) (find (λ h. h.ticket == t) (living xs)) k) ∙ f in
                let d : x ≡ y = cc in (
                  sym (ap (λ zs. held_beside zs t) all
                      ∙ cond-false (not (x.ticket == t)) (x ∷ held_beside (living xs) t) (held_beside (living xs) t)
                      (not_from_true (x.ticket == t) k)
                      ∙ beside_all (living xs) t
                      (ap (holds_range (living xs)) (sym (eqb-true x.ticket t k)) ∙ b.1)),
                  (
                    subst (λ k. list_all (λ z. nat_lt k (n z)) xs ≡ true) (ap n d ∙ sym same) r.0,
                    r.1,
                  ),
                  omega arith,
                )
            | inr k ↦ absurd (omega (
              arith,
              least,
              less_behind x xs r.0
                  (sym (cond-false (x.ticket == t) (Some x) (find (λ h. h.ticket == t) (living xs)) k) ∙ f),
            ))
          ]
    ]

    -- where it lives at its place, only its blocks go
    pub let_go_in_place : (xs : List HeldRange) → AreApart (living xs) → IsRisingBy n xs
        → find (λ h. h.ticket == t) (living xs) ≡ Some y
        → (living (slice_set xs (place_by n (n y) xs) (let_go y)) ≡ held_beside (living xs) t)
        × IsRisingBy n (slice_set xs (place_by n (n y) xs) (let_go y))
        × (place_by n (n y) xs < length xs)
    let_go_in_place [] a r e = absurd (let g : None ≡ Some y = e in cc)
    let_go_in_place (x ∷ xs) a r e = elim (cases_Bool (nat_lt (n x) (n y))) [
      | inl l ↦
          let less = ltb-true (n x) (n y) l in
          let other = other_ticket x xs (λ d. absurd (omega (arith, less, d))) e in
          let rest = let_go_in_place xs (apart_behind x xs a) r.1 (found_behind x xs other e) in
          let i = place_by n (n y) xs in
          let at = place_yes n (n y) x xs l in
          subst (λ j. (living (slice_set (x ∷ xs) j (let_go y)) ≡ held_beside (living (x ∷ xs)) t)
          × IsRisingBy n (slice_set (x ∷ xs) j (let_go y)) × (j < length (x ∷ xs))) (sym at) (
            kept_first x xs (slice_set xs i (let_go y)) other rest.0,
            (
              all_set (λ z. nat_lt (n x) (n z)) xs i (let_go y) r.0
                  (lt-ltb (n x) (n (let_go y)) (omega (arith, less, same))),
              rest.1,
            ),
            omega (arith, rest.2),
          )
      | inr l ↦
          let least = ltb-false (n x) (n y) l in
          subst (λ j. (living (slice_set (x ∷ xs) j (let_go y)) ≡ held_beside (living (x ∷ xs)) t)
          × IsRisingBy n (slice_set (x ∷ xs) j (let_go y)) × (j < length (x ∷ xs))) (sym (place_no n (n y) x xs l))
          (at_first x xs least a r e)
    ]

-- ---- those that hold blocks alone

living_twice : (xs : List HeldRange) → living (living xs) ≡ living xs
living_twice [] = refl
living_twice (x ∷ xs) = go (is_living x) refl (living_twice xs)
  where
    go : (b : Bool) → is_living x ≡ b → living (living xs) ≡ living xs
        → living (cond b (x ∷ living xs) (living xs)) ≡ cond b (x ∷ living xs) (living xs)
    go true e later = cond-true (is_living x) (x ∷ living (living xs)) (living (living xs)) e
        ∙ ap (λ (zs : List HeldRange). x ∷ zs) later
    go false e later = later

rises_living : (n : HeldRange → ℕ) (xs : List HeldRange) → IsRisingBy n xs → IsRisingBy n (living xs)
rises_living n [] r = tt
rises_living n (x ∷ xs) r = go (is_living x) (all_filter is_living (λ y. nat_lt (n x) (n y)) xs r.0)
    (rises_living n xs r.1)
  where
    go : (b : Bool) → list_all (λ y. nat_lt (n x) (n y)) (living xs) ≡ true → IsRisingBy n (living xs)
        → IsRisingBy n (cond b (x ∷ living xs) (living xs))
    go true a s = (a, s)
    go false a s = s

-- the list is as it was, or those that hold no blocks are out
module _ (old new : List HeldRange) (swept : (new ≡ old) ⊎ (new ≡ living old)) where
  pub swept_living : living new ≡ living old
  swept_living = elim swept [ inl e ↦ ap living e | inr e ↦ ap living e ∙ living_twice old ]

  pub swept_rises : (n : HeldRange → ℕ) → IsRisingBy n old → IsRisingBy n new
  swept_rises n r = elim swept [
    | inl e ↦ subst (IsRisingBy n) (sym e) r
    | inr e ↦ subst (IsRisingBy n) (sym e) (rises_living n old r)
  ]

  pub swept_all : (p : HeldRange → Bool) → list_all p old ≡ true → list_all p new ≡ true
  swept_all p a = elim swept [
    | inl e ↦ ap (list_all p) e ∙ a
    | inr e ↦ ap (list_all p) e ∙ all_filter is_living p old a
  ]

  pub swept_free : (n : HeldRange → ℕ) (k : ℕ) → is_free n k old ≡ true → is_free n k new ≡ true
  swept_free n k f = ap (λ zs. not (list_any (λ h. n h == k) zs)) swept_living ∙ f

  pub swept_put : (n : HeldRange → ℕ) (h : HeldRange) (put : List HeldRange) → HasPut n h new put → HasPut n h old put
  swept_put n h put p = record {
    rising = p.rising;
    added = p.added ∙ ap (λ zs. insert zs (place_by n (n h) zs) h) swept_living;
  }
