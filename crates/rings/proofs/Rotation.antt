-- Slots from one of them on, round the end.
use Rattle.std.proofs.Common.{List, None, Option, ap, ap₂, arith, drop, get_or, inl, inr, length, length-drop}
use Rattle.std.proofs.Common.{length-set, mod-eq_of_lt, set, sym, take, ℕ, [], ◌%◌, ◌+◌, ◌++◌, ◌-◌, ◌<◌, ◌∙◌, ◌∷◌, ◌≡◌}
use Rattle.std.proofs.Common.{◌≤◌, ◌⊎◌}
use Rattle.std.proofs.Math.Seq.{take-set-lt}
use Rattle.std.proofs.lemmas.Bool.{cases_lt}
use Rattle.std.proofs.lemmas.List.{append-nil, append_assoc, drop-set-add, drop-set-lt, drop_all, drop_more}
use Rattle.std.proofs.lemmas.List.{get_or-append_right, get_or-drop, get_or-take, get_or_append_left, set-append_left}
use Rattle.std.proofs.lemmas.List.{set-append_right, take-set-le, take_all, take_more_set}
use Rattle.rings.specs.Slots.{slots_from}
use native.Mathlib.Nat.{mod-eq-sub-mod}

-- a place past the end is one round further
wraps_once : (n j : ℕ) → j < n + n → ((j < n) × (j % n ≡ j)) ⊎ ((n ≤ j) × (j % n ≡ j - n))
wraps_once n j below =
    elim (cases_lt j n) [
      | inl low ↦ inl (low, mod-eq_of_lt low)
      | inr high ↦ inr (high, mod-eq-sub-mod high ∙ mod-eq_of_lt (omega arith))
    ]

module _ {X : Type 0} (slots : List (Option X)) (h : ℕ) (within : h < length slots) where
  -- place k from slot h on
  pub get_or-slots_from : (k : ℕ) (d : Option X) → k < length slots
      → get_or (slots_from h slots) k d ≡ get_or slots ((h + k) % length slots) d
  get_or-slots_from k d below =
      elim (wraps_once (length slots) (h + k) (omega arith)) [
        | inl (low, e) ↦
            get_or_append_left (drop h slots) (take h slots) d k (omega (arith, length-drop h slots))
            ∙ get_or-drop h slots k d ∙ ap (λ i. get_or slots i d) (sym e)
        | inr (high, e) ↦
            let j : ℕ = k - (length slots - h) in
            get_or-append_right (drop h slots) (take h slots) (length slots - h) k d (length-drop h slots) (omega arith)
            ∙ get_or-take h slots j d (omega arith) ∙ ap (λ i. get_or slots i d) (omega (arith, e))
      ]

  -- a write to place k from slot h on
  pub slots_from-set : (k : ℕ) (y : Option X) → k < length slots
      → slots_from h (set slots ((h + k) % length slots) y) ≡ set (slots_from h slots) k y
  slots_from-set k y below =
      elim (wraps_once (length slots) (h + k) (omega arith)) [
        | inl (low, e) ↦
            ap (λ i. slots_from h (set slots i y)) e
            ∙ ap₂ ◌++◌ (drop-set-add h slots k y) (take-set-le h slots (h + k) y (omega arith))
            ∙ sym (set-append_left (drop h slots) (take h slots) k y (omega (arith, length-drop h slots)))
        | inr (high, e) ↦
            let j : ℕ = k - (length slots - h) in
            ap (λ i. slots_from h (set slots i y)) (e ∙ omega arith)
            ∙ ap₂ ◌++◌ (drop-set-lt h slots j y (omega arith)) (take-set-lt h slots j y (omega arith))
            ∙ sym (set-append_right (drop h slots) (take h slots) (length slots - h) k y (length-drop h slots)
            (omega arith))
      ]

  -- the slots from the next one on
  slots_from-next : slots_from ((h + 1) % length slots) slots ≡ drop (h + 1) slots ++ take (h + 1) slots
  slots_from-next =
      elim (wraps_once (length slots) (h + 1) (omega arith)) [
        | inl (low, e) ↦ ap (λ i. slots_from i slots) e
        | inr (high, e) ↦
            let first : (h + 1) % length slots ≡ 0 = omega (arith, e) in
            ap (λ i. slots_from i slots) first ∙ append-nil slots
            ∙ sym (ap₂ ◌++◌ (drop_all (h + 1) slots (omega arith)) (take_all (h + 1) slots (omega arith)))
      ]

-- the slots from the next one on, once this one is free
pub slots_from-freed : {X : Type 0} (slots : List (Option X)) (h : ℕ) → h < length slots
    → slots_from ((h + 1) % length slots) (set slots h None) ≡ drop 1 (slots_from h slots) ++ None ∷ []
slots_from-freed {X} slots h within =
    let long : length (set slots h None) ≡ length slots = length-set slots h None in
    ap (λ n. slots_from ((h + 1) % n) (set slots h None)) (sym long)
    ∙ slots_from-next (set slots h None) h (omega arith)
    ∙ ap₂ ◌++◌ (drop-set-lt (h + 1) slots h None (omega arith)) (take_more_set slots h None within)
    ∙ sym (append_assoc (drop (h + 1) slots) (take h slots) (None ∷ []))
    ∙ ap (λ (ys : List (Option X)). drop 1 (ys ++ take h slots) ++ None ∷ []) (sym (drop_more slots h None within))
