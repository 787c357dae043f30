-- Units adjoin, and have each block once.
use Rattle.std.proofs.Common.{◌≡◌, ℕ, ◌+◌, ◌-◌, ◌≤◌, ◌<◌, true, false, cond, leb, List, [], ◌∷◌, count_by, refl, sym}
use Rattle.std.proofs.Common.{◌∙◌, arith, inl, inr, le-ltb}
use Rattle.std.proofs.lemmas.Bool.{and_from, and_left, and_right, cases_lt, cond-false, cond-true, lt-leb}
use Rattle.std.proofs.lemmas.List.Sums.{sum_by-cons}
use Rattle.nvme_model.specs.Array.{has_block}
use Rattle.nvme_model.specs.Cut.{IsCut}
use Rattle.nvme_model.specs.declared.array.Range.{Range}
use Rattle.nvme_model.specs.declared.config.AtomicParameters.{AtomicParameters}
use Rattle.nvme_model.proofs.Cut.{atomic_parts}
use Rattle.nvme_model.proofs.HasBlock.{has_inside}
use Rattle.atomic_units.specs.Tiles.{Adjoin, all_atomic}

pub adjoin_from : (u : AtomicParameters) (s n : ℕ) (rs : List Range) → IsCut u s n rs → Adjoin s n rs
adjoin_from u s n [] h = h
adjoin_from u s n (r ∷ rs) h =
    (h.0, (atomic_parts u s r.blocks h.2).some, h.1, adjoin_from u (s + r.blocks) (n - r.blocks) rs h.4)

pub all_atomic_from : (u : AtomicParameters) (s n : ℕ) (rs : List Range) → IsCut u s n rs → all_atomic u rs ≡ true
all_atomic_from u s n [] h = refl
all_atomic_from u s n (r ∷ rs) h = and_from _ _ (rw h.0 h.2) (all_atomic_from u (s + r.blocks) (n - r.blocks) rs h.4)

-- ---- which ranges have a block

pub has_before : (r : Range) (l : ℕ) → l < r.slba → has_block r l ≡ false
has_before r l a = and_left (leb r.slba l) _ (lt-leb r.slba l a)

pub has_behind : (r : Range) (l : ℕ) → r.slba + r.blocks ≤ l → has_block r l ≡ false
has_behind r l a = and_right (leb r.slba l) _ (le-ltb l (r.slba + r.blocks) a)

count_yes : (l : ℕ) (r : Range) (rs : List Range) → has_block r l ≡ true → count_by (λ r. has_block r l) rs ≡ 0
    → count_by (λ r. has_block r l) (r ∷ rs) ≡ 1
count_yes l r rs h e = sum_by-cons (λ x. cond (has_block x l) 1 0) r rs ∙ rw h (omega (arith, e))

count_no : (l : ℕ) (r : Range) (rs : List Range) → has_block r l ≡ false
    → count_by (λ r. has_block r l) (r ∷ rs) ≡ count_by (λ r. has_block r l) rs
count_no l r rs h = sum_by-cons (λ x. cond (has_block x l) 1 0) r rs ∙ rw h (omega arith)

count_before : (s n l : ℕ) (rs : List Range) → Adjoin s n rs → l < s → count_by (λ r. has_block r l) rs ≡ 0
count_before s n l [] h a = refl
count_before s n l (r ∷ rs) h a =
    count_no l r rs (has_before r l (omega (arith, a, h.0)))
    ∙ count_before (s + r.blocks) (n - r.blocks) l rs h.3 (omega (arith, a))

count_behind : (s n l : ℕ) (rs : List Range) → Adjoin s n rs → s + n ≤ l → count_by (λ r. has_block r l) rs ≡ 0
count_behind s n l [] h a = refl
count_behind s n l (r ∷ rs) h a =
    count_no l r rs (has_behind r l (omega (arith, a, h.0, h.2)))
    ∙ count_behind (s + r.blocks) (n - r.blocks) l rs h.3 (omega (arith, a, h.2))

count_inside : (s n l : ℕ) (rs : List Range) → Adjoin s n rs → s ≤ l → l < s + n → count_by (λ r. has_block r l) rs ≡ 1
count_inside s n l [] h a b = absurd (omega (arith, h, a, b))
count_inside s n l (r ∷ rs) h a b =
    elim (cases_lt l (s + r.blocks)) [
      | inl c ↦ count_yes l r rs (has_inside r l (omega (arith, h.0, a)) (omega (arith, h.0, c)))
          (count_before (s + r.blocks) (n - r.blocks) l rs h.3 c)
      | inr c ↦ count_no l r rs (has_behind r l (omega (arith, h.0, c)))
          ∙ count_inside (s + r.blocks) (n - r.blocks) l rs h.3 c (omega (arith, b, c, h.2))
    ]

-- the ranges have each block of the whole once, and no other
pub count_from : (s n l : ℕ) (rs : List Range) → Adjoin s n rs
    → count_by (λ r. has_block r l) rs ≡ cond (has_block (record { slba = s; blocks = n }) l) 1 0
count_from s n l rs h =
    elim (cases_lt l s) [
      | inl a ↦ count_before s n l rs h a ∙ sym (cond-false _ 1 0 (has_before (record { slba = s; blocks = n }) l a))
      | inr a ↦ elim (cases_lt l (s + n)) [
        | inl b ↦ count_inside s n l rs h a b
            ∙ sym (cond-true _ 1 0 (has_inside (record { slba = s; blocks = n }) l a b))
        | inr b ↦ count_behind s n l rs h b ∙ sym (cond-false _ 1 0 (has_behind (record { slba = s; blocks = n }) l b))
      ]
    ]
