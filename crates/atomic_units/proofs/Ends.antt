-- Blocks lie in one cell where the first and the last do.
use Rattle.std.proofs.Common.{◌≡◌, ◌≢◌, ℕ, zero, suc, ◌+◌, ◌-◌, ◌*◌, ◌/◌, ◌≤◌, ◌<◌, Bool, true, eqb, refl, sym, ap, ◌∙◌}
use Rattle.std.proofs.Common.{arith, inl, inr, ◌==◌, eq-eqb, eqb-true, ne_eqb, lt-ltb, le-ltb, true≢false, not, ◌↔◌}
use Rattle.std.specs.List.{list_all}
use Rattle.std.proofs.lemmas.Bool.{and_parts, and_from, or_left, or_right, or_from, cases_eq, cases_lt, cases_Bool}
use Rattle.std.proofs.lemmas.Bool.{cond-true, cond-false, false_from_ne_true, not-true, not_from_false}
use Rattle.std.proofs.lemmas.Nat.{le-div}
use Rattle.std.proofs.Math.Nat.{div-mul-le_self}
use Rattle.nvme_model.specs.Array.{blocks_from}
use Rattle.nvme_model.specs.Cells.{cell, in_one_cell}
use Rattle.nvme_model.specs.declared.config.AtomicParameters.{AtomicParameters}

-- ---- the cell of a block

pub cell_unbounded : (u : AtomicParameters) (l : ℕ) → u.nabsn ≡ 0 → cell u l ≡ 0
cell_unbounded u l e = cond-true _ _ _ (or_left _ _ (eq-eqb u.nabsn 0 e))

pub cell_below : (u : AtomicParameters) (l : ℕ) → l < u.nabo → cell u l ≡ 0
cell_below u l h = cond-true _ _ _ (or_right (eqb u.nabsn 0) _ (lt-ltb l u.nabo h))

pub cell_above : (u : AtomicParameters) (l : ℕ) → (u.nabsn ≡ 0 → ⊥) → u.nabo ≤ l
    → cell u l ≡ (l - u.nabo) / (u.nabsn + 1) + 1
cell_above u l n h = cond-false _ _ _ (or_from _ _ (ne_eqb u.nabsn 0 n) (le-ltb l u.nabo h))

div_less : (a b w : ℕ) → 0 < w → a ≤ b → a / w ≤ b / w
div_less a b w p h =
    let low : a / w * w ≤ a = div-mul-le_self a w in
    le-div (a / w) b w p (omega (arith, low, h))

-- a later block is in no earlier cell
pub cell_grows : (u : AtomicParameters) (l m : ℕ) → l ≤ m → cell u l ≤ cell u m
cell_grows u l m h =
    elim (cases_eq u.nabsn 0) [
      | inl e ↦ omega (arith, cell_unbounded u l e)
      | inr n ↦ elim (cases_lt l u.nabo) [
        | inl b ↦ omega (arith, cell_below u l b)
        | inr a ↦
            let less : (l - u.nabo) / (u.nabsn + 1) ≤ (m - u.nabo) / (u.nabsn + 1) =
            div_less (l - u.nabo) (m - u.nabo) (u.nabsn + 1) (omega arith) (omega (arith, h)) in
            omega (arith, cell_above u l n a, cell_above u m n (omega (arith, a, h)), less)
      ]
    ]

-- ---- block by block

-- a test that each of the blocks passes
pub all_from : (p : ℕ → Bool) (s n : ℕ) → ((k : ℕ) → k < n → p (s + k) ≡ true) → list_all p (blocks_from s n) ≡ true
all_from p s zero f = refl
all_from p s (suc n) f =
    let here : p s ≡ true = let e : s + 0 ≡ s = omega arith in ap p (sym e) ∙ f 0 (omega arith) in
    let later : (k : ℕ) → k < n → p (suc s + k) ≡ true = λ k l. let e : s + suc k ≡ suc s + k = omega arith in
    ap p (sym e) ∙ f (suc k) (omega (arith, l)) in
    and_from (p s) (list_all p (blocks_from (suc s) n)) here (all_from p (suc s) n later)

pub all_at : (p : ℕ → Bool) (s n k : ℕ) → list_all p (blocks_from s n) ≡ true → k < n → p (s + k) ≡ true
all_at p s zero k h l = absurd (omega (arith, l))
all_at p s (suc n) zero h l = let e : s + 0 ≡ s = omega arith in
    ap p e ∙ (and_parts (p s) (list_all p (blocks_from (suc s) n)) h).0
all_at p s (suc n) (suc k) h l =
    let e : s + suc k ≡ suc s + k = omega arith in
    ap p e ∙ all_at p (suc s) n k (and_parts (p s) (list_all p (blocks_from (suc s) n)) h).1 (omega (arith, l))

pub one_cell_from : (u : AtomicParameters) (s n : ℕ) → ((k : ℕ) → k < n → cell u (s + k) ≡ cell u s)
    → in_one_cell u s n ≡ true
one_cell_from u s n f = all_from (λ l. cell u l == cell u s) s n (λ k l. eq-eqb (cell u (s + k)) (cell u s) (f k l))

pub one_cell_at : (u : AtomicParameters) (s n k : ℕ) → in_one_cell u s n ≡ true → k < n → cell u (s + k) ≡ cell u s
one_cell_at u s n k h l = eqb-true (cell u (s + k)) (cell u s) (all_at (λ l. cell u l == cell u s) s n k h l)

-- ---- the ends decide

one_cell_between : (u : AtomicParameters) (s n : ℕ) → 1 ≤ n → cell u (s + n - 1) ≡ cell u s → in_one_cell u s n ≡ true
one_cell_between u s n o e =
    one_cell_from u s n (λ k l.
    omega (arith, e, cell_grows u s (s + k) (omega arith), cell_grows u (s + k) (s + n - 1) (omega (arith, l))))

last_at : (u : AtomicParameters) (s n : ℕ) → 1 ≤ n → in_one_cell u s n ≡ true → cell u (s + n - 1) ≡ cell u s
last_at u s n o h =
    let e : s + n - 1 ≡ s + (n - 1) = omega (arith, o) in
    ap (cell u) e ∙ one_cell_at u s n (n - 1) h (omega (arith, o))

-- the blocks are in one cell exactly where the last is in the first one's
pub in_one_cell_ends : (u : AtomicParameters) (s n : ℕ) → 1 ≤ n → in_one_cell u s n ≡ (cell u (s + n - 1) == cell u s)
in_one_cell_ends u s n o =
    elim (cases_Bool (in_one_cell u s n)) [
      | inl t ↦ t ∙ sym (eq-eqb (cell u (s + n - 1)) (cell u s) (last_at u s n o t))
      | inr f ↦ f ∙ sym (ne_eqb (cell u (s + n - 1)) (cell u s)
          (λ (e : cell u (s + n - 1) ≡ cell u s). true≢false (sym (one_cell_between u s n o e) ∙ f)))
    ]

-- the same as a fact
pub ends_decide : (u : AtomicParameters) (s n : ℕ) → 1 ≤ n
    → (in_one_cell u s n ≡ true) ↔ (cell u (s + n - 1) ≡ cell u s)
ends_decide u s n o = (last_at u s n o, one_cell_between u s n o)

-- where the blocks are not in one cell the ends are in two
pub ends_cross : (u : AtomicParameters) (s n : ℕ) → 1 ≤ n
    → (not (in_one_cell u s n) ≡ true) ↔ (cell u (s + n - 1) ≢ cell u s)
ends_cross u s n o = (
  λ t e. true≢false (sym (one_cell_between u s n o e) ∙ not-true (in_one_cell u s n) t),
  λ d. not_from_false (in_one_cell u s n) (false_from_ne_true (in_one_cell u s n) (λ t. d (last_at u s n o t))),
)
