-- `cut` is the one list of maximal atomic ranges.
use Rattle.std.proofs.Common.{◌≡◌, ℕ, zero, suc, ◌+◌, ◌-◌, ◌≤◌, ◌<◌, Bool, true, false, ◌&&◌, List, [], ◌∷◌, length}
use Rattle.std.proofs.Common.{refl, sym, ap, ◌∙◌, ◌↔◌, subst, arith, nat_le, ◌==◌, inl, inr, true≢false, le-leb}
use Rattle.std.proofs.Common.{leb-true, eq-eqb}
use Rattle.std.specs.List.{list_all}
use Rattle.std.proofs.lemmas.Bool.{and_parts, and_from, cases_eq, cases_Bool, cond-true, cond-false}
use Rattle.nvme_model.specs.declared.config.AtomicParameters.{AtomicParameters}
use Rattle.nvme_model.specs.Array.{blocks_from}
use Rattle.nvme_model.specs.Cells.{cell, in_one_cell, is_atomic}
use Rattle.nvme_model.specs.Cut.{IsCut, longest, cut_within, cut}
use Rattle.nvme_model.specs.declared.array.Range.{Range}

pub clash : {A : Type 0} (b : Bool) → b ≡ true → b ≡ false → A
clash b t f = absurd (true≢false (sym t ∙ f))

-- ---- a shorter range is atomic too

fewer : (p : ℕ → Bool) (s n : ℕ) → list_all p (blocks_from s (suc n)) ≡ true → list_all p (blocks_from s n) ≡ true
fewer p s zero h = refl
fewer p s (suc n) h =
    let both = and_parts _ _ h in
    and_from _ _ both.0 (fewer p (suc s) n both.1)

-- what the test says
pub record Atomic (u : AtomicParameters) (s n : ℕ) : Type 0 where
  pub some : 1 ≤ n
  pub short : n ≤ u.awun + 1
  pub one_cell : in_one_cell u s n ≡ true

pub atomic_parts : (u : AtomicParameters) (s n : ℕ) → is_atomic u s n ≡ true → Atomic u s n
atomic_parts u s n h =
    let a = and_parts (nat_le 1 n && nat_le n (u.awun + 1)) (in_one_cell u s n) h in
    let b = and_parts (nat_le 1 n) (nat_le n (u.awun + 1)) a.0 in
    record { some = leb-true 1 n b.0; short = leb-true n (u.awun + 1) b.1; one_cell = a.1 }

pub atomic_from : (u : AtomicParameters) (s n : ℕ) → Atomic u s n → is_atomic u s n ≡ true
atomic_from u s n a =
    and_from _ _ (and_from _ _ (le-leb 1 n a.some) (le-leb n (u.awun + 1) a.short)) a.one_cell

pub atomic_one_less : (u : AtomicParameters) (s n : ℕ) → is_atomic u s (suc n) ≡ true → 1 ≤ n → is_atomic u s n ≡ true
atomic_one_less u s n h l =
    let a = atomic_parts u s (suc n) h in
    atomic_from u s n (record {
      some = l;
      short = omega (arith, a.short);
      one_cell = fewer (λ b. cell u b == cell u s) s n a.one_cell;
    })

pub atomic_shorter : (u : AtomicParameters) (s n m : ℕ) → is_atomic u s n ≡ true → 1 ≤ m → m ≤ n
    → is_atomic u s m ≡ true
atomic_shorter u s zero m h l k = absurd (omega arith)
atomic_shorter u s (suc n) m h l k =
    elim (cases_eq m (suc n)) [
      | inl e ↦ rw e h
      | inr d ↦ atomic_shorter u s n m (atomic_one_less u s n h (omega arith)) l (omega arith)
    ]

pub atomic_one : (u : AtomicParameters) (s : ℕ) → is_atomic u s 1 ≡ true
atomic_one u s =
    atomic_from u s 1 (record {
      some = omega arith;
      short = omega arith;
      one_cell = and_from _ _ (eq-eqb (cell u s) (cell u s) refl) refl;
    })

-- ---- the longest atomic range

pub longest_is : (u : AtomicParameters) (s n m : ℕ) → m ≤ n → is_atomic u s m ≡ true
    → (m < n → is_atomic u s (suc m) ≡ false) → longest u s n ≡ m
longest_is u s zero m l a f = omega arith
longest_is u s (suc n) m l a f =
    elim (cases_Bool (is_atomic u s (suc n))) [
      | inl t ↦ cond-true _ _ _ t ∙ elim (cases_eq m (suc n)) [
        | inl e ↦ sym e
        | inr d ↦ clash (is_atomic u s (suc m)) (atomic_shorter u s (suc n) (suc m) t (omega arith) (omega arith))
            (f (omega arith))
      ]
      | inr t ↦ cond-false _ _ _ t ∙ elim (cases_eq m (suc n)) [
        | inl e ↦ clash (is_atomic u s (suc n)) (rw e at a) t
        | inr d ↦ longest_is u s n m (omega arith) a (λ k. f (omega arith))
      ]
    ]

pub record Longest (u : AtomicParameters) (s n m : ℕ) : Type 0 where
  pub atomic : is_atomic u s m ≡ true
  pub within : m ≤ n
  pub most : m < n → is_atomic u s (suc m) ≡ false

pub longest_facts : (u : AtomicParameters) (s n : ℕ) → Longest u s (suc n) (longest u s (suc n))
longest_facts u s zero =
    rw (cond-true _ _ _ (atomic_one u s))
    (record { atomic = atomic_one u s; within = omega arith; most = λ k. absurd (omega arith) })
longest_facts u s (suc n) =
    elim (cases_Bool (is_atomic u s (suc (suc n)))) [
      | inl t ↦ rw (cond-true (is_atomic u s (suc (suc n))) (suc (suc n)) (longest u s (suc n)) t)
          (record { atomic = t; within = omega arith; most = λ k. absurd (omega arith) })
      | inr t ↦ rw (cond-false (is_atomic u s (suc (suc n))) (suc (suc n)) (longest u s (suc n)) t)
          (longer (longest_facts u s n) t)
    ]
  where
    longer : {m : ℕ} → Longest u s (suc n) m → is_atomic u s (suc (suc n)) ≡ false → Longest u s (suc (suc n)) m
    longer {m} l t =
        record {
          atomic = l.atomic;
          within = omega (arith, l.within);
          most = λ k. elim (cases_eq m (suc n)) [
            | inl e ↦ rw e t
            | inr d ↦ l.most (omega (arith, l.within))
          ];
        }

-- ---- the list

same_cons : (k : ℕ) (u : AtomicParameters) (s n m : ℕ) (r : Range) (rs : List Range) → r.slba ≡ s → m ≡ r.blocks
    → rs ≡ cut_within k u (s + r.blocks) (n - r.blocks)
    → r ∷ rs ≡ record { slba = s; blocks = m } ∷ cut_within k u (s + m) (n - m)
same_cons k u s n m r rs a e h = rw (e, ← a) (ap (λ (x : List Range). r ∷ x) (rw (← a) at h))

unique_within : (k : ℕ) (u : AtomicParameters) (s n : ℕ) (rs : List Range) → n ≤ k → IsCut u s n rs
    → rs ≡ cut_within k u s n
unique_within k u s n [] l h = rw h refl
unique_within k u s zero (r ∷ rs) l h = absurd (omega (arith, (atomic_parts u s r.blocks h.2).some, h.1))
unique_within zero u s (suc n) (r ∷ rs) l h = absurd (omega arith)
unique_within (suc k) u s (suc n) (r ∷ rs) l h =
    let some = (atomic_parts u s r.blocks h.2).some in
    same_cons k u s (suc n) (longest u s (suc n)) r rs h.0 (longest_is u s (suc n) r.blocks h.1 h.2 h.3)
    (unique_within k u (s + r.blocks) (suc n - r.blocks) rs (omega (arith, some, h.1)) h.4)

pub cut-unique : (u : AtomicParameters) (s n : ℕ) (rs : List Range) → IsCut u s n rs → rs ≡ cut u s n
cut-unique u s n rs h = unique_within n u s n rs (omega arith) h

is_within : (k : ℕ) (u : AtomicParameters) (s n : ℕ) → n ≤ k → IsCut u s n (cut_within k u s n)
is_within k u s zero l = refl
is_within zero u s (suc n) l = absurd (omega arith)
is_within (suc k) u s (suc n) l =
    let f = longest_facts u s n in
    let some = (atomic_parts u s (longest u s (suc n)) f.atomic).some in (
      refl,
      f.within,
      f.atomic,
      f.most,
      is_within k u (s + longest u s (suc n)) (suc n - longest u s (suc n)) (omega (arith, some, l)),
    )

pub cut-is : (u : AtomicParameters) (s n : ℕ) → IsCut u s n (cut u s n)
cut-is u s n = is_within n u s n (omega arith)

-- ---- an atomic range is one unit

pub cut-atomic : (u : AtomicParameters) (s n : ℕ) → is_atomic u s n ≡ true
    → cut u s n ≡ record { slba = s; blocks = n } ∷ []
cut-atomic u s n h =
    let r : Range = record { slba = s; blocks = n } in
    sym (cut-unique u s n (r ∷ []) (refl, omega arith, h, λ l. absurd (omega (arith, l)), omega arith))

one_is_atomic : (u : AtomicParameters) (s n : ℕ) (rs : List Range) → IsCut u s n rs → length rs ≡ 1
    → is_atomic u s n ≡ true
one_is_atomic u s n [] h l = absurd (omega (arith, l))
one_is_atomic u s n (r ∷ []) h l = let e : r.blocks ≡ n = omega (arith, h.1, h.4) in
    subst (λ (i : ℕ). is_atomic u s i ≡ true) e h.2
one_is_atomic u s n (r ∷ q ∷ rs) h l = absurd (omega (arith, l))

pub one_unit : (u : AtomicParameters) (s n : ℕ) → (length (cut u s n) ≡ 1) ↔ (is_atomic u s n ≡ true)
one_unit u s n = (λ l. one_is_atomic u s n (cut u s n) (cut-is u s n) l, λ h. ap length (cut-atomic u s n h))
