-- Which hosts were made of a disk.
use Rattle.std.proofs.Common.{List, ap, arith, eq-eqb, false, get_or, get_or-set_same, inl, inr, length, set, sym}
use Rattle.std.proofs.Common.{ℕ, ◌-◌, ◌<◌, ◌∙◌, ◌≡◌, ◌≢◌, ◌≤◌}
use Rattle.std.proofs.lemmas.Bool.{cases_eq, cases_lt}
use Rattle.std.proofs.lemmas.List.{get_or-replicate, get_or-set_other, get_or_past, length-replicate}
use Rattle.std.proofs.lemmas.List.Folds.{list_any_at}
use Rattle.std.specs.Prelude.{replicate, ◌==◌}
use Rattle.nvme_model.proofs.Cut.{clash}
use Rattle.c_handles.specs.HostNumbers.{AreApart, has_number}

abbrev zeros : ℕ → List ℕ
zeros count = replicate count 0

-- each is 0, and so is what is behind them
none : (count i : ℕ) → get_or (zeros count) i 0 ≡ 0
none count i = elim (cases_lt i count) [
  | inl within ↦ get_or-replicate count i 0 0 within
  | inr past ↦
      get_or_past (zeros count) i 0
      (let size : length (zeros count) ≡ count = length-replicate count 0 in omega (arith, size, past))
]

-- where no host was made, all are apart
pub apart_none : (count : ℕ) → AreApart (replicate count 0)
apart_none count i j some same = absurd (omega (arith, some, none count i))

module _ (numbers : List ℕ) (k n : ℕ) (there : k < length numbers) (apart : AreApart numbers)
    (new : has_number numbers n ≡ false) where
  abbrev after : List ℕ
  after = set numbers k n

  here : get_or after k 0 ≡ n
  here = get_or-set_same numbers k n 0 there

  elsewhere : (i : ℕ) → i ≢ k → get_or after i 0 ≡ get_or numbers i 0
  elsewhere i other = get_or-set_other numbers k i n 0 other

  -- the new number stands nowhere else
  nowhere : (i : ℕ) → 0 < n → get_or numbers i 0 ≡ n → ⊥
  nowhere i some same = elim (cases_lt i (length numbers)) [
    | inl within ↦
        clash (has_number numbers n)
        (list_any_at (λ m. m == n) numbers i 0 within (eq-eqb (get_or numbers i 0) n same)) new
    | inr past ↦ let none : get_or numbers i 0 ≡ 0 = get_or_past numbers i 0 past in omega (arith, some, same, none)
  ]

  -- with a new one all are apart
  pub apart_with : AreApart after
  apart_with i j some same = elim (cases_eq i k) [
    | inl one ↦ elim (cases_eq j k) [
      | inl two ↦ one ∙ sym two
      | inr other ↦
          let at : get_or after i 0 ≡ n = rw one here in
          absurd (nowhere j (omega (arith, some, at)) (sym (elsewhere j other) ∙ sym same ∙ at))
    ]
    | inr unlike ↦ elim (cases_eq j k) [
      | inl two ↦
          let at : get_or after j 0 ≡ n = rw two here in
          absurd (nowhere i (omega (arith, some, same, at)) (sym (elsewhere i unlike) ∙ same ∙ at))
      | inr other ↦
          apart i j (omega (arith, some, elsewhere i unlike)) (sym (elsewhere i unlike) ∙ same ∙ elsewhere j other)
    ]
  ]

-- the same by the completion queue at whose place it is noted
pub apart_noted : (numbers view : List ℕ) (queue k n : ℕ) → numbers ≡ view → k ≡ queue - 1 → 1 ≤ queue
    → queue ≤ length view → AreApart numbers → has_number view n ≡ false → AreApart (set numbers k n)
apart_noted numbers view queue k n same at some most apart new =
    let size : length numbers ≡ length view = ap (λ (ns : List ℕ). length ns) same in
    apart_with numbers k n (omega (arith, at, some, most, size)) apart
    (ap (λ (ns : List ℕ). has_number ns n) same ∙ new)
