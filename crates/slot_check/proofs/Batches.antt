-- The Writes of a batch, its pairs, claims and releases, entry by entry.
use Rattle.std.proofs.Common.{◌≡◌, ℕ, zero, suc, ◌+◌, ◌<◌, ◌≤◌, Bool, true, false, not, ◌&&◌, cond, List, []}
use Rattle.std.proofs.Common.{◌∷◌, ◌++◌}
use Rattle.std.proofs.Common.{length, refl, sym, ap, ap₂, ◌∙◌, arith, drop, get_or, eqb, None, Option, Some}
use Rattle.std.specs.List.{filter, list_any}
use Rattle.std.specs.Str.{bytes_eq}
use Rattle.std.proofs.lemmas.List.{append-nil, append_assoc, length-drop}
use Rattle.std.proofs.lemmas.List.Elements.{filter-append}
use Rattle.nvme_model.specs.Array.{zeros}
use Rattle.nvme_model.specs.EntryBytes.{slba, sqe_fields}
use Rattle.nvme_model.specs.Slots.{Swap, is_pair_on_one, name_of, swap_by, swap_of, touches}
use Rattle.nvme_model.specs.declared.array.Range.{Range}
use Rattle.nvme_model.specs.declared.submission.Submission.{Submission}
use Rattle.host_laws.proofs.Names.{bytes_are}
use Rattle.slot_check.specs.Broken.{first_touched, write_alone}

pub drop_at : {X : Type 0} (xs : List X) (i : ℕ) (d : X) → i < length xs → drop i xs ≡ get_or xs i d ∷ drop (suc i) xs
drop_at [] i d l = absurd (omega (arith, l))
drop_at (x ∷ xs) zero d l = refl
drop_at (x ∷ xs) (suc i) d l = drop_at xs i d (omega (arith, l))

pub drop_is : {X : Type 0} (xs : List X) (i : ℕ) (x : X) → i < length xs → x ≡ get_or xs i x
    → drop i xs ≡ x ∷ drop (suc i) xs
drop_is xs i x l e = drop_at xs i x l ∙ ap (λ y. y ∷ drop (suc i) xs) (sym e)

-- ---- Writes

abbrev alone_or : Range → ℕ → ℕ → Submission → List Submission → List Swap → Bool → Option ℕ
alone_or slots q j s batch of b = cond b (Some (first_touched slots s)) (write_alone slots q (suc j) batch of)

-- this one isn't alone
pub alone_next : (slots : Range) (q first : ℕ) (batch : List Submission) (of : List Swap) (i : ℕ) (s : Submission)
    → i < length batch → s ≡ get_or batch i s
    → (touches slots s && not (list_any (λ w. eqb (suc w.number) (first + i)) of)) ≡ false
    → write_alone slots q (first + (i + 1)) (drop (i + 1) batch) of ≡ write_alone slots q (first + i) (drop i batch) of
alone_next slots q first batch of i s l e h =
    let more : i + 1 ≡ suc i = omega arith in
    let n : first + (i + 1) ≡ suc (first + i) = omega arith in
    (λ j. write_alone slots q (n j) (drop (more j) batch) of)
    ∙ ap (alone_or slots q (first + i) s (drop (suc i) batch) of) (sym h)
    ∙ ap (λ (xs : List Submission). write_alone slots q (first + i) xs of) (sym (drop_is batch i s l e))

-- this one is
pub alone_here : (slots : Range) (q first : ℕ) (batch : List Submission) (of : List Swap) (i : ℕ) (s : Submission)
    → i < length batch → s ≡ get_or batch i s
    → (touches slots s && not (list_any (λ w. eqb (suc w.number) (first + i)) of)) ≡ true
    → Some (first_touched slots s) ≡ write_alone slots q (first + i) (drop i batch) of
alone_here slots q first batch of i s l e h =
    ap (alone_or slots q (first + i) s (drop (suc i) batch) of) (sym h)
    ∙ ap (λ (xs : List Submission). write_alone slots q (first + i) xs of) (sym (drop_is batch i s l e))

-- ---- claims and releases

nobody : (bytes : List ℕ) → bytes_eq bytes zeros ≡ true → name_of bytes ≡ None
nobody bytes h = ap name_of (bytes_are bytes zeros h)

cond_nil : (b : Bool) (xs : List Swap) → xs ≡ [] → cond b xs [] ≡ []
cond_nil true xs e = e
cond_nil false xs e = refl

pub free_first : (q j : ℕ) (a b : Submission) → is_pair_on_one a b ≡ true → bytes_eq a.payload zeros ≡ true
    → swap_by true q j (slba (sqe_fields a.entry)) (name_of b.payload) ≡ swap_of q j a b
free_first q j a b pair free =
    let l = slba (sqe_fields a.entry) in
    let claim = swap_by true q j l (name_of b.payload) in
    let release = cond (bytes_eq b.payload zeros) (swap_by false q j l (name_of a.payload)) [] in
    let none : release ≡ [] = cond_nil (bytes_eq b.payload zeros) (swap_by false q j l (name_of a.payload))
    (ap (swap_by false q j l) (nobody a.payload free)) in
    sym (ap (λ (x : Bool). cond x (cond (bytes_eq a.payload zeros) claim [] ++ release) []) pair
    ∙ ap (λ (x : Bool). cond x claim [] ++ release) free ∙ ap (λ (xs : List Swap). claim ++ xs) none
    ∙ append-nil claim)

pub free_second : (q j : ℕ) (a b : Submission) → is_pair_on_one a b ≡ true → bytes_eq a.payload zeros ≡ false
    → bytes_eq b.payload zeros ≡ true
    → swap_by false q j (slba (sqe_fields a.entry)) (name_of a.payload) ≡ swap_of q j a b
free_second q j a b pair held free =
    let l = slba (sqe_fields a.entry) in
    let claim = swap_by true q j l (name_of b.payload) in
    let release = swap_by false q j l (name_of a.payload) in
    sym (ap (λ (x : Bool). cond x (cond (bytes_eq a.payload zeros) claim [] ++ cond
    (bytes_eq b.payload zeros) release []) []) pair
    ∙ ap₂ (λ (x y : Bool). cond x claim [] ++ cond y release []) held free)

-- ---- what pairs of entries are

module _ {X : Type 0} (pair : ℕ → Submission → Submission → List X) (of : ℕ → List Submission → List X) where
  -- what a batch is, pair by pair
  pub record IsByPairs : Type 0 where
    pub none : (j : ℕ) → of j [] ≡ []
    pub one : (j : ℕ) (a : Submission) → of j (a ∷ []) ≡ []
    pub more : (j : ℕ) (a b : Submission) (rest : List Submission)
        → of j (a ∷ b ∷ rest) ≡ pair j a b ++ of (suc j) (b ∷ rest)

  -- what the next pair is, of what passes a test, is added behind what was found
  pub pairs_next : IsByPairs → (test : X → Bool) (first : ℕ) (batch : List Submission) (i : ℕ) (a b : Submission)
      (found more : List X) → i + 1 < length batch → a ≡ get_or batch i a → b ≡ get_or batch (i + 1) b
      → more ≡ pair (first + i) a b
      → (found ++ filter test more) ++ filter test (of (first + (i + 1)) (drop (i + 1) batch))
      ≡ found ++ filter test (of (first + i) (drop i batch))
  pairs_next by test first batch i a b found more l e f m =
      let here : i + 1 ≡ suc i = omega arith in
      let n : first + (i + 1) ≡ suc (first + i) = omega arith in
      let after = drop (suc (suc i)) batch in
      let rest = of (suc (first + i)) (drop (suc i) batch) in
      let second : drop (suc i) batch ≡ b ∷ after =
      drop_is batch (suc i) b (omega (arith, l)) (f ∙ ap (λ (x : ℕ). get_or batch x b) here) in
      let both : drop i batch ≡ a ∷ b ∷ after =
      drop_is batch i a (omega (arith, l)) e ∙ ap (λ (xs : List Submission). a ∷ xs) second in
      (λ t. (found ++ filter test (m t)) ++ filter test (of (n t) (drop (here t) batch)))
      ∙ append_assoc found (filter test (pair (first + i) a b)) (filter test rest)
      ∙ ap (λ (xs : List X). found ++ xs)
      (sym (filter-append test (pair (first + i) a b) rest)
      ∙ ap (λ (xs : List Submission). filter test (pair (first + i) a b ++ of (suc (first + i)) xs)) second
      ∙ ap (filter test) (sym (by.more (first + i) a b after))
      ∙ ap (λ (xs : List Submission). filter test (of (first + i) xs)) (sym both))

  few : IsByPairs → (j : ℕ) (xs : List Submission) → length xs ≤ 1 → of j xs ≡ []
  few by j [] l = by.none j
  few by j (x ∷ []) l = by.one j x
  few by j (x ∷ y ∷ xs) l = absurd (omega (arith, l))

  pub pairs_end : IsByPairs → (test : X → Bool) (first : ℕ) (batch : List Submission) (i : ℕ) (found : List X)
      → length batch ≤ i + 1 → found ≡ found ++ filter test (of (first + i) (drop i batch))
  pairs_end by test first batch i found l =
      sym (ap (λ (xs : List X). found ++ filter test xs)
      (few by (first + i) (drop i batch) (omega (arith, length-drop i batch, l))) ∙ append-nil found)
