-- A list of entries is legal, or has one first place at which it is not.
use Rattle.std.proofs.Common.{◌≡◌, ℕ, ◌+◌, ◌≤◌, Bool, true, false, cond, List, [], ◌∷◌, ◌++◌, length, take, reverse}
use Rattle.std.proofs.Common.{refl, sym, ap, ◌∙◌, subst, Option, Some, None, inl, inr, arith}
use Rattle.std.proofs.lemmas.List.{reverse-append, reverse-reverse, length-reverse, take-append-le}
use Rattle.std.proofs.lemmas.Bool.{and_from, and_right, cases_lt}
use Rattle.nvme_model.specs.declared.config.ConfigNumbers.{ConfigNumbers}
use Rattle.nvme_model.specs.History.{Past}
use Rattle.nvme_model.specs.Legal.{may_follow, legal, IsLegal, IsLegalFile}
use Rattle.nvme_model.specs.FirstBad.{IsFirstBad, earlier_or, first_bad_of, first_bad}
use Rattle.nvme_model.specs.declared.entry.Entry.{Entry}
use Rattle.nvme_model.proofs.Beginnings.{beginning}
use Rattle.nvme_model.proofs.Cut.{clash}

snoc : (e : Entry) (past : Past) → reverse (e ∷ past) ≡ reverse past ++ (e ∷ [])
snoc e past = reverse-append (e ∷ []) past

-- ---- no place

none_legal : (c : ConfigNumbers) (past : Past) → first_bad_of c past ≡ None → IsLegal c past
none_legal c [] h = refl
none_legal c (e ∷ past) h = go (first_bad_of c past) (may_follow c past e) refl refl (none_legal c past) h
  where
    go : (o : Option ℕ) (b : Bool) → first_bad_of c past ≡ o → may_follow c past e ≡ b
        → (first_bad_of c past ≡ None → IsLegal c past) → earlier_or o (cond b None (Some (length past + 1))) ≡ None
        → IsLegal c (e ∷ past)
    go None true p q ih h = and_from _ _ (ih p) q
    go None false p q ih h = absurd (let f : Some (length past + 1) ≡ None = h in cc)
    go (Some k) b p q ih h = absurd (let f : Some k ≡ None = h in cc)

-- ---- a place

beginning_more : (c : ConfigNumbers) (e : Entry) (past : Past) (k : ℕ) → k ≤ length past
    → take k (reverse past) ≡ take k (reverse (e ∷ past))
beginning_more c e past k l =
    sym (ap (take k) (snoc e past) ∙ take-append-le k (reverse past) (e ∷ []) (omega (arith, l, length-reverse past)))

all_of : (past : Past) → take (length past) (reverse past) ≡ reverse past
all_of past = subst (λ (i : ℕ). take i (reverse past) ≡ reverse past) (length-reverse past) (go (reverse past))
  where
    go : (xs : List Entry) → take (length xs) xs ≡ xs
    go [] = refl
    go (x ∷ xs) = ap (λ (ys : List Entry). x ∷ ys) (go xs)

later_bad : (c : ConfigNumbers) (e : Entry) (past : Past) (k : ℕ) → IsFirstBad c (reverse past) k
    → IsFirstBad c (reverse (e ∷ past)) k
later_bad c e past k h =
    let within : k ≤ length past = omega (arith, h.1, length-reverse past) in (
      h.0,
      omega (arith, within, length-reverse (e ∷ past)),
      subst (λ (xs : List Entry). legal c (reverse xs) ≡ false) (beginning_more c e past k within) h.2,
      λ j l. subst (λ (xs : List Entry). IsLegalFile c xs) (beginning_more c e past j (omega (arith, l, within)))
          (h.3 j l),
    )

last_bad : (c : ConfigNumbers) (e : Entry) (past : Past) → IsLegal c past → may_follow c past e ≡ false
    → IsFirstBad c (reverse (e ∷ past)) (length past + 1)
last_bad c e past h f = (
  omega arith,
  omega (arith, length-reverse (e ∷ past)),
  subst (λ (xs : Past). legal c xs ≡ false) (sym whole) (and_right (legal c past) (may_follow c past e) f),
  λ j l. subst (λ (xs : List Entry). IsLegalFile c xs) (beginning_more c e past j (omega (arith, l)))
      (beginning c (reverse past) j (subst (λ (xs : Past). IsLegal c xs) (sym (reverse-reverse past)) h)),
)
  where
    count : length past + 1 ≡ length (e ∷ past)
    count = omega arith

    whole : reverse (take (length past + 1) (reverse (e ∷ past))) ≡ e ∷ past
    whole = ap (λ (i : ℕ). reverse (take i (reverse (e ∷ past)))) count
        ∙ (ap reverse (all_of (e ∷ past)) ∙ reverse-reverse (e ∷ past))

some_bad : (c : ConfigNumbers) (past : Past) (k : ℕ) → first_bad_of c past ≡ Some k → IsFirstBad c (reverse past) k
some_bad c [] k h = absurd (let f : None ≡ Some k = h in cc)
some_bad c (e ∷ past) k h = go (first_bad_of c past) (may_follow c past e) refl refl (some_bad c past k) h
  where
    same : (i : ℕ) → Some i ≡ Some k → i ≡ k
    same i q = cc

    go : (o : Option ℕ) (b : Bool) → first_bad_of c past ≡ o → may_follow c past e ≡ b
        → (first_bad_of c past ≡ Some k → IsFirstBad c (reverse past) k)
        → earlier_or o (cond b None (Some (length past + 1))) ≡ Some k → IsFirstBad c (reverse (e ∷ past)) k
    go None true p q ih h = absurd (let f : None ≡ Some k = h in cc)
    go None false p q ih h =
        subst (IsFirstBad c (reverse (e ∷ past))) (same (length past + 1) h) (last_bad c e past (none_legal c past p) q)
    go (Some i) b p q ih h = later_bad c e past k (ih (p ∙ h))

-- ---- of a file

-- no place means legal
pub none_is_legal : (c : ConfigNumbers) (entries : List Entry) → first_bad c entries ≡ None → IsLegalFile c entries
none_is_legal c entries h = none_legal c (reverse entries) h

pub some_is_first : (c : ConfigNumbers) (entries : List Entry) (k : ℕ) → first_bad c entries ≡ Some k
    → IsFirstBad c entries k
some_is_first c entries k h =
    subst (λ (xs : List Entry). IsFirstBad c xs k) (reverse-reverse entries) (some_bad c (reverse entries) k h)

pub not_both : (c : ConfigNumbers) (entries : List Entry) (k : ℕ) → IsLegalFile c entries → IsFirstBad c entries k → ⊥
not_both c entries k h b = clash (legal c (reverse (take k entries))) (beginning c entries k h) b.2

pub legal_is_none : (c : ConfigNumbers) (entries : List Entry) → IsLegalFile c entries → first_bad c entries ≡ None
legal_is_none c entries h = go (first_bad c entries) refl
  where
    go : (o : Option ℕ) → first_bad c entries ≡ o → o ≡ None
    go None e = refl
    go (Some k) e = absurd (not_both c entries k h (some_is_first c entries k e))

-- there is one such place at most
pub one_first : (c : ConfigNumbers) (entries : List Entry) (i j : ℕ) → IsFirstBad c entries i → IsFirstBad c entries j
    → i ≡ j
one_first c entries i j a b =
    elim (cases_lt i j) [
      | inl l ↦ absurd (clash {A = ⊥} (legal c (reverse (take i entries))) (b.3 i l) a.2)
      | inr l ↦ elim (cases_lt j i) [
        | inl m ↦ absurd (clash {A = ⊥} (legal c (reverse (take j entries))) (a.3 j m) b.2)
        | inr m ↦ omega (arith, l, m)
      ]
    ]

pub first_is_some : (c : ConfigNumbers) (entries : List Entry) (k : ℕ) → IsFirstBad c entries k
    → first_bad c entries ≡ Some k
first_is_some c entries k h = go (first_bad c entries) refl
  where
    go : (o : Option ℕ) → first_bad c entries ≡ o → o ≡ Some k
    go None e = absurd (not_both c entries k (none_is_legal c entries e) h)
    go (Some i) e = ap Some (one_first c entries i k (some_is_first c entries i e) h)
