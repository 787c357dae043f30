-- The first place at which a list of entries is no longer legal.
use Rattle.std.proofs.Common.{◌≡◌, ℕ, zero, suc, ◌+◌, ◌<◌, ◌≤◌, Bool, false, true, List, [], ◌∷◌, get_or, length}
use Rattle.std.proofs.Common.{reverse, take, refl, sym, ap, ◌∙◌, subst, arith}
use Rattle.std.proofs.lemmas.List.{reverse-append, take_more}
use Rattle.nvme_model.specs.FirstBad.{IsFirstBad}
use Rattle.nvme_model.specs.History.{Past}
use Rattle.nvme_model.specs.Legal.{IsLegal, IsLegalFile, legal}
use Rattle.nvme_model.specs.declared.config.ConfigNumbers.{ConfigNumbers}
use Rattle.nvme_model.specs.declared.entry.Entry.{Entry}
use Rattle.nvme_model.proofs.Beginnings.{beginning}
use Rattle.history_check.specs.Kept.{Stands, CheckerRun}

-- the entries up to a place, the newest first
pub one_more : (entries : List Entry) (i : ℕ) (e : Entry) → i < length entries → e ≡ get_or entries i e
    → reverse (take (i + 1) entries) ≡ e ∷ reverse (take i entries)
one_more entries i e l there =
    ap reverse (take_more entries i e l) ∙ reverse-append (take i entries) (get_or entries i e ∷ [])
    ∙ ap (λ (x : Entry). x ∷ reverse (take i entries)) (sym there)

-- fewer of fewer
take_fewer : (k i : ℕ) (xs : List Entry) → k ≤ i → take k (take i xs) ≡ take k xs
take_fewer zero i xs l = refl
take_fewer (suc k) zero xs l = absurd (omega (arith, l))
take_fewer (suc k) (suc i) [] l = refl
take_fewer (suc k) (suc i) (x ∷ xs) l = ap (λ (ys : List Entry). x ∷ ys) (take_fewer k i xs (omega (arith, l)))

-- entries that are legal, and with this one aren't
pub first_bad : (c : ConfigNumbers) (entries : List Entry) (i : ℕ) (e : Entry) → i < length entries
    → e ≡ get_or entries i e → IsLegal c (reverse (take i entries)) → legal c (e ∷ reverse (take i entries)) ≡ false
    → IsFirstBad c entries (i + 1)
first_bad c entries i e l there h f = (
  omega arith,
  omega (arith, l),
  ap (legal c) (one_more entries i e l there) ∙ f,
  λ k m. subst (λ (xs : List Entry). IsLegalFile c xs) (take_fewer k i entries (omega (arith, m)))
      (beginning c (take i entries) k h),
)

-- ---- by a checker

-- what it answers of one more entry, and for which history it stands then
pub taken : (c : ConfigNumbers) (entries : List Entry) (i : ℕ) (e : Entry) (old new : CheckerRun) (b : Bool)
    → i < length entries → e ≡ get_or entries i e → Stands c (reverse (take i entries)) old
    → (Stands old.config (reverse (take i entries)) old
    → (b ≡ legal old.config (e ∷ reverse (take i entries))) × Stands old.config (e ∷ reverse (take i entries)) new)
    → (b ≡ legal c (e ∷ reverse (take i entries))) × Stands c (reverse (take (i + 1) entries)) new
taken c entries i e old new b l there s t =
    let own = subst (λ (d : ConfigNumbers). Stands d (reverse (take i entries)) old) (sym s.same) s in
    let p = subst (λ (d : ConfigNumbers). (b ≡ legal d (e ∷ reverse (take i entries)))
    × Stands d (e ∷ reverse (take i entries)) new) s.same (t own) in
    (p.0, subst (λ (past : Past). Stands c past new) (sym (one_more entries i e l there)) p.1)

-- the entries with one more that lets them be legal
pub legal_more : (c : ConfigNumbers) (entries : List Entry) (i : ℕ) (e : Entry) → i < length entries
    → e ≡ get_or entries i e → legal c (e ∷ reverse (take i entries)) ≡ true
    → IsLegal c (reverse (take (i + 1) entries))
legal_more c entries i e l there h = ap (legal c) (one_more entries i e l there) ∙ h
