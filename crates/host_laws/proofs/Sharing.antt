-- A history is disciplined where each pass keeps its part.
use Rattle.std.proofs.Common.{◌≡◌, ℕ, suc, Bool, true, false, not, ◌||◌, cond, [], ◌∷◌, ◌++◌, length, refl, sym, ap}
use Rattle.std.proofs.Common.{◌∙◌, arith, eq-eqb, eqb}
use Rattle.std.proofs.lemmas.Bool.{and_parts, and_from, cond-true, or_right}
use Rattle.nvme_model.specs.History.{Past}
use Rattle.nvme_model.specs.Passes.{SharedPast, entries, places}
use Rattle.nvme_model.specs.Slots.{disciplined, keeps_discipline}
use Rattle.nvme_model.specs.declared.array.Range.{Range}
use Rattle.nvme_model.specs.declared.config.ConfigNumbers.{ConfigNumbers}
use Rattle.nvme_model.specs.declared.entry.Entry.{Entry}
use Rattle.host_laws.specs.Discipline.{keeps_at, others_keep, pass_keeps, passes_keep}
use Rattle.host_laws.proofs.Beside.{places_grow}
use Rattle.host_laws.proofs.Discipline.{kept_before}

-- one entry more
entry_keeps : (c : ConfigNumbers) (slots : Range) (e : Entry) (past : Past) → disciplined c slots past ≡ true
    → keeps_at c slots past e ≡ true → disciplined c slots (e ∷ past) ≡ true
entry_keeps c slots (Entry.Publish p) past d k =
    and_from (disciplined c slots past) (keeps_discipline c slots past p) d k
entry_keeps c slots (Entry.Fetch p) past d k = d
entry_keeps c slots (Entry.Grant p) past d k = d
entry_keeps c slots (Entry.Block p) past d k = d
entry_keeps c slots (Entry.Post p) past d k = d
entry_keeps c slots (Entry.Reap p) past d k = d

pub entry_kept : (c : ConfigNumbers) (slots : Range) (e : Entry) (past : Past) → disciplined c slots (e ∷ past) ≡ true
    → keeps_at c slots past e ≡ true
entry_kept c slots (Entry.Publish p) past d =
    (and_parts (disciplined c slots past) (keeps_discipline c slots past p) d).1
entry_kept c slots (Entry.Fetch p) past d = refl
entry_kept c slots (Entry.Grant p) past d = refl
entry_kept c slots (Entry.Block p) past d = refl
entry_kept c slots (Entry.Post p) past d = refl
entry_kept c slots (Entry.Reap p) past d = refl

-- what all keep, those who are picked keep
pub passes-disciplined : (c : ConfigNumbers) (slots : Range) (picks : ℕ → Bool) (shared : SharedPast)
    → disciplined c slots (entries shared) ≡ true → passes_keep c slots picks shared ≡ true
passes-disciplined c slots picks [] d = refl
passes-disciplined c slots picks (m ∷ shared) d =
    and_from _ _ (passes-disciplined c slots picks shared (kept_before c slots m.1 (entries shared) d))
    (or_right (not (picks m.0)) (keeps_at c slots (entries shared) m.1) (entry_kept c slots m.1 (entries shared) d))

-- an entry is of pass p or of another
of_either : (b x : Bool) → (not (not b) || x) ≡ true → (not b || x) ≡ true → x ≡ true
of_either true x h k = k
of_either false x h k = h

pub disciplined_by_all : (c : ConfigNumbers) (slots : Range) (p : ℕ) (shared : SharedPast)
    → others_keep c slots p shared ≡ true → pass_keeps c slots p shared ≡ true
    → disciplined c slots (entries shared) ≡ true
disciplined_by_all c slots p [] h k = refl
disciplined_by_all c slots p (m ∷ shared) h k =
    let a = and_parts (others_keep c slots p shared) (not (not (eqb m.0 p)) || keeps_at c slots (entries shared) m.1)
    h in
    let b = and_parts (pass_keeps c slots p shared) (not (eqb m.0 p) || keeps_at c slots (entries shared) m.1) k in
    entry_keeps c slots m.1 (entries shared) (disciplined_by_all c slots p shared a.0 b.0)
    (of_either (eqb m.0 p) (keeps_at c slots (entries shared) m.1) a.1 b.1)

pub passes_earlier : (c : ConfigNumbers) (slots : Range) (picks : ℕ → Bool) (later seen : SharedPast)
    → passes_keep c slots picks (later ++ seen) ≡ true → passes_keep c slots picks seen ≡ true
passes_earlier c slots picks [] seen h = h
passes_earlier c slots picks (m ∷ later) seen h =
    passes_earlier c slots picks later seen
    (and_parts (passes_keep c slots picks (later ++ seen))
    (not (picks m.0) || keeps_at c slots (entries (later ++ seen)) m.1) h).0

-- what came later and isn't of pass p keeps the discipline
pub disciplined_later : (c : ConfigNumbers) (slots : Range) (p : ℕ) (later seen : SharedPast)
    → others_keep c slots p (later ++ seen) ≡ true → places p (later ++ seen) ≡ places p seen
    → disciplined c slots (entries seen) ≡ true → disciplined c slots (entries (later ++ seen)) ≡ true
disciplined_later c slots p [] seen h e d = d
disciplined_later c slots p (m ∷ later) seen h e d =
    let a = and_parts (others_keep c slots p (later ++ seen))
    (not (not (eqb m.0 p)) || keeps_at c slots (entries (later ++ seen)) m.1) h in
    go (eqb m.0 p) refl e a.1 (λ f. disciplined_later c slots p later seen a.0 f d)
  where
    go : (b : Bool) → eqb m.0 p ≡ b
        → cond b (suc (length (later ++ seen)) ∷ places p (later ++ seen)) (places p (later ++ seen)) ≡ places p seen
        → (not (not b) || keeps_at c slots (entries (later ++ seen)) m.1) ≡ true
        → (places p (later ++ seen) ≡ places p seen → disciplined c slots (entries (later ++ seen)) ≡ true)
        → disciplined c slots (entries (m ∷ (later ++ seen))) ≡ true
    go true o f k ih = absurd (omega (arith, places_grow p later seen, ap length f))
    go false o f k ih = entry_keeps c slots m.1 (entries (later ++ seen)) (ih f) k

-- the same where pass p has added one entry of its own, the last
pub disciplined_behind : (c : ConfigNumbers) (slots : Range) (p m : ℕ) (e : Entry) (later seen : SharedPast)
    → others_keep c slots p ((p, e) ∷ (later ++ seen)) ≡ true → places p ((p, e) ∷ (later ++ seen)) ≡ m ∷ places p seen
    → disciplined c slots (entries seen) ≡ true → disciplined c slots (entries (later ++ seen)) ≡ true
disciplined_behind c slots p m e later seen h o d =
    let a = and_parts (others_keep c slots p (later ++ seen))
    (not (not (eqb p p)) || keeps_at c slots (entries (later ++ seen)) e) h in
    disciplined_later c slots p later seen a.0
    (rest (sym (cond-true (eqb p p) (suc (length (later ++ seen)) ∷ places p (later ++ seen))
    (places p (later ++ seen)) (eq-eqb p p refl)) ∙ o)) d
  where
    rest : suc (length (later ++ seen)) ∷ places p (later ++ seen) ≡ m ∷ places p seen
        → places p (later ++ seen) ≡ places p seen
    rest e = cc
