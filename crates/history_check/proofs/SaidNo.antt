-- An effect of a ticket says no exactly where the table has it.
use Rattle.std.proofs.Common.{◌≡◌, ℕ, suc, ◌+◌, ◌≤◌, ◌<◌, Bool, true, false, ◌&&◌, List, [], ◌∷◌, length, refl, sym, ap}
use Rattle.std.proofs.Common.{◌∙◌, subst, subst₂, Option, Some, is_some, inl, inr, ◌⊎◌, arith, eq-eqb, eqb}
use Rattle.std.proofs.Common.{eqb-true}
use Rattle.std.specs.List.{list_any}
use Rattle.std.proofs.lemmas.Bool.{and_parts, and_from, or_left, or_right, or_cases, cond-true, cond-false, cases_Bool}
use Rattle.nvme_model.specs.declared.array.Range.{Range}
use Rattle.nvme_model.specs.declared.config.ConfigNumbers.{ConfigNumbers}
use Rattle.nvme_model.specs.declared.entry.Entry.{Entry}
use Rattle.nvme_model.specs.Answered.{no_at, says_no}
use Rattle.nvme_model.specs.History.{Past}
use Rattle.nvme_model.specs.Legal.{IsLegal}
use Rattle.nvme_model.specs.Open.{unit_range}
use Rattle.nvme_model.specs.Operations.{units}
use Rattle.nvme_model.specs.Owed.{numbered_units, some_no}
use Rattle.nvme_model.specs.Placed.{effect}
use Rattle.nvme_model.specs.Tickets
use Rattle.history_check.specs.Effects.{effect_said_no}
use Rattle.nvme_model.proofs.Rules.{follows}
use Rattle.nvme_model.proofs.Pairs.{marked_here}
use Rattle.nvme_model.proofs.StepCounts.{grants_within}
use Rattle.nvme_model.proofs.Once.{no_has_effect}
use Rattle.nvme_model.proofs.Cut.{clash}
use Rattle.history_check.proofs.Placing.{stays, effect_granted}

-- a unit that has its effect says what it said
pub says_stays : (c : ConfigNumbers) (past : Past) (e : Entry) (t u : ℕ) → IsLegal c (e ∷ past)
    → is_some (effect past t u) ≡ true → says_no (e ∷ past) t u ≡ says_no past t u
says_stays c past e t u h s = let m = stays c past e t u h s in (λ i. no_at (m.effect i) (m.ticket i) (m.range i))

-- so it goes on saying no
still_no : (c : ConfigNumbers) (past : Past) (e : Entry) (t u : ℕ) → IsLegal c (e ∷ past) → says_no past t u ≡ true
    → says_no (e ∷ past) t u ≡ true
still_no c past e t u h n = says_stays c past e t u h (no_has_effect _ _ _ n) ∙ n

-- ---- a unit says no where the table has it

abbrev pub AnyNo : Past → ℕ → Type 0
AnyNo past t = (u : ℕ) × (says_no past t u ≡ true)

pub said_at : (c : ConfigNumbers) (past : Past) (t : ℕ) → IsLegal c past → effect_said_no past t ≡ true → AnyNo past t
said_at c [] t h n = clash false n refl
said_at c (Entry.Block b ∷ past) t h n =
    go (or_cases (b.effect && eqb b.ticket t
    && no_at (Some past) (Tickets.ticket past b.ticket) (unit_range past b.ticket b.unit)) (effect_said_no past t) n)
    (said_at c past t (follows c past (Entry.Block b) h).before)
  where
    go : ((b.effect && eqb b.ticket t
        && no_at (Some past) (Tickets.ticket past b.ticket) (unit_range past b.ticket b.unit)) ≡ true)
        ⊎ (effect_said_no past t ≡ true) → (effect_said_no past t ≡ true → AnyNo past t)
        → AnyNo (Entry.Block b ∷ past) t
    go (inr e) ih = let u = ih e in (u.0, still_no c past (Entry.Block b) t u.0 h u.1)
    go (inl e) ih =
        let a = and_parts (b.effect && eqb b.ticket t) _ e in
        let d = and_parts b.effect (eqb b.ticket t) a.0 in
        let now : says_no (Entry.Block b ∷ past) b.ticket b.unit ≡ true =
        ap (λ (o : Option Past). no_at o (Tickets.ticket past b.ticket) (unit_range past b.ticket b.unit))
        (marked_here past b d.0) ∙ a.1 in
        (b.unit, subst (λ (s : ℕ). says_no (Entry.Block b ∷ past) s b.unit ≡ true) (eqb-true b.ticket t d.1) now)
said_at c (e ∷ past) t h n = let u = said_at c past t (follows c past e h).before n in
    (u.0, still_no c past e t u.0 h u.1)

-- ---- and the table has it where a unit says no

no_said : (c : ConfigNumbers) (past : Past) (t u : ℕ) → IsLegal c past → says_no past t u ≡ true
    → effect_said_no past t ≡ true
no_said c [] t u h n = n
no_said c (Entry.Publish p ∷ past) t u h n = no_said c past t u (follows c past (Entry.Publish p) h).before n
no_said c (Entry.Post p ∷ past) t u h n = no_said c past t u (follows c past (Entry.Post p) h).before n
no_said c (Entry.Reap p ∷ past) t u h n = no_said c past t u (follows c past (Entry.Reap p) h).before n
no_said c (Entry.Fetch f ∷ past) t u h n =
    no_said c past t u (follows c past (Entry.Fetch f) h).before
    (sym (says_stays c past (Entry.Fetch f) t u h (no_has_effect _ _ _ n)) ∙ n)
no_said c (Entry.Grant g ∷ past) t u h n =
    no_said c past t u (follows c past (Entry.Grant g) h).before
    (sym (says_stays c past (Entry.Grant g) t u h (no_has_effect _ _ _ n)) ∙ n)
no_said c (Entry.Block b ∷ past) t u h n =
    go (cases_Bool (b.effect && eqb b.ticket t && eqb b.unit u))
    (no_said c past t u (follows c past (Entry.Block b) h).before)
  where
    go : ((b.effect && eqb b.ticket t && eqb b.unit u) ≡ true) ⊎ ((b.effect && eqb b.ticket t && eqb b.unit u) ≡ false)
        → (says_no past t u ≡ true → effect_said_no past t ≡ true) → effect_said_no (Entry.Block b ∷ past) t ≡ true
    go (inr e) ih = or_right _ _
        (ih (subst (λ (o : Option Past). no_at o (Tickets.ticket past t) (unit_range past t u) ≡ true)
        (cond-false _ _ _ e) n))
    go (inl e) ih =
        let a = and_parts (b.effect && eqb b.ticket t) (eqb b.unit u) e in
        let d = and_parts b.effect (eqb b.ticket t) a.0 in
        let now : no_at (Some past) (Tickets.ticket past t) (unit_range past t u) ≡ true =
        subst (λ (o : Option Past). no_at o (Tickets.ticket past t) (unit_range past t u) ≡ true)
        (cond-true _ _ _ e) n in
        or_left _ _ (and_from _ _ a.0
        (subst₂ (λ (s v : ℕ). no_at (Some past) (Tickets.ticket past s) (unit_range past s v) ≡ true)
        (sym (eqb-true b.ticket t d.1)) (sym (eqb-true b.unit u a.1)) now))

-- ---- over the units of the ticket

any_numbered : (p : ℕ → Bool) (v : ℕ) (rs : List Range) → list_any (λ u. p u.0) (numbered_units v rs) ≡ true
    → (u : ℕ) × (p u ≡ true)
any_numbered p v [] h = clash false h refl
any_numbered p v (r ∷ rs) h =
    go (or_cases (p v) (list_any (λ u. p u.0) (numbered_units (suc v) rs)) h) (any_numbered p (suc v) rs)
  where
    go : (p v ≡ true) ⊎ (list_any (λ u. p u.0) (numbered_units (suc v) rs) ≡ true)
        → (list_any (λ u. p u.0) (numbered_units (suc v) rs) ≡ true → (u : ℕ) × (p u ≡ true)) → (u : ℕ) × (p u ≡ true)
    go (inl e) ih = (v, e)
    go (inr e) ih = ih e

numbered_any : (p : ℕ → Bool) (v u : ℕ) (rs : List Range) → v ≤ u → u < v + length rs → p u ≡ true
    → list_any (λ u. p u.0) (numbered_units v rs) ≡ true
numbered_any p v u [] a b e = absurd (omega (arith, a, b))
numbered_any p v u (r ∷ rs) a b e = elim (cases_Bool (eqb v u)) [
  | inl q ↦ or_left _ _ (ap p (eqb-true v u q) ∙ e)
  | inr q ↦ or_right _ _ (numbered_any p (suc v) u rs (more q) (omega (arith, b)) e)
]
  where
    more : eqb v u ≡ false → suc v ≤ u
    more q = elim (cases_Bool (eqb v u)) [
      | inl x ↦ clash (eqb v u) x q
      | inr x ↦ omega (arith, a, λ (y : v ≡ u). clash {A = ⊥} (eqb v u) (eq-eqb v u y) q)
    ]

pub some_no_is : (c : ConfigNumbers) (past : Past) (t : ℕ) → IsLegal c past → some_no c past t ≡ effect_said_no past t
some_no_is c past t h = both (some_no c past t) (effect_said_no past t)
    (λ e. let u = any_numbered (says_no past t) 0 (units c (Tickets.ticket past t)) e in no_said c past t u.0 h u.1)
    (λ e.
    let u = said_at c past t h e in
    let l = effect_granted c past t u.0 h (no_has_effect _ _ _ u.1) in
    numbered_any (says_no past t) 0 u.0 (units c (Tickets.ticket past t)) (omega arith)
    (omega (arith, l, grants_within c past t h)) u.1)
  where
    both : (x y : Bool) → (x ≡ true → y ≡ true) → (y ≡ true → x ≡ true) → x ≡ y
    both true y f g = sym (f refl)
    both false true f g = g refl
    both false false f g = refl
