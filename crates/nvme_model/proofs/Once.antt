-- Each served unit has exactly one effect, between its ticket's Fetch and its first Post.
use Rattle.std.proofs.Common.{◌≡◌, ℕ, zero, suc, ◌+◌, ◌-◌, ◌≤◌, ◌<◌, Bool, true, false, not, ◌&&◌, ◌||◌, cond, List, []}
use Rattle.std.proofs.Common.{◌∷◌, length, refl, sym, ap, ◌∙◌, subst, Option, Some, None, is_some, inl, inr, ◌⊎◌, arith}
use Rattle.std.proofs.Common.{eqb, eqb-true}
use Rattle.std.specs.List.{list_any, list_all}
use Rattle.std.proofs.lemmas.Bool.{and_parts, and_left, or_cases, or_right, cond-false, cases_Bool, cases_eq, cases_lt}
use Rattle.nvme_model.specs.declared.config.ConfigNumbers.{ConfigNumbers}
use Rattle.nvme_model.specs.History.{Past}
use Rattle.nvme_model.specs.Tickets
use Rattle.nvme_model.specs.Tickets.{Ticket, posts_of}
use Rattle.nvme_model.specs.Operations.{op, units}
use Rattle.nvme_model.specs.Open.{unit_range}
use Rattle.nvme_model.specs.Placed.{effect, effects_of, may_be_effect}
use Rattle.nvme_model.specs.Answered.{no_at, says_no}
use Rattle.nvme_model.specs.Owed.{numbered_units, some_no, all_done, all_ended}
use Rattle.nvme_model.specs.Legal.{IsLegal, block_fits}
use Rattle.nvme_model.specs.declared.array.Range.{Range}
use Rattle.nvme_model.specs.declared.entry.GrantLine.{GrantLine}
use Rattle.nvme_model.specs.declared.entry.BlockLine.{BlockLine}
use Rattle.nvme_model.specs.declared.entry.Entry.{Entry}
use Rattle.nvme_model.proofs.Rules.{follows}
use Rattle.nvme_model.proofs.Apart.{ticket_kept}
use Rattle.nvme_model.proofs.Blocks.{no_blocks, grants_before, range_before}
use Rattle.nvme_model.proofs.Effects.{no_effect, some_cond}
use Rattle.nvme_model.proofs.Placed.{block_fetched, block_unposted, effect_once, posted_served}
use Rattle.nvme_model.proofs.Finished.{posts_known}
use Rattle.nvme_model.proofs.Cut.{clash}

-- ---- the entry that is the effect

-- the entry is marked, of unit u of ticket t
record Marks (b : BlockLine) (t u : ℕ) : Type 0 where
  marked : b.effect ≡ true
  ticket : b.ticket ≡ t
  unit : b.unit ≡ u

marks : (b : BlockLine) (t u : ℕ) → (b.effect && eqb b.ticket t && eqb b.unit u) ≡ true → Marks b t u
marks b t u e =
    let x = and_parts (b.effect && eqb b.ticket t) (eqb b.unit u) e in
    let y = and_parts b.effect (eqb b.ticket t) x.0 in
    record { marked = y.0; ticket = eqb-true b.ticket t y.1; unit = eqb-true b.unit u x.1 }

-- ---- at most one

one_by : (n : ℕ) (past : Past) (o : Option Past) (x : Bool) → n ≡ cond (is_some o) 1 0 → (x ≡ true → o ≡ None)
    → n + cond x 1 0 ≡ cond (is_some (cond x (Some past) o)) 1 0
one_by n past o true e f = omega (arith, e ∙ ap (λ (p : Option Past). cond (is_some p) 1 0) (f refl))
one_by n past o false e f = omega (arith, e)

effects_counted : (c : ConfigNumbers) (past : Past) (t u : ℕ) → IsLegal c past
    → effects_of past t u ≡ cond (is_some (effect past t u)) 1 0
effects_counted c [] t u h = refl
effects_counted c (Entry.Block b ∷ past) t u h =
    one_by (effects_of past t u) past (effect past t u) (b.effect && eqb b.ticket t && eqb b.unit u)
    (effects_counted c past t u (follows c past (Entry.Block b) h).before)
    (λ e. first (marks b t u e))
  where
    first : Marks b t u → effect past t u ≡ None
    first m = subst (λ (i : ℕ). effect past i u ≡ None) m.ticket
        (subst (λ (i : ℕ). effect past b.ticket i ≡ None) m.unit (effect_once c past b h m.marked))
effects_counted c (e ∷ past) t u h = effects_counted c past t u (follows c past e h).before

-- ---- in the order of the units

pub marked_may : (past : Past) (b : BlockLine) (o : Option GrantLine) → block_fits past b o ≡ true → b.effect ≡ true
    → may_be_effect past b.ticket b.unit ≡ true
marked_may past b None f e = clash false f refl
marked_may past b (Some g) f e =
    go b.effect (may_be_effect past b.ticket b.unit) e (and_parts _ _ (and_parts _ _ f).0).1
  where
    go : (x y : Bool) → x ≡ true → (not x || y) ≡ true → y ≡ true
    go true y p q = q
    go false y p q = clash false p refl

before_by : (past : Past) (t n : ℕ) → may_be_effect past t (suc n) ≡ true → is_some (effect past t n) ≡ true
before_by past t n m = go (or_cases (eqb (suc n) 0) (is_some (effect past t (suc n - 1))) (and_parts _ _ m).1)
  where
    go : (eqb (suc n) 0 ≡ true) ⊎ (is_some (effect past t (suc n - 1)) ≡ true) → is_some (effect past t n) ≡ true
    go (inl e) = absurd (omega (arith, eqb-true (suc n) 0 e))
    go (inr e) = let d : suc n - 1 ≡ n = omega arith in subst (λ (i : ℕ). is_some (effect past t i) ≡ true) d e

effect_stays : (past : Past) (b : BlockLine) (t u : ℕ) → is_some (effect past t u) ≡ true
    → is_some (effect (Entry.Block b ∷ past) t u) ≡ true
effect_stays past b t u e = some_cond _ past (effect past t u) ∙ or_right _ _ e

pub unit_before : (c : ConfigNumbers) (past : Past) (t n : ℕ) → IsLegal c past → is_some (effect past t (suc n)) ≡ true
    → is_some (effect past t n) ≡ true
unit_before c [] t n h e = clash false e refl
unit_before c (Entry.Block b ∷ past) t n h e =
    effect_stays past b t n (go
    (or_cases _ _ (sym (some_cond (b.effect && eqb b.ticket t && eqb b.unit (suc n)) past (effect past t (suc n)))
    ∙ e)) (unit_before c past t n (follows c past (Entry.Block b) h).before))
  where
    here : Marks b t (suc n) → is_some (effect past t n) ≡ true
    here m = before_by past t n
        (subst (λ (i : ℕ). may_be_effect past i (suc n) ≡ true) m.ticket
        (subst (λ (i : ℕ). may_be_effect past b.ticket i ≡ true) m.unit
        (marked_may past b _ (follows c past (Entry.Block b) h).fits m.marked)))

    go : ((b.effect && eqb b.ticket t && eqb b.unit (suc n)) ≡ true) ⊎ (is_some (effect past t (suc n)) ≡ true)
        → (is_some (effect past t (suc n)) ≡ true → is_some (effect past t n) ≡ true) → is_some (effect past t n) ≡ true
    go (inl m) ih = here (marks b t (suc n) m)
    go (inr d) ih = ih d
unit_before c (e ∷ past) t n h d = unit_before c past t n (follows c past e h).before d

pub units_before : (c : ConfigNumbers) (past : Past) (t u v : ℕ) → IsLegal c past → u ≤ v
    → is_some (effect past t v) ≡ true → is_some (effect past t u) ≡ true
units_before c past t u zero h l e = let d : 0 ≡ u = omega (arith, l) in
    subst (λ (i : ℕ). is_some (effect past t i) ≡ true) d e
units_before c past t u (suc v) h l e =
    elim (cases_eq u (suc v)) [
      | inl d ↦ subst (λ (i : ℕ). is_some (effect past t i) ≡ true) (sym d) e
      | inr d ↦ units_before c past t u v h (omega (arith, l, d)) (unit_before c past t v h e)
    ]

-- ---- a ticket that has posted

some_unit : (p : ℕ → Bool) (v : ℕ) (rs : List Range) → list_any (λ x. p x.0) (numbered_units v rs) ≡ true
    → (w : ℕ) × (p w ≡ true)
some_unit p v [] e = clash false e refl
some_unit p v (r ∷ rs) e =
    go (or_cases (p v) (list_any (λ x. p x.0) (numbered_units (suc v) rs)) e) (λ d. some_unit p (suc v) rs d)
  where
    go : (p v ≡ true) ⊎ (list_any (λ x. p x.0) (numbered_units (suc v) rs) ≡ true)
        → (list_any (λ x. p x.0) (numbered_units (suc v) rs) ≡ true → (w : ℕ) × (p w ≡ true)) → (w : ℕ) × (p w ≡ true)
    go (inl d) ih = (v, d)
    go (inr d) ih = ih d

each_unit : (p : ℕ → Bool) (v u : ℕ) (rs : List Range) → list_all (λ x. p x.0) (numbered_units v rs) ≡ true
    → u < length rs
    → p (v + u) ≡ true
each_unit p v u [] e l = absurd (omega (arith, l))
each_unit p v zero (r ∷ rs) e l = let d : v ≡ v + 0 = omega arith in
    subst (λ (i : ℕ). p i ≡ true) d (and_parts (p v) _ e).0
each_unit p v (suc u) (r ∷ rs) e l =
    let d : suc v + u ≡ v + suc u = omega arith in
    subst (λ (i : ℕ). p i ≡ true) d
    (each_unit p (suc v) u rs (and_parts (p v) (list_all (λ x. p x.0) (numbered_units (suc v) rs)) e).1
    (omega (arith, l)))

pub no_has_effect : (o : Option Past) (k : Ticket) (r : Range) → no_at o k r ≡ true → is_some o ≡ true
no_has_effect (Some before) k r e = refl
no_has_effect None k r e = clash false e refl

-- unit u of ticket t, whose Fetch took k, has its effect once the ticket has posted, where no unit before it says no
abbrev ServedBy : ConfigNumbers → Past → ℕ → ℕ → Ticket → Type 0
ServedBy c past t u k =
    is_some (op k) ≡ true → u < length (units c k)
    → ((v : ℕ) → v < u → no_at (effect past t v) k (unit_range past t v) ≡ false) → is_some (effect past t u) ≡ true

at_post : (c : ConfigNumbers) (past : Past) (t u : ℕ) → IsLegal c past
    → (some_no c past t ≡ true) ⊎ (all_done c past t ≡ true) → u < length (units c (Tickets.ticket past t))
    → ((v : ℕ) → v < u → says_no past t v ≡ false) → is_some (effect past t u) ≡ true
at_post c past t u h (inl e) l f =
    let w = some_unit (λ i. says_no past t i) 0 (units c (Tickets.ticket past t)) e in
    units_before c past t u w.0 h (late w.0 w.1)
    (no_has_effect (effect past t w.0) (Tickets.ticket past t) (unit_range past t w.0) w.1)
  where
    late : (w : ℕ) → says_no past t w ≡ true → u ≤ w
    late w d = elim (cases_lt w u) [
      | inl k ↦ clash (says_no past t w) d (f w k)
      | inr k ↦ k
    ]
at_post c past t u h (inr e) l f =
    let d : 0 + u ≡ u = omega arith in
    subst (λ (i : ℕ). is_some (effect past t i) ≡ true) d
    (each_unit (λ i. is_some (effect past t i)) 0 u (units c (Tickets.ticket past t))
    (and_parts (all_ended c past t) _ e).1 l)

posts_rest : (n : ℕ) (b : Bool) → b ≡ false → 1 ≤ n + cond b 1 0 → 1 ≤ n
posts_rest n false e l = omega (arith, l)
posts_rest n true e l = clash true refl e

pub served : (c : ConfigNumbers) (past : Past) (t u : ℕ) → IsLegal c past → 1 ≤ posts_of past t
    → ServedBy c past t u (Tickets.ticket past t)
served c [] t u h l = absurd (omega (arith, l))
served c (Entry.Post p ∷ past) t u h l = elim (cases_Bool (eqb p.ticket t)) [
  | inl e ↦ λ o w f. at_post c past t u (follows c past (Entry.Post p) h).before
      (subst (λ (i : ℕ). is_some (op (Tickets.ticket past i)) ≡ true
      → (some_no c past i ≡ true) ⊎ (all_done c past i ≡ true)) (eqb-true p.ticket t e) (posted_served c past p h)
      o) w f
  | inr e ↦ served c past t u (follows c past (Entry.Post p) h).before
      (posts_rest (posts_of past t) (eqb p.ticket t) e l)
]
served c (Entry.Fetch f ∷ past) t u h l =
    let before = (follows c past (Entry.Fetch f) h).before in
    subst (λ (k : Ticket). ServedBy c past t u k) (sym (ticket_kept c past f t h (posts_known c past t before l)))
    (served c past t u before l)
served c (Entry.Grant g ∷ past) t u h l =
    let before = (follows c past (Entry.Grant g) h).before in
    λ o w f. served c past t u before l o w (λ v k. same before v (f v k))
  where
    same : IsLegal c past → (v : ℕ) → says_no (Entry.Grant g ∷ past) t v ≡ false → says_no past t v ≡ false
    same before v n = elim (cases_Bool (eqb g.ticket t && eqb g.unit v)) [
      | inl e ↦ ap (λ (o : Option Past). no_at o (Tickets.ticket past t) (unit_range past t v))
          (no_effect past t v (no_blocks c past t v before (grants_before c past g t v h e)))
      | inr e ↦ subst (λ (r : Range). no_at (effect past t v) (Tickets.ticket past t) r ≡ false)
          (range_before past g t v e) n
    ]
served c (Entry.Block b ∷ past) t u h l =
    let before = (follows c past (Entry.Block b) h).before in
    let apart : eqb b.ticket t ≡ false = other (cases_Bool (eqb b.ticket t)) in
    λ o w f. effect_stays past b t u
    (served c past t u before l o w
    (λ v k. ap (λ (x : Option Past). no_at x (Tickets.ticket past t) (unit_range past t v)) (sym (kept v apart))
    ∙ f v k))
  where
    other : (eqb b.ticket t ≡ true) ⊎ (eqb b.ticket t ≡ false) → eqb b.ticket t ≡ false
    other (inr e) = e
    other (inl e) = absurd (omega (arith, l, block_unposted c past b h, ap (posts_of past) (eqb-true b.ticket t e)))

    kept : (v : ℕ) → eqb b.ticket t ≡ false → effect (Entry.Block b ∷ past) t v ≡ effect past t v
    kept v e = cond-false _ _ _ (and_left _ _ (neither b.effect (eqb b.ticket t) e))
      where
        neither : (x y : Bool) → y ≡ false → (x && y) ≡ false
        neither true y e = e
        neither false y e = refl
served c (e ∷ past) t u h l = served c past t u (follows c past e h).before l

-- ---- what the laws say

pub exactly_once : (c : ConfigNumbers) (past : Past) (t u : ℕ) → IsLegal c past → 1 ≤ posts_of past t
    → is_some (op (Tickets.ticket past t)) ≡ true → u < length (units c (Tickets.ticket past t))
    → ((v : ℕ) → v < u → says_no past t v ≡ false) → effects_of past t u ≡ 1
exactly_once c past t u h l o w f = effects_counted c past t u h
    ∙ ap (λ (b : Bool). cond b 1 0) (served c past t u h l o w f)

pub at_most_once : (c : ConfigNumbers) (past : Past) (t u : ℕ) → IsLegal c past → effects_of past t u ≤ 1
at_most_once c past t u h = go (is_some (effect past t u)) (effects_counted c past t u h)
  where
    go : (b : Bool) → effects_of past t u ≡ cond b 1 0 → effects_of past t u ≤ 1
    go true e = omega (arith, e)
    go false e = omega (arith, e)

-- where an effect stands
pub effect_stands : (c : ConfigNumbers) (past : Past) (t u : ℕ) (before : Past) → IsLegal c past
    → effect past t u ≡ Some before → (1 ≤ t) × (t ≤ Tickets.tickets before) × (posts_of before t ≡ 0)
effect_stands c [] t u before h e = absurd (let f : None ≡ Some before = e in cc)
effect_stands c (Entry.Block b ∷ past) t u before h e =
    go (b.effect && eqb b.ticket t && eqb b.unit u) refl e
    (λ d. effect_stands c past t u before (follows c past (Entry.Block b) h).before d)
  where
    here : Marks b t u → past ≡ before → (1 ≤ t) × (t ≤ Tickets.tickets before) × (posts_of before t ≡ 0)
    here m d =
        let f = block_fetched c past b h in
        let known : b.ticket ≡ t = m.ticket in
        subst (λ (p : Past). (1 ≤ t) × (t ≤ Tickets.tickets p) × (posts_of p t ≡ 0)) d (
          omega (arith, f.0, known),
          omega (arith, f.1, known),
          subst (λ (i : ℕ). posts_of past i ≡ 0) known (block_unposted c past b h),
        )

    go : (x : Bool) → (b.effect && eqb b.ticket t && eqb b.unit u) ≡ x
        → cond x (Some past) (effect past t u) ≡ Some before
        → (effect past t u ≡ Some before → (1 ≤ t) × (t ≤ Tickets.tickets before) × (posts_of before t ≡ 0))
        → (1 ≤ t) × (t ≤ Tickets.tickets before) × (posts_of before t ≡ 0)
    go true m d ih = here (marks b t u m) (let g : Some past ≡ Some before = d in cc)
    go false m d ih = ih d
effect_stands c (x ∷ past) t u before h e = effect_stands c past t u before (follows c past x h).before e
