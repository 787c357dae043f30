-- For a block in no open Exclusive unit, what lies in the volume is its value.
use Rattle.std.proofs.Common.{◌≡◌, ℕ, Bool, true, false, not, ◌&&◌, ◌||◌, cond, List, [], ◌∷◌, ◌++◌, length, refl, sym}
use Rattle.std.proofs.Common.{ap, ◌∙◌, subst, subst₂, Some, inl, inr, ◌⊎◌, eq-eqb, eqb, eqb-true, nat_le}
use Rattle.std.specs.List.{list_any, filter, find}
use Rattle.std.proofs.lemmas.Bool.{and_from, and_parts, cases_Bool, cond-false, not-true, or_from, or_parts}
use Rattle.nvme_model.specs.declared.config.ConfigNumbers.{ConfigNumbers}
use Rattle.nvme_model.specs.Open
use Rattle.nvme_model.specs.Tickets
use Rattle.nvme_model.specs.History.{Past}
use Rattle.nvme_model.specs.Operations.{op, has_write, is_exclusive}
use Rattle.nvme_model.specs.Open.{granted, open_units, blocks_made, has_ended, is_differs, conflict}
use Rattle.nvme_model.specs.Open.{unit_range}
use Rattle.nvme_model.specs.Array.{has_block}
use Rattle.nvme_model.specs.Value.{value}
use Rattle.nvme_model.specs.Medium.{medium}
use Rattle.nvme_model.specs.Legal.{IsLegal}
use Rattle.nvme_model.specs.Laws.{Apart, MarkedRight, is_held}
use Rattle.nvme_model.specs.declared.array.Range.{Range}
use Rattle.nvme_model.specs.declared.entry.GrantLine.{GrantLine}
use Rattle.nvme_model.specs.declared.entry.BlockLine.{BlockLine}
use Rattle.nvme_model.specs.declared.entry.Entry.{Entry}
use Rattle.nvme_model.proofs.Lists.{Each, each_map, each_both, each_filter, each_find}
use Rattle.nvme_model.proofs.Rules.{follows}
use Rattle.nvme_model.proofs.Apart.{open_apart, ended_kept, unless}
use Rattle.nvme_model.proofs.Granted.{GrantFacts, granted_facts}
use Rattle.nvme_model.proofs.Blocks.{MayBlock, may_block, at_key}
use Rattle.nvme_model.proofs.Holding.{State, UnitState, after_fetch, after_grant, both_conflict, conflict_both}
use Rattle.nvme_model.proofs.Holding.{ended_by, false_if, holds, other_state, own_state, own_step, range_of_entry}
use Rattle.nvme_model.proofs.Holding.{untouched}
use Rattle.nvme_model.proofs.Cut.{clash}

-- ---- lists of units

each_uncond : (P : GrantLine → Type 0) (b : Bool) (x : GrantLine) (ys : List GrantLine) → Each P (cond b (x ∷ ys) ys)
    → (b ≡ true → P x) × Each P ys
each_uncond P true x ys h = (λ e. h.0, h.1)
each_uncond P false x ys h = (λ e. clash false e refl, h)

pub unfilter : (P : GrantLine → Type 0) (p : GrantLine → Bool) (xs : List GrantLine) → Each P (filter p xs)
    → Each (λ x. p x ≡ true → P x) xs
unfilter P p [] h = tt
unfilter P p (x ∷ xs) h = let a = each_uncond P (p x) x (filter p xs) h in (a.0, unfilter P p xs a.1)

pub none_each : (t : GrantLine → Bool) (xs : List GrantLine) → list_any t xs ≡ false → Each (λ x. t x ≡ false) xs
none_each t [] h = tt
none_each t (x ∷ xs) h = let a = or_parts _ _ h in (a.0, none_each t xs a.1)

pub each_none : (t : GrantLine → Bool) (xs : List GrantLine) → Each (λ x. t x ≡ false) xs → list_any t xs ≡ false
each_none t [] h = refl
each_none t (x ∷ xs) h = or_from _ _ h.0 (each_none t xs h.1)

-- one of the open units against the others
abbrev pub Against : GrantLine → GrantLine → Type 0
Against g x = (x ≡ g) ⊎ ((conflict x.range x.mode g.range g.mode ≡ false)
    ⊎ (conflict g.range g.mode x.range x.mode ≡ false))

pub against_found : (t : GrantLine → Bool) (xs : List GrantLine) (g : GrantLine) → Apart xs → find t xs ≡ Some g
    → Each (Against g) xs
against_found t [] g a e = tt
against_found t (x ∷ xs) g a e = go (t x) e (against_found t xs g a.1)
  where
    go : (b : Bool) → cond b (Some x) (find t xs) ≡ Some g → (find t xs ≡ Some g → Each (Against g) xs)
        → Each (Against g) (x ∷ xs)
    go true e ih =
        let q : x ≡ g = cc in (
          inl q,
          each_map (λ y. conflict x.range x.mode y.range y.mode ≡ false) (Against g)
              (λ y f. inr (inr (subst (λ (z : GrantLine). conflict z.range z.mode y.range y.mode ≡ false) q f)))
              xs (none_each (λ y. conflict x.range x.mode y.range y.mode) xs a.0),
        )
    go false e ih = (
      inr (inl (each_find (λ y. conflict x.range x.mode y.range y.mode ≡ false) t xs g
          (none_each (λ y. conflict x.range x.mode y.range y.mode) xs a.0) e).0),
      ih e,
    )

-- ---- after a Block

abbrev pub is_open : Past → GrantLine → Bool
is_open past x = not (has_ended past x.ticket x.unit x.range.blocks)

abbrev key : BlockLine → ℕ → ℕ → Bool
key b t u = eqb b.ticket t && eqb b.unit u

-- what is known of a granted unit x before the entry b of unit g
record Before (past : Past) (g : GrantLine) (l : ℕ) (x : GrantLine) : Type 0 where
  facts : GrantFacts past x
  state : is_open past x ≡ true → holds l x ≡ true → UnitState past l x.ticket x.unit
  against : is_open past x ≡ true → Against g x

-- the unit of the entry writes and has the block
abbrev pub Own : Past → BlockLine → ℕ → Type 0
Own past b l = (has_write (op (Tickets.ticket past b.ticket)) ≡ true)
    × (has_block (unit_range past b.ticket b.unit) l ≡ true)

own_by : (past : Past) (b : BlockLine) (l : ℕ) (x : GrantLine) → GrantFacts past x → key b x.ticket x.unit ≡ true
    → holds l x ≡ true → Own past b l
own_by past b l x f e h =
    let a = and_parts (is_exclusive x.mode) (has_block x.range l) h in
    let k = and_parts (eqb b.ticket x.ticket) (eqb b.unit x.unit) e in
    let t = eqb-true b.ticket x.ticket k.0 in
    let u = eqb-true b.unit x.unit k.1 in (
      subst (λ (i : ℕ). has_write (op (Tickets.ticket past i)) ≡ true) (sym t) (sym f.mode ∙ a.0),
      subst₂ (λ (i j : ℕ). has_block (unit_range past i j) l ≡ true) (sym t) (sym u)
          (subst (λ (r : Range). has_block r l ≡ true) (sym f.range) a.1),
    )

pub still_open : (past : Past) (b : BlockLine) (x : GrantLine) → is_open (Entry.Block b ∷ past) x ≡ true
    → is_open past x ≡ true
still_open past b x h = unless _ _ (ended_kept past b x.ticket x.unit x.range.blocks) h

held_after : (c : ConfigNumbers) (past : Past) (b : BlockLine) (g : GrantLine) (l : ℕ) → IsLegal c past
    → MayBlock past b g → MarkedRight (Entry.Block b ∷ past)
    → (x : GrantLine) → Before past g l x → is_open (Entry.Block b ∷ past) x ≡ true → holds l x ≡ true
    → UnitState (Entry.Block b ∷ past) l x.ticket x.unit
held_after c past b g l h m marks x f o e =
    elim (cases_Bool (key b x.ticket x.unit)) [
      | inl k ↦ at_key (λ t u. UnitState past l t u
          → has_ended (Entry.Block b ∷ past) t u (unit_range past t u).blocks ≡ false
          → UnitState (Entry.Block b ∷ past) l t u) b x.ticket x.unit k
          (λ s n. own_state past b l
          ((own_step c past b g l h m marks (own_by past b l x f.facts k e).0 (own_by past b l x f.facts k e).1
          s).goes_on (sym (ended_by past b g m) ∙ n)))
          (f.state (still_open past b x o) e)
          (subst (λ (r : Range). has_ended (Entry.Block b ∷ past) x.ticket x.unit r.blocks ≡ false) (sym f.facts.range)
          (not-true _ o))
      | inr k ↦ other_state past b l x.ticket x.unit k
          (untouched past b g l m (inr (elsewhere k (f.against (still_open past b x o)))))
          (f.state (still_open past b x o) e)
    ]
  where
    elsewhere : key b x.ticket x.unit ≡ false → Against g x → has_block (unit_range past b.ticket b.unit) l ≡ false
    elsewhere k (inl q) =
        clash (key b x.ticket x.unit)
        (and_from _ _ (eq-eqb b.ticket x.ticket (sym m.ticket ∙ ap (λ (y : GrantLine). y.ticket) (sym q)))
        (eq-eqb b.unit x.unit (m.unit ∙ ap (λ (y : GrantLine). y.unit) (sym q)))) k
    elsewhere k (inr (inl n)) =
        ap (λ (r : Range). has_block r l) (range_of_entry past b g m)
        ∙ false_if (has_block g.range l) (λ y. clash _ (both_conflict x g l e y) n)
    elsewhere k (inr (inr n)) =
        ap (λ (r : Range). has_block r l) (range_of_entry past b g m)
        ∙ false_if (has_block g.range l) (λ y. clash _ (conflict_both x g l e y) n)

before_all : (c : ConfigNumbers) (past : Past) (b : BlockLine) (g : GrantLine) (l : ℕ) → IsLegal c past
    → find (λ x. eqb x.ticket b.ticket) (open_units past) ≡ Some g → State past l
    → Each (Before past g l) (granted past)
before_all c past b g l h e s =
    each_map (λ x. (GrantFacts past x)
    × ((is_open past x ≡ true → holds l x ≡ true → UnitState past l x.ticket x.unit)
    × (is_open past x ≡ true → Against g x))) (Before past g l)
    (λ x f. record { facts = f.0; state = f.1.0; against = f.1.1 }) (granted past)
    (each_both _ _ (granted past) (granted_facts c past h)
    (each_both _ _ (granted past)
    (unfilter (λ x. holds l x ≡ true → UnitState past l x.ticket x.unit) (is_open past) (granted past) s.held)
    (unfilter (Against g) (is_open past) (granted past)
    (against_found (λ x. eqb x.ticket b.ticket) (open_units past) g (open_apart c past h) e))))

-- none is held before, where none is held after and the entry's own unit doesn't hold the block
held_before : (past : Past) (b : BlockLine) (g : GrantLine) (l : ℕ)
    → ((has_write (op (Tickets.ticket past b.ticket)) ≡ false)
    ⊎ (has_block (unit_range past b.ticket b.unit) l ≡ false))
    → (xs : List GrantLine) → Each (Before past g l) xs
    → list_any (holds l) (filter (is_open (Entry.Block b ∷ past)) xs) ≡ false
    → list_any (holds l) (filter (is_open past) xs) ≡ false
held_before past b g l own xs h e =
    each_none (holds l) (filter (is_open past) xs)
    (each_filter (λ x. Before past g l x × (is_open (Entry.Block b ∷ past) x ≡ true → holds l x ≡ false))
    (λ x. holds l x ≡ false) (is_open past)
    (λ x f o. not_held x f.0 f.1 o) xs
    (each_both (Before past g l) (λ x. is_open (Entry.Block b ∷ past) x ≡ true → holds l x ≡ false) xs h
    (unfilter (λ x. holds l x ≡ false) (is_open (Entry.Block b ∷ past)) xs
    (none_each (holds l) (filter (is_open (Entry.Block b ∷ past)) xs) e))))
  where
    refute : Own past b l → ((has_write (op (Tickets.ticket past b.ticket)) ≡ false)
        ⊎ (has_block (unit_range past b.ticket b.unit) l ≡ false)) → ⊥
    refute f (inl w) = clash _ f.0 w
    refute f (inr w) = clash _ f.1 w

    not_held : (x : GrantLine) → Before past g l x → (is_open (Entry.Block b ∷ past) x ≡ true → holds l x ≡ false)
        → is_open past x ≡ true → holds l x ≡ false
    not_held x f n o =
        elim (cases_Bool (key b x.ticket x.unit)) [
          | inl k ↦ false_if (holds l x) (λ y. refute (own_by past b l x f.facts k y) own)
          | inr k ↦ n (ap (λ (ys : List BlockLine).
              not (nat_le (Open.steps_needed (Tickets.ticket past x.ticket) x.range.blocks) (length ys)
              || list_any (λ z. is_differs z.found) ys))
              (ap (λ (ys : List BlockLine). ys ++ blocks_made past x.ticket x.unit)
              (cond-false (key b x.ticket x.unit) (b ∷ []) [] k)) ∙ o)
        ]

pub holds_found : (past : Past) (b : BlockLine) (g : GrantLine) (l : ℕ) → MayBlock past b g → Own past b l
    → holds l g ≡ true
holds_found past b g l m own =
    and_from _ _ (m.unended.facts.mode ∙ (ap (λ (t : ℕ). has_write (op (Tickets.ticket past t))) m.ticket ∙ own.0))
    (ap (λ (r : Range). has_block r l) (sym (range_of_entry past b g m)) ∙ own.1)

pub found_state : (past : Past) (b : BlockLine) (g : GrantLine) (l : ℕ)
    → find (λ x. eqb x.ticket b.ticket) (open_units past) ≡ Some g → MayBlock past b g → Own past b l → State past l
    → UnitState past l b.ticket b.unit
found_state past b g l e m own s =
    subst₂ (λ (t u : ℕ). UnitState past l t u) m.ticket (sym m.unit)
    ((each_find (λ x. holds l x ≡ true → UnitState past l x.ticket x.unit) (λ x. eqb x.ticket b.ticket)
    (open_units past) g s.held e).0 (holds_found past b g l m own))

-- the entry's own unit is among the open ones after it, unless it has ended
own_ended : (c : ConfigNumbers) (past : Past) (b : BlockLine) (g : GrantLine) (l : ℕ) → IsLegal c past
    → find (λ x. eqb x.ticket b.ticket) (open_units past) ≡ Some g → MayBlock past b g
    → Own past b l → is_held (Entry.Block b ∷ past) l ≡ false
    → has_ended (Entry.Block b ∷ past) b.ticket b.unit (unit_range past b.ticket b.unit).blocks ≡ true
own_ended c past b g l h e m own n =
    by_cases (has_ended (Entry.Block b ∷ past) b.ticket b.unit (unit_range past b.ticket b.unit).blocks) refl
  where
    not_held : is_open (Entry.Block b ∷ past) g ≡ true → holds l g ≡ false
    not_held =
        (each_find (λ x. is_open (Entry.Block b ∷ past) x ≡ true → holds l x ≡ false) (λ x. eqb x.ticket b.ticket)
        (open_units past) g
        (each_filter (λ x. is_open (Entry.Block b ∷ past) x ≡ true → holds l x ≡ false)
        (λ x. is_open (Entry.Block b ∷ past) x ≡ true → holds l x ≡ false) (is_open past) (λ x f o. f)
        (granted past)
        (unfilter (λ x. holds l x ≡ false) (is_open (Entry.Block b ∷ past)) (granted past)
        (none_each (holds l) (open_units (Entry.Block b ∷ past)) n))) e).0

    same_key : has_ended (Entry.Block b ∷ past) g.ticket g.unit g.range.blocks
        ≡ has_ended (Entry.Block b ∷ past) b.ticket b.unit (unit_range past b.ticket b.unit).blocks
    same_key = same_by g.ticket g.unit g.range b.ticket b.unit (unit_range past b.ticket b.unit) m.ticket (sym m.unit)
        (sym (range_of_entry past b g m))
      where
        same_by : (t u : ℕ) (r : Range) (t' u' : ℕ) (r' : Range) → t ≡ t' → u ≡ u' → r ≡ r'
            → has_ended (Entry.Block b ∷ past) t u r.blocks ≡ has_ended (Entry.Block b ∷ past) t' u' r'.blocks
        same_by t u r t' u' r' p q z = rw (p, q, z) refl

    by_cases : (x : Bool) → has_ended (Entry.Block b ∷ past) b.ticket b.unit (unit_range past b.ticket b.unit).blocks
        ≡ x → x ≡ true
    by_cases true q = refl
    by_cases false q = clash (holds l g) (holds_found past b g l m own) (not_held (ap not (same_key ∙ q)))

after_block : (c : ConfigNumbers) (past : Past) (b : BlockLine) (l : ℕ) → IsLegal c (Entry.Block b ∷ past)
    → MarkedRight (Entry.Block b ∷ past) → State past l → State (Entry.Block b ∷ past) l
after_block c past b l h marks s =
    let p = (follows c past (Entry.Block b) h).before in
    let found = may_block c past b h in
    let g = found.0 in
    let m = found.2 in
    let all = before_all c past b g l p found.1 s in
    record {
      held = each_filter (Before past g l) (λ x. holds l x ≡ true → UnitState (Entry.Block b ∷ past) l x.ticket x.unit)
          (is_open (Entry.Block b ∷ past))
          (λ x f o. held_after c past b g l p m marks x f o) (granted past) all;
      free = λ n. elim (cases_Bool (has_write (op (Tickets.ticket past b.ticket)))) [
        | inl w ↦ elim (cases_Bool (has_block (unit_range past b.ticket b.unit) l)) [
          | inl k ↦ (own_step c past b g l p m marks w k (found_state past b g l found.1 m (w, k) s)).ends
              (sym (ended_by past b g m) ∙ own_ended c past b g l p found.1 m (w, k) n)
          | inr k ↦ same g m (inr k) (s.free (held_before past b g l (inr k) (granted past) all n))
        ]
        | inr w ↦ same g m (inl w) (s.free (held_before past b g l (inl w) (granted past) all n))
      ];
    }
  where
    same : (g : GrantLine) → MayBlock past b g
        → ((has_write (op (Tickets.ticket past b.ticket)) ≡ false)
        ⊎ (has_block (unit_range past b.ticket b.unit) l ≡ false))
        → medium past l ≡ value past l → medium (Entry.Block b ∷ past) l ≡ value (Entry.Block b ∷ past) l
    same g m o e = let u = untouched past b g l m o in u.0 ∙ (e ∙ sym u.1)

pub medium_state : (c : ConfigNumbers) (past : Past) (l : ℕ) → IsLegal c past → MarkedRight past → State past l
medium_state c [] l h k = record { held = tt; free = λ e. refl }
medium_state c (Entry.Fetch f ∷ past) l h k =
    after_fetch c past f l h (medium_state c past l (follows c past (Entry.Fetch f) h).before k)
medium_state c (Entry.Grant g ∷ past) l h k =
    after_grant c past g l h (medium_state c past l (follows c past (Entry.Grant g) h).before k)
medium_state c (Entry.Block b ∷ past) l h k =
    after_block c past b l h k (medium_state c past l (follows c past (Entry.Block b) h).before k.0)
medium_state c (e ∷ past) l h k =
    let s = medium_state c past l (follows c past e h).before k in
    record { held = s.held; free = s.free }

pub medium_is_value : (c : ConfigNumbers) (past : Past) (l : ℕ) → IsLegal c past → MarkedRight past
    → is_held past l ≡ false → medium past l ≡ value past l
medium_is_value c past l h k e = (medium_state c past l h k).free e
