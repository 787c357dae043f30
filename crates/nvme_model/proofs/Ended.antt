-- A granted unit has an operation, and one that has ended has its effect.
use Rattle.std.proofs.Common.{◌≡◌, ℕ, ◌-◌, ◌*◌, ◌≤◌, ◌<◌, Bool, true, false, not, ◌&&◌, ◌||◌, cond, List, [], ◌∷◌}
use Rattle.std.proofs.Common.{length, refl, sym, ap, ◌∙◌, subst, subst₂, Option, Some, None, is_some, inl, inr, ◌⊎◌}
use Rattle.std.proofs.Common.{arith, eq-eqb, eqb, eqb-true, nat_le, leb-true, le-leb, slice_get}
use Rattle.std.specs.List.{list_any, filter, find}
use Rattle.std.proofs.lemmas.Bool.{and_parts, and_from, or_left, or_right, or_cases, cond-true, cases_eq}
use Rattle.nvme_model.specs.declared.config.AtomicParameters.{AtomicParameters}
use Rattle.nvme_model.specs.declared.config.ConfigNumbers.{ConfigNumbers}
use Rattle.nvme_model.specs.EntryBytes.{slba, block_count}
use Rattle.nvme_model.specs.Tickets
use Rattle.nvme_model.specs.History.{Past}
use Rattle.nvme_model.specs.Tickets.{Ticket, first_fields}
use Rattle.nvme_model.specs.Operations.{op, is_pair, units_by}
use Rattle.nvme_model.specs.Open.{granted, grants_of, open_units, blocks_made, has_ended, is_differs, unit_range}
use Rattle.nvme_model.specs.Placed.{effect}
use Rattle.nvme_model.specs.Legal.{IsLegal}
use Rattle.nvme_model.specs.Laws.{MarkedRight}
use Rattle.nvme_model.specs.declared.array.Range.{Range}
use Rattle.nvme_model.specs.declared.operation.Op.{Op}
use Rattle.nvme_model.specs.declared.entry.GrantLine.{GrantLine}
use Rattle.nvme_model.specs.declared.entry.BlockLine.{BlockLine}
use Rattle.nvme_model.specs.declared.entry.Entry.{Entry}
use Rattle.nvme_model.proofs.Lists.{Each, each_map, each_both, each_find}
use Rattle.nvme_model.proofs.Rules.{follows, may_grant, MayGrant}
use Rattle.nvme_model.proofs.Apart.{ticket_kept}
use Rattle.nvme_model.proofs.Granted.{GrantFacts, granted_facts}
use Rattle.nvme_model.proofs.Medium.{is_open, unfilter, none_each}
use Rattle.nvme_model.proofs.Effects.{came, effect_state, some_cond}
use Rattle.nvme_model.proofs.Cut.{clash}

-- ---- a granted unit has an operation

units_op : (c : AtomicParameters) (o : Option Op) (s n i : ℕ) (r : Range) → slice_get (units_by c o s n) i ≡ Some r
    → is_some o ≡ true
units_op c None s n i r e = absurd (let f : None ≡ Some r = e in cc)
units_op c (Some o) s n i r e = refl

pub granted_op : (c : ConfigNumbers) (past : Past) → IsLegal c past
    → Each (λ g. is_some (op (Tickets.ticket past g.ticket)) ≡ true) (granted past)
granted_op c [] h = tt
granted_op c (Entry.Fetch f ∷ past) h =
    let before = (follows c past (Entry.Fetch f) h).before in
    each_map (λ x. GrantFacts past x × (is_some (op (Tickets.ticket past x.ticket)) ≡ true))
    (λ x. is_some (op (Tickets.ticket (Entry.Fetch f ∷ past) x.ticket)) ≡ true)
    (λ x p. ap (λ (k : Ticket). is_some (op k)) (ticket_kept c past f x.ticket h p.0.known) ∙ p.1) (granted past)
    (each_both _ _ (granted past) (granted_facts c past before) (granted_op c past before))
granted_op c (Entry.Grant g ∷ past) h =
    let k = Tickets.ticket past g.ticket in (
      units_op c.atomic (op k) (slba (first_fields k)) (block_count (first_fields k)) (grants_of past g.ticket) g.range
          (may_grant c past g h).range,
      granted_op c past (follows c past (Entry.Grant g) h).before,
    )
granted_op c (e ∷ past) h = granted_op c past (follows c past e h).before

-- ---- what has ended has its effect

pub some_made : (made : List BlockLine) → list_any (λ b. is_differs b.found) made ≡ true → 1 ≤ length made
some_made [] h = absurd (let f : false ≡ true = h in cc)
some_made (b ∷ made) h = omega arith

ended_came : (o : Option Op) (n : ℕ) (made : List BlockLine) → 1 ≤ n
    → (nat_le (cond (is_pair o) (2 * n) n) (length made) || list_any (λ b. is_differs b.found) made) ≡ true
    → came o n (length made) (list_any (λ b. is_differs b.found) made) ≡ true
ended_came o n made l h = go o (or_cases _ _ h)
  where
    go : (o : Option Op) → ((nat_le (cond (is_pair o) (2 * n) n) (length made) ≡ true)
        ⊎ (list_any (λ b. is_differs b.found) made ≡ true))
        → came o n (length made) (list_any (λ b. is_differs b.found) made) ≡ true
    go (Some Op.Write) (inl e) = le-leb 1 (length made) (omega (arith, leb-true n (length made) e, l))
    go (Some Op.WriteZeroes) (inl e) = le-leb 1 (length made) (omega (arith, leb-true n (length made) e, l))
    go (Some Op.Write) (inr e) = le-leb 1 (length made) (some_made made e)
    go (Some Op.WriteZeroes) (inr e) = le-leb 1 (length made) (some_made made e)
    go (Some Op.Pair) (inl e) = or_left _ _ (le-leb n (length made) (omega (arith, leb-true (2 * n) (length made) e)))
    go (Some Op.Pair) (inr e) = or_right _ _ e
    go (Some Op.Read) (inl e) = or_left _ _ e
    go (Some Op.Read) (inr e) = or_right _ _ e
    go (Some Op.Compare) (inl e) = or_left _ _ e
    go (Some Op.Compare) (inr e) = or_right _ _ e
    go None (inl e) = or_left _ _ e
    go None (inr e) = or_right _ _ e

pub ended_effect : (c : ConfigNumbers) (past : Past) (x : GrantLine) → IsLegal c past → MarkedRight past
    → GrantFacts past x → has_ended past x.ticket x.unit x.range.blocks ≡ true
    → is_some (effect past x.ticket x.unit) ≡ true
ended_effect c past x h k f e =
    let o = op (Tickets.ticket past x.ticket) in
    let some : 1 ≤ (unit_range past x.ticket x.unit).blocks =
    subst (λ (r : Range). 1 ≤ r.blocks) (sym f.range) f.some in
    effect_state c past x.ticket x.unit h k some
    ∙ ended_came o (unit_range past x.ticket x.unit).blocks (blocks_made past x.ticket x.unit) some
    (subst (λ (r : Range). has_ended past x.ticket x.unit r.blocks ≡ true) (sym f.range) e)

-- ---- the unit before

pub found_some : {X : Type 0} (t : X → Bool) (xs : List X) → is_some (find t xs) ≡ true → (x : X) × (find t xs ≡ Some x)
found_some {X} t xs h = go (find t xs) refl h
  where
    go : (o : Option X) → find t xs ≡ o → is_some o ≡ true → (x : X) × (find t xs ≡ Some x)
    go None e f = absurd (let g : false ≡ true = f in cc)
    go (Some x) e f = (x, e)

pub some_granted : (c : ConfigNumbers) (past : Past) (t u : ℕ) → IsLegal c past → u < grants_of past t
    → is_some (find (λ g. eqb g.ticket t && eqb g.unit u) (granted past)) ≡ true
some_granted c [] t u h l = absurd (omega (arith, l))
some_granted c (Entry.Grant g ∷ past) t u h l =
    let before = (follows c past (Entry.Grant g) h).before in
    go (eqb g.ticket t) refl (may_grant c past g h).unit l (some_granted c past t u before)
  where
    rest : Option GrantLine
    rest = find (λ x. eqb x.ticket t && eqb x.unit u) (granted past)

    some_or : (b : Bool) → is_some rest ≡ true → is_some (cond b (Some g) rest) ≡ true
    some_or true e = refl
    some_or false e = e

    go : (b : Bool) → eqb g.ticket t ≡ b → g.unit ≡ grants_of past g.ticket
        → u < length (cond b (g ∷ filter (λ x. eqb x.ticket t) (granted past))
        (filter (λ x. eqb x.ticket t) (granted past)))
        → (u < grants_of past t → is_some rest ≡ true)
        → is_some (cond (eqb g.ticket t && eqb g.unit u) (Some g) rest) ≡ true
    go false e n l ih = some_or _ (ih l)
    go true e n l ih =
        elim (cases_eq g.unit u) [
          | inl q ↦ ap is_some (cond-true _ _ _ (and_from _ _ e (eq-eqb g.unit u q)))
          | inr q ↦ some_or _ (ih (omega (arith, l, n, q, ap (grants_of past) (eqb-true g.ticket t e))))
        ]
some_granted c (e ∷ past) t u h l = some_granted c past t u (follows c past e h).before l

abbrev pub HasPrevious : Past → GrantLine → Type 0
HasPrevious past x = (eqb x.unit 0 || is_some (effect past x.ticket (x.unit - 1))) ≡ true

new_previous : (c : ConfigNumbers) (past : Past) (g : GrantLine) → IsLegal c (Entry.Grant g ∷ past) → MarkedRight past
    → HasPrevious past g
new_previous c past g h k =
    let before = (follows c past (Entry.Grant g) h).before in
    let m = may_grant c past g h in
    elim (cases_eq g.unit 0) [
      | inl e ↦ or_left _ _ (eq-eqb g.unit 0 e)
      | inr e ↦ or_right _ _ (of_found before m
          (found_some (λ x. eqb x.ticket g.ticket && eqb x.unit (g.unit - 1)) (granted past)
          (some_granted c past g.ticket (g.unit - 1) before (omega (arith, m.unit, e)))))
    ]
  where
    of_found : IsLegal c past → MayGrant c past g
        → (x : GrantLine) × (find (λ x. eqb x.ticket g.ticket && eqb x.unit (g.unit - 1)) (granted past) ≡ Some x)
        → is_some (effect past g.ticket (g.unit - 1)) ≡ true
    of_found before m x =
        let closed = unfilter (λ y. eqb y.ticket g.ticket ≡ false) (is_open past) (granted past)
        (none_each (λ y. eqb y.ticket g.ticket) (open_units past) m.closed) in
        let f = each_find (λ y. GrantFacts past y × (is_open past y ≡ true → eqb y.ticket g.ticket ≡ false))
        (λ y. eqb y.ticket g.ticket && eqb y.unit (g.unit - 1)) (granted past) x.0
        (each_both _ _ (granted past) (granted_facts c past before) closed) x.1 in
        let keys = and_parts (eqb x.0.ticket g.ticket) (eqb x.0.unit (g.unit - 1)) f.1 in
        subst₂ (λ (t u : ℕ). is_some (effect past t u) ≡ true) (eqb-true _ _ keys.0) (eqb-true _ _ keys.1)
        (ended_effect c past x.0 before k f.0.0
        (not_open (has_ended past x.0.ticket x.0.unit x.0.range.blocks)
        (λ o. clash (eqb x.0.ticket g.ticket) keys.0 (f.0.1 o))))
      where
        not_open : (b : Bool) → (not b ≡ true → ⊥) → b ≡ true
        not_open true f = refl
        not_open false f = absurd (f refl)

kept_previous : (past : Past) (b : BlockLine) (x : GrantLine) → HasPrevious past x
    → HasPrevious (Entry.Block b ∷ past) x
kept_previous past b x h =
    let key = b.effect && eqb b.ticket x.ticket && eqb b.unit (x.unit - 1) in
    let old = is_some (effect past x.ticket (x.unit - 1)) in
    elim (or_cases (eqb x.unit 0) old h) [
      | inl e ↦ or_left (eqb x.unit 0) (is_some (effect (Entry.Block b ∷ past) x.ticket (x.unit - 1))) e
      | inr e ↦ or_right (eqb x.unit 0) (is_some (effect (Entry.Block b ∷ past) x.ticket (x.unit - 1)))
          (some_cond key past (effect past x.ticket (x.unit - 1)) ∙ or_right key old e)
    ]

pub previous : (c : ConfigNumbers) (past : Past) → IsLegal c past → MarkedRight past
    → Each (HasPrevious past) (granted past)
previous c [] h k = tt
previous c (Entry.Grant g ∷ past) h k =
    (new_previous c past g h k, previous c past (follows c past (Entry.Grant g) h).before k)
previous c (Entry.Block b ∷ past) h k =
    each_map (HasPrevious past) (HasPrevious (Entry.Block b ∷ past)) (kept_previous past b) (granted past)
    (previous c past (follows c past (Entry.Block b) h).before k.0)
previous c (e ∷ past) h k = previous c past (follows c past e h).before k
