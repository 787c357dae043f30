-- What a Grant and a Block do to the open units.
use Rattle.std.proofs.Common.{◌≡◌, ℕ, ◌*◌, ◌≤◌, Bool, true, false, not, ◌&&◌, ◌||◌, cond, List, [], ◌∷◌, ◌++◌, length}
use Rattle.std.proofs.Common.{map, refl, sym, ap, ◌∙◌, subst, inl, inr, ◌⊎◌, arith, eqb, nat_le, Some, eqb-true, eq-eqb}
use Rattle.std.specs.List.{filter, find, list_any}
use Rattle.std.proofs.lemmas.Bool.{cases_Bool, cond-true, lt-leb, or_parts}
use Rattle.nvme_model.specs.declared.config.ConfigNumbers.{ConfigNumbers}
use Rattle.nvme_model.specs.declared.array.Range.{Range}
use Rattle.nvme_model.specs.declared.entry.GrantLine.{GrantLine}
use Rattle.nvme_model.specs.declared.entry.BlockLine.{BlockLine}
use Rattle.nvme_model.specs.declared.entry.Entry.{Entry}
use Rattle.nvme_model.specs.History.{Past}
use Rattle.nvme_model.specs.Tickets
use Rattle.nvme_model.specs.Tickets.{Ticket}
use Rattle.nvme_model.specs.Operations.{op, is_pair}
use Rattle.nvme_model.specs.Open.{granted, open_units, blocks_made, steps_needed, is_differs, has_ended, unit_range}
use Rattle.nvme_model.specs.Legal.{IsLegal}
use Rattle.nvme_model.proofs.Lists.{Each, each_map}
use Rattle.ticket_laws.proofs.TicketLists.{IsApart, filter_each, filter_twice, list_any-map, any_filtered}
use Rattle.nvme_model.proofs.Rules.{follows, may_grant}
use Rattle.nvme_model.proofs.Granted.{GrantFacts, granted_facts}
use Rattle.nvme_model.proofs.Blocks.{no_blocks, at_key, MayBlock, may_block}
use Rattle.nvme_model.proofs.Apart.{ended_kept}
use Rattle.nvme_model.proofs.Holding.{open_kept}

-- ---- a Grant

pub some_needed : (k : Ticket) (n : ℕ) → 1 ≤ n → 1 ≤ steps_needed k n
some_needed k n l = go (is_pair (op k))
  where
    go : (b : Bool) → 1 ≤ cond b (2 * n) n
    go true = omega (arith, l)
    go false = l

-- the granted unit is open beside those that were
pub grant_open : (c : ConfigNumbers) (past : Past) (g : GrantLine) → IsLegal c (Entry.Grant g ∷ past)
    → open_units (Entry.Grant g ∷ past) ≡ g ∷ open_units past
grant_open c past g h =
    let b = (follows c past (Entry.Grant g) h).before in
    let facts = (granted_facts c (Entry.Grant g ∷ past) h).0 in
    let none : blocks_made past g.ticket g.unit ≡ [] =
    no_blocks c past g.ticket g.unit b (omega (arith, (may_grant c past g h).unit)) in
    let goes_on : not (has_ended past g.ticket g.unit g.range.blocks) ≡ true =
    ap (λ (xs : List BlockLine).
    not (nat_le (steps_needed (Tickets.ticket past g.ticket) g.range.blocks) (length xs)
    || list_any (λ x. is_differs x.found) xs)) none
    ∙ ap (λ x. not (x || false)) (lt-leb _ 0 (some_needed (Tickets.ticket past g.ticket) g.range.blocks facts.some)) in
    cond-true _ _ _ goes_on

-- ---- a Block

-- the Block is one of this unit
abbrev pub key : BlockLine → GrantLine → Bool
key b x = eqb b.ticket x.ticket && eqb b.unit x.unit

-- the unit of the Block has ended with it
abbrev pub ends_with : Past → BlockLine → Bool
ends_with past b = has_ended (Entry.Block b ∷ past) b.ticket b.unit (unit_range past b.ticket b.unit).blocks

other_ended : (past : Past) (b : BlockLine) (x : GrantLine) (n : ℕ) → key b x ≡ false
    → has_ended (Entry.Block b ∷ past) x.ticket x.unit n ≡ has_ended past x.ticket x.unit n
other_ended past b x n e =
    ap (λ (k : Bool). nat_le (steps_needed (Tickets.ticket past x.ticket) n)
    (length (cond k (b ∷ []) [] ++ blocks_made past x.ticket x.unit))
    || list_any (λ y. is_differs y.found) (cond k (b ∷ []) [] ++ blocks_made past x.ticket x.unit)) e

own_ended : (past : Past) (b : BlockLine) (x : GrantLine) → GrantFacts past x → key b x ≡ true
    → has_ended (Entry.Block b ∷ past) x.ticket x.unit x.range.blocks ≡ ends_with past b
own_ended past b x f e =
    at_key (λ t u. has_ended (Entry.Block b ∷ past) t u x.range.blocks ≡ ends_with past b) b x.ticket x.unit e
    (ap (λ (r : Range). has_ended (Entry.Block b ∷ past) b.ticket b.unit r.blocks)
    (sym f.range ∙ at_key (λ t u. unit_range past t u ≡ unit_range past b.ticket b.unit) b x.ticket x.unit e refl))

not_before : (a b : Bool) → (a ≡ true → b ≡ true) → b ≡ false → a ≡ false
not_before true b f e = absurd (let g = f refl in cc)
not_before false b f e = refl

-- where the unit goes on, the same units are open
pub block_open_on : (c : ConfigNumbers) (past : Past) (b : BlockLine) → IsLegal c past → ends_with past b ≡ false
    → open_units (Entry.Block b ∷ past) ≡ open_units past
block_open_on c past b h on =
    filter_each (λ x. not (has_ended (Entry.Block b ∷ past) x.ticket x.unit x.range.blocks))
    (λ x. not (has_ended past x.ticket x.unit x.range.blocks)) (granted past)
    (each_map (GrantFacts past) _ (λ x f. ap not (by x f (cases_Bool (key b x)))) (granted past)
    (granted_facts c past h))
  where
    by : (x : GrantLine) → GrantFacts past x → ((key b x ≡ true) ⊎ (key b x ≡ false))
        → has_ended (Entry.Block b ∷ past) x.ticket x.unit x.range.blocks
        ≡ has_ended past x.ticket x.unit x.range.blocks
    by x f (inr e) = other_ended past b x x.range.blocks e
    by x f (inl e) =
        let now = own_ended past b x f e ∙ on in
        now ∙ sym (not_before _ _ (ended_kept past b x.ticket x.unit x.range.blocks) now)

-- and where it ends, those beside it
pub block_open_off : (c : ConfigNumbers) (past : Past) (b : BlockLine) → IsLegal c past → ends_with past b ≡ true
    → open_units (Entry.Block b ∷ past) ≡ filter (λ x. not (key b x)) (open_units past)
block_open_off c past b h off =
    filter_each (λ x. not (has_ended (Entry.Block b ∷ past) x.ticket x.unit x.range.blocks))
    (λ x. not (has_ended past x.ticket x.unit x.range.blocks) && not (key b x)) (granted past)
    (each_map (GrantFacts past) _ (λ x f. by x f (cases_Bool (key b x))) (granted past) (granted_facts c past h))
    ∙ sym (filter_twice (λ x. not (has_ended past x.ticket x.unit x.range.blocks)) (λ x. not (key b x)) (granted past))
  where
    and_not : (a k : Bool) → k ≡ true → (a && not k) ≡ false
    and_not true true e = refl
    and_not false true e = refl
    and_not a false e = absurd cc

    and_yes : (a k : Bool) → k ≡ false → (a && not k) ≡ a
    and_yes true false e = refl
    and_yes false false e = refl
    and_yes a true e = absurd cc

    by : (x : GrantLine) → GrantFacts past x → ((key b x ≡ true) ⊎ (key b x ≡ false))
        → not (has_ended (Entry.Block b ∷ past) x.ticket x.unit x.range.blocks)
        ≡ (not (has_ended past x.ticket x.unit x.range.blocks) && not (key b x))
    by x f (inl e) = ap not (own_ended past b x f e ∙ off) ∙ sym (and_not _ _ e)
    by x f (inr e) = ap not (other_ended past b x x.range.blocks e) ∙ sym (and_yes _ _ e)

-- ---- each ticket has one open unit at most

-- the tickets of these units
abbrev pub open_tickets : List GrantLine → List ℕ
open_tickets gs = map (λ g. g.ticket) gs

apart_filtered : (p : GrantLine → Bool) (gs : List GrantLine) → IsApart (open_tickets gs)
    → IsApart (open_tickets (filter p gs))
apart_filtered p [] a = tt
apart_filtered p (g ∷ gs) a = by (p g) (apart_filtered p gs a.1)
  where
    by : (b : Bool) → IsApart (open_tickets (filter p gs))
        → IsApart (open_tickets (cond b (g ∷ filter p gs) (filter p gs)))
    by true rest = (
      list_any-map (λ (x : GrantLine). x.ticket) (λ s. eqb s g.ticket) (filter p gs)
          ∙ any_filtered (λ x. eqb x.ticket g.ticket) p gs
          (sym (list_any-map (λ (x : GrantLine). x.ticket) (λ s. eqb s g.ticket) gs) ∙ a.0),
      rest,
    )
    by false rest = rest

-- no ticket has two
pub opens_apart : (c : ConfigNumbers) (past : Past) → IsLegal c past → IsApart (open_tickets (open_units past))
opens_apart c [] h = tt
opens_apart c (Entry.Fetch f ∷ past) h =
    subst (λ (gs : List GrantLine). IsApart (open_tickets gs)) (sym (open_kept c past f h))
    (opens_apart c past (follows c past (Entry.Fetch f) h).before)
opens_apart c (Entry.Grant g ∷ past) h =
    let m = may_grant c past g h in
    subst (λ (gs : List GrantLine). IsApart (open_tickets gs)) (sym (grant_open c past g h)) (
      list_any-map (λ (x : GrantLine). x.ticket) (λ s. eqb s g.ticket) (open_units past) ∙ m.closed,
      opens_apart c past (follows c past (Entry.Grant g) h).before,
    )
opens_apart c (Entry.Block b ∷ past) h =
    let before = (follows c past (Entry.Block b) h).before in
    elim (cases_Bool (ends_with past b)) [
      | inl e ↦ subst (λ (gs : List GrantLine). IsApart (open_tickets gs)) (sym (block_open_off c past b before e))
          (apart_filtered (λ x. not (key b x)) (open_units past) (opens_apart c past before))
      | inr e ↦ subst (λ (gs : List GrantLine). IsApart (open_tickets gs)) (sym (block_open_on c past b before e))
          (opens_apart c past before)
    ]
opens_apart c (e ∷ past) h = opens_apart c past (follows c past e h).before

-- of a list with no ticket twice, what the ticket of one of them has is that one
one_each : (g : GrantLine) (gs : List GrantLine) → IsApart (open_tickets gs)
    → find (λ x. eqb x.ticket g.ticket) gs ≡ Some g → Each (λ x. eqb x.ticket g.ticket ≡ true → x ≡ g) gs
one_each g [] a e = tt
one_each g (y ∷ gs) a e = elim (cases_Bool (eqb y.ticket g.ticket)) [
  | inl t ↦
      let same : y ≡ g = some_inj (sym (cond-true _ _ _ t) ∙ e) in (
        λ q. same,
        none_each gs (sym (list_any-map (λ (x : GrantLine). x.ticket) (λ s. eqb s y.ticket) gs) ∙ a.0)
            (eqb-true _ _ t),
      )
  | inr t ↦ (λ q. absurd (let r : true ≡ false = sym q ∙ t in cc), one_each g gs a.1 (sym (go t) ∙ e))
]
  where
    some_inj : {y : GrantLine} → Some y ≡ Some g → y ≡ g
    some_inj h = cc

    go : eqb y.ticket g.ticket ≡ false
        → find (λ x. eqb x.ticket g.ticket) (y ∷ gs) ≡ find (λ x. eqb x.ticket g.ticket) gs
    go t = ap (λ b. cond b (Some y) (find (λ (x : GrantLine). eqb x.ticket g.ticket) gs)) t

    none_each : (xs : List GrantLine) → list_any (λ x. eqb x.ticket y.ticket) xs ≡ false → y.ticket ≡ g.ticket
        → Each (λ x. eqb x.ticket g.ticket ≡ true → x ≡ g) xs
    none_each [] f t = tt
    none_each (x ∷ xs) f t =
        let both = or_parts (eqb x.ticket y.ticket) _ f in
        (λ q. absurd (let r : true ≡ false = sym q ∙ ap (eqb x.ticket) (sym t) ∙ both.0 in cc), none_each xs both.1 t)

-- so where the unit of a Block ends, the open units are those of other tickets
pub block_open_beside : (c : ConfigNumbers) (past : Past) (b : BlockLine) → IsLegal c (Entry.Block b ∷ past)
    → ends_with past b ≡ true
    → open_units (Entry.Block b ∷ past) ≡ filter (λ x. not (eqb x.ticket b.ticket)) (open_units past)
block_open_beside c past b h off =
    let before = (follows c past (Entry.Block b) h).before in
    let m = may_block c past b h in
    block_open_off c past b before off
    ∙ filter_each (λ x. not (key b x)) (λ x. not (eqb x.ticket b.ticket)) (open_units past)
    (each_map (λ x. eqb x.ticket m.0.ticket ≡ true → x ≡ m.0) (λ x. not (key b x) ≡ not (eqb x.ticket b.ticket))
    (λ x f. ap not (by m.0 m.2 x f (cases_Bool (eqb x.ticket b.ticket)))) (open_units past)
    (one_each m.0 (open_units past) (opens_apart c past before)
    (ap (λ t. find (λ (x : GrantLine). eqb x.ticket t) (open_units past)) m.2.ticket ∙ m.1)))
  where
    by : (g : GrantLine) → MayBlock past b g → (x : GrantLine) → (eqb x.ticket g.ticket ≡ true → x ≡ g)
        → ((eqb x.ticket b.ticket ≡ true) ⊎ (eqb x.ticket b.ticket ≡ false)) → key b x ≡ eqb x.ticket b.ticket
    by g m x f (inl e) =
        let same : x ≡ g = f (ap (eqb x.ticket) m.ticket ∙ e) in
        (λ i. eq-eqb b.ticket x.ticket (sym (eqb-true _ _ e)) i
        && eq-eqb b.unit x.unit (m.unit ∙ sym (ap (λ (y : GrantLine). y.unit) same)) i) ∙ sym e
    by g m x f (inr e) = elim (cases_Bool (eqb b.ticket x.ticket)) [
      | inl q ↦ absurd (let r : true ≡ false = sym (eq-eqb x.ticket b.ticket (sym (eqb-true _ _ q))) ∙ e in cc)
      | inr q ↦ ap (λ k. k && eqb b.unit x.unit) q ∙ sym e
    ]
