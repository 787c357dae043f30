-- The compares of a unit that has no effect yet: each found its block equal, and its value still is.
use Rattle.std.proofs.Common.{◌≡◌, ℕ, zero, suc, ◌+◌, ◌*◌, ◌≤◌, ◌<◌, Bool, true, false, not, ◌&&◌, ◌||◌, cond, List, []}
use Rattle.std.proofs.Common.{◌∷◌, ◌++◌, length, refl, sym, ap, ◌∙◌, subst, Option, Some, None, inl, inr, ◌⊎◌, arith}
use Rattle.std.proofs.Common.{eq-eqb, ne_eqb, eqb, nat_le, nat_lt, leb-false, le-leb, lt-ltb, mod-lt}
use Rattle.std.specs.List.{list_any, find}
use Rattle.std.specs.Str.{bytes_eq}
use Rattle.std.proofs.lemmas.Bool.{and_parts, and_from, and_left, or_parts, or_from, cond-true, cond-false, cases_Bool}
use Rattle.std.proofs.lemmas.Bool.{lt-leb}
use Rattle.nvme_model.specs.declared.config.ConfigNumbers.{ConfigNumbers}
use Rattle.nvme_model.specs.Tickets
use Rattle.nvme_model.specs.History.{Past}
use Rattle.nvme_model.specs.Tickets.{Ticket}
use Rattle.nvme_model.specs.Operations.{op, is_pair, has_write, has_compare, is_exclusive, compare_data}
use Rattle.nvme_model.specs.Open.{granted, open_units, blocks_made, has_ended, steps_needed, is_differs, is_equal}
use Rattle.nvme_model.specs.Open.{unit_range}
use Rattle.nvme_model.specs.Value.{value}
use Rattle.nvme_model.specs.Medium.{medium}
use Rattle.nvme_model.specs.Array.{has_block}
use Rattle.nvme_model.specs.Steps.{marked, word, compared}
use Rattle.nvme_model.specs.Legal.{IsLegal}
use Rattle.nvme_model.specs.Laws.{MarkedRight}
use Rattle.nvme_model.specs.Kept.{WordsRight}
use Rattle.nvme_model.specs.declared.array.Range.{Range}
use Rattle.nvme_model.specs.declared.operation.Op.{Op}
use Rattle.nvme_model.specs.declared.operation.Found.{Found}
use Rattle.nvme_model.specs.declared.entry.GrantLine.{GrantLine}
use Rattle.nvme_model.specs.declared.entry.BlockLine.{BlockLine}
use Rattle.nvme_model.specs.declared.entry.Entry.{Entry}
use Rattle.nvme_model.proofs.Lists.{Each, each_map, each_all, each_both}
use Rattle.nvme_model.proofs.Rules.{follows, may_grant}
use Rattle.nvme_model.proofs.Apart.{open_apart, ticket_kept}
use Rattle.nvme_model.proofs.Granted.{GrantFacts, granted_facts}
use Rattle.nvme_model.proofs.Blocks.{MayBlock, may_block, no_blocks, same_made, made_lbas, lbas, made_in_order, at_key}
use Rattle.nvme_model.proofs.Blocks.{range_before}
use Rattle.nvme_model.proofs.Effects.{came, is_write_op}
use Rattle.nvme_model.proofs.Holding.{holds, both_conflict, conflict_both, range_of_entry, due_within, false_if}
use Rattle.nvme_model.proofs.Holding.{untouched, grant_key}
use Rattle.nvme_model.proofs.Medium.{medium_state, Against, against_found, each_none, found_state, is_open, unfilter}
use Rattle.nvme_model.proofs.Cut.{clash}

-- ---- the volume at a block that is compared

-- an open unit that is Shared: nobody holds its blocks
pub not_held : (g : GrantLine) (l : ℕ) → is_exclusive g.mode ≡ false → has_block g.range l ≡ true
    → (xs : List GrantLine) → Each (Against g) xs → list_any (holds l) xs ≡ false
not_held g l e k xs h = each_none (holds l) xs
    (each_map (Against g) (λ x. holds l x ≡ false) (λ x a. false_if (holds l x) (λ y. against x a y)) xs h)
  where
    against : (x : GrantLine) → Against g x → holds l x ≡ true → ⊥
    against x (inl q) y = clash (is_exclusive g.mode)
        (ap (λ (z : GrantLine). is_exclusive z.mode) (sym q) ∙ (and_parts _ _ y).0) e
    against x (inr (inl n)) y = clash _ (both_conflict x g l y k) n
    against x (inr (inr n)) y = clash _ (conflict_both x g l y k) n

pub pair_writes : (o : Option Op) → is_pair o ≡ true → has_write o ≡ true
pair_writes (Some Op.Pair) q = refl
pair_writes (Some Op.Write) q = refl
pair_writes (Some Op.WriteZeroes) q = refl
pair_writes (Some Op.Read) q = q
pair_writes (Some Op.Compare) q = q
pair_writes None q = q

-- at the block that a compare names, the volume is the value
pub compare_sees : (c : ConfigNumbers) (past : Past) (b : BlockLine) (g : GrantLine) → IsLegal c past → MarkedRight past
    → find (λ x. eqb x.ticket b.ticket) (open_units past) ≡ Some g → MayBlock past b g
    → (is_pair (op (Tickets.ticket past b.ticket)) ≡ true
    → length (blocks_made past b.ticket b.unit) < (unit_range past b.ticket b.unit).blocks)
    → ((has_write (op (Tickets.ticket past b.ticket)) ≡ false) ⊎ (is_pair (op (Tickets.ticket past b.ticket)) ≡ true))
    → medium past b.lba ≡ value past b.lba
compare_sees c past b g h k e m early (inl w) =
    (medium_state c past b.lba h k).free
    (not_held g b.lba (m.unended.facts.mode ∙ (ap (λ (t : ℕ). has_write (op (Tickets.ticket past t))) m.ticket ∙ w))
    (ap (λ (r : Range). has_block r b.lba) (sym (range_of_entry past b g m)) ∙ due_within past b g m)
    (open_units past) (against_found (λ x. eqb x.ticket b.ticket) (open_units past) g (open_apart c past h) e))
compare_sees c past b g h k e m early (inr p) =
    (found_state past b g b.lba e m (pair_writes _ p, due_within past b g m) (medium_state c past b.lba h k)).not_yet
    (cond-true (is_pair (op (Tickets.ticket past b.ticket))) _ _ p ∙ lt-leb _ _ (early p))

-- ---- the made blocks lie in the range

lbas_within : (s n j : ℕ) → 1 ≤ n → Each (λ l. (s ≤ l) × (l < s + n)) (lbas s n j)
lbas_within s n zero o = tt
lbas_within s n (suc j) o = ((omega arith, omega (arith, mod-lt j o)), lbas_within s n j o)

made_within : (c : ConfigNumbers) (past : Past) (t u : ℕ) → IsLegal c past → 1 ≤ (unit_range past t u).blocks
    → Each (λ l. has_block (unit_range past t u) l ≡ true) (made_lbas (blocks_made past t u))
made_within c past t u h o =
    let r = unit_range past t u in
    subst (λ (xs : List ℕ). Each (λ l. has_block r l ≡ true) xs) (sym (made_in_order c past t u h))
    (each_map (λ l. (r.slba ≤ l) × (l < r.slba + r.blocks)) (λ l. has_block r l ≡ true)
    (λ l p. and_from _ _ (le-leb r.slba l p.0) (lt-ltb l (r.slba + r.blocks) p.1))
    (lbas r.slba r.blocks (length (blocks_made past t u)))
    (lbas_within r.slba r.blocks (length (blocks_made past t u)) o))

-- ---- each answer so far is `equal`, and still so

abbrev pub agrees : Past → Ticket → ℕ → Bool
agrees past k l = bytes_eq (value past l) (compare_data k l)

abbrev pub AllAgree : Past → Ticket → List BlockLine → Type 0
AllAgree past k made = Each (λ b. (is_equal b.found ≡ true) × (agrees past k b.lba ≡ true)) made

abbrev pub Agreeing : Past → ℕ → ℕ → Type 0
Agreeing past t u =
    has_compare (op (Tickets.ticket past t)) ≡ true
    → came (op (Tickets.ticket past t)) (unit_range past t u).blocks (length (blocks_made past t u))
    (list_any (λ b. is_differs b.found) (blocks_made past t u)) ≡ false
    → AllAgree past (Tickets.ticket past t) (blocks_made past t u)

-- where the values of its blocks stay
agree_kept : (k : Ticket) (past later : Past) (made : List BlockLine)
    → Each (λ l. value later l ≡ value past l) (made_lbas made) → AllAgree past k made → AllAgree later k made
agree_kept k past later [] e h = tt
agree_kept k past later (b ∷ made) e h =
    ((h.0.0, ap (λ (v : List ℕ). bytes_eq v (compare_data k b.lba)) e.0 ∙ h.0.1), agree_kept k past later made e.1 h.1)

-- a compare that doesn't differ
found_equal : (past : Past) (k : Ticket) (l : ℕ) (f : Found) → f ≡ compared past k l → is_differs f ≡ false
    → (is_equal f ≡ true) × (bytes_eq (medium past l) (compare_data k l) ≡ true)
found_equal past k l f e d = go (bytes_eq (medium past l) (compare_data k l)) refl e
  where
    go : (b : Bool) → bytes_eq (medium past l) (compare_data k l) ≡ b → f ≡ cond b Found.Equal Found.Differs
        → (is_equal f ≡ true) × (bytes_eq (medium past l) (compare_data k l) ≡ true)
    go true q x = (ap is_equal x, q)
    go false q x = clash (is_differs f) (ap is_differs x) d

-- the word of a compare
pub word_compares : (past : Past) (k : Ticket) (o : Option Op) (n j l : ℕ) → has_compare o ≡ true → j < n
    → word past k o n j l ≡ compared past k l
word_compares past k (Some Op.Compare) n j l h b = refl
word_compares past k (Some Op.Pair) n j l h b = cond-true _ _ _ (lt-ltb j n b)
word_compares past k None n j l h b = clash false h refl
word_compares past k (Some Op.Read) n j l h b = clash false h refl
word_compares past k (Some Op.Write) n j l h b = clash false h refl
word_compares past k (Some Op.WriteZeroes) n j l h b = clash false h refl

-- what it says that the effect of a comparing unit hasn't come
pub record NotCome (o : Option Op) (n j : ℕ) (d : Bool) : Type 0 where
  pub below : j < n
  pub same : d ≡ false

pub not_come_yet : (o : Option Op) (n j : ℕ) (d : Bool) → has_compare o ≡ true → came o n j d ≡ false → NotCome o n j d
not_come_yet o n j d h e =
    let a = or_parts (nat_le n j) d
    (sym (cond-false (is_write_op o) (nat_lt 0 j) (nat_le n j || d) (no_plain_write o h)) ∙ e) in
    record { below = leb-false n j a.0; same = a.1 }
  where
    no_plain_write : (o : Option Op) → has_compare o ≡ true → is_write_op o ≡ false
    no_plain_write (Some Op.Compare) h = refl
    no_plain_write (Some Op.Pair) h = refl
    no_plain_write (Some Op.Read) h = refl
    no_plain_write (Some Op.Write) h = sym h
    no_plain_write (Some Op.WriteZeroes) h = sym h
    no_plain_write None h = refl

pub writes_or_pair : (o : Option Op) → has_compare o ≡ true → (has_write o ≡ false) ⊎ (is_pair o ≡ true)
writes_or_pair (Some Op.Compare) h = inl refl
writes_or_pair (Some Op.Pair) h = inr refl
writes_or_pair (Some Op.Read) h = inl refl
writes_or_pair (Some Op.Write) h = clash false h refl
writes_or_pair (Some Op.WriteZeroes) h = clash false h refl
writes_or_pair None h = inl refl

compare_mark : (o : Option Op) (n j : ℕ) (f : Found) → has_compare o ≡ true → suc j < n → is_differs f ≡ false
    → marked o n j f ≡ false
compare_mark (Some Op.Compare) n j f h l d = or_from _ _ (ne_eqb (suc j) n (λ (e : suc j ≡ n). omega (arith, e, l))) d
compare_mark (Some Op.Pair) n j f h l d = or_from _ _ (ne_eqb (suc j) n (λ (e : suc j ≡ n). omega (arith, e, l))) d
compare_mark (Some Op.Read) n j f h l d = clash false h refl
compare_mark (Some Op.Write) n j f h l d = clash false h refl
compare_mark (Some Op.WriteZeroes) n j f h l d = clash false h refl
compare_mark None n j f h l d = clash false h refl

-- one more Block of the unit itself
agree_own : (c : ConfigNumbers) (past : Past) (b : BlockLine) (g : GrantLine) → IsLegal c past
    → MarkedRight (Entry.Block b ∷ past) → WordsRight (Entry.Block b ∷ past)
    → find (λ x. eqb x.ticket b.ticket) (open_units past) ≡ Some g → MayBlock past b g → Agreeing past b.ticket b.unit
    → Agreeing (Entry.Block b ∷ past) b.ticket b.unit
agree_own c past b g h k w e m ih p n =
    let made = blocks_made past b.ticket b.unit in
    let o = op (Tickets.ticket past b.ticket) in
    let r = unit_range past b.ticket b.unit in
    let now = not_come_yet o r.blocks (suc (length made))
    (is_differs b.found || list_any (λ x. is_differs x.found) made) p
    (subst (λ (xs : List BlockLine). came o r.blocks (length xs) (list_any (λ x. is_differs x.found) xs) ≡ false)
    (same_made b b.ticket b.unit made refl refl) n) in
    let d = or_parts _ _ now.same in
    let before : came o r.blocks (length made) (list_any (λ x. is_differs x.found) made) ≡ false =
    came_from o r.blocks (length made) (list_any (λ x. is_differs x.found) made) p (omega (arith, now.below)) d.1 in
    let unmarked : b.effect ≡ false = k.1 ∙ compare_mark o r.blocks (length made) b.found p now.below d.0 in
    let kept : (l : ℕ) → value (Entry.Block b ∷ past) l ≡ value past l =
    λ l. cond-false _ _ _ (and_left _ _ (and_left _ _ unmarked)) in
    let found = found_equal past (Tickets.ticket past b.ticket) b.lba b.found
    (w.1 ∙ word_compares past (Tickets.ticket past b.ticket) o r.blocks (length made) b.lba p
    (omega (arith, now.below))) d.0 in
    let sees = compare_sees c past b g h k.0 e m (λ q. omega (arith, now.below)) (writes_or_pair o p) in
    subst (λ (xs : List BlockLine). AllAgree (Entry.Block b ∷ past) (Tickets.ticket past b.ticket) xs)
    (sym (same_made b b.ticket b.unit made refl refl)) (
      (
        found.0,
        ap (λ (v : List ℕ). bytes_eq v (compare_data (Tickets.ticket past b.ticket) b.lba))
            (kept b.lba ∙ sym sees) ∙ found.1,
      ),
      agree_kept (Tickets.ticket past b.ticket) past (Entry.Block b ∷ past) made
          (each_all (λ l. value (Entry.Block b ∷ past) l ≡ value past l) kept (made_lbas made)) (ih p before),
    )
  where
    came_from : (o : Option Op) (n j : ℕ) (d : Bool) → has_compare o ≡ true → j < n → d ≡ false → came o n j d ≡ false
    came_from (Some Op.Compare) n j d h l e = or_from _ _ (lt-leb n j l) e
    came_from (Some Op.Pair) n j d h l e = or_from _ _ (lt-leb n j l) e
    came_from (Some Op.Read) n j d h l e = clash false h refl
    came_from (Some Op.Write) n j d h l e = clash false h refl
    came_from (Some Op.WriteZeroes) n j d h l e = clash false h refl
    came_from None n j d h l e = clash false h refl

-- a Block of another unit
pub needs_all : (k : Ticket) (n : ℕ) → n ≤ steps_needed k n
needs_all k n = go (is_pair (op k))
  where
    go : (b : Bool) → n ≤ cond b (2 * n) n
    go true = omega arith
    go false = omega arith

other_values : (c : ConfigNumbers) (past : Past) (b : BlockLine) (g x : GrantLine) → IsLegal c past → MayBlock past b g
    → GrantFacts past x → Against g x → (eqb b.ticket x.ticket && eqb b.unit x.unit) ≡ false
    → Each (λ l. value (Entry.Block b ∷ past) l ≡ value past l) (made_lbas (blocks_made past x.ticket x.unit))
other_values c past b g x h m f a e =
    each_map (λ l. has_block (unit_range past x.ticket x.unit) l ≡ true)
    (λ l. value (Entry.Block b ∷ past) l ≡ value past l)
    (λ l p. at_block l p (cases_Bool (has_write (op (Tickets.ticket past b.ticket)))))
    (made_lbas (blocks_made past x.ticket x.unit))
    (made_within c past x.ticket x.unit h (subst (λ (r : Range). 1 ≤ r.blocks) (sym f.range) f.some))
  where
    exclusive : has_write (op (Tickets.ticket past b.ticket)) ≡ true → is_exclusive g.mode ≡ true
    exclusive w = m.unended.facts.mode ∙ (ap (λ (t : ℕ). has_write (op (Tickets.ticket past t))) m.ticket ∙ w)

    lacks : (l : ℕ) → is_exclusive g.mode ≡ true → has_block x.range l ≡ true → Against g x
        → has_block g.range l ≡ false
    lacks l w k (inl q) =
        clash (eqb b.ticket x.ticket && eqb b.unit x.unit)
        (and_from _ _ (eq-eqb b.ticket x.ticket (sym m.ticket ∙ ap (λ (y : GrantLine). y.ticket) (sym q)))
        (eq-eqb b.unit x.unit (m.unit ∙ ap (λ (y : GrantLine). y.unit) (sym q)))) e
    lacks l w k (inr (inl n)) =
        false_if (has_block g.range l) (λ y. clash _ (conflict_both g x l (and_from _ _ w y) k) n)
    lacks l w k (inr (inr n)) =
        false_if (has_block g.range l) (λ y. clash _ (both_conflict g x l (and_from _ _ w y) k) n)

    at_block : (l : ℕ) → has_block (unit_range past x.ticket x.unit) l ≡ true
        → ((has_write (op (Tickets.ticket past b.ticket)) ≡ true)
        ⊎ (has_write (op (Tickets.ticket past b.ticket)) ≡ false))
        → value (Entry.Block b ∷ past) l ≡ value past l
    at_block l p (inr w) = (untouched past b g l m (inl w)).1
    at_block l p (inl w) =
        (untouched past b g l m (inr
        (ap (λ (r : Range). has_block r l) (range_of_entry past b g m)
        ∙ lacks l (exclusive w) (subst (λ (r : Range). has_block r l ≡ true) f.range p) a))).1

record Other (past : Past) (g x : GrantLine) : Type 0 where
  facts : GrantFacts past x
  against : is_open past x ≡ true → Against g x
  agreeing : Agreeing past x.ticket x.unit

agree_other : (c : ConfigNumbers) (past : Past) (b : BlockLine) (g x : GrantLine) → IsLegal c past → MayBlock past b g
    → Other past g x → (eqb b.ticket x.ticket && eqb b.unit x.unit) ≡ false
    → Agreeing (Entry.Block b ∷ past) x.ticket x.unit
agree_other c past b g x h m f e p n =
    let made = blocks_made past x.ticket x.unit in
    let k = Tickets.ticket past x.ticket in
    let same = ap (λ (xs : List BlockLine). xs ++ made)
    (cond-false (eqb b.ticket x.ticket && eqb b.unit x.unit) (b ∷ []) [] e) in
    let before = subst (λ (xs : List BlockLine).
    came (op k) (unit_range past x.ticket x.unit).blocks (length xs) (list_any (λ y. is_differs y.found) xs)
    ≡ false) same n in
    let now = not_come_yet (op k) (unit_range past x.ticket x.unit).blocks (length made)
    (list_any (λ y. is_differs y.found) made) p before in
    let opened : is_open past x ≡ true =
    ap not (subst (λ (r : Range). has_ended past x.ticket x.unit r.blocks ≡ false) f.facts.range
    (or_from _ _ (lt-leb (steps_needed k (unit_range past x.ticket x.unit).blocks) (length made)
    (omega (arith, now.below, needs_all k (unit_range past x.ticket x.unit).blocks))) now.same)) in
    subst (λ (xs : List BlockLine). AllAgree (Entry.Block b ∷ past) k xs) (sym same)
    (agree_kept k past (Entry.Block b ∷ past) made (other_values c past b g x h m f.facts (f.against opened) e)
    (f.agreeing p before))

agree_after : (c : ConfigNumbers) (past : Past) (b : BlockLine) → IsLegal c (Entry.Block b ∷ past)
    → MarkedRight (Entry.Block b ∷ past) → WordsRight (Entry.Block b ∷ past)
    → Each (λ x. Agreeing past x.ticket x.unit) (granted past)
    → Each (λ x. Agreeing (Entry.Block b ∷ past) x.ticket x.unit) (granted past)
agree_after c past b h k w ih =
    let before = (follows c past (Entry.Block b) h).before in
    let found = may_block c past b h in
    each_map (λ x. GrantFacts past x × ((is_open past x ≡ true → Against found.0 x) × Agreeing past x.ticket x.unit))
    (λ x. Agreeing (Entry.Block b ∷ past) x.ticket x.unit)
    (λ x f. elim (cases_Bool (eqb b.ticket x.ticket && eqb b.unit x.unit)) [
      | inl e ↦ at_key (λ t u. Agreeing past t u → Agreeing (Entry.Block b ∷ past) t u) b x.ticket x.unit e
          (agree_own c past b found.0 before k w found.1 found.2) f.1.1
      | inr e ↦ agree_other c past b found.0 x before found.2
          (record { facts = f.0; against = f.1.0; agreeing = f.1.1 }) e
    ])
    (granted past)
    (each_both _ _ (granted past) (granted_facts c past before)
    (each_both _ _ (granted past)
    (unfilter (Against found.0) (is_open past) (granted past)
    (against_found (λ x. eqb x.ticket b.ticket) (open_units past) found.0 (open_apart c past before) found.1)) ih))

pub agree_state : (c : ConfigNumbers) (past : Past) → IsLegal c past → MarkedRight past → WordsRight past
    → Each (λ x. Agreeing past x.ticket x.unit) (granted past)
agree_state c [] h k w = tt
agree_state c (Entry.Fetch f ∷ past) h k w =
    let before = (follows c past (Entry.Fetch f) h).before in
    each_map (λ x. GrantFacts past x × Agreeing past x.ticket x.unit)
    (λ x. Agreeing (Entry.Fetch f ∷ past) x.ticket x.unit)
    (λ x p. subst (λ (t : Ticket). has_compare (op t) ≡ true
    → came (op t) (unit_range past x.ticket x.unit).blocks (length (blocks_made past x.ticket x.unit))
    (list_any (λ b. is_differs b.found) (blocks_made past x.ticket x.unit)) ≡ false
    → AllAgree past t (blocks_made past x.ticket x.unit)) (sym (ticket_kept c past f x.ticket h p.0.known)) p.1)
    (granted past) (each_both _ _ (granted past) (granted_facts c past before) (agree_state c past before k w))
agree_state c (Entry.Grant g ∷ past) h k w =
    let before = (follows c past (Entry.Grant g) h).before in (
      (λ p n. subst (λ (xs : List BlockLine). AllAgree (Entry.Grant g ∷ past) (Tickets.ticket past g.ticket) xs)
          (sym (no_blocks c past g.ticket g.unit before (omega (arith, (may_grant c past g h).unit)))) tt),
      each_map (λ x. GrantFacts past x × Agreeing past x.ticket x.unit)
          (λ x. Agreeing (Entry.Grant g ∷ past) x.ticket x.unit)
          (λ x p. subst (λ (r : Range). has_compare (op (Tickets.ticket past x.ticket)) ≡ true
          → came (op (Tickets.ticket past x.ticket)) r.blocks (length (blocks_made past x.ticket x.unit))
          (list_any (λ b. is_differs b.found) (blocks_made past x.ticket x.unit)) ≡ false
          → AllAgree past (Tickets.ticket past x.ticket) (blocks_made past x.ticket x.unit))
          (sym (range_before past g x.ticket x.unit (grant_key c past g x h p.0))) p.1)
          (granted past) (each_both _ _ (granted past) (granted_facts c past before) (agree_state c past before k w)),
    )
agree_state c (Entry.Block b ∷ past) h k w =
    agree_after c past b h k w (agree_state c past (follows c past (Entry.Block b) h).before k.0 w.0)
agree_state c (e ∷ past) h k w = agree_state c past (follows c past e h).before k w
