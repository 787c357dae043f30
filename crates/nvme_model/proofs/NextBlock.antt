-- The Block that this engine adds may follow.
use Rattle.std.proofs.Common.{◌≡◌, ℕ, suc, ◌+◌, ◌-◌, ◌*◌, ◌≤◌, ◌<◌, Bool, true, false, not, ◌&&◌, ◌||◌, cond, List, []}
use Rattle.std.proofs.Common.{◌∷◌, ◌++◌, length, refl, sym, ap, ◌∙◌, subst, subst₂, Option, Some, None, is_some}
use Rattle.std.proofs.Common.{is_none, inl, inr, ◌⊎◌, arith, eq-eqb, ne_eqb, eqb, eqb-true, nat_le, nat_lt, leb-true}
use Rattle.std.proofs.Common.{le-leb, lt-ltb, ltb-true, ltb-false, mod-lt}
use Rattle.std.specs.List.{list_any, list_all, find}
use Rattle.std.specs.Bool.{beq}
use Rattle.std.specs.Str.{bytes_eq}
use Rattle.std.proofs.lemmas.Bool.{and_parts, and_from, and_left, or_parts, or_from, or_left, or_cases, cond-true}
use Rattle.std.proofs.lemmas.Bool.{cases_Bool, cases_lt, cond-false, le-ltb, lt-leb, not-false}
use Rattle.nvme_model.specs.declared.config.ConfigNumbers.{ConfigNumbers}
use Rattle.nvme_model.specs.Tickets
use Rattle.nvme_model.specs.History.{Past}
use Rattle.nvme_model.specs.Tickets.{Ticket}
use Rattle.nvme_model.specs.Operations.{op, is_pair, has_write, has_compare, compare_data}
use Rattle.nvme_model.specs.Open.{granted, open_units, blocks_made, is_differs, is_equal, is_written, unit_range}
use Rattle.nvme_model.specs.Placed.{effect, may_be_effect}
use Rattle.nvme_model.specs.Value.{value}
use Rattle.nvme_model.specs.Medium.{medium}
use Rattle.nvme_model.specs.Array.{has_block}
use Rattle.nvme_model.specs.Refusals.{refusal, conditions}
use Rattle.nvme_model.specs.Steps.{marked, word, compared, due, block_entry, next_entry}
use Rattle.nvme_model.specs.Legal.{IsLegal, may_follow, block_fits}
use Rattle.nvme_model.specs.Answered.{may_find, right_answers}
use Rattle.nvme_model.specs.Laws.{MarkedRight}
use Rattle.nvme_model.specs.Kept.{WordsRight}
use Rattle.nvme_model.specs.declared.array.Range.{Range}
use Rattle.nvme_model.specs.declared.operation.Op.{Op}
use Rattle.nvme_model.specs.declared.operation.Found.{Found}
use Rattle.nvme_model.specs.declared.entry.GrantLine.{GrantLine}
use Rattle.nvme_model.specs.declared.entry.BlockLine.{BlockLine}
use Rattle.nvme_model.specs.declared.entry.Entry.{Entry}
use Rattle.nvme_model.specs.declared.step.Step.{Step}
use Rattle.nvme_model.proofs.Lists.{Each, each_both, each_filter, each_find}
use Rattle.nvme_model.proofs.Rules.{follows, none_holds}
use Rattle.nvme_model.proofs.Apart.{ticket_kept, open_apart}
use Rattle.nvme_model.proofs.Blocks.{OpenFacts, open_facts, may_block, same_made, at_key}
use Rattle.nvme_model.proofs.Holding.{UnitState, holds}
use Rattle.nvme_model.proofs.Medium.{is_open, medium_state, against_found}
use Rattle.nvme_model.proofs.Answers.{not_come_yet, word_compares, writes_or_pair, not_held, pair_writes, AllAgree}
use Rattle.nvme_model.proofs.Answers.{Agreeing, agree_state}
use Rattle.nvme_model.proofs.Effects.{came, effect_state, no_effect, not_both}
use Rattle.nvme_model.proofs.Pairs.{marked_here, word_at, no_blocks_yet}
use Rattle.nvme_model.proofs.Ended.{HasPrevious, found_some, granted_op, previous}
use Rattle.nvme_model.proofs.Cut.{clash}

-- ---- the next Block of an open unit

compared_is : (past : Past) (k : Ticket) (l : ℕ)
    → (is_equal (compared past k l) || is_differs (compared past k l)) ≡ true
compared_is past k l = go (bytes_eq (medium past l) (compare_data k l))
  where
    go : (b : Bool) → (is_equal (cond b Found.Equal Found.Differs) || is_differs (cond b Found.Equal Found.Differs))
        ≡ true
    go true = refl
    go false = refl

word_may : (past : Past) (k : Ticket) (o : Option Op) (n j l : ℕ) → is_some o ≡ true
    → may_find o n j (word past k o n j l) ≡ true
word_may past k None n j l h = h
word_may past k (Some Op.Read) n j l h = refl
word_may past k (Some Op.Write) n j l h = refl
word_may past k (Some Op.WriteZeroes) n j l h = refl
word_may past k (Some Op.Compare) n j l h = compared_is past k l
word_may past k (Some Op.Pair) n j l h = go (nat_lt j n) (compared_is past k l)
  where
    go : (b : Bool) → (is_equal (compared past k l) || is_differs (compared past k l)) ≡ true
        → cond b (is_equal (cond b (compared past k l) Found.Written)
        || is_differs (cond b (compared past k l) Found.Written))
        (is_written (cond b (compared past k l) Found.Written)) ≡ true
    go true e = e
    go false e = refl

-- a mark that is due comes before any other
mark_first : (past : Past) (k : Ticket) (o : Option Op) (n j l : ℕ) (d : Bool)
    → nat_le (cond (is_pair o) (2 * n) n) j ≡ false → d ≡ false → marked o n j (word past k o n j l) ≡ true
    → came o n j d ≡ false
mark_first past k (Some Op.Write) n j l d h e m = subst (λ (i : ℕ). nat_lt 0 i ≡ false) (sym (eqb-true j 0 m)) refl
mark_first past k (Some Op.WriteZeroes) n j l d h e m =
    subst (λ (i : ℕ). nat_lt 0 i ≡ false) (sym (eqb-true j 0 m)) refl
mark_first past k None n j l d h e m = or_from _ _ h e
mark_first past k (Some Op.Read) n j l d h e m = or_from _ _ h e
mark_first past k (Some Op.Compare) n j l d h e m = or_from _ _ h e
mark_first past k (Some Op.Pair) n j l d h e m =
    elim (cases_Bool (nat_lt j n)) [
      | inl b ↦ or_from _ _ (lt-leb n j (ltb-true j n b)) e
      | inr b ↦ clash _ m (or_from _ _ (ne_eqb (suc j) n (λ (q : suc j ≡ n). omega (arith, q, ltb-false j n b)))
          (ap (λ (x : Bool). is_differs (cond x (compared past k l) Found.Written)) b))
    ]

-- the entry
abbrev pub line : Past → GrantLine → BlockLine
line past g =
    let k = Tickets.ticket past g.ticket in
    let j = length (blocks_made past g.ticket g.unit) in
    let f = word past k (op k) g.range.blocks j (due g.range j) in
    record {
      ticket = g.ticket;
      unit = g.unit;
      lba = due g.range j;
      found = f;
      effect = marked (op k) g.range.blocks j f;
    }

may_mark : (c : ConfigNumbers) (past : Past) (g : GrantLine) → IsLegal c past → MarkedRight past → OpenFacts past g
    → HasPrevious past g
    → marked (op (Tickets.ticket past g.ticket)) g.range.blocks (length (blocks_made past g.ticket g.unit))
    (line past g).found ≡ true → may_be_effect past g.ticket g.unit ≡ true
may_mark c past g h k o p m =
    let made = blocks_made past g.ticket g.unit in
    let q = op (Tickets.ticket past g.ticket) in
    let open_now = or_parts _ _ o.goes_on in
    let some : 1 ≤ (unit_range past g.ticket g.unit).blocks =
    subst (λ (r : Range). 1 ≤ r.blocks) (sym o.facts.range) o.facts.some in
    let none : is_some (effect past g.ticket g.unit) ≡ false =
    effect_state c past g.ticket g.unit h k some
    ∙ (ap (λ (r : Range). came q r.blocks (length made) (list_any (λ x. is_differs x.found) made)) o.facts.range
    ∙ mark_first past (Tickets.ticket past g.ticket) q g.range.blocks (length made) (due g.range (length made))
    (list_any (λ x. is_differs x.found) made) open_now.0 open_now.1 m) in
    and_from (not (is_some (effect past g.ticket g.unit))) (eqb g.unit 0 || is_some (effect past g.ticket (g.unit - 1)))
    (ap not none) p

-- ---- its answers

abbrev answered : Past → Ticket → BlockLine → Bool
answered before k b = not (is_equal b.found || is_differs b.found)
    || beq (is_equal b.found) (bytes_eq (value before b.lba) (compare_data k b.lba))

-- an open unit that may compare sees the value
open_sees : (c : ConfigNumbers) (past : Past) (g : GrantLine) (l : ℕ) → IsLegal c past → MarkedRight past
    → OpenFacts past g → find (λ x. eqb x.ticket g.ticket) (open_units past) ≡ Some g → has_block g.range l ≡ true
    → (is_pair (op (Tickets.ticket past g.ticket)) ≡ true → length (blocks_made past g.ticket g.unit) < g.range.blocks)
    → ((has_write (op (Tickets.ticket past g.ticket)) ≡ false) ⊎ (is_pair (op (Tickets.ticket past g.ticket)) ≡ true))
    → medium past l ≡ value past l
open_sees c past g l h k o e b early (inl w) =
    (medium_state c past l h k).free
    (not_held g l (o.facts.mode ∙ w) b (open_units past)
    (against_found (λ x. eqb x.ticket g.ticket) (open_units past) g (open_apart c past h) e))
open_sees c past g l h k o e b early (inr p) =
    ((each_find (λ x. holds l x ≡ true → UnitState past l x.ticket x.unit) (λ x. eqb x.ticket g.ticket)
    (open_units past) g (medium_state c past l h k).held e).0
    (and_from _ _ (o.facts.mode ∙ pair_writes _ p) b)).not_yet
    (cond-true (is_pair (op (Tickets.ticket past g.ticket))) _ _ p
    ∙ lt-leb _ _ (subst (λ (r : Range). length (blocks_made past g.ticket g.unit) < r.blocks) (sym o.facts.range)
    (early p)))

-- a compare by the volume answers by the value, where they are one
compared_answers : (past : Past) (k : Ticket) (l : ℕ) (f : Found) → f ≡ compared past k l → medium past l ≡ value past l
    → (not (is_equal f || is_differs f) || beq (is_equal f) (bytes_eq (value past l) (compare_data k l))) ≡ true
compared_answers past k l f e m =
    rw e (go (bytes_eq (medium past l) (compare_data k l)) (bytes_eq (value past l) (compare_data k l))
    (ap (λ (v : List ℕ). bytes_eq v (compare_data k l)) m))
  where
    go : (x y : Bool) → x ≡ y
        → (not (is_equal (cond x Found.Equal Found.Differs) || is_differs (cond x Found.Equal Found.Differs))
        || beq (is_equal (cond x Found.Equal Found.Differs)) y) ≡ true
    go true true q = refl
    go true false q = sym q
    go false true q = q
    go false false q = refl

agree_answers : (past : Past) (k : Ticket) (made : List BlockLine) → AllAgree past k made
    → list_all (answered past k) made ≡ true
agree_answers past k [] h = refl
agree_answers past k (b ∷ made) h =
    and_from _ _ (equal_right (is_equal b.found) (is_differs b.found) _ h.0.0 h.0.1) (agree_answers past k made h.1)
  where
    equal_right : (e d q : Bool) → e ≡ true → q ≡ true → (not (e || d) || beq e q) ≡ true
    equal_right true d true x y = refl
    equal_right true d false x y = y
    equal_right false d q x y = clash false x refl

-- of a unit that doesn't compare no word compares
plain_word : (o : Option Op) (n j : ℕ) (f : Found) → has_compare o ≡ false → may_find o n j f ≡ true
    → not (is_equal f || is_differs f) ≡ true
plain_word o n j Found.Read p h = refl
plain_word o n j Found.Written p h = refl
plain_word None n j Found.Equal p h = h
plain_word None n j Found.Differs p h = h
plain_word (Some Op.Read) n j Found.Equal p h = h
plain_word (Some Op.Read) n j Found.Differs p h = h
plain_word (Some Op.Write) n j Found.Equal p h = h
plain_word (Some Op.WriteZeroes) n j Found.Equal p h = h
plain_word (Some Op.Write) n j Found.Differs p h = h
plain_word (Some Op.WriteZeroes) n j Found.Differs p h = h
plain_word (Some Op.Compare) n j Found.Equal p h = sym p
plain_word (Some Op.Compare) n j Found.Differs p h = sym p
plain_word (Some Op.Pair) n j Found.Equal p h = sym p
plain_word (Some Op.Pair) n j Found.Differs p h = sym p

abbrev Plain : Past → ℕ → ℕ → Type 0
Plain past t u = has_compare (op (Tickets.ticket past t)) ≡ false
    → list_all (λ b. not (is_equal b.found || is_differs b.found)) (blocks_made past t u) ≡ true

plain_words : (c : ConfigNumbers) (past : Past) (t u : ℕ) → IsLegal c past → t ≤ Tickets.tickets past → Plain past t u
plain_words c [] t u h k = λ p. refl
plain_words c (Entry.Fetch f ∷ past) t u h k =
    let before = (follows c past (Entry.Fetch f) h).before in
    elim (cases_lt (Tickets.tickets past) t) [
      | inl l ↦ λ p. rw (no_blocks_yet c past t u before l) refl
      | inr l ↦ λ p. plain_words c past t u before l
          (ap (λ (x : Ticket). has_compare (op x)) (sym (ticket_kept c past f t h l)) ∙ p)
    ]
plain_words c (Entry.Block b ∷ past) t u h k =
    let m = may_block c past b h in
    let before = (follows c past (Entry.Block b) h).before in
    let known : b.ticket ≤ Tickets.tickets past = omega (arith, m.2.ticket, m.2.unended.facts.known) in
    one_more (eqb b.ticket t && eqb b.unit u) refl (plain_words c past t u before k)
    (λ p. and_from _ _ (plain_word _ _ _ b.found p (word_at past b m.0 m.2))
    (plain_words c past b.ticket b.unit before known p))
  where
    one_more : (x : Bool) → (eqb b.ticket t && eqb b.unit u) ≡ x → Plain past t u
        → (has_compare (op (Tickets.ticket past b.ticket)) ≡ false
        → list_all (λ y. not (is_equal y.found || is_differs y.found)) (b ∷ blocks_made past b.ticket b.unit)
        ≡ true)
        → has_compare (op (Tickets.ticket past t)) ≡ false
        → list_all (λ y. not (is_equal y.found || is_differs y.found)) (cond x (b ∷ []) [] ++ blocks_made past t u)
        ≡ true
    one_more true e ih f = at_key
        (λ i j. has_compare (op (Tickets.ticket past i)) ≡ false
        → list_all (λ y. not (is_equal y.found || is_differs y.found)) (b ∷ blocks_made past i j) ≡ true) b t u e f
    one_more false e ih f = ih
plain_words c (e ∷ past) t u h k = plain_words c past t u (follows c past e h).before k

plain_answers : (before : Past) (k : Ticket) (made : List BlockLine)
    → list_all (λ b. not (is_equal b.found || is_differs b.found)) made ≡ true
    → list_all (answered before k) made ≡ true
plain_answers before k [] h = refl
plain_answers before k (b ∷ made) h =
    let a = and_parts (not (is_equal b.found || is_differs b.found))
    (list_all (λ x. not (is_equal x.found || is_differs x.found)) made) h in
    and_from _ _ (or_left _ _ a.0) (plain_answers before k made a.1)

-- the answers up to an effect stay right
right_kept : (c : ConfigNumbers) (past : Past) (t u : ℕ) → IsLegal c past → t ≤ Tickets.tickets past
    → right_answers (effect past t u) (Tickets.ticket past t) (blocks_made past t u) ≡ true
right_kept c [] t u h k = refl
right_kept c (Entry.Fetch f ∷ past) t u h k =
    let before = (follows c past (Entry.Fetch f) h).before in
    elim (cases_lt (Tickets.tickets past) t) [
      | inl l ↦ ap (λ (q : Option Past).
          right_answers q (Tickets.ticket (Entry.Fetch f ∷ past) t) (blocks_made past t u))
          (no_effect past t u (no_blocks_yet c past t u before l))
      | inr l ↦ subst (λ (x : Ticket). right_answers (effect past t u) x (blocks_made past t u) ≡ true)
          (sym (ticket_kept c past f t h l)) (right_kept c past t u before l)
    ]
right_kept c (Entry.Block b ∷ past) t u h k =
    let m = may_block c past b h in
    elim (cases_Bool (eqb b.ticket t && eqb b.unit u)) [
      | inl e ↦ at_key (λ i j.
          right_answers (effect (Entry.Block b ∷ past) i j) (Tickets.ticket past i)
          (blocks_made (Entry.Block b ∷ past) i j) ≡ true) b t u e m.2.right
      | inr e ↦ subst₂ (λ (q : Option Past) (xs : List BlockLine). right_answers q (Tickets.ticket past t) xs ≡ true)
          (sym (cond-false (b.effect && eqb b.ticket t && eqb b.unit u) (Some past) (effect past t u)
          (not_both b.effect (eqb b.ticket t) (eqb b.unit u) e)))
          (sym (ap (λ (xs : List BlockLine). xs ++ blocks_made past t u)
          (cond-false (eqb b.ticket t && eqb b.unit u) (b ∷ []) [] e)))
          (right_kept c past t u (follows c past (Entry.Block b) h).before k)
    ]
right_kept c (e ∷ past) t u h k = right_kept c past t u (follows c past e h).before k

-- once the effect came, an open unit compares no more
late_word : (past : Past) (k : Ticket) (o : Option Op) (n j l : ℕ) (d : Bool) → is_some o ≡ true → came o n j d ≡ true
    → d ≡ false → nat_le (cond (is_pair o) (2 * n) n) j ≡ false
    → not (is_equal (word past k o n j l) || is_differs (word past k o n j l)) ≡ true
late_word past k None n j l d s c e h = clash false s refl
late_word past k (Some Op.Read) n j l d s c e h = refl
late_word past k (Some Op.Write) n j l d s c e h = refl
late_word past k (Some Op.WriteZeroes) n j l d s c e h = refl
late_word past k (Some Op.Compare) n j l d s c e h = clash (nat_le n j || d) c (or_from _ _ h e)
late_word past k (Some Op.Pair) n j l d s c e h =
    elim (or_cases (nat_le n j) d c) [
      | inl q ↦ ap (λ (x : Bool).
          not (is_equal (cond x (compared past k l) Found.Written)
          || is_differs (cond x (compared past k l) Found.Written))) (le-ltb j n (leb-true n j q))
      | inr q ↦ clash d q e
    ]

due_in : (r : Range) (j : ℕ) → 1 ≤ r.blocks → has_block r (due r j) ≡ true
due_in r j o =
    let m = mod-lt j o in
    and_from _ _ (le-leb r.slba (due r j) (omega arith)) (lt-ltb (due r j) (r.slba + r.blocks) (omega (arith, m)))

right_by : (c : ConfigNumbers) (past : Past) (g : GrantLine) → IsLegal c past → MarkedRight past → WordsRight past
    → OpenFacts past g → find (λ x. eqb x.ticket g.ticket) (open_units past) ≡ Some g
    → is_some (op (Tickets.ticket past g.ticket)) ≡ true
    → right_answers (effect (Entry.Block (line past g) ∷ past) g.ticket g.unit) (Tickets.ticket past g.ticket)
    (blocks_made (Entry.Block (line past g) ∷ past) g.ticket g.unit) ≡ true
right_by c past g h k w o e s =
    subst (λ (xs : List BlockLine).
    right_answers (effect (Entry.Block (line past g) ∷ past) g.ticket g.unit) (Tickets.ticket past g.ticket) xs
    ≡ true)
    (sym (same_made (line past g) g.ticket g.unit (blocks_made past g.ticket g.unit) refl refl))
    (by_mark (line past g).effect refl)
  where
    early : marked (op (Tickets.ticket past g.ticket)) g.range.blocks (length (blocks_made past g.ticket g.unit))
        (line past g).found ≡ true
        → came (op (Tickets.ticket past g.ticket)) g.range.blocks (length (blocks_made past g.ticket g.unit))
        (list_any (λ x. is_differs x.found) (blocks_made past g.ticket g.unit)) ≡ false
    early m =
        let open_now = or_parts _ _ o.goes_on in
        mark_first past (Tickets.ticket past g.ticket) (op (Tickets.ticket past g.ticket)) g.range.blocks
        (length (blocks_made past g.ticket g.unit)) (due g.range (length (blocks_made past g.ticket g.unit)))
        (list_any (λ x. is_differs x.found) (blocks_made past g.ticket g.unit)) open_now.0 open_now.1 m

    at_mark : (line past g).effect ≡ true → (x : Bool) → has_compare (op (Tickets.ticket past g.ticket)) ≡ x
        → list_all (answered past (Tickets.ticket past g.ticket)) (line past g ∷ blocks_made past g.ticket g.unit)
        ≡ true
    at_mark m true p =
        let kk = Tickets.ticket past g.ticket in
        let made = blocks_made past g.ticket g.unit in
        let now = not_come_yet (op kk) g.range.blocks (length made) (list_any (λ x. is_differs x.found) made) p
        (early m) in
        let l = due g.range (length made) in
        let agree = (each_find (λ x. Agreeing past x.ticket x.unit) (λ x. eqb x.ticket g.ticket) (open_units past) g
        (each_filter (λ x. Agreeing past x.ticket x.unit) (λ x. Agreeing past x.ticket x.unit) (is_open past)
        (λ x f q. f) (granted past) (agree_state c past h k w)) e).0 in
        and_from _ _
        (compared_answers past kk l (line past g).found
        (word_compares past kk (op kk) g.range.blocks (length made) l p now.below)
        (open_sees c past g l h k o e (due_in g.range (length made) o.facts.some) (λ q. now.below)
        (writes_or_pair (op kk) p)))
        (agree_answers past kk made
        (agree p (subst (λ (r : Range). came (op kk) r.blocks (length made) (list_any (λ x. is_differs x.found) made)
        ≡ false) (sym o.facts.range) (early m))))
    at_mark m false p =
        let kk = Tickets.ticket past g.ticket in
        let made = blocks_made past g.ticket g.unit in
        plain_answers past kk (line past g ∷ made)
        (and_from _ _ (plain_word (op kk) g.range.blocks (length made) (line past g).found p
        (word_may past kk (op kk) g.range.blocks (length made) (due g.range (length made)) s))
        (plain_words c past g.ticket g.unit h o.facts.known p))

    later : (q : Option Past) → effect past g.ticket g.unit ≡ q
        → right_answers q (Tickets.ticket past g.ticket) (line past g ∷ blocks_made past g.ticket g.unit) ≡ true
    later None q = refl
    later (Some before) q =
        let kk = Tickets.ticket past g.ticket in
        let made = blocks_made past g.ticket g.unit in
        let open_now = or_parts _ _ o.goes_on in
        let some : 1 ≤ (unit_range past g.ticket g.unit).blocks =
        subst (λ (r : Range). 1 ≤ r.blocks) (sym o.facts.range) o.facts.some in
        let there : came (op kk) g.range.blocks (length made) (list_any (λ x. is_differs x.found) made) ≡ true =
        ap (λ (r : Range). came (op kk) r.blocks (length made) (list_any (λ x. is_differs x.found) made))
        (sym o.facts.range)
        ∙ (sym (effect_state c past g.ticket g.unit h k some) ∙ ap is_some q) in
        and_from _ _ (or_left _ _
        (late_word past kk (op kk) g.range.blocks (length made) (due g.range (length made))
        (list_any (λ x. is_differs x.found) made) s there open_now.1 open_now.0))
        (subst (λ (z : Option Past). right_answers z kk made ≡ true) q
        (right_kept c past g.ticket g.unit h o.facts.known))

    by_mark : (x : Bool) → (line past g).effect ≡ x
        → right_answers (effect (Entry.Block (line past g) ∷ past) g.ticket g.unit) (Tickets.ticket past g.ticket)
        (line past g ∷ blocks_made past g.ticket g.unit) ≡ true
    by_mark true m =
        subst (λ (q : Option Past).
        right_answers q (Tickets.ticket past g.ticket) (line past g ∷ blocks_made past g.ticket g.unit) ≡ true)
        (sym (marked_here past (line past g) m))
        (at_mark m (has_compare (op (Tickets.ticket past g.ticket))) refl)
    by_mark false m =
        subst (λ (q : Option Past).
        right_answers q (Tickets.ticket past g.ticket) (line past g ∷ blocks_made past g.ticket g.unit) ≡ true)
        (sym (cond-false _ (Some past) (effect past g.ticket g.unit) (and_left _ _ (and_left _ _ m))))
        (later (effect past g.ticket g.unit) refl)

block_by : (c : ConfigNumbers) (past : Past) (g : GrantLine) → IsLegal c past → MarkedRight past → WordsRight past
    → OpenFacts past g → HasPrevious past g → is_some (op (Tickets.ticket past g.ticket)) ≡ true
    → find (λ x. eqb x.ticket g.ticket) (open_units past) ≡ Some g → block_fits past (line past g) (Some g) ≡ true
block_by c past g h k w o p s e =
    let t = Tickets.ticket past g.ticket in
    let j = length (blocks_made past g.ticket g.unit) in
    and_from _ _ (and_from _ _
    (and_from _ _ (and_from _ _ (eq-eqb g.unit g.unit refl) (eq-eqb (due g.range j) (due g.range j) refl))
    (word_may past t (op t) g.range.blocks j (due g.range j) s))
    (mark_or (line past g).effect refl)) (right_by c past g h k w o e s)
  where
    mark_or : (x : Bool) → (line past g).effect ≡ x → (not x || may_be_effect past g.ticket g.unit) ≡ true
    mark_or true q = may_mark c past g h k o p q
    mark_or false q = refl

any_found : {X : Type 0} (t : X → Bool) (xs : List X) → list_any t xs ≡ true → is_some (find t xs) ≡ true
any_found t [] h = h
any_found t (x ∷ xs) h = go (t x) h (any_found t xs)
  where
    go : (b : Bool) → (b || list_any t xs) ≡ true → (list_any t xs ≡ true → is_some (find t xs) ≡ true)
        → is_some (cond b (Some x) (find t xs)) ≡ true
    go true e ih = refl
    go false e ih = ih e

abbrev Known : Past → GrantLine → Type 0
Known past g = OpenFacts past g × ((is_some (op (Tickets.ticket past g.ticket)) ≡ true) × HasPrevious past g)

all_known : (c : ConfigNumbers) (past : Past) → IsLegal c past → MarkedRight past → Each (Known past) (open_units past)
all_known c past h k =
    each_both (OpenFacts past) (λ x. (is_some (op (Tickets.ticket past x.ticket)) ≡ true) × HasPrevious past x)
    (open_units past) (open_facts c past h)
    (each_both (λ x. is_some (op (Tickets.ticket past x.ticket)) ≡ true) (HasPrevious past) (open_units past)
    (each_filter (λ x. is_some (op (Tickets.ticket past x.ticket)) ≡ true)
    (λ x. is_some (op (Tickets.ticket past x.ticket)) ≡ true) (is_open past) (λ x p q. p) (granted past)
    (granted_op c past h))
    (each_filter (HasPrevious past) (HasPrevious past) (is_open past) (λ x p q. p) (granted past)
    (previous c past h k)))

pub block_follows : (c : ConfigNumbers) (past : Past) (t : ℕ) → IsLegal c past → MarkedRight past → WordsRight past
    → is_none (refusal c past (Step.Block t)) ≡ true
    → may_follow c past (next_entry c past (Step.Block t)) ≡ true
block_follows c past t h k w n =
    let none = none_holds (conditions c past (Step.Block t)) n in
    let found = found_some (λ g. eqb g.ticket t) (open_units past)
    (any_found (λ g. eqb g.ticket t) (open_units past) (not-false _ none.1.0)) in
    subst (λ (o : Option GrantLine). may_follow c past (block_entry past t o) ≡ true) (sym found.1)
    (of_unit found.0 found.1)
  where
    of_unit : (g : GrantLine) → find (λ x. eqb x.ticket t) (open_units past) ≡ Some g
        → may_follow c past (block_entry past t (Some g)) ≡ true
    of_unit g e =
        let known = each_find (Known past) (λ x. eqb x.ticket t) (open_units past) g (all_known c past h k) e in
        subst (λ (i : ℕ). find (λ x. eqb x.ticket i) (open_units past) ≡ Some g
        → is_none (refusal c past (Step.Block i)) ≡ true → may_follow c past (block_entry past i (Some g)) ≡ true)
        (eqb-true g.ticket t known.1)
        (λ f m. and_from _ _ m (subst (λ (o : Option GrantLine). block_fits past (line past g) o ≡ true) (sym f)
        (block_by c past g h k w known.0.0 known.0.1.1 known.0.1.0 f)))
        e n
