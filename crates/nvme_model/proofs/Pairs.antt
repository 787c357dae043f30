-- What the compares of a pair say of the value at its effect.
use Rattle.std.proofs.Common.{◌≡◌, ℕ, zero, suc, ◌+◌, ◌%◌, ◌≤◌, ◌<◌, Bool, true, false, not, ◌&&◌, ◌||◌, cond, List, []}
use Rattle.std.proofs.Common.{◌∷◌, ◌++◌, length, refl, sym, ap, ◌∙◌, subst, Option, Some, None, inl, inr, arith, eq-eqb}
use Rattle.std.proofs.Common.{eqb, lt-ltb, mod-eq_of_lt, mod-lt}
use Rattle.std.specs.List.{list_any, list_all}
use Rattle.std.specs.Bool.{beq}
use Rattle.std.specs.Str.{bytes_eq}
use Rattle.std.proofs.lemmas.Bool.{and_parts, and_from, and_left, and_right, or_parts, or_from, cond-true, cases_lt}
use Rattle.nvme_model.specs.declared.config.ConfigNumbers.{ConfigNumbers}
use Rattle.nvme_model.specs.Array.{blocks_from}
use Rattle.nvme_model.specs.Open
use Rattle.nvme_model.specs.Tickets
use Rattle.nvme_model.specs.History.{Past}
use Rattle.nvme_model.specs.Tickets.{Ticket}
use Rattle.nvme_model.specs.Operations.{op, is_pair, has_compare, compare_data}
use Rattle.nvme_model.specs.Open.{blocks_made, is_equal, is_differs, has_ended, unit_range}
use Rattle.nvme_model.specs.Value.{value, all_equal}
use Rattle.nvme_model.specs.Placed.{effect}
use Rattle.nvme_model.specs.Legal.{IsLegal}
use Rattle.nvme_model.specs.Answered.{may_find, right_answers}
use Rattle.nvme_model.specs.declared.array.Range.{Range}
use Rattle.nvme_model.specs.declared.operation.Op.{Op}
use Rattle.nvme_model.specs.declared.operation.Found.{Found}
use Rattle.nvme_model.specs.declared.entry.GrantLine.{GrantLine}
use Rattle.nvme_model.specs.declared.entry.BlockLine.{BlockLine}
use Rattle.nvme_model.specs.declared.entry.Entry.{Entry}
use Rattle.nvme_model.proofs.Rules.{follows}
use Rattle.nvme_model.proofs.Apart.{ticket_kept}
use Rattle.nvme_model.proofs.Blocks.{MayBlock, may_block, no_blocks, not_made, same_made, made_lbas, lbas, one_more}
use Rattle.nvme_model.proofs.Blocks.{due_lba, made_in_order, at_key, grants_before, range_before}
use Rattle.nvme_model.proofs.Cut.{clash}

-- ---- lists of blocks

blocks_snoc : (q : ℕ → Bool) (s j : ℕ) → list_all q (blocks_from s j) ≡ true → q (s + j) ≡ true
    → list_all q (blocks_from s (suc j)) ≡ true
blocks_snoc q s zero h e = and_from _ _ (ap q (omega arith) ∙ e) refl
blocks_snoc q s (suc j) h e =
    let a = and_parts _ _ h in
    and_from _ _ a.0 (blocks_snoc q (suc s) j a.1 (ap q (omega arith) ∙ e))

lbas_all : (q : ℕ → Bool) (s n j : ℕ) → j ≤ n → list_all q (lbas s n j) ≡ true → list_all q (blocks_from s j) ≡ true
lbas_all q s n zero l h = refl
lbas_all q s n (suc j) l h =
    let a = and_parts _ _ h in
    blocks_snoc q s j (lbas_all q s n j (omega (arith, l)) a.1)
    (ap q (ap (λ (i : ℕ). s + i) (sym (mod-eq_of_lt l))) ∙ a.0)

not_all : (q : ℕ → Bool) (s n i m : ℕ) → i < n → m ≡ s + i → q m ≡ false → list_all q (blocks_from s n) ≡ false
not_all q s zero i m l e h = absurd (omega (arith, l))
not_all q s (suc n) zero m l e h = and_left _ _ (ap q (omega (arith, e)) ∙ h)
not_all q s (suc n) (suc i) m l e h = and_right _ _ (not_all q (suc s) n i m (omega (arith, l)) (omega (arith, e)) h)

-- ---- answers

abbrev pub comparing : Found → Bool
comparing f = is_equal f || is_differs f

abbrev pub answered : (ℕ → Bool) → BlockLine → Bool
answered q b = not (comparing b.found) || beq (is_equal b.found) (q b.lba)

equal_here : (q : Bool) (f : Found) → comparing f ≡ true → is_differs f ≡ false
    → (not (comparing f) || beq (is_equal f) q) ≡ true → q ≡ true
equal_here true f c d h = refl
equal_here false Found.Equal c d h = h
equal_here false Found.Differs c d h = clash true refl d
equal_here false Found.Read c d h = c
equal_here false Found.Written c d h = c

differs_here : (q : Bool) (f : Found) → is_differs f ≡ true → (not (comparing f) || beq (is_equal f) q) ≡ true
    → q ≡ false
differs_here false f d h = refl
differs_here true Found.Differs d h = sym h
differs_here true Found.Equal d h = sym d
differs_here true Found.Read d h = sym d
differs_here true Found.Written d h = sym d

equal_all : (q : ℕ → Bool) (made : List BlockLine) → list_all (λ b. comparing b.found) made ≡ true
    → list_any (λ b. is_differs b.found) made ≡ false
    → list_all (answered q) made ≡ true → list_all q (made_lbas made) ≡ true
equal_all q [] c d h = refl
equal_all q (b ∷ made) c d h =
    let e = and_parts (comparing b.found) (list_all (λ x. comparing x.found) made) c in
    let f = or_parts (is_differs b.found) (list_any (λ x. is_differs x.found) made) d in
    let g = and_parts (answered q b) (list_all (answered q) made) h in
    and_from _ _ (equal_here (q b.lba) b.found e.0 f.0 g.0) (equal_all q made e.1 f.1 g.1)

-- ---- words

-- the first n Blocks of a unit that compares do
pub compare_word : (o : Option Op) (n j : ℕ) (f : Found) → has_compare o ≡ true → j < n → may_find o n j f ≡ true
    → comparing f ≡ true
compare_word (Some Op.Pair) n j f p l h =
    subst (λ (x : Bool). cond x (comparing f) (Open.is_written f) ≡ true) (lt-ltb j n l) h
compare_word (Some Op.Compare) n j f p l h = h
compare_word None n j f p l h = clash false p refl
compare_word (Some Op.Read) n j f p l h = clash false p refl
compare_word (Some Op.Write) n j f p l h = clash false p refl
compare_word (Some Op.WriteZeroes) n j f p l h = clash false p refl

-- a pair compares
pub pair_compares : (o : Option Op) → is_pair o ≡ true → has_compare o ≡ true
pair_compares (Some Op.Pair) p = refl
pair_compares (Some Op.Compare) p = refl
pair_compares None p = clash false p refl
pair_compares (Some Op.Read) p = clash false p refl
pair_compares (Some Op.Write) p = clash false p refl
pair_compares (Some Op.WriteZeroes) p = clash false p refl

-- the same of those that are made
abbrev Words : Past → ℕ → ℕ → List BlockLine → Type 0
Words past t u made =
    has_compare (op (Tickets.ticket past t)) ≡ true → length made ≤ (unit_range past t u).blocks
    → list_all (λ b. comparing b.found) made ≡ true

-- the word by the entry's own unit
pub word_at : (past : Past) (b : BlockLine) (g : GrantLine) → MayBlock past b g
    → may_find (op (Tickets.ticket past b.ticket)) (unit_range past b.ticket b.unit).blocks
    (length (blocks_made past b.ticket b.unit)) b.found ≡ true
word_at past b g m =
    let e : g.range ≡ unit_range past b.ticket b.unit = rw (← m.ticket, m.unit) (sym m.unended.facts.range) in
    let d : length (blocks_made past g.ticket g.unit) ≡ length (blocks_made past b.ticket b.unit) =
    rw (m.ticket, m.unit) refl in
    rw (← e, ← d) m.word

words_more : (past : Past) (b : BlockLine) (g : GrantLine) → MayBlock past b g
    → Words past b.ticket b.unit (blocks_made past b.ticket b.unit)
    → Words past b.ticket b.unit (b ∷ blocks_made past b.ticket b.unit)
words_more past b g m ih p l =
    and_from _ _ (compare_word _ (unit_range past b.ticket b.unit).blocks (length (blocks_made past b.ticket b.unit))
    b.found p (omega (arith, l)) (word_at past b g m))
    (ih p (omega (arith, l)))

words_block : (past : Past) (b : BlockLine) (t u : ℕ) (x : Bool) → (eqb b.ticket t && eqb b.unit u) ≡ x
    → Words past t u (blocks_made past t u)
    → Words past b.ticket b.unit (b ∷ blocks_made past b.ticket b.unit)
    → Words past t u (cond x (b ∷ []) [] ++ blocks_made past t u)
words_block past b t u true e ih f = at_key (λ x y. Words past x y (b ∷ blocks_made past x y)) b t u e f
words_block past b t u false e ih f = ih

pub no_blocks_yet : (c : ConfigNumbers) (past : Past) (t u : ℕ) → IsLegal c past → Tickets.tickets past < t
    → blocks_made past t u ≡ []
no_blocks_yet c [] t u h l = refl
no_blocks_yet c (Entry.Fetch f ∷ past) t u h l =
    no_blocks_yet c past t u (follows c past (Entry.Fetch f) h).before (omega (arith, l))
no_blocks_yet c (Entry.Block b ∷ past) t u h l =
    let m = may_block c past b h in
    not_made b t u (blocks_made past t u) (λ e d. omega (arith, e, l, m.2.ticket, m.2.unended.facts.known))
    ∙ no_blocks_yet c past t u (follows c past (Entry.Block b) h).before l
no_blocks_yet c (e ∷ past) t u h l = no_blocks_yet c past t u (follows c past e h).before l

pub compare_words : (c : ConfigNumbers) (past : Past) (t u : ℕ) → IsLegal c past → t ≤ Tickets.tickets past
    → Words past t u (blocks_made past t u)
compare_words c [] t u h k = λ p l. refl
compare_words c (Entry.Fetch f ∷ past) t u h k =
    let before = (follows c past (Entry.Fetch f) h).before in
    elim (cases_lt (Tickets.tickets past) t) [
      | inl l ↦ λ p n. rw (no_blocks_yet c past t u before l) refl
      | inr l ↦ λ p n. compare_words c past t u before l
          (ap (λ (x : Ticket). has_compare (op x)) (sym (ticket_kept c past f t h l)) ∙ p) n
    ]
compare_words c (Entry.Grant g ∷ past) t u h k =
    let before = (follows c past (Entry.Grant g) h).before in
    words_grant (eqb g.ticket t && eqb g.unit u) refl (compare_words c past t u before k)
    (λ e. no_blocks c past t u before (grants_before c past g t u h e))
  where
    words_grant : (x : Bool) → (eqb g.ticket t && eqb g.unit u) ≡ x → Words past t u (blocks_made past t u)
        → ((eqb g.ticket t && eqb g.unit u) ≡ true → blocks_made past t u ≡ [])
        → Words (Entry.Grant g ∷ past) t u (blocks_made past t u)
    words_grant true e ih f = λ p l. rw (f e) refl
    words_grant false e ih f =
        subst (λ (r : Range). has_compare (op (Tickets.ticket past t)) ≡ true → length (blocks_made past t u) ≤ r.blocks
        → list_all (λ b. comparing b.found) (blocks_made past t u) ≡ true)
        (sym (range_before past g t u e)) ih
compare_words c (Entry.Block b ∷ past) t u h k =
    let m = may_block c past b h in
    let before = (follows c past (Entry.Block b) h).before in
    let known : b.ticket ≤ Tickets.tickets past = omega (arith, m.2.ticket, m.2.unended.facts.known) in
    words_block past b t u (eqb b.ticket t && eqb b.unit u) refl (compare_words c past t u before k)
    (words_more past b m.0 m.2 (compare_words c past b.ticket b.unit before known))
compare_words c (e ∷ past) t u h k = compare_words c past t u (follows c past e h).before k

-- ---- at the mark

abbrev agrees : Past → Ticket → ℕ → Bool
agrees past k l = bytes_eq (value past l) (compare_data k l)

-- a marked entry is its unit's effect
pub marked_here : (past : Past) (b : BlockLine) → b.effect ≡ true
    → effect (Entry.Block b ∷ past) b.ticket b.unit ≡ Some past
marked_here past b e =
    cond-true (b.effect && eqb b.ticket b.ticket && eqb b.unit b.unit) (Some past) (effect past b.ticket b.unit)
    (and_from _ _ (and_from _ _ e (eq-eqb b.ticket b.ticket refl)) (eq-eqb b.unit b.unit refl))

right_at_mark : (past : Past) (b : BlockLine) (g : GrantLine) → MayBlock past b g → b.effect ≡ true
    → list_all (answered (agrees past (Tickets.ticket past b.ticket))) (b ∷ blocks_made past b.ticket b.unit) ≡ true
right_at_mark past b g m e =
    subst (λ (xs : List BlockLine). list_all (answered (agrees past (Tickets.ticket past b.ticket))) xs ≡ true)
    (same_made b b.ticket b.unit (blocks_made past b.ticket b.unit) refl refl)
    (subst (λ (o : Option Past).
    right_answers o (Tickets.ticket past b.ticket) (blocks_made (Entry.Block b ∷ past) b.ticket b.unit) ≡ true)
    (marked_here past b e) m.right)

-- the unit's state by the entry's own words
pub goes_on : (past : Past) (b : BlockLine) (g : GrantLine) → MayBlock past b g
    → has_ended past b.ticket b.unit (unit_range past b.ticket b.unit).blocks ≡ false
goes_on past b g m =
    let e : g.range ≡ unit_range past b.ticket b.unit = rw (← m.ticket, m.unit) (sym m.unended.facts.range) in
    rw (← e, ← m.ticket, m.unit) m.unended.goes_on

-- a marked n-th compare that says `equal`: all blocks are the Compare's data
pub says_yes : (c : ConfigNumbers) (past : Past) (b : BlockLine) (g : GrantLine) → IsLegal c past → MayBlock past b g
    → b.effect ≡ true → has_compare (op (Tickets.ticket past b.ticket)) ≡ true
    → is_differs b.found ≡ false
    → suc (length (blocks_made past b.ticket b.unit)) ≡ (unit_range past b.ticket b.unit).blocks
    → all_equal (value past) (Tickets.ticket past b.ticket) (unit_range past b.ticket b.unit) ≡ true
says_yes c past b g h m e p d n =
    let made = blocks_made past b.ticket b.unit in
    let r = unit_range past b.ticket b.unit in
    let known : b.ticket ≤ Tickets.tickets past = omega (arith, m.ticket, m.unended.facts.known) in
    let words = words_more past b g m (compare_words c past b.ticket b.unit h known) p (omega (arith, n)) in
    let none = or_from _ _ d (or_parts _ _ (goes_on past b g m)).1 in
    let all = equal_all (agrees past (Tickets.ticket past b.ticket)) (b ∷ made) words none
    (right_at_mark past b g m e) in
    let order = one_more past b g m (made_in_order c past b.ticket b.unit h) in
    let f : list_all (agrees past (Tickets.ticket past b.ticket)) (lbas r.slba r.blocks (suc (length made))) ≡ true =
    subst (λ (xs : List ℕ). list_all (agrees past (Tickets.ticket past b.ticket)) xs ≡ true) order all in
    subst (λ (i : ℕ). list_all (agrees past (Tickets.ticket past b.ticket)) (blocks_from r.slba i) ≡ true) n
    (lbas_all (agrees past (Tickets.ticket past b.ticket)) r.slba r.blocks (suc (length made)) (omega (arith, n)) f)

-- a marked `differs`: not all are
pub says_no : (c : ConfigNumbers) (past : Past) (b : BlockLine) (g : GrantLine) → MayBlock past b g → b.effect ≡ true
    → is_differs b.found ≡ true
    → all_equal (value past) (Tickets.ticket past b.ticket) (unit_range past b.ticket b.unit) ≡ false
says_no c past b g m e d =
    let k = Tickets.ticket past b.ticket in
    let r = unit_range past b.ticket b.unit in
    let some : 1 ≤ r.blocks = rw (← m.ticket, m.unit, m.unended.facts.range) m.unended.facts.some in
    let head = (and_parts (answered (agrees past k) b) _ (right_at_mark past b g m e)).0 in
    not_all (agrees past k) r.slba r.blocks (length (blocks_made past b.ticket b.unit) % r.blocks) b.lba (mod-lt _ some)
    (due_lba past b g m)
    (differs_here (agrees past k b.lba) b.found d head)
