-- A pair that says no has no block written, wherever its mark stands.
use Rattle.std.proofs.Common.{◌≡◌, ℕ, zero, suc, ◌+◌, ◌≤◌, ◌<◌, Bool, true, false, not, ◌&&◌, ◌||◌, cond, List, [], ◌∷◌}
use Rattle.std.proofs.Common.{◌++◌, length, refl, sym, ap, ◌∙◌, subst, Option, Some, None, inl, inr, ◌⊎◌, arith, eq-eqb}
use Rattle.std.proofs.Common.{eqb, eqb-true, mod-eq_of_lt}
use Rattle.std.specs.Bool.{beq}
use Rattle.std.specs.Str.{bytes_eq}
use Rattle.std.specs.List.{list_any, list_all}
use Rattle.std.proofs.lemmas.Bool.{and_parts, and_from, or_parts, or_from, or_left, or_right, or_cases, cond-false}
use Rattle.std.proofs.lemmas.Bool.{cases_Bool, cases_lt, le-ltb}
use Rattle.nvme_model.specs.declared.config.ConfigNumbers.{ConfigNumbers}
use Rattle.nvme_model.specs.Array.{blocks_from}
use Rattle.nvme_model.specs.History.{Past}
use Rattle.nvme_model.specs.Tickets
use Rattle.nvme_model.specs.Tickets.{Ticket}
use Rattle.nvme_model.specs.Operations.{op, is_pair, compare_data}
use Rattle.nvme_model.specs.Open.{unit_range, blocks_made, is_equal, is_differs, is_written}
use Rattle.nvme_model.specs.Value.{value, all_equal}
use Rattle.nvme_model.specs.Placed.{effect}
use Rattle.nvme_model.specs.Answered.{may_find, no_at, right_answers, says_no}
use Rattle.nvme_model.specs.Legal.{IsLegal}
use Rattle.nvme_model.specs.declared.array.Range.{Range}
use Rattle.nvme_model.specs.declared.operation.Op.{Op}
use Rattle.nvme_model.specs.declared.operation.Found.{Found}
use Rattle.nvme_model.specs.declared.entry.GrantLine.{GrantLine}
use Rattle.nvme_model.specs.declared.entry.BlockLine.{BlockLine}
use Rattle.nvme_model.specs.declared.entry.Entry.{Entry}
use Rattle.nvme_model.proofs.Rules.{follows}
use Rattle.nvme_model.proofs.Apart.{ticket_kept}
use Rattle.nvme_model.proofs.Blocks.{MayBlock, may_block, no_blocks, same_made, at_key, grants_before, range_before}
use Rattle.nvme_model.proofs.Blocks.{due_lba}
use Rattle.nvme_model.proofs.Pairs.{no_blocks_yet, goes_on, word_at, compare_word, pair_compares, answered, comparing}
use Rattle.nvme_model.proofs.Effects.{no_effect, not_both}
use Rattle.nvme_model.proofs.Stepping.{written_only}
use Rattle.nvme_model.proofs.Cut.{clash}

-- ---- words

found_equal : (f : Found) → comparing f ≡ true → is_differs f ≡ false → is_equal f ≡ true
found_equal Found.Equal c d = refl
found_equal Found.Differs c d = clash true refl d
found_equal Found.Read c d = c
found_equal Found.Written c d = c

not_comparing : (f : Found) → is_written f ≡ true → comparing f ≡ false
not_comparing Found.Written w = refl
not_comparing Found.Equal w = clash true refl (sym w)
not_comparing Found.Differs w = clash true refl (sym w)
not_comparing Found.Read w = clash true refl (sym w)

-- a pair's word after its compares
late_word : (o : Option Op) (n j : ℕ) (f : Found) → is_pair o ≡ true → n ≤ j → may_find o n j f ≡ true
    → is_written f ≡ true
late_word (Some Op.Pair) n j f p l h = subst (λ (x : Bool). cond x (comparing f) (is_written f) ≡ true) (le-ltb j n l) h
late_word None n j f p l h = clash false p refl
late_word (Some Op.Read) n j f p l h = clash false p refl
late_word (Some Op.Write) n j f p l h = clash false p refl
late_word (Some Op.WriteZeroes) n j f p l h = clash false p refl
late_word (Some Op.Compare) n j f p l h = clash false p refl

-- the Blocks of another unit stay
other_made : (past : Past) (b : BlockLine) (t u : ℕ) → (eqb b.ticket t && eqb b.unit u) ≡ false
    → blocks_made (Entry.Block b ∷ past) t u ≡ blocks_made past t u
other_made past b t u q =
    ap (λ (xs : List BlockLine). xs ++ blocks_made past t u) (cond-false (eqb b.ticket t && eqb b.unit u) (b ∷ []) [] q)

-- ---- the answers of a unit are right by its effect

abbrev Right : Past → ℕ → ℕ → Type 0
Right past t u = right_answers (effect past t u) (Tickets.ticket past t) (blocks_made past t u) ≡ true

right_unmade : (past : Past) (t u : ℕ) (k : Ticket) → blocks_made past t u ≡ []
    → right_answers (effect past t u) k (blocks_made past t u) ≡ true
right_unmade past t u k e = ap (λ (o : Option Past). right_answers o k (blocks_made past t u)) (no_effect past t u e)

right : (c : ConfigNumbers) (past : Past) (t u : ℕ) → IsLegal c past → Right past t u
right c [] t u h = refl
right c (Entry.Fetch f ∷ past) t u h =
    let before = (follows c past (Entry.Fetch f) h).before in
    elim (cases_lt (Tickets.tickets past) t) [
      | inl l ↦ right_unmade past t u (Tickets.ticket (Entry.Fetch f ∷ past) t) (no_blocks_yet c past t u before l)
      | inr l ↦ subst (λ (k : Ticket). right_answers (effect past t u) k (blocks_made past t u) ≡ true)
          (sym (ticket_kept c past f t h l)) (right c past t u before)
    ]
right c (Entry.Block b ∷ past) t u h =
    elim (cases_Bool (eqb b.ticket t && eqb b.unit u)) [
      | inl q ↦ at_key (Right (Entry.Block b ∷ past)) b t u q (may_block c past b h).2.right
      | inr q ↦ other q (right c past t u (follows c past (Entry.Block b) h).before)
    ]
  where
    other : (eqb b.ticket t && eqb b.unit u) ≡ false → Right past t u → Right (Entry.Block b ∷ past) t u
    other q ih =
        subst (λ (o : Option Past). right_answers o (Tickets.ticket past t) (blocks_made (Entry.Block b ∷ past) t u)
        ≡ true)
        (sym (cond-false (b.effect && eqb b.ticket t && eqb b.unit u) (Some past) (effect past t u)
        (not_both b.effect (eqb b.ticket t) (eqb b.unit u) q)))
        (subst (λ (xs : List BlockLine). right_answers (effect past t u) (Tickets.ticket past t) xs ≡ true)
        (sym (other_made past b t u q)) ih)
right c (e ∷ past) t u h = right c past t u (follows c past e h).before

-- ---- the compares of a pair, none of which differs, have found each block equal

-- one of the Blocks found block l equal
abbrev equal_at : ℕ → List BlockLine → Bool
equal_at l made = list_any (λ b. is_equal b.found && eqb b.lba l) made

abbrev FoundEqual : Past → ℕ → ℕ → Ticket → Range → List BlockLine → Type 0
FoundEqual past t u k r made =
    is_pair (op k) ≡ true → list_any (λ b. is_differs b.found) made ≡ false → (l : ℕ) → r.slba ≤ l
    → l < r.slba + length made → l < r.slba + r.blocks → equal_at l made ≡ true

none_found : (past : Past) (t u : ℕ) (k : Ticket) (r : Range) (made : List BlockLine) → made ≡ []
    → FoundEqual past t u k r made
none_found past t u k r made e p d l a b w = absurd (omega (arith, a, b, ap length e))

found_own : (past : Past) (b : BlockLine) (g : GrantLine) → MayBlock past b g
    → FoundEqual past b.ticket b.unit (Tickets.ticket past b.ticket) (unit_range past b.ticket b.unit)
    (blocks_made past b.ticket b.unit)
    → FoundEqual past b.ticket b.unit (Tickets.ticket past b.ticket) (unit_range past b.ticket b.unit)
    (b ∷ blocks_made past b.ticket b.unit)
found_own past b g m ih p d l a e w =
    let made = blocks_made past b.ticket b.unit in
    let r = unit_range past b.ticket b.unit in
    let none = or_parts (is_differs b.found) (list_any (λ x. is_differs x.found) made) d in
    elim (cases_lt l (r.slba + length made)) [
      | inl k ↦ or_right (is_equal b.found && eqb b.lba l) (equal_at l made) (ih p none.1 l a k w)
      | inr k ↦ or_left _ _ (last none.0 k)
    ]
  where
    last : is_differs b.found ≡ false
        → (unit_range past b.ticket b.unit).slba + length (blocks_made past b.ticket b.unit) ≤ l
        → (is_equal b.found && eqb b.lba l) ≡ true
    last n k =
        let r = unit_range past b.ticket b.unit in
        let j = length (blocks_made past b.ticket b.unit) in
        let below : j < r.blocks = omega (arith, w, k) in
        let due : b.lba ≡ r.slba + j = due_lba past b g m ∙ ap (λ (i : ℕ). r.slba + i) (mod-eq_of_lt below) in
        and_from _ _ (found_equal b.found
        (compare_word (op (Tickets.ticket past b.ticket)) r.blocks j b.found (pair_compares _ p) below
        (word_at past b g m)) n)
        (eq-eqb b.lba l (omega (arith, due, k, e)))

found : (c : ConfigNumbers) (past : Past) (t u : ℕ) → IsLegal c past
    → FoundEqual past t u (Tickets.ticket past t) (unit_range past t u) (blocks_made past t u)
found c [] t u h = none_found [] t u (Tickets.ticket [] t) (unit_range [] t u) [] refl
found c (Entry.Fetch f ∷ past) t u h =
    let before = (follows c past (Entry.Fetch f) h).before in
    elim (cases_lt (Tickets.tickets past) t) [
      | inl l ↦ none_found past t u (Tickets.ticket (Entry.Fetch f ∷ past) t) (unit_range past t u)
          (blocks_made past t u) (no_blocks_yet c past t u before l)
      | inr l ↦ subst (λ (k : Ticket). FoundEqual past t u k (unit_range past t u) (blocks_made past t u))
          (sym (ticket_kept c past f t h l)) (found c past t u before)
    ]
found c (Entry.Grant g ∷ past) t u h =
    let before = (follows c past (Entry.Grant g) h).before in
    elim (cases_Bool (eqb g.ticket t && eqb g.unit u)) [
      | inl q ↦ none_found past t u (Tickets.ticket past t) (unit_range (Entry.Grant g ∷ past) t u)
          (blocks_made past t u) (no_blocks c past t u before (grants_before c past g t u h q))
      | inr q ↦ subst (λ (r : Range). FoundEqual past t u (Tickets.ticket past t) r (blocks_made past t u))
          (sym (range_before past g t u q)) (found c past t u before)
    ]
found c (Entry.Block b ∷ past) t u h =
    let m = may_block c past b h in
    let before = (follows c past (Entry.Block b) h).before in
    elim (cases_Bool (eqb b.ticket t && eqb b.unit u)) [
      | inl q ↦ at_key (λ i j.
          FoundEqual past i j (Tickets.ticket past i) (unit_range past i j) (blocks_made (Entry.Block b ∷ past) i j)) b
          t u q
          (subst (λ (xs : List BlockLine).
          FoundEqual past b.ticket b.unit (Tickets.ticket past b.ticket) (unit_range past b.ticket b.unit) xs)
          (sym (same_made b b.ticket b.unit (blocks_made past b.ticket b.unit) refl refl))
          (found_own past b m.0 m.2 (found c past b.ticket b.unit before)))
      | inr q ↦ subst (λ (xs : List BlockLine). FoundEqual past t u (Tickets.ticket past t) (unit_range past t u) xs)
          (sym (other_made past b t u q)) (found c past t u before)
    ]
found c (e ∷ past) t u h = found c past t u (follows c past e h).before

-- ---- a pair with a block written has made all its compares, and none differs

record Compared (n : ℕ) (made : List BlockLine) : Type 0 where
  all : n ≤ length made
  none : list_any (λ b. is_differs b.found) made ≡ false

abbrev WrittenLate : Ticket → Range → List BlockLine → Type 0
WrittenLate k r made = is_pair (op k) ≡ true → list_any (λ b. is_written b.found) made ≡ true → Compared r.blocks made

none_written : (k : Ticket) (r : Range) (made : List BlockLine) → made ≡ [] → WrittenLate k r made
none_written k r made e p w =
    clash (list_any (λ b. is_written b.found) made) w (ap (list_any (λ b. is_written b.found)) e)

late_own : (past : Past) (b : BlockLine) (g : GrantLine) → MayBlock past b g
    → WrittenLate (Tickets.ticket past b.ticket) (unit_range past b.ticket b.unit) (blocks_made past b.ticket b.unit)
    → WrittenLate (Tickets.ticket past b.ticket) (unit_range past b.ticket b.unit)
    (b ∷ blocks_made past b.ticket b.unit)
late_own past b g m ih p w =
    let made = blocks_made past b.ticket b.unit in
    let n = (unit_range past b.ticket b.unit).blocks in
    let going = (or_parts _ (list_any (λ x. is_differs x.found) made) (goes_on past b g m)).1 in
    elim (cases_Bool (is_written b.found)) [
      | inl x ↦ record { all = enough x; none = or_from _ _ (written_only b.found x) going }
      | inr x ↦ clash (is_written b.found)
          (late_word (op (Tickets.ticket past b.ticket)) n (length made) b.found p (ih p (rest x w)).all
          (word_at past b g m)) x
    ]
  where
    rest : is_written b.found ≡ false
        → (is_written b.found || list_any (λ x. is_written x.found) (blocks_made past b.ticket b.unit)) ≡ true
        → list_any (λ x. is_written x.found) (blocks_made past b.ticket b.unit) ≡ true
    rest x w = sym (or_skip (is_written b.found) _ x) ∙ w
      where
        or_skip : (x y : Bool) → x ≡ false → (x || y) ≡ y
        or_skip false y e = refl
        or_skip true y e = clash true refl e

    enough : is_written b.found ≡ true
        → (unit_range past b.ticket b.unit).blocks ≤ suc (length (blocks_made past b.ticket b.unit))
    enough x = elim (cases_lt (length (blocks_made past b.ticket b.unit)) (unit_range past b.ticket b.unit).blocks) [
      | inl l ↦ clash (comparing b.found)
          (compare_word (op (Tickets.ticket past b.ticket)) (unit_range past b.ticket b.unit).blocks
          (length (blocks_made past b.ticket b.unit)) b.found (pair_compares _ p) l (word_at past b g m))
          (not_comparing b.found x)
      | inr l ↦ omega (arith, l)
    ]

written_late : (c : ConfigNumbers) (past : Past) (t u : ℕ) → IsLegal c past
    → WrittenLate (Tickets.ticket past t) (unit_range past t u) (blocks_made past t u)
written_late c [] t u h = none_written (Tickets.ticket [] t) (unit_range [] t u) [] refl
written_late c (Entry.Fetch f ∷ past) t u h =
    let before = (follows c past (Entry.Fetch f) h).before in
    elim (cases_lt (Tickets.tickets past) t) [
      | inl l ↦ none_written (Tickets.ticket (Entry.Fetch f ∷ past) t) (unit_range past t u) (blocks_made past t u)
          (no_blocks_yet c past t u before l)
      | inr l ↦ subst (λ (k : Ticket). WrittenLate k (unit_range past t u) (blocks_made past t u))
          (sym (ticket_kept c past f t h l)) (written_late c past t u before)
    ]
written_late c (Entry.Grant g ∷ past) t u h =
    let before = (follows c past (Entry.Grant g) h).before in
    elim (cases_Bool (eqb g.ticket t && eqb g.unit u)) [
      | inl q ↦ none_written (Tickets.ticket past t) (unit_range (Entry.Grant g ∷ past) t u) (blocks_made past t u)
          (no_blocks c past t u before (grants_before c past g t u h q))
      | inr q ↦ subst (λ (r : Range). WrittenLate (Tickets.ticket past t) r (blocks_made past t u))
          (sym (range_before past g t u q)) (written_late c past t u before)
    ]
written_late c (Entry.Block b ∷ past) t u h =
    let m = may_block c past b h in
    let before = (follows c past (Entry.Block b) h).before in
    elim (cases_Bool (eqb b.ticket t && eqb b.unit u)) [
      | inl q ↦ at_key (λ i j.
          WrittenLate (Tickets.ticket past i) (unit_range past i j) (blocks_made (Entry.Block b ∷ past) i j)) b t u q
          (subst (λ (xs : List BlockLine).
          WrittenLate (Tickets.ticket past b.ticket) (unit_range past b.ticket b.unit) xs)
          (sym (same_made b b.ticket b.unit (blocks_made past b.ticket b.unit) refl refl))
          (late_own past b m.0 m.2 (written_late c past b.ticket b.unit before)))
      | inr q ↦ subst (λ (xs : List BlockLine). WrittenLate (Tickets.ticket past t) (unit_range past t u) xs)
          (sym (other_made past b t u q)) (written_late c past t u before)
    ]
written_late c (e ∷ past) t u h = written_late c past t u (follows c past e h).before

-- ---- so a block written means that the effect says yes

-- what was found equal and answered right is so
agrees_at : (q : ℕ → Bool) (l : ℕ) (made : List BlockLine) → equal_at l made ≡ true → list_all (answered q) made ≡ true
    → q l ≡ true
agrees_at q l [] e r = clash false e refl
agrees_at q l (b ∷ made) e r =
    let a = and_parts (answered q b) (list_all (answered q) made) r in
    go (or_cases (is_equal b.found && eqb b.lba l) (equal_at l made) e) a.0 (λ d. agrees_at q l made d a.1)
  where
    told : (f : Found) (x : Bool) → is_equal f ≡ true → (not (comparing f) || beq (is_equal f) x) ≡ true → x ≡ true
    told Found.Equal true e d = refl
    told Found.Equal false e d = d
    told Found.Differs x e d = clash false e refl
    told Found.Read x e d = clash false e refl
    told Found.Written x e d = clash false e refl

    go : ((is_equal b.found && eqb b.lba l) ≡ true) ⊎ (equal_at l made ≡ true) → answered q b ≡ true
        → (equal_at l made ≡ true → q l ≡ true) → q l ≡ true
    go (inl d) r ih =
        let a = and_parts (is_equal b.found) (eqb b.lba l) d in
        subst (λ (i : ℕ). q i ≡ true) (eqb-true b.lba l a.1) (told b.found (q b.lba) a.0 r)
    go (inr d) r ih = ih d

all_from : (q : ℕ → Bool) (s n : ℕ) → ((l : ℕ) → s ≤ l → l < s + n → q l ≡ true) → list_all q (blocks_from s n) ≡ true
all_from q s zero f = refl
all_from q s (suc n) f =
    and_from _ _ (f s (omega arith) (omega arith))
    (all_from q (suc s) n (λ l a b. f l (omega (arith, a)) (omega (arith, b))))

no_at_all_equal : (past before : Past) (k : Ticket) (r : Range) → all_equal (value before) k r ≡ true
    → no_at (Some before) k r ≡ false
no_at_all_equal past before k r e = go _ (all_equal (value before) k r) e
  where
    go : (x y : Bool) → y ≡ true → (x && not y) ≡ false
    go true true e = refl
    go false true e = refl
    go x false e = clash false e refl

pub unwritten : (c : ConfigNumbers) (past : Past) (t u : ℕ) → IsLegal c past
    → is_pair (op (Tickets.ticket past t)) ≡ true → says_no past t u ≡ true
    → list_any (λ b. is_written b.found) (blocks_made past t u) ≡ false
unwritten c past t u h p n = elim (cases_Bool (list_any (λ b. is_written b.found) (blocks_made past t u))) [
  | inl w ↦ clash (says_no past t u) n
      (by_effect (effect past t u) (right c past t u h) (written_late c past t u h p w))
  | inr w ↦ w
]
  where
    by_effect : (o : Option Past) → right_answers o (Tickets.ticket past t) (blocks_made past t u) ≡ true
        → Compared (unit_range past t u).blocks (blocks_made past t u)
        → no_at o (Tickets.ticket past t) (unit_range past t u) ≡ false
    by_effect None r m = refl
    by_effect (Some before) r m =
        let k = Tickets.ticket past t in
        let s = unit_range past t u in
        no_at_all_equal past before k s
        (all_from (λ l. bytes_eq (value before l) (compare_data k l)) s.slba s.blocks
        (λ l a b. agrees_at (λ i. bytes_eq (value before i) (compare_data k i)) l (blocks_made past t u)
        (found c past t u h p m.none l a (omega (arith, b, m.all)) b) r))
