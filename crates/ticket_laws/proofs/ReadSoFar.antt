-- What the Block steps of a Read have read, block by block from the volume, is the value at the unit's effect.
use Rattle.std.proofs.Common.{◌≡◌, ℕ, zero, suc, ◌+◌, ◌*◌, ◌%◌, ◌≤◌, ◌<◌, Bool, true, false, not, ◌&&◌, ◌||◌, cond}
use Rattle.std.proofs.Common.{List, [], ◌∷◌, ◌++◌, length, refl, sym, ap, ◌∙◌, subst, Option, Some, inl, inr, ◌⊎◌}
use Rattle.std.proofs.Common.{arith, eq-eqb, eqb, leb-false, le-leb, lt-ltb, append_assoc}
use Rattle.std.specs.List.{list_any, find, flat_map}
use Rattle.std.proofs.lemmas.List.{append-nil}
use Rattle.std.proofs.Math.Nat.{mod-eq_of_lt}
use Rattle.std.proofs.lemmas.Bool.{and_from, and_left, and_right, or_parts, or_from, cond-false, cases_Bool, lt-leb}
use Rattle.nvme_model.proofs.Answers.{compare_sees, needs_all}
use Rattle.nvme_model.proofs.Apart.{open_apart, ticket_kept}
use Rattle.nvme_model.proofs.Blocks.{MayBlock, at_key, due_lba, may_block, no_blocks, range_before, same_made}
use Rattle.nvme_model.proofs.Granted.{GrantFacts, granted_facts}
use Rattle.nvme_model.proofs.Holding.{both_conflict, conflict_both, false_if, grant_key, range_of_entry, untouched}
use Rattle.nvme_model.proofs.Lists.{Each, each_both, each_map}
use Rattle.nvme_model.proofs.Medium.{Against, against_found, is_open, unfilter}
use Rattle.nvme_model.proofs.Pairs.{goes_on, marked_here}
use Rattle.nvme_model.proofs.Rules.{follows, may_grant}
use Rattle.nvme_model.specs.Answered.{may_find}
use Rattle.nvme_model.specs.Array.{blocks_from, has_block}
use Rattle.nvme_model.specs.History.{Past}
use Rattle.nvme_model.specs.Laws.{MarkedRight}
use Rattle.nvme_model.specs.Legal.{IsLegal}
use Rattle.nvme_model.specs.Medium.{medium}
use Rattle.nvme_model.specs.Open.{blocks_made, granted, has_ended, is_differs, is_read_found, open_units, steps_needed}
use Rattle.nvme_model.specs.Open.{unit_range}
use Rattle.nvme_model.specs.Operations.{has_write, is_exclusive, is_pair, op}
use Rattle.nvme_model.specs.Owed.{contents_at}
use Rattle.nvme_model.specs.Placed.{effect}
use Rattle.nvme_model.specs.Steps.{marked}
use Rattle.nvme_model.specs.Value.{value}
use Rattle.nvme_model.specs.declared.array.Range.{Range}
use Rattle.nvme_model.specs.declared.config.ConfigNumbers.{ConfigNumbers}
use Rattle.nvme_model.specs.declared.entry.BlockLine.{BlockLine}
use Rattle.nvme_model.specs.declared.entry.Entry.{Entry}
use Rattle.nvme_model.specs.declared.entry.GrantLine.{GrantLine}
use Rattle.nvme_model.specs.declared.operation.Op.{Op}
use Rattle.nvme_model.specs.Tickets
use Rattle.nvme_model.proofs.Cut.{clash}
use Rattle.ticket_laws.proofs.ReadPlace.{read_word}

-- what the Block steps of unit u of ticket t have read
abbrev pub unit_bytes : Past → ℕ → ℕ → List ℕ
unit_bytes [] t u = []
unit_bytes (Entry.Block b ∷ past) t u =
    unit_bytes past t u ++ cond ((eqb b.ticket t && eqb b.unit u) && is_read_found b.found) (medium past b.lba) []
unit_bytes (_ ∷ past) t u = unit_bytes past t u

-- before the effect it is what the blocks are now, and from the effect on what they were then
pub record ReadState (past : Past) (t u : ℕ) (r : Range) (made : ℕ) : Type 0 where
  pub before : made < r.blocks → unit_bytes past t u ≡ flat_map (value past) (blocks_from r.slba made)
  pub after : r.blocks ≤ made
      → unit_bytes past t u ≡ flat_map (contents_at (effect past t u)) (blocks_from r.slba r.blocks)
  pub calm : list_any (λ (b : BlockLine). is_differs b.found) (blocks_made past t u) ≡ false

abbrev pub Reading : Past → ℕ → ℕ → Type 0
Reading past t u = op (Tickets.ticket past t) ≡ Some Op.Read
    → ReadState past t u (unit_range past t u) (length (blocks_made past t u))

-- ---- lists

mod-small : (j n : ℕ) → j < n → j % n ≡ j
mod-small j n l = mod-eq_of_lt l

flat_push : (f : ℕ → List ℕ) (s n : ℕ) → flat_map f (blocks_from s (suc n)) ≡ flat_map f (blocks_from s n) ++ f (s + n)
flat_push f s zero = append-nil (f s) ∙ ap f zero_more
  where
    zero_more : s ≡ s + 0
    zero_more = omega arith
flat_push f s (suc n) =
    ap (λ xs. f s ++ xs) (flat_push f (suc s) n)
    ∙ sym (append_assoc (f s) (flat_map f (blocks_from (suc s) n)) (f (suc s + n)))
    ∙ ap (λ x. (f s ++ flat_map f (blocks_from (suc s) n)) ++ f x) shift
  where
    shift : suc s + n ≡ s + suc n
    shift = omega arith

pub flat_same : (f g : ℕ → List ℕ) (s n : ℕ) → ((l : ℕ) → s ≤ l → l < s + n → f l ≡ g l)
    → flat_map f (blocks_from s n) ≡ flat_map g (blocks_from s n)
flat_same f g s zero h = refl
flat_same f g s (suc n) h =
    (λ i. h s (omega arith) (omega arith) i
    ++ flat_same f g (suc s) n (λ l a b. h l (omega (arith, a)) (omega (arith, b))) i)

-- ---- a Block of the unit itself

own_read : (c : ConfigNumbers) (past : Past) (b : BlockLine) (g : GrantLine) → IsLegal c past
    → MarkedRight (Entry.Block b ∷ past)
    → find (λ x. eqb x.ticket b.ticket) (open_units past) ≡ Some g → MayBlock past b g → Reading past b.ticket b.unit
    → Reading (Entry.Block b ∷ past) b.ticket b.unit
own_read c past b g h k e m ih p =
    let t = b.ticket in
    let u = b.unit in
    let r = unit_range past t u in
    let j = length (blocks_made past t u) in
    let both : (eqb t t && eqb u u) ≡ true = and_from _ _ (eq-eqb t t refl) (eq-eqb u u refl) in
    let w = read_word g.range.blocks (length (blocks_made past g.ticket g.unit)) b.found
    (subst (λ (o : Option Op). may_find o g.range.blocks (length (blocks_made past g.ticket g.unit)) b.found ≡ true)
    p m.word) in
    let chunk : unit_bytes (Entry.Block b ∷ past) t u ≡ unit_bytes past t u ++ medium past b.lba =
    ap (λ x. unit_bytes past t u ++ cond x (medium past b.lba) []) (and_from _ _ both w.0) in
    let made : length (blocks_made (Entry.Block b ∷ past) t u) ≡ suc j =
    ap length (same_made b t u (blocks_made past t u) refl refl) in
    let less : j < steps_needed (Tickets.ticket past t) r.blocks =
    leb-false _ _ (or_parts _ _ (goes_on past b g m)).0 in
    let small : j < r.blocks = subst (λ (o : Option Op). j < cond (is_pair o) (2 * r.blocks) r.blocks) p less in
    let lba : b.lba ≡ r.slba + j = due_lba past b g m ∙ ap (λ x. r.slba + x) (mod-small j r.blocks small) in
    let no_write : has_write (op (Tickets.ticket past t)) ≡ false = ap has_write p in
    let sees : medium past b.lba ≡ value past b.lba = compare_sees c past b g h k.0 e m (λ q. small) (inl no_write) in
    let kept : (l : ℕ) → value (Entry.Block b ∷ past) l ≡ value past l =
    λ l. cond-false _ _ _ (and_right _ _ (and_left _ _ no_write)) in
    let all : unit_bytes (Entry.Block b ∷ past) t u ≡ flat_map (value past) (blocks_from r.slba (suc j)) =
    chunk ∙ (λ i. (ih p).before small i ++ (sees ∙ ap (value past) lba) i) ∙ sym (flat_push (value past) r.slba j) in
    subst (λ n. ReadState (Entry.Block b ∷ past) t u r n) (sym made) (record {
      before = λ l. all ∙ flat_same (value past) (value (Entry.Block b ∷ past)) r.slba (suc j) (λ x y z. sym (kept x));
      after = λ l.
          let last : suc j ≡ r.blocks = omega (arith, l, small) in
          let mark : b.effect ≡ true = k.1 ∙ ap (λ (o : Option Op). marked o r.blocks j b.found) p
          ∙ ap (λ x. x || is_differs b.found) (eq-eqb (suc j) r.blocks last) in
          let here : effect (Entry.Block b ∷ past) t u ≡ Some past = marked_here past b mark in
          all ∙ (λ i. flat_map (contents_at (sym here i)) (blocks_from r.slba (last i)));
      calm = ap (λ (xs : List BlockLine). list_any (λ (y : BlockLine). is_differs y.found) xs)
          (same_made b t u (blocks_made past t u) refl refl) ∙ or_from _ _ w.1 (ih p).calm;
    })

-- ---- a Block of another unit

exclusive_of : (past : Past) (b : BlockLine) (g : GrantLine) → MayBlock past b g
    → has_write (op (Tickets.ticket past b.ticket)) ≡ true → is_exclusive g.mode ≡ true
exclusive_of past b g m w = m.unended.facts.mode ∙ (ap (λ (t : ℕ). has_write (op (Tickets.ticket past t))) m.ticket ∙ w)

-- leaves the values of an open unit's blocks
other_value : (past : Past) (b : BlockLine) (g x : GrantLine) (l : ℕ) → MayBlock past b g → Against g x
    → (eqb b.ticket x.ticket && eqb b.unit x.unit) ≡ false → has_block x.range l ≡ true
    → value (Entry.Block b ∷ past) l ≡ value past l
other_value past b g x l m a e within = by (cases_Bool (has_write (op (Tickets.ticket past b.ticket))))
  where
    lacks : is_exclusive g.mode ≡ true → Against g x → has_block g.range l ≡ false
    lacks w (inl q) =
        clash (eqb b.ticket x.ticket && eqb b.unit x.unit)
        (and_from _ _ (eq-eqb b.ticket x.ticket (sym m.ticket ∙ ap (λ (y : GrantLine). y.ticket) (sym q)))
        (eq-eqb b.unit x.unit (m.unit ∙ ap (λ (y : GrantLine). y.unit) (sym q)))) e
    lacks w (inr (inl n)) = false_if (has_block g.range l)
        (λ y. clash _ (conflict_both g x l (and_from _ _ w y) within) n)
    lacks w (inr (inr n)) = false_if (has_block g.range l)
        (λ y. clash _ (both_conflict g x l (and_from _ _ w y) within) n)

    by : ((has_write (op (Tickets.ticket past b.ticket)) ≡ true)
        ⊎ (has_write (op (Tickets.ticket past b.ticket)) ≡ false)) → value (Entry.Block b ∷ past) l ≡ value past l
    by (inr w) = (untouched past b g l m (inl w)).1
    by (inl w) = (untouched past b g l m
        (inr (ap (λ (r : Range). has_block r l) (range_of_entry past b g m) ∙ lacks (exclusive_of past b g m w) a))).1

record OtherRead (past : Past) (g x : GrantLine) : Type 0 where
  facts : GrantFacts past x
  against : is_open past x ≡ true → Against g x
  reading : Reading past x.ticket x.unit

other_read : (c : ConfigNumbers) (past : Past) (b : BlockLine) (g x : GrantLine) → MayBlock past b g
    → OtherRead past g x → (eqb b.ticket x.ticket && eqb b.unit x.unit) ≡ false
    → Reading (Entry.Block b ∷ past) x.ticket x.unit
other_read c past b g x m f e p =
    let r = unit_range past x.ticket x.unit in
    let j = length (blocks_made past x.ticket x.unit) in
    let old = f.reading p in
    let same_made : blocks_made (Entry.Block b ∷ past) x.ticket x.unit ≡ blocks_made past x.ticket x.unit =
    ap (λ (xs : List BlockLine). xs ++ blocks_made past x.ticket x.unit)
    (cond-false (eqb b.ticket x.ticket && eqb b.unit x.unit) (b ∷ []) [] e) in
    let same_bytes : unit_bytes (Entry.Block b ∷ past) x.ticket x.unit ≡ unit_bytes past x.ticket x.unit =
    ap (λ k. unit_bytes past x.ticket x.unit ++ cond (k && is_read_found b.found) (medium past b.lba) []) e
    ∙ append-nil (unit_bytes past x.ticket x.unit) in
    let same_effect : effect (Entry.Block b ∷ past) x.ticket x.unit ≡ effect past x.ticket x.unit =
    cond-false _ _ _ (third b.effect (eqb b.ticket x.ticket) (eqb b.unit x.unit) e) in
    subst (λ n. ReadState (Entry.Block b ∷ past) x.ticket x.unit r n) (ap length (sym same_made)) (record {
      before = λ l. same_bytes ∙ old.before l
          ∙ flat_same (value past) (value (Entry.Block b ∷ past)) r.slba j
          (λ y a z. sym (other_value past b g x y m (f.against (opened p old.calm l)) e
          (within y a (omega (arith, z, l)))));
      after = λ l. same_bytes ∙ old.after l
          ∙ ap (λ o. flat_map (contents_at o) (blocks_from r.slba r.blocks)) (sym same_effect);
      calm = ap (λ (xs : List BlockLine). list_any (λ (y : BlockLine). is_differs y.found) xs) same_made ∙ old.calm;
    })
  where
    third : (a y z : Bool) → (y && z) ≡ false → (a && y && z) ≡ false
    third false y z e = refl
    third true y z e = e

    within : (y : ℕ) → (unit_range past x.ticket x.unit).slba ≤ y
        → y < (unit_range past x.ticket x.unit).slba + (unit_range past x.ticket x.unit).blocks
        → has_block x.range y ≡ true
    within y a z = subst (λ (q : Range). has_block q y ≡ true) f.facts.range
        (and_from _ _ (le-leb _ y a) (lt-ltb y _ z))

    opened : op (Tickets.ticket past x.ticket) ≡ Some Op.Read
        → list_any (λ (y : BlockLine). is_differs y.found) (blocks_made past x.ticket x.unit) ≡ false
        → length (blocks_made past x.ticket x.unit) < (unit_range past x.ticket x.unit).blocks → is_open past x ≡ true
    opened p calm l =
        ap not (subst (λ (q : Range). has_ended past x.ticket x.unit q.blocks ≡ false) f.facts.range
        (or_from _ _ (lt-leb (steps_needed (Tickets.ticket past x.ticket) (unit_range past x.ticket x.unit).blocks)
        (length (blocks_made past x.ticket x.unit))
        (omega (arith, l, needs_all (Tickets.ticket past x.ticket) (unit_range past x.ticket x.unit).blocks)))
        calm))

read_after : (c : ConfigNumbers) (past : Past) (b : BlockLine) → IsLegal c (Entry.Block b ∷ past)
    → MarkedRight (Entry.Block b ∷ past)
    → Each (λ x. Reading past x.ticket x.unit) (granted past)
    → Each (λ x. Reading (Entry.Block b ∷ past) x.ticket x.unit) (granted past)
read_after c past b h k ih =
    let before = (follows c past (Entry.Block b) h).before in
    let found = may_block c past b h in
    each_map (λ x. GrantFacts past x × ((is_open past x ≡ true → Against found.0 x) × Reading past x.ticket x.unit))
    (λ x. Reading (Entry.Block b ∷ past) x.ticket x.unit)
    (λ x f. elim (cases_Bool (eqb b.ticket x.ticket && eqb b.unit x.unit)) [
      | inl e ↦ at_key (λ t u. Reading past t u → Reading (Entry.Block b ∷ past) t u) b x.ticket x.unit e
          (own_read c past b found.0 before k found.1 found.2) f.1.1
      | inr e ↦ other_read c past b found.0 x found.2 (record { facts = f.0; against = f.1.0; reading = f.1.1 }) e
    ])
    (granted past)
    (each_both _ _ (granted past) (granted_facts c past before)
    (each_both _ _ (granted past)
    (unfilter (Against found.0) (is_open past) (granted past)
    (against_found (λ x. eqb x.ticket b.ticket) (open_units past) found.0 (open_apart c past before) found.1)) ih))

pub no_bytes : (past : Past) (t u : ℕ) → blocks_made past t u ≡ [] → unit_bytes past t u ≡ []
no_bytes [] t u e = refl
no_bytes (Entry.Publish x ∷ past) t u e = no_bytes past t u e
no_bytes (Entry.Fetch x ∷ past) t u e = no_bytes past t u e
no_bytes (Entry.Grant x ∷ past) t u e = no_bytes past t u e
no_bytes (Entry.Post x ∷ past) t u e = no_bytes past t u e
no_bytes (Entry.Reap x ∷ past) t u e = no_bytes past t u e
no_bytes (Entry.Block b ∷ past) t u e = by (eqb b.ticket t && eqb b.unit u) e (λ z. no_bytes past t u z)
  where
    by : (k : Bool) → cond k (b ∷ []) [] ++ blocks_made past t u ≡ []
        → (blocks_made past t u ≡ [] → unit_bytes past t u ≡ [])
        → unit_bytes past t u ++ cond (k && is_read_found b.found) (medium past b.lba) [] ≡ []
    by true e ih = absurd cc
    by false e ih = append-nil (unit_bytes past t u) ∙ ih e

-- each unit of a Read, at any time
pub read_state : (c : ConfigNumbers) (past : Past) → IsLegal c past → MarkedRight past
    → Each (λ x. Reading past x.ticket x.unit) (granted past)
read_state c [] h k = tt
read_state c (Entry.Fetch f ∷ past) h k =
    let before = (follows c past (Entry.Fetch f) h).before in
    each_map (λ x. GrantFacts past x × Reading past x.ticket x.unit)
    (λ x. Reading (Entry.Fetch f ∷ past) x.ticket x.unit)
    (λ x y p. keep past (Entry.Fetch f) x.ticket x.unit
    (y.1 (ap op (sym (ticket_kept c past f x.ticket h y.0.known)) ∙ p)))
    (granted past) (each_both _ _ (granted past) (granted_facts c past before) (read_state c past before k))
  where
    keep : (past : Past) (e : Entry) (t u : ℕ)
        → ReadState past t u (unit_range past t u) (length (blocks_made past t u))
        → ReadState (Entry.Fetch f ∷ past) t u (unit_range past t u) (length (blocks_made past t u))
    keep past e t u s = record { before = s.before; after = s.after; calm = s.calm }
read_state c (Entry.Grant g ∷ past) h k =
    let before = (follows c past (Entry.Grant g) h).before in
    let none : blocks_made past g.ticket g.unit ≡ [] =
    no_blocks c past g.ticket g.unit before (omega (arith, (may_grant c past g h).unit)) in
    let some = (granted_facts c (Entry.Grant g ∷ past) h).0 in (
      (λ p. record {
        before = λ l. no_bytes past g.ticket g.unit none
            ∙ ap (λ (xs : List BlockLine).
            flat_map (value past) (blocks_from (unit_range (Entry.Grant g ∷ past) g.ticket g.unit).slba (length xs)))
            (sym none);
        after = λ l. absurd (omega (arith, l, ap length none, some.some, ap (λ (r : Range). r.blocks) some.range));
        calm = ap (λ (xs : List BlockLine). list_any (λ (y : BlockLine). is_differs y.found) xs) none;
      }),
      each_map (λ x. GrantFacts past x × Reading past x.ticket x.unit)
          (λ x. Reading (Entry.Grant g ∷ past) x.ticket x.unit)
          (λ x y p. subst (λ (r : Range).
          ReadState (Entry.Grant g ∷ past) x.ticket x.unit r (length (blocks_made past x.ticket x.unit)))
          (sym (range_before past g x.ticket x.unit (grant_key c past g x h y.0)))
          (let s = y.1 p in record { before = s.before; after = s.after; calm = s.calm }))
          (granted past) (each_both _ _ (granted past) (granted_facts c past before) (read_state c past before k)),
    )
read_state c (Entry.Block b ∷ past) h k =
    read_after c past b h k (read_state c past (follows c past (Entry.Block b) h).before k.0)
read_state c (Entry.Publish x ∷ past) h k =
    each_map (λ x. Reading past x.ticket x.unit) (λ y. Reading (Entry.Publish x ∷ past) y.ticket y.unit)
    (λ y r p. let s = r p in record { before = s.before; after = s.after; calm = s.calm }) (granted past)
    (read_state c past (follows c past (Entry.Publish x) h).before k)
read_state c (Entry.Post x ∷ past) h k =
    each_map (λ x. Reading past x.ticket x.unit) (λ y. Reading (Entry.Post x ∷ past) y.ticket y.unit)
    (λ y r p. let s = r p in record { before = s.before; after = s.after; calm = s.calm }) (granted past)
    (read_state c past (follows c past (Entry.Post x) h).before k)
read_state c (Entry.Reap x ∷ past) h k =
    each_map (λ x. Reading past x.ticket x.unit) (λ y. Reading (Entry.Reap x ∷ past) y.ticket y.unit)
    (λ y r p. let s = r p in record { before = s.before; after = s.after; calm = s.calm }) (granted past)
    (read_state c past (follows c past (Entry.Reap x) h).before k)
