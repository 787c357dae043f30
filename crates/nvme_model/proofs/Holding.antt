-- One step, seen from one block of the unit that holds it: what lies there and what its value is.
use Rattle.std.proofs.Common.{◌≡◌, ℕ, suc, ◌+◌, ◌≤◌, ◌<◌, Bool, true, false, not, ◌&&◌, ◌||◌, cond, List, [], ◌∷◌, ◌++◌}
use Rattle.std.proofs.Common.{length, refl, sym, ap, ap₂, ◌∙◌, subst, subst₂, Option, Some, None, inl, inr, ◌⊎◌, arith}
use Rattle.std.proofs.Common.{ne_eqb, eqb, eqb-true, nat_le, nat_lt, lt-ltb, leb-true, le-leb, ltb-true, mod-lt}
use Rattle.std.specs.List.{list_any, filter}
use Rattle.std.proofs.lemmas.Bool.{and_parts, and_from, and_left, and_right, or_parts, or_from, or_left, or_right}
use Rattle.std.proofs.lemmas.Bool.{cond-false, cases_Bool, lt-leb}
use Rattle.std.proofs.Math.Bool.{and-true}
use Rattle.nvme_model.specs.declared.config.ConfigNumbers.{ConfigNumbers}
use Rattle.nvme_model.specs.Open
use Rattle.nvme_model.specs.Tickets
use Rattle.nvme_model.specs.History.{Past}
use Rattle.nvme_model.specs.Tickets.{Ticket}
use Rattle.nvme_model.specs.Operations.{op, is_pair, has_write, is_exclusive, write_data}
use Rattle.nvme_model.specs.Open.{granted, open_units, blocks_made, has_ended, is_written, is_differs, conflict}
use Rattle.nvme_model.specs.Open.{unit_range}
use Rattle.nvme_model.specs.Array.{overlap, has_block}
use Rattle.nvme_model.specs.Value.{value, all_equal}
use Rattle.nvme_model.specs.Medium.{medium}
use Rattle.nvme_model.specs.Legal.{IsLegal}
use Rattle.nvme_model.specs.Answered.{may_find}
use Rattle.nvme_model.specs.Laws.{MarkedRight, is_held}
use Rattle.nvme_model.specs.declared.array.Range.{Range}
use Rattle.nvme_model.specs.declared.operation.Op.{Op}
use Rattle.nvme_model.specs.declared.operation.Found.{Found}
use Rattle.nvme_model.specs.declared.entry.GrantLine.{GrantLine}
use Rattle.nvme_model.specs.declared.entry.BlockLine.{BlockLine}
use Rattle.nvme_model.specs.declared.entry.FetchLine.{FetchLine}
use Rattle.nvme_model.specs.declared.entry.Entry.{Entry}
use Rattle.nvme_model.proofs.Lists.{Each, each_map, each_both}
use Rattle.nvme_model.proofs.Rules.{follows, may_grant}
use Rattle.nvme_model.proofs.Apart.{ticket_kept, grant_apart, fetch_ended}
use Rattle.nvme_model.proofs.Granted.{GrantFacts, granted_facts}
use Rattle.nvme_model.proofs.Blocks.{OpenFacts, open_facts, MayBlock, no_blocks, same_made, due_lba, range_before}
use Rattle.nvme_model.proofs.Written.{Writing}
use Rattle.nvme_model.proofs.Stepping.{started, written, needed, writes_by, Stepped, step}
use Rattle.nvme_model.proofs.Bools.{or_false}
use Rattle.nvme_model.proofs.Pairs.{word_at, goes_on, says_yes, says_no, pair_compares}
use Rattle.nvme_model.proofs.Cut.{clash}

-- ---- how far unit u of ticket t has written block l

abbrev pub UnitState : Past → ℕ → ℕ → ℕ → Type 0
UnitState past l t u =
    let k = Tickets.ticket past t in
    let r = unit_range past t u in
    let j = length (blocks_made past t u) in
    Writing (started (op k) r.blocks j) (written (op k) r.blocks j) r.slba l (medium past l) (value past l)
    (write_data k l)

-- the unit is Exclusive, and has block l
abbrev pub holds : ℕ → GrantLine → Bool
holds l g = is_exclusive g.mode && has_block g.range l

pub record State (past : Past) (l : ℕ) : Type 0 where
  pub held : Each (λ g. holds l g ≡ true → UnitState past l g.ticket g.unit) (open_units past)
  pub free : is_held past l ≡ false → medium past l ≡ value past l

-- ---- ranges

has_low : (r : Range) (l : ℕ) → has_block r l ≡ true → r.slba ≤ l
has_low r l h = leb-true r.slba l (and_parts _ _ h).0

has_high : (r : Range) (l : ℕ) → has_block r l ≡ true → l < r.slba + r.blocks
has_high r l h = ltb-true l (r.slba + r.blocks) (and_parts (nat_le r.slba l) _ h).1

pub both_overlap : (r s : Range) (l : ℕ) → has_block r l ≡ true → has_block s l ≡ true → overlap r s ≡ true
both_overlap r s l h k =
    and_from _ _ (and_from _ _ (lt-ltb 0 r.blocks (omega (arith, has_low r l h, has_high r l h)))
    (lt-ltb 0 s.blocks (omega (arith, has_low s l k, has_high s l k))))
    (and_from _ _ (lt-ltb r.slba (s.slba + s.blocks) (omega (arith, has_low r l h, has_high s l k)))
    (lt-ltb s.slba (r.slba + r.blocks) (omega (arith, has_low s l k, has_high r l h))))

pub both_conflict : (x y : GrantLine) (l : ℕ) → holds l x ≡ true → has_block y.range l ≡ true
    → conflict x.range x.mode y.range y.mode ≡ true
both_conflict x y l h k =
    let a = and_parts (is_exclusive x.mode) (has_block x.range l) h in
    and_from _ _ (both_overlap x.range y.range l a.1 k) (or_left _ _ a.0)

pub conflict_both : (x y : GrantLine) (l : ℕ) → holds l x ≡ true → has_block y.range l ≡ true
    → conflict y.range y.mode x.range x.mode ≡ true
conflict_both x y l h k =
    let a = and_parts (is_exclusive x.mode) (has_block x.range l) h in
    and_from _ _ (both_overlap y.range x.range l k a.1) (or_right _ _ a.0)

pub false_if : (b : Bool) → (b ≡ true → ⊥) → b ≡ false
false_if true f = absurd (f refl)
false_if false f = refl

-- ---- a new unit is the first to hold its blocks

none_held : (g : GrantLine) (gs : List GrantLine) (l : ℕ) → holds l g ≡ true
    → list_any (λ h. conflict g.range g.mode h.range h.mode) gs ≡ false → list_any (holds l) gs ≡ false
none_held g [] l h e = refl
none_held g (x ∷ gs) l h e =
    let a = or_parts _ _ e in
    or_from _ _ (and_right _ _ (false_if (has_block x.range l) (λ k. clash _ (both_conflict g x l h k) a.0)))
    (none_held g gs l h a.1)

any_rest : (t : GrantLine → Bool) (b : Bool) (g : GrantLine) (gs : List GrantLine)
    → list_any t (cond b (g ∷ gs) gs) ≡ false → list_any t gs ≡ false
any_rest t true g gs h = (or_parts _ _ h).1
any_rest t false g gs h = h

each_cond : (P : GrantLine → Type 0) (b : Bool) (g : GrantLine) (gs : List GrantLine) → P g → Each P gs
    → Each P (cond b (g ∷ gs) gs)
each_cond P true g gs p h = (p, h)
each_cond P false g gs p h = h

not_started : (o : Option Op) (n : ℕ) → 1 ≤ n → started o n 0 ≡ false
not_started o n l = go (is_pair o)
  where
    go : (b : Bool) → cond b (nat_le n 0) (nat_lt 0 0) ≡ false
    go true = lt-leb n 0 (omega (arith, l))
    go false = refl

fresh : (past : Past) (l t u : ℕ) → 1 ≤ (unit_range past t u).blocks → blocks_made past t u ≡ []
    → medium past l ≡ value past l → UnitState past l t u
fresh past l t u n e h =
    let s : started (op (Tickets.ticket past t)) (unit_range past t u).blocks (length (blocks_made past t u)) ≡ false =
    ap (λ (xs : List BlockLine). started (op (Tickets.ticket past t)) (unit_range past t u).blocks (length xs)) e
    ∙ not_started (op (Tickets.ticket past t)) (unit_range past t u).blocks n in
    record { not_yet = λ x. h; gives = λ x. clash _ x s; lies = λ x. clash _ x s }

-- the state of a unit under another range, and of another ticket record
abbrev StateBy : Past → ℕ → ℕ → ℕ → Ticket → Range → Type 0
StateBy past l t u k r =
    let j = length (blocks_made past t u) in
    Writing (started (op k) r.blocks j) (written (op k) r.blocks j) r.slba l (medium past l) (value past l)
    (write_data k l)

pub grant_key : (c : ConfigNumbers) (past : Past) (g x : GrantLine) → IsLegal c (Entry.Grant g ∷ past)
    → GrantFacts past x → (eqb g.ticket x.ticket && eqb g.unit x.unit) ≡ false
grant_key c past g x h f =
    let m = may_grant c past g h in
    elim (cases_Bool (eqb g.ticket x.ticket)) [
      | inl e ↦ and_right _ _ (ne_eqb g.unit x.unit
          (λ (d : g.unit ≡ x.unit).
          omega (arith, d, m.unit, ap (Open.grants_of past) (eqb-true g.ticket x.ticket e), f.number)))
      | inr e ↦ and_left _ _ e
    ]

pub after_grant : (c : ConfigNumbers) (past : Past) (g : GrantLine) (l : ℕ) → IsLegal c (Entry.Grant g ∷ past)
    → State past l → State (Entry.Grant g ∷ past) l
after_grant c past g l h s =
    let before = (follows c past (Entry.Grant g) h).before in
    let m = may_grant c past g h in
    let f = (granted_facts c (Entry.Grant g ∷ past) h).0 in
    record {
      held = each_cond (λ x. holds l x ≡ true → UnitState (Entry.Grant g ∷ past) l x.ticket x.unit) _ g
          (open_units past)
          (λ e. fresh (Entry.Grant g ∷ past) l g.ticket g.unit
          (subst (λ (r : Range). 1 ≤ r.blocks) (sym f.range) f.some)
          (no_blocks c past g.ticket g.unit before (omega (arith, m.unit)))
          (s.free (none_held g (open_units past) l e (grant_apart c past g m))))
          (each_map (λ x. (holds l x ≡ true → UnitState past l x.ticket x.unit) × OpenFacts past x)
          (λ x. holds l x ≡ true → UnitState (Entry.Grant g ∷ past) l x.ticket x.unit)
          (λ x p e. subst (λ (r : Range). StateBy past l x.ticket x.unit (Tickets.ticket past x.ticket) r)
          (sym (range_before past g x.ticket x.unit (grant_key c past g x h p.1.facts))) (p.0 e))
          (open_units past) (each_both _ _ (open_units past) s.held (open_facts c past before)));
      free = λ e. s.free (any_rest (holds l) _ g (open_units past) e);
    }

-- ---- a Fetch

filter_same : (p q : GrantLine → Bool) (xs : List GrantLine) → Each (λ x. p x ≡ q x) xs → filter p xs ≡ filter q xs
filter_same p q [] h = refl
filter_same p q (x ∷ xs) h = ap₂ (λ (b : Bool) (ys : List GrantLine). cond b (x ∷ ys) ys) h.0 (filter_same p q xs h.1)

pub open_kept : (c : ConfigNumbers) (past : Past) (f : FetchLine) → IsLegal c (Entry.Fetch f ∷ past)
    → open_units (Entry.Fetch f ∷ past) ≡ open_units past
open_kept c past f h =
    filter_same _ _ (granted past)
    (each_map (GrantFacts past)
    (λ x. not (has_ended (Entry.Fetch f ∷ past) x.ticket x.unit x.range.blocks)
    ≡ not (has_ended past x.ticket x.unit x.range.blocks))
    (λ x g. ap not (fetch_ended c past f x.ticket x.unit x.range.blocks h g.known)) (granted past)
    (granted_facts c past (follows c past (Entry.Fetch f) h).before))

pub after_fetch : (c : ConfigNumbers) (past : Past) (f : FetchLine) (l : ℕ) → IsLegal c (Entry.Fetch f ∷ past)
    → State past l → State (Entry.Fetch f ∷ past) l
after_fetch c past f l h s =
    let before = (follows c past (Entry.Fetch f) h).before in
    let same = open_kept c past f h in
    record {
      held = subst (λ (xs : List GrantLine).
          Each (λ x. holds l x ≡ true → UnitState (Entry.Fetch f ∷ past) l x.ticket x.unit) xs) (sym same)
          (each_map (λ x. (holds l x ≡ true → UnitState past l x.ticket x.unit) × OpenFacts past x)
          (λ x. holds l x ≡ true → UnitState (Entry.Fetch f ∷ past) l x.ticket x.unit)
          (λ x p e. subst (λ (k : Ticket). StateBy past l x.ticket x.unit k (unit_range past x.ticket x.unit))
          (sym (ticket_kept c past f x.ticket h p.1.facts.known)) (p.0 e))
          (open_units past) (each_both _ _ (open_units past) s.held (open_facts c past before)));
      free = λ e. s.free (subst (λ (xs : List GrantLine). list_any (holds l) xs ≡ false) same e);
    }

-- ---- a Block

no_write : (o : Option Op) (n j : ℕ) (f : Found) → has_write o ≡ false → may_find o n j f ≡ true → is_written f ≡ false
no_write o n j Found.Read w h = refl
no_write o n j Found.Equal w h = refl
no_write o n j Found.Differs w h = refl
no_write None n j Found.Written w h = sym h
no_write (Some Op.Read) n j Found.Written w h = sym h
no_write (Some Op.Compare) n j Found.Written w h = sym h
no_write (Some Op.Write) n j Found.Written w h = w
no_write (Some Op.WriteZeroes) n j Found.Written w h = w
no_write (Some Op.Pair) n j Found.Written w h = w

-- by the entry's own unit
pub range_of_entry : (past : Past) (b : BlockLine) (g : GrantLine) → MayBlock past b g
    → unit_range past b.ticket b.unit ≡ g.range
range_of_entry past b g m = rw (← m.ticket, m.unit) m.unended.facts.range

some_block : (past : Past) (b : BlockLine) (g : GrantLine) → MayBlock past b g
    → 1 ≤ (unit_range past b.ticket b.unit).blocks
some_block past b g m = subst (λ (r : Range). 1 ≤ r.blocks) (sym (range_of_entry past b g m)) m.unended.facts.some

pub due_within : (past : Past) (b : BlockLine) (g : GrantLine) → MayBlock past b g
    → has_block (unit_range past b.ticket b.unit) b.lba ≡ true
due_within past b g m =
    let r = unit_range past b.ticket b.unit in
    let d = due_lba past b g m in
    let e = mod-lt (length (blocks_made past b.ticket b.unit)) (some_block past b g m) in
    and_from _ _ (le-leb r.slba b.lba (omega (arith, d))) (lt-ltb b.lba (r.slba + r.blocks) (omega (arith, d, e)))

-- where the unit doesn't write, or lacks the block, nothing changes
pub untouched : (past : Past) (b : BlockLine) (g : GrantLine) (l : ℕ) → MayBlock past b g
    → ((has_write (op (Tickets.ticket past b.ticket)) ≡ false)
    ⊎ (has_block (unit_range past b.ticket b.unit) l ≡ false))
    → (medium (Entry.Block b ∷ past) l ≡ medium past l) × (value (Entry.Block b ∷ past) l ≡ value past l)
untouched past b g l m (inl w) = (
  cond-false _ _ _ (and_left _ _
      (no_write (op (Tickets.ticket past b.ticket)) (unit_range past b.ticket b.unit).blocks
      (length (blocks_made past b.ticket b.unit)) b.found w (word_at past b g m))),
  cond-false _ _ _ (and_right _ _ (and_left _ _ w)),
)
untouched past b g l m (inr e) = (
  cond-false _ _ _ (and_right _ _
      (ne_eqb b.lba l (λ (d : b.lba ≡ l).
      clash (has_block (unit_range past b.ticket b.unit) l)
      (ap (has_block (unit_range past b.ticket b.unit)) (sym d) ∙ due_within past b g m) e))),
  cond-false _ _ _ (and_left _ _ (and_right _ _ e)),
)

-- the entry's own unit, where it writes and has the block
pub own_step : (c : ConfigNumbers) (past : Past) (b : BlockLine) (g : GrantLine) (l : ℕ) → IsLegal c past
    → MayBlock past b g → MarkedRight (Entry.Block b ∷ past)
    → has_write (op (Tickets.ticket past b.ticket)) ≡ true → has_block (unit_range past b.ticket b.unit) l ≡ true
    → UnitState past l b.ticket b.unit
    → Stepped (op (Tickets.ticket past b.ticket)) b.found (unit_range past b.ticket b.unit).slba
    (unit_range past b.ticket b.unit).blocks (length (blocks_made past b.ticket b.unit)) l
    (medium (Entry.Block b ∷ past) l) (value (Entry.Block b ∷ past) l) (write_data (Tickets.ticket past b.ticket) l)
own_step c past b g l h m marks w e s =
    let k = Tickets.ticket past b.ticket in
    let r = unit_range past b.ticket b.unit in
    let j = length (blocks_made past b.ticket b.unit) in
    let same = all_equal (value past) k r in
    let stepped = step (op k) b.found b.effect r.slba r.blocks j l b.lba same (medium past l) (value past l)
    (write_data k l) w
    (record {
      some = some_block past b g m;
      low = has_low r l e;
      high = has_high r l e;
      due = due_lba past b g m;
      word = word_at past b g m;
      mark = marks.1;
      unended = (or_parts _ _ (goes_on past b g m)).0;
      yes = λ p x d n. says_yes c past b g h m x (pair_compares _ p) d n;
      no = λ x d. says_no c past b g m x d;
    }) s in
    let whole : (b.effect && writes_by (op k) same) ≡ (b.effect && has_block r l && writes_by (op k) same) =
    ap (λ (x : Bool). x && writes_by (op k) same)
    (sym (and-true b.effect) ∙ ap (λ (x : Bool). b.effect && x) (sym e)) in
    subst (λ (v : List ℕ). Stepped (op k) b.found r.slba r.blocks j l (medium (Entry.Block b ∷ past) l) v
    (write_data k l))
    (ap (λ (x : Bool). cond x (write_data k l) (value past l)) whole) stepped

-- it has ended after the entry by these words
pub ended_by : (past : Past) (b : BlockLine) (g : GrantLine) → MayBlock past b g
    → has_ended (Entry.Block b ∷ past) b.ticket b.unit (unit_range past b.ticket b.unit).blocks
    ≡ (nat_le (needed (op (Tickets.ticket past b.ticket)) (unit_range past b.ticket b.unit).blocks)
    (suc (length (blocks_made past b.ticket b.unit))) || is_differs b.found)
ended_by past b g m =
    let made = blocks_made past b.ticket b.unit in
    let n = needed (op (Tickets.ticket past b.ticket)) (unit_range past b.ticket b.unit).blocks in
    ap (λ (xs : List BlockLine). nat_le n (length xs) || list_any (λ x. is_differs x.found) xs)
    (same_made b b.ticket b.unit made refl refl)
    ∙ ap (λ (x : Bool). nat_le n (suc (length made)) || x)
    (ap (λ (x : Bool). is_differs b.found || x) (or_parts _ _ (goes_on past b g m)).1
    ∙ or_false (is_differs b.found))

pub own_state : (past : Past) (b : BlockLine) (l : ℕ)
    → Writing (started (op (Tickets.ticket past b.ticket)) (unit_range past b.ticket b.unit).blocks
    (suc (length (blocks_made past b.ticket b.unit))))
    (written (op (Tickets.ticket past b.ticket)) (unit_range past b.ticket b.unit).blocks
    (suc (length (blocks_made past b.ticket b.unit))))
    (unit_range past b.ticket b.unit).slba l (medium (Entry.Block b ∷ past) l) (value (Entry.Block b ∷ past) l)
    (write_data (Tickets.ticket past b.ticket) l)
    → UnitState (Entry.Block b ∷ past) l b.ticket b.unit
own_state past b l w =
    subst (λ (xs : List BlockLine).
    Writing (started (op (Tickets.ticket past b.ticket)) (unit_range past b.ticket b.unit).blocks (length xs))
    (written (op (Tickets.ticket past b.ticket)) (unit_range past b.ticket b.unit).blocks (length xs))
    (unit_range past b.ticket b.unit).slba l (medium (Entry.Block b ∷ past) l) (value (Entry.Block b ∷ past) l)
    (write_data (Tickets.ticket past b.ticket) l))
    (sym (same_made b b.ticket b.unit (blocks_made past b.ticket b.unit) refl refl)) w

-- another unit, where the block is untouched
pub other_state : (past : Past) (b : BlockLine) (l t u : ℕ) → (eqb b.ticket t && eqb b.unit u) ≡ false
    → (medium (Entry.Block b ∷ past) l ≡ medium past l) × (value (Entry.Block b ∷ past) l ≡ value past l)
    → UnitState past l t u → UnitState (Entry.Block b ∷ past) l t u
other_state past b l t u e same s =
    let k = Tickets.ticket past t in
    let r = unit_range past t u in
    let made = sym (ap (λ (xs : List BlockLine). xs ++ blocks_made past t u)
    (cond-false (eqb b.ticket t && eqb b.unit u) (b ∷ []) [] e)) in
    subst (λ (xs : List BlockLine).
    Writing (started (op k) r.blocks (length xs)) (written (op k) r.blocks (length xs)) r.slba l
    (medium (Entry.Block b ∷ past) l) (value (Entry.Block b ∷ past) l) (write_data k l)) made
    (subst₂ (λ (m v : List ℕ).
    Writing (started (op k) r.blocks (length (blocks_made past t u)))
    (written (op k) r.blocks (length (blocks_made past t u))) r.slba l m v (write_data k l)) (sym same.0)
    (sym same.1) s)
