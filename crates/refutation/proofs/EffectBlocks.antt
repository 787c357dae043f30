-- What an effect finds and leaves on blocks, by what the trace tells of it.
use Rattle.nvme_model.specs.EntryBytes
use Rattle.nvme_model.specs.Operations
use Rattle.nvme_model.specs.Tickets
use Rattle.std.proofs.Common.{◌≡◌, ℕ, zero, suc, ◌+◌, ◌≤◌, ◌<◌, Bool, true, false, not, ◌&&◌, ◌||◌, cond, List, []}
use Rattle.std.proofs.Common.{◌∷◌, length, refl, sym, ap, ◌∙◌, Option, Some, None, inl, inr, arith}
use Rattle.std.proofs.Common.{leb-true, ltb-true, nat_le, nat_lt, slice_get}
use Rattle.std.specs.List.{list_all}
use Rattle.std.specs.Str.{bytes_eq}
use Rattle.std.proofs.lemmas.Bool.{and_parts, cases_Bool, cases_eq}
use Rattle.nvme_model.specs.Array.{blocks_from, has_block}
use Rattle.nvme_model.specs.EntryBytes.{slba, sqe_fields}
use Rattle.nvme_model.specs.History.{Past}
use Rattle.nvme_model.specs.Legal.{IsLegal}
use Rattle.nvme_model.specs.Open.{unit_range}
use Rattle.nvme_model.specs.Operations.{compare_data, has_compare, has_write, is_pair, op, op_of_fields, write_data}
use Rattle.nvme_model.specs.Placed.{effect}
use Rattle.nvme_model.specs.Statuses.{compare_failure, is_success, same_status}
use Rattle.nvme_model.specs.Tickets.{Ticket, first_fields}
use Rattle.nvme_model.specs.Value.{all_equal, value, writes}
use Rattle.nvme_model.specs.declared.array.Range.{Range}
use Rattle.nvme_model.specs.declared.config.ConfigNumbers.{ConfigNumbers}
use Rattle.nvme_model.specs.declared.entry.BlockLine.{BlockLine}
use Rattle.nvme_model.specs.declared.entry.Entry.{Entry}
use Rattle.nvme_model.specs.declared.operation.Op.{Op}
use Rattle.nvme_model.proofs.Cut.{clash}
use Rattle.host_laws.specs.Calls.{cqe_status}
use Rattle.host_laws.proofs.Elements.{In, same_some}
use Rattle.host_laws.proofs.Names.{bytes_are}
use Rattle.host_laws.proofs.SingleCalls.{only_compares}
use Rattle.host_laws.proofs.Verdicts.{status_eq}
use Rattle.trace.specs.Observed.{observed}
use Rattle.trace.specs.declared.seen.ReapedLine.{ReapedLine}
use Rattle.refutation.specs.Effects.{effect_by}
use Rattle.refutation.specs.EffectOrders.{EffectName}
use Rattle.refutation.specs.Slices.{answer_of, found_block, looks, range_of}
use Rattle.refutation.specs.Slices.{says_failed, ticket_of}
use Rattle.refutation.specs.Told.{told_units}
use Rattle.refutation.proofs.Answered.{AnsweredEntry, DoneCommand, Kind, TicketOf, answered_entry}
use Rattle.refutation.proofs.Answered.{differed_command, done_command, kind_of, no_effect_of_failed}
use Rattle.refutation.proofs.Answered.{told_range}
use Rattle.refutation.proofs.Lines.{tidy_on}
use Rattle.refutation.proofs.NamedEffects.{of_ticket}
use Rattle.refutation.proofs.ReadData.{read_block}
use Rattle.refutation.proofs.ToldTickets.{ToldEffect, same_equal, unit_inside, value_after}

-- ---- the blocks of a range

pub in_blocks : (s n l : ℕ) → s ≤ l → l < s + n → In l (blocks_from s n)
in_blocks s zero l a b = absurd (omega (arith, a, b))
in_blocks s (suc n) l a b = elim (cases_eq l s) [
  | inl e ↦ inl e
  | inr e ↦ inr (in_blocks (suc s) n l (omega (arith, a, e)) (omega (arith, b)))
]

pub of_blocks : (s n l : ℕ) → In l (blocks_from s n) → (s ≤ l) × (l < s + n)
of_blocks s zero l h = absurd h
of_blocks s (suc n) l (inl e) = (omega (arith, e), omega (arith, e))
of_blocks s (suc n) l (inr h) = let x = of_blocks (suc s) n l h in (omega (arith, x.0), omega (arith, x.1))

pub has_parts : (r : Range) (l : ℕ) → has_block r l ≡ true → (r.slba ≤ l) × (l < r.slba + r.blocks)
has_parts r l h =
    let a = and_parts (nat_le r.slba l) (nat_lt l (r.slba + r.blocks)) h in
    (leb-true r.slba l a.0, ltb-true l (r.slba + r.blocks) a.1)

pub equal_at : (contents : ℕ → List ℕ) (k : Ticket) (s n l : ℕ)
    → list_all (λ i. bytes_eq (contents i) (compare_data k i)) (blocks_from s n) ≡ true → s ≤ l → l < s + n
    → contents l ≡ compare_data k l
equal_at contents k s zero l h a b = absurd (omega (arith, a, b))
equal_at contents k s (suc n) l h a b =
    let x = and_parts (bytes_eq (contents s) (compare_data k s))
    (list_all (λ i. bytes_eq (contents i) (compare_data k i)) (blocks_from (suc s) n)) h in
    elim (cases_eq l s) [
      | inl e ↦ ap contents e ∙ bytes_are (contents s) (compare_data k s) x.0 ∙ ap (compare_data k) (sym e)
      | inr e ↦ equal_at contents k (suc s) n l x.1 (omega (arith, a, e)) (omega (arith, b))
    ]

-- ---- an effect of a history

pub record EffectHere (c : ConfigNumbers) (whole : Past) (n : EffectName) (past : Past) (b : BlockLine) (r : Range)
    : Type 0 where
  pub legal : IsLegal c whole
  pub tidy : tidy_on n.queue (observed c whole) ≡ true
  pub there : effect_by whole n.queue n.number n.unit ≡ Some past
  pub told : ToldEffect c (observed c whole) n.queue n.number n.unit past b
  pub marked : b.effect ≡ true
  pub range : range_of c (observed c whole) n ≡ Some r
  pub same : unit_range past b.ticket b.unit ≡ r

-- what a block is behind it
pub value_behind : (c : ConfigNumbers) (whole : Past) (n : EffectName) (past : Past) (b : BlockLine) (r : Range) (l : ℕ)
    → EffectHere c whole n past b r
    → value (Entry.Block b ∷ past) l
    ≡ cond (has_block r l && writes (value past) (ticket_of (observed c whole) n) r)
    (write_data (ticket_of (observed c whole) n) l) (value past l)
value_behind c whole n past b r l h =
    value_after c (observed c whole) n.queue n.number n.unit past b l h.marked h.told
    ∙ ap (λ (x : Range). cond (has_block x l && writes (value past) (ticket_of (observed c whole) n) x)
    (write_data (ticket_of (observed c whole) n) l) (value past l)) h.same

-- ---- success

-- the effect of its ticket is this one
done_here : (c : ConfigNumbers) (whole : Past) (n : EffectName) (past : Past) (b : BlockLine) (r : Range)
    (a : ReapedLine) (k : TicketOf c whole n.queue n.number) → EffectHere c whole n past b r
    → DoneCommand c whole n.queue n.number a k → effect whole k.ticket n.unit ≡ Some past
done_here c whole n past b r a k h d =
    let e = d.effects n.unit r h.range in
    let by = of_ticket c whole k.ticket n.queue n.number n.unit e.0 h.legal k.numbered e.1 in
    e.1 ∙ ap Some (same_some e.0 past (effect_by whole n.queue n.number n.unit) by h.there)

pub done_by : (c : ConfigNumbers) (whole : Past) (n : EffectName) (past : Past) (b : BlockLine) (r : Range)
    (a : ReapedLine) → EffectHere c whole n past b r → answer_of (observed c whole) n ≡ Some a
    → is_success (cqe_status a.cqe) ≡ true
    → (k : TicketOf c whole n.queue n.number) × DoneCommand c whole n.queue n.number a k
done_by c whole n past b r a h e y =
    done_command c whole n.queue n.number a h.told.some.0 h.legal h.tidy e y h.told.some.1

pub yes_here : (c : ConfigNumbers) (whole : Past) (n : EffectName) (past : Past) (b : BlockLine) (r : Range)
    (a : ReapedLine) → EffectHere c whole n past b r → answer_of (observed c whole) n ≡ Some a
    → is_success (cqe_status a.cqe) ≡ true → has_compare (op (ticket_of (observed c whole) n)) ≡ true
    → all_equal (value past) (ticket_of (observed c whole) n) r ≡ true
yes_here c whole n past b r a h e y p =
    let k = done_by c whole n past b r a h e y in
    let f = done_here c whole n past b r a k.0 h k.1 in
    let at = told_range c whole n.queue n.number n.unit past r k.0 h.legal f h.range in
    let t = Tickets.ticket whole k.0.ticket in
    sym (same_equal (value past) t (ticket_of (observed c whole) n) r k.0.alike)
    ∙ (ap (λ (x : Range). all_equal (value past) t x) (sym at) ∙ k.1.equal n.unit past f p)

-- what was read or compared is what the block was
pub found_here : (c : ConfigNumbers) (whole : Past) (n : EffectName) (past : Past) (b : BlockLine) (r : Range)
    (a : ReapedLine) (l : ℕ) → EffectHere c whole n past b r → answer_of (observed c whole) n ≡ Some a
    → is_success (cqe_status a.cqe) ≡ true → looks (op (ticket_of (observed c whole) n)) ≡ true
    → has_block r l ≡ true
    → found_block (op (ticket_of (observed c whole) n)) (ticket_of (observed c whole) n) a.payload l ≡ value past l
found_here c whole n past b r a l h e y z g = go (op m) refl z
  where
    m : Ticket
    m = ticket_of (observed c whole) n

    at : (r.slba ≤ l) × (l < r.slba + r.blocks)
    at = has_parts r l g

    compared : has_compare (op m) ≡ true → compare_data m l ≡ value past l
    compared p = sym (equal_at (value past) m r.slba r.blocks l (yes_here c whole n past b r a h e y p) at.0 at.1)

    go : (o : Option Op) → op m ≡ o → looks o ≡ true → found_block o m a.payload l ≡ value past l
    go (Some Op.Read) o q =
        let k = done_by c whole n past b r a h e y in
        let f = done_here c whole n past b r a k.0 h k.1 in
        read_block c whole n.queue n.number n.unit l a r past k.0 k.1 h.legal o h.range f at.0 at.1
    go (Some Op.Compare) o q = compared (ap has_compare o)
    go (Some Op.Pair) o q = compared (ap has_compare o)
    go (Some Op.Write) o q = clash false q refl
    go (Some Op.WriteZeroes) o q = clash false q refl
    go None o q = clash false q refl

-- ---- Compare Failure

pub no_here : (c : ConfigNumbers) (whole : Past) (n : EffectName) (past : Past) (b : BlockLine) (r : Range)
    (a : ReapedLine) → EffectHere c whole n past b r → answer_of (observed c whole) n ≡ Some a
    → same_status (cqe_status a.cqe) compare_failure ≡ true
    → length (told_units c (observed c whole) n.queue n.number) ≡ 1
    → (has_compare (op (ticket_of (observed c whole) n)) ≡ true)
    × (all_equal (value past) (ticket_of (observed c whole) n) r ≡ false)
no_here c whole n past b r a h e y one =
    let k = differed_command c whole n.queue n.number a h.told.some.0 h.legal h.tidy e y h.told.some.1 one in
    let d = k.1 in
    let us = told_units c (observed c whole) n.queue n.number in
    let first : n.unit ≡ 0 = first_only us n.unit one h.range in
    let by = of_ticket c whole k.0.ticket n.queue n.number 0 d.before h.legal k.0.numbered d.there in
    let there : effect_by whole n.queue n.number 0 ≡ Some past =
    ap (effect_by whole n.queue n.number) (sym first) ∙ h.there in
    let same = same_some d.before past (effect_by whole n.queue n.number 0) by there in
    let range : slice_get us 0 ≡ Some r = ap (slice_get us) (sym first) ∙ h.range in
    let at = told_range c whole n.queue n.number 0 d.before r k.0 h.legal d.there range in
    let t = Tickets.ticket whole k.0.ticket in (
      d.compares,
      sym (same_equal (value past) t (ticket_of (observed c whole) n) r k.0.alike)
          ∙ (ap (λ (x : Range). all_equal (value past) t x) (sym at)
          ∙ (ap (λ (p : Past). all_equal (value p) t (unit_range whole k.0.ticket 0)) (sym same) ∙ d.no)),
    )
  where
    first_only : (xs : List Range) (i : ℕ) → length xs ≡ 1 → slice_get xs i ≡ Some r → i ≡ 0
    first_only [] i q f = absurd (omega (arith, q))
    first_only (x ∷ xs) zero q f = refl
    first_only (x ∷ []) (suc i) q f = absurd (let z : None ≡ Some r = f in cc)
    first_only (x ∷ y ∷ xs) (suc i) q f = absurd (omega (arith, q))

-- ---- a failure writes nothing

pub nothing_written : (c : ConfigNumbers) (whole : Past) (n : EffectName) (past : Past) (b : BlockLine) (r : Range)
    → EffectHere c whole n past b r → says_failed (answer_of (observed c whole) n) ≡ true
    → writes (value past) (ticket_of (observed c whole) n) r ≡ false
nothing_written c whole n past b r h v = go (answer_of (observed c whole) n) refl v
  where
    m : Ticket
    m = ticket_of (observed c whole) n

    unwritten : (w p e : Bool) → (w ≡ true → (p ≡ true) × (e ≡ false)) → (w && (not p || e)) ≡ false
    unwritten false p e f = refl
    unwritten true true false f = refl
    unwritten true true true f = clash true refl (f refl).1
    unwritten true false e f = clash false (f refl).0 refl

    flipped : (x : Bool) → not x ≡ true → x ≡ false
    flipped true q = clash false q refl
    flipped false q = refl

    pair_one : op m ≡ Some Op.Pair → length (told_units c (observed c whole) n.queue n.number) ≡ 1
    pair_one p = ap length (unit_inside c (observed c whole) n.queue n.number n.unit r h.range)
        ∙ ap (λ (o : Option Op). length (Operations.units_by c.atomic o (slba (first_fields m))
        (EntryBytes.block_count (first_fields m)))) p

    by_kind : (a : ReapedLine) → answer_of (observed c whole) n ≡ Some a
        → same_status (cqe_status a.cqe) compare_failure ≡ true → (o : Op) → op m ≡ Some o
        → (x : AnsweredEntry c whole n.queue n.number a) → Kind x.entry o → has_write (op m) ≡ true
        → (has_compare (op m) ≡ true) × (all_equal (value past) m r ≡ false)
    by_kind a e s o p x (Kind.pair one same) w = no_here c whole n past b r a h e s (pair_one (p ∙ ap Some same))
    by_kind a e s o p x (Kind.single one two fields np) w =
        let compares = only_compares c whole n.queue n.number x.post x.entry o h.legal x.published one two fields np
        x.reaped (ap cqe_status x.cqe ∙ status_eq (cqe_status a.cqe) compare_failure s) in
        clash (has_write (Some o)) (ap has_write (sym p) ∙ w) (ap (λ (y : Op). has_write (Some y)) compares)

    go : (q : Option ReapedLine) → answer_of (observed c whole) n ≡ q → says_failed q ≡ true
        → writes (value past) m r ≡ false
    go None e f = clash false f refl
    go (Some a) e f = elim (cases_Bool (same_status (cqe_status a.cqe) compare_failure)) [
      | inl s ↦
          let x = answered_entry c whole n.queue n.number a h.legal h.tidy e in
          unwritten (has_write (op m)) (has_compare (op m)) (all_equal (value past) m r)
          (by_kind a e s h.told.some.0 h.told.some.1 x
          (kind_of (observed c whole) n.queue n.number x.entry h.told.some.0 x.told h.told.some.1))
      | inr s ↦ absurd (no_effect_of_failed c whole n.queue n.number n.unit a past h.legal h.tidy e
          (flipped (is_success (cqe_status a.cqe)) f) s h.there)
    ]
