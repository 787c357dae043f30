-- A completion has the data of a Read that succeeded, and no other data.
use Rattle.nvme_model.specs.Tickets
use Rattle.std.proofs.Common.{◌≡◌, ℕ, zero, suc, ◌+◌, ◌*◌, Bool, true, false, ◌&&◌, cond, List, [], ◌∷◌, ◌++◌}
use Rattle.std.proofs.Common.{Option, Some, None, is_some, length, length-append, refl, sym, ap, ◌∙◌, subst, inl, inr}
use Rattle.std.proofs.Common.{arith, eqb, eqb-true, leb-true, ltb-true, nat_le, nat_lt, slice_get}
use Rattle.std.specs.List.{flat_map, list_all, sum_by}
use Rattle.std.proofs.lemmas.Bool.{and_parts, cond-false}
use Rattle.std.proofs.lemmas.List.{length-replicate}
use Rattle.std.proofs.lemmas.List.Sums.{sum_by-cons}
use Rattle.nvme_model.specs.Array.{blocks_from, has_block}
use Rattle.nvme_model.specs.Commands.{is_compare, is_read, is_write, is_write_zeroes}
use Rattle.nvme_model.specs.EntryBytes.{Sqe, block_count, slba, sqe_fields}
use Rattle.nvme_model.specs.History.{Past}
use Rattle.nvme_model.specs.Legal.{IsLegal}
use Rattle.nvme_model.specs.Open.{unit_range}
use Rattle.nvme_model.specs.Operations.{has_write, op, op_by, op_of_fields, units, units_by, write_data}
use Rattle.nvme_model.specs.Owed.{all_ended, contents_at, numbered_units, owed, read_data_by, units_of}
use Rattle.nvme_model.specs.Placed.{effect}
use Rattle.nvme_model.specs.Queues.{published_entries}
use Rattle.nvme_model.specs.Statuses.{is_success, success}
use Rattle.nvme_model.specs.Tickets.{Ticket, command, first_fields, posts_of}
use Rattle.nvme_model.specs.Value.{value, writes}
use Rattle.nvme_model.specs.Verdict.{passed}
use Rattle.nvme_model.specs.declared.array.Range.{Range}
use Rattle.nvme_model.specs.declared.config.ConfigNumbers.{ConfigNumbers}
use Rattle.nvme_model.specs.declared.entry.Entry.{Entry}
use Rattle.nvme_model.specs.declared.entry.PostLine.{PostLine}
use Rattle.nvme_model.specs.declared.operation.Op.{Op}
use Rattle.nvme_model.specs.declared.status.Verdict.{Verdict}
use Rattle.nvme_model.specs.declared.submission.Submission.{Submission}
use Rattle.nvme_model.proofs.Beginnings.{earlier}
use Rattle.nvme_model.proofs.Checked.{ticket_checked}
use Rattle.nvme_model.proofs.Cut.{clash}
use Rattle.nvme_model.proofs.Lists.{each_get}
use Rattle.nvme_model.proofs.Rules.{follows}
use Rattle.nvme_model.proofs.StepCounts.{cut_sum}
use Rattle.ticket_laws.proofs.Lengths.{Within, units_lie, written_length}
use Rattle.host_laws.specs.Calls.{cqe_status}
use Rattle.host_laws.proofs.Calls.{PostOf, success_is, two_pair, which}
use Rattle.host_laws.proofs.Later.{block_facts, effect_at, some_effect}
use Rattle.host_laws.proofs.Outcomes.{passes, single_done}
use Rattle.host_laws.proofs.Verdicts.{VerdictIs}
use Rattle.refutation.specs.MayAnswer.{data_owed}

-- ---- a block has 512 bytes

some_write : (o : Option Op) → has_write o ≡ true → is_some o ≡ true
some_write (Some o) w = refl
some_write None w = clash false w refl

value_length : (c : ConfigNumbers) (past : Past) (l : ℕ) → IsLegal c past → length (value past l) ≡ 512
value_length c [] l h = let z : ℕ = 0 in length-replicate 512 z
value_length c (Entry.Block b ∷ past) l h =
    let before = (follows c past (Entry.Block b) h).before in
    go (b.effect && has_block (unit_range past b.ticket b.unit) l
    && writes (value past) (Tickets.ticket past b.ticket) (unit_range past b.ticket b.unit)) refl before
    (value_length c past l before)
  where
    k : Ticket
    k = Tickets.ticket past b.ticket

    r : Range
    r = unit_range past b.ticket b.unit

    written : (b.effect && has_block r l && writes (value past) k r) ≡ true → IsLegal c past
        → length (write_data k l) ≡ 512
    written e before =
        let x = and_parts (b.effect && has_block r l) (writes (value past) k r) e in
        let y = and_parts (nat_le r.slba l) (nat_lt l (r.slba + r.blocks)) (and_parts b.effect (has_block r l) x.0).1 in
        let w = (and_parts (has_write (op k)) _ x.1).0 in
        let inside = each_get (Within (slba (first_fields k)) (block_count (first_fields k))) (units c k) b.unit r
        (units_lie c.atomic (op k) (slba (first_fields k)) (block_count (first_fields k)))
        (block_facts c past b h).range in
        let low = leb-true r.slba l y.0 in
        let high = ltb-true l (r.slba + r.blocks) y.1 in
        written_length c k l (ticket_checked c past b.ticket before (some_write (op k) w)) w
        (omega (arith, low, inside.low)) (omega (arith, high, inside.high))

    go : (x : Bool) → (b.effect && has_block r l && writes (value past) k r) ≡ x → IsLegal c past
        → length (value past l) ≡ 512 → length (cond x (write_data k l) (value past l)) ≡ 512
    go true e before ih = written e before
    go false e before ih = ih
value_length c (Entry.Publish e ∷ past) l h = value_length c past l (follows c past (Entry.Publish e) h).before
value_length c (Entry.Fetch e ∷ past) l h = value_length c past l (follows c past (Entry.Fetch e) h).before
value_length c (Entry.Grant e ∷ past) l h = value_length c past l (follows c past (Entry.Grant e) h).before
value_length c (Entry.Post e ∷ past) l h = value_length c past l (follows c past (Entry.Post e) h).before
value_length c (Entry.Reap e ∷ past) l h = value_length c past l (follows c past (Entry.Reap e) h).before

-- ---- the data of a Read

blocks_length : (f : ℕ → List ℕ) (s n : ℕ) → ((l : ℕ) → length (f l) ≡ 512)
    → length (flat_map f (blocks_from s n)) ≡ 512 * n
blocks_length f s zero h = refl
blocks_length f s (suc n) h =
    omega (arith, length-append (f s) (flat_map f (blocks_from (suc s) n)), h s, blocks_length f (suc s) n h)

abbrev unit_data : Past → ℕ → ℕ × Range → List ℕ
unit_data past t u = flat_map (contents_at (effect past t u.0)) (blocks_from u.1.slba u.1.blocks)

unit_length : (c : ConfigNumbers) (past : Past) (t : ℕ) (u : ℕ × Range) → IsLegal c past
    → is_some (effect past t u.0) ≡ true → length (unit_data past t u) ≡ 512 * u.1.blocks
unit_length c past t u h s =
    let e = some_effect (effect past t u.0) s in
    let at = effect_at past t u.0 e.0 e.1 in
    let whole = earlier c at.later (Entry.Block at.block ∷ e.0) (subst (λ (x : Past). IsLegal c x) at.is h) in
    let legal : IsLegal c e.0 = (follows c e.0 (Entry.Block at.block) whole).before in
    ap (λ (o : Option Past). length (flat_map (contents_at o) (blocks_from u.1.slba u.1.blocks))) e.1
    ∙ blocks_length (value e.0) u.1.slba u.1.blocks (λ l. value_length c e.0 l legal)

units_length : (c : ConfigNumbers) (past : Past) (t k : ℕ) (rs : List Range) → IsLegal c past
    → list_all (λ u. is_some (effect past t u.0)) (numbered_units k rs) ≡ true
    → length (flat_map (unit_data past t) (numbered_units k rs)) ≡ 512 * sum_by (λ r. r.blocks) rs
units_length c past t k [] h a = refl
units_length c past t k (r ∷ rs) h a =
    let x = and_parts (is_some (effect past t k)) (list_all (λ u. is_some (effect past t u.0)) (numbered_units
    (suc k) rs))
    a in
    let more = flat_map (unit_data past t) (numbered_units (suc k) rs) in
    let all : length (flat_map (unit_data past t) (numbered_units k (r ∷ rs)))
    ≡ length (unit_data past t (k, r) ++ more)
    = refl in
    let sum : sum_by (λ (z : Range). z.blocks) (r ∷ rs) ≡ r.blocks + sum_by (λ (z : Range). z.blocks) rs =
    sum_by-cons (λ (z : Range). z.blocks) r rs in
    let one : length (unit_data past t (k, r)) ≡ 512 * r.blocks = unit_length c past t (k, r) h x.0 in
    omega (arith, all, sum, length-append (unit_data past t (k, r)) more, one, units_length c past t (suc k) rs h x.1)

read_length : (c : ConfigNumbers) (past : Past) (t : ℕ) → IsLegal c past → op (Tickets.ticket past t) ≡ Some Op.Read
    → list_all (λ u. is_some (effect past t u.0)) (units_of c past t) ≡ true
    → length (read_data_by c past t (Some Op.Read)) ≡ 512 * block_count (first_fields (Tickets.ticket past t))
read_length c past t h o a =
    let k = Tickets.ticket past t in
    let sum : sum_by (λ r. r.blocks) (units c k) ≡ block_count (first_fields k) =
    ap (λ (x : Option Op). sum_by (λ r. r.blocks)
    (units_by c.atomic x (slba (first_fields k)) (block_count (first_fields k)))) o
    ∙ cut_sum c.atomic (slba (first_fields k)) (block_count (first_fields k)) in
    units_length c past t 0 (units c k) h a ∙ ap (λ (n : ℕ). 512 * n) sum

-- ---- which commands read

abbrev op_of_code : ℕ → Option Op
op_of_code n =
    cond (eqb n 1) (Some Op.Write) (cond (eqb n 2) (Some Op.Read) (cond (eqb n 5) (Some Op.Compare)
    (cond (eqb n 8) (Some Op.WriteZeroes) None)))

reads : (e : Sqe) → is_read e ≡ true → op_of_fields e ≡ Some Op.Read
reads e h = ap op_of_code (eqb-true e.opcode 2 h)

no_data : (c : ConfigNumbers) (past : Past) (t : ℕ) (e : Sqe) → is_read e ≡ false
    → read_data_by c past t (op_of_fields e) ≡ []
no_data c past t e h = go (is_write e) (is_read e) (is_compare e) (is_write_zeroes e) h
  where
    go : (w r k z : Bool) → r ≡ false
        → read_data_by c past t (cond w (Some Op.Write) (cond r (Some Op.Read) (cond k (Some Op.Compare)
        (cond z (Some Op.WriteZeroes) None)))) ≡ []
    go true r k z h = refl
    go false true k z h = absurd (let f : true ≡ false = h in cc)
    go false false true z h = refl
    go false false false true h = refl
    go false false false false h = refl

compares_not : (e : Sqe) → is_compare e ≡ true → is_read e ≡ false
compares_not e h = ap (λ (n : ℕ). eqb n 2) (eqb-true e.opcode 5 h)

writes_not : (e : Sqe) → is_write e ≡ true → is_read e ≡ false
writes_not e h = ap (λ (n : ℕ). eqb n 2) (eqb-true e.opcode 1 h)

-- ---- the data of a completion

-- of a ticket's first command that succeeded
first_data : (c : ConfigNumbers) (past : Past) (t : ℕ) (v : Verdict) → IsLegal c past
    → (Tickets.ticket past t).verdict ≡ v
    → VerdictIs v (command (Tickets.ticket past t) 0) (command (Tickets.ticket past t) 1)
    → slice_get (owed c past t) 0 ≡ Some success
    → length (read_data_by c past t (op (Tickets.ticket past t)))
    ≡ cond (is_read (first_fields (Tickets.ticket past t)))
    (512 * block_count (first_fields (Tickets.ticket past t))) 0
first_data c past t v h e is owes = go v e is (passes c past t 0 v _ _ e is owes)
  where
    k : Ticket
    k = Tickets.ticket past t

    fields : Sqe
    fields = first_fields k

    single : (Tickets.ticket past t).verdict ≡ Verdict.Single → (b : Bool) → is_read fields ≡ b
        → length (read_data_by c past t (op k)) ≡ cond b (512 * block_count fields) 0
    single f true r =
        let o : op k ≡ Some Op.Read = ap (λ (w : Verdict). op_by w fields) f ∙ reads fields r in
        let done = single_done c past t 0 Op.Read f o refl owes in
        ap (λ (x : Option Op). length (read_data_by c past t x)) o
        ∙ read_length c past t h o (and_parts (all_ended c past t) _ done.1).1
    single f false r =
        ap (λ (x : Option Op). length (read_data_by c past t x)) (ap (λ (w : Verdict). op_by w fields) f)
        ∙ ap (λ (l : List ℕ). length l) (no_data c past t fields r)

    go : (w : Verdict) → (Tickets.ticket past t).verdict ≡ w → VerdictIs w (command k 0) (command k 1)
        → passed w ≡ true
        → length (read_data_by c past t (op k)) ≡ cond (is_read fields) (512 * block_count fields) 0
    go Verdict.Single f i p = single f (is_read fields) refl
    go Verdict.Pair f i p =
        ap (λ (x : Option Op). length (read_data_by c past t x)) (ap (λ (w : Verdict). op_by w fields) f)
        ∙ sym (cond-false (is_read fields) (512 * block_count fields) 0 (compares_not fields i.compares))
    go (Verdict.SingleFailed s) f i p = clash false p refl
    go (Verdict.PairFailed s r) f i p = clash false p refl

-- of the second
second_data : (c : ConfigNumbers) (past : Past) (t : ℕ) (v : Verdict) → (Tickets.ticket past t).verdict ≡ v
    → v ≡ Verdict.Pair → VerdictIs v (command (Tickets.ticket past t) 0) (command (Tickets.ticket past t) 1)
    → length (read_data_by c past t (op (Tickets.ticket past t)))
    ≡ cond (is_read (sqe_fields (command (Tickets.ticket past t) 1).entry))
    (512 * block_count (sqe_fields (command (Tickets.ticket past t) 1).entry)) 0
second_data c past t v e pair is =
    let k = Tickets.ticket past t in
    let second = sqe_fields (command k 1).entry in
    let paired : op k ≡ Some Op.Pair = ap (λ (w : Verdict). op_by w (first_fields k)) (e ∙ pair) in
    let i = subst (λ (w : Verdict). VerdictIs w (command k 0) (command k 1)) pair is in
    ap (λ (x : Option Op). length (read_data_by c past t x)) paired
    ∙ sym (cond-false (is_read second) (512 * block_count second) 0 (writes_not second i.writes))

pub data_length_is : (c : ConfigNumbers) (past : Past) (q j : ℕ) (p : PostLine) (s : Submission) → PostOf c past q j p
    → slice_get (published_entries past q) j ≡ Some s → length p.payload ≡ data_owed s (cqe_status p.cqe)
data_length_is c past q j p s f e =
    ap (λ (l : List ℕ). length l) f.is.contents ∙ by_status (is_success (cqe_status p.cqe)) refl
  where
    before : Past
    before = f.at.before

    k : Ticket
    k = Tickets.ticket before p.ticket

    good : is_success (cqe_status p.cqe) ≡ true
        → length (read_data_by c before p.ticket (op k))
        ≡ cond (is_read (sqe_fields s.entry)) (512 * block_count (sqe_fields s.entry)) 0
    good y =
        let owes : slice_get (owed c before p.ticket) (posts_of before p.ticket) ≡ Some success =
        f.is.owed ∙ ap Some (success_is (cqe_status p.cqe) y) in
        elim (which c past q j p s f e) [
          | inl x ↦
              subst (λ (z : Submission). length (read_data_by c before p.ticket (op k))
              ≡ cond (is_read (sqe_fields z.entry)) (512 * block_count (sqe_fields z.entry)) 0) x.entry
              (first_data c before p.ticket k.verdict f.before refl f.is.taken.verdict
              (ap (λ (i : ℕ). slice_get (owed c before p.ticket) i) (sym x.posts) ∙ owes))
          | inr x ↦
              let ok = passes c before p.ticket (posts_of before p.ticket) k.verdict (command k 0) (command k 1) refl
              f.is.taken.verdict owes in
              subst (λ (z : Submission). length (read_data_by c before p.ticket (op k))
              ≡ cond (is_read (sqe_fields z.entry)) (512 * block_count (sqe_fields z.entry)) 0) x.entry
              (second_data c before p.ticket k.verdict refl (two_pair k.verdict ok x.two) f.is.taken.verdict)
        ]

    by_status : (b : Bool) → is_success (cqe_status p.cqe) ≡ b
        → length (cond b (read_data_by c before p.ticket (op k)) [])
        ≡ cond (b && is_read (sqe_fields s.entry)) (512 * block_count (sqe_fields s.entry)) 0
    by_status false z = refl
    by_status true z = good z
