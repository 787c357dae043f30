-- The ticket of an effect is the one that the trace tells.
use Rattle.nvme_model.specs.Operations
use Rattle.nvme_model.specs.Tickets
use Rattle.std.proofs.Common.{[], ◌+◌, ◌≤◌, arith, is_some, le-leb, length}
use Rattle.std.proofs.Common.{◌≡◌, ℕ, suc, ◌*◌, ◌-◌, Bool, true, false, not, ◌&&◌, ◌||◌, cond, List, ◌∷◌, refl, sym, ap}
use Rattle.std.proofs.Common.{ap₂, ◌∙◌, subst, Option, Some, None, eqb, take, drop, slice_get}
use Rattle.std.specs.List.{list_all}
use Rattle.std.specs.Str.{bytes_eq}
use Rattle.std.proofs.lemmas.Bool.{cond-true, cond-false}
use Rattle.std.proofs.lemmas.Option.{get_or_from_slice_get}
use Rattle.nvme_model.specs.Array.{blocks_from, has_block}
use Rattle.nvme_model.specs.EntryBytes.{Sqe, block_count, slba, sqe_fields}
use Rattle.nvme_model.specs.History.{Past}
use Rattle.nvme_model.specs.Legal.{IsLegal}
use Rattle.nvme_model.specs.Open.{unit_range}
use Rattle.nvme_model.specs.Operations.{compare_data, has_compare, has_write, op, is_pair, op_by, units, units_by}
use Rattle.nvme_model.specs.Operations.{write_data}
use Rattle.nvme_model.specs.Operations.{op_of_fields, write_data_by}
use Rattle.nvme_model.specs.Queues.{published_entries}
use Rattle.nvme_model.specs.Tickets.{Ticket, command, first_fields}
use Rattle.nvme_model.specs.Value.{all_equal, value, writes}
use Rattle.nvme_model.specs.Verdict.{passed, taken_entries}
use Rattle.nvme_model.specs.declared.array.Range.{Range}
use Rattle.nvme_model.specs.declared.config.ConfigNumbers.{ConfigNumbers}
use Rattle.nvme_model.specs.declared.entry.BlockLine.{BlockLine}
use Rattle.nvme_model.specs.declared.entry.Entry.{Entry}
use Rattle.nvme_model.specs.declared.operation.Op.{Op}
use Rattle.nvme_model.specs.declared.status.Verdict.{Verdict}
use Rattle.nvme_model.specs.declared.submission.Submission.{Submission}
use Rattle.nvme_model.proofs.Beginnings.{earlier}
use Rattle.nvme_model.proofs.Checked.{ticket_checked}
use Rattle.nvme_model.proofs.Cut.{clash}
use Rattle.nvme_model.proofs.NextPost.{not_pair}
use Rattle.host_laws.proofs.Later.{block_facts}
use Rattle.host_laws.proofs.Verdicts.{VerdictIs, fuse, no_command}
use Rattle.refutation.specs.Lines.{published_in}
use Rattle.refutation.specs.Told.{is_inside, told_ticket, told_units, told_verdict}
use Rattle.refutation.proofs.NamedEffects.{EffectBy, effect_of, entries_of}
use Rattle.trace.specs.declared.seen.Seen.{Seen}

-- ---- a ticket whose units there are passed its checks

pub some_op : (c : ConfigNumbers) (k : Ticket) (u : ℕ) (r : Range) → slice_get (units c k) u ≡ Some r
    → (o : Op) × (op k ≡ Some o)
some_op c k u r h = go (op k) refl
  where
    go : (x : Option Op) → op k ≡ x → (o : Op) × (x ≡ Some o)
    go (Some o) e = (o, refl)
    go None e =
        let n : slice_get (units_by c.atomic None (slba (first_fields k)) (block_count (first_fields k))) u ≡ Some r =
        subst (λ (x : Option Op).
        slice_get (units_by c.atomic x (slba (first_fields k)) (block_count (first_fields k))) u ≡ Some r) e h in
        absurd (let f : None ≡ Some r = n in cc)

pub op_passed : (v : Verdict) (e : Sqe) (o : Op) → op_by v e ≡ Some o → passed v ≡ true
op_passed Verdict.Single e o h = refl
op_passed Verdict.Pair e o h = refl
op_passed (Verdict.SingleFailed s) e o h = absurd (let f : None ≡ Some o = h in cc)
op_passed (Verdict.PairFailed s r) e o h = absurd (let f : None ≡ Some o = h in cc)

told_passed : (v : Verdict) (a b : Submission) → passed v ≡ true → VerdictIs v a b → told_verdict (fuse a) ≡ v
told_passed Verdict.Single a b p k =
    cond-false (eqb (fuse a) 1) Verdict.Pair _ k.0 ∙ cond-false (eqb (fuse a) 2) _ Verdict.Single k.1
told_passed Verdict.Pair a b p k = cond-true (eqb (fuse a) 1) Verdict.Pair _ k.first
told_passed (Verdict.SingleFailed s) a b p k = clash false p refl
told_passed (Verdict.PairFailed s r) a b p k = clash false p refl

two_taken : (v : Verdict) (e : Sqe) → is_pair (op_by v e) ≡ true → taken_entries v ≡ 2
two_taken Verdict.Pair e p = refl
two_taken Verdict.Single e p = clash (is_pair (op_of_fields e)) p (not_pair e)
two_taken (Verdict.SingleFailed x) e p = clash false p refl
two_taken (Verdict.PairFailed x y) e p = refl

pub pair_takes_two : (k : Ticket) → is_pair (op k) ≡ true → taken_entries k.verdict ≡ 2
pair_takes_two k p = two_taken k.verdict (first_fields k) p

-- ---- two tickets that do the same

pub record IsAlike (k m : Ticket) : Type 0 where
  pub op : op k ≡ op m
  pub first : command k 0 ≡ command m 0
  pub second : Operations.op k ≡ Some Op.Pair → command k 1 ≡ command m 1

pub same_units : (c : ConfigNumbers) (k m : Ticket) → IsAlike k m → units c k ≡ units c m
same_units c k m h =
    ap₂ (λ (o : Option Op) (s : Submission).
    units_by c.atomic o (slba (sqe_fields s.entry)) (block_count (sqe_fields s.entry))) h.op h.first

abbrev block_of : Submission → Submission → ℕ → List ℕ
block_of a b l = take 512 (drop (512 * (l - slba (sqe_fields a.entry))) b.payload)

pub same_compared : (k m : Ticket) (l : ℕ) → IsAlike k m → compare_data k l ≡ compare_data m l
same_compared k m l h = ap (λ (s : Submission). block_of s s l) h.first

pub same_written : (k m : Ticket) (l : ℕ) → IsAlike k m → write_data k l ≡ write_data m l
same_written k m l h = go (op k) refl ∙ ap (λ (o : Option Op). write_data_by o m l) h.op
  where
    go : (o : Option Op) → op k ≡ o → write_data_by o k l ≡ write_data_by o m l
    go (Some Op.WriteZeroes) e = refl
    go (Some Op.Pair) e = ap₂ (λ (a b : Submission). block_of a b l) h.first (h.second e)
    go (Some Op.Write) e = same_compared k m l h
    go (Some Op.Read) e = same_compared k m l h
    go (Some Op.Compare) e = same_compared k m l h
    go None e = same_compared k m l h

pub same_equal : (contents : ℕ → List ℕ) (k m : Ticket) (r : Range) → IsAlike k m
    → all_equal contents k r ≡ all_equal contents m r
same_equal contents k m r h =
    ap (λ (s : Submission). list_all (λ l. bytes_eq (contents l) (block_of s s l)) (blocks_from r.slba r.blocks))
    h.first

pub same_writes : (contents : ℕ → List ℕ) (k m : Ticket) (r : Range) → IsAlike k m
    → writes contents k r ≡ writes contents m r
same_writes contents k m r h =
    ap₂ (λ (o : Option Op) (x : Bool). has_write o && (not (has_compare o) || x)) h.op (same_equal contents k m r h)

-- ---- units in the volume

pub inside_units : (c : ConfigNumbers) (trace : List Seen) (q j : ℕ) → is_inside c (told_ticket trace q j) ≡ true
    → told_units c trace q j ≡ units c (told_ticket trace q j)
inside_units c trace q j e =
    cond-true (is_inside c (told_ticket trace q j)) (units c (told_ticket trace q j)) [] e

-- a command that has a unit has those of its entry
pub unit_inside : (c : ConfigNumbers) (trace : List Seen) (q j u : ℕ) (r : Range)
    → slice_get (told_units c trace q j) u ≡ Some r → told_units c trace q j ≡ units c (told_ticket trace q j)
unit_inside c trace q j u r h = go (is_inside c (told_ticket trace q j)) refl h
  where
    go : (b : Bool) → is_inside c (told_ticket trace q j) ≡ b
        → slice_get (cond b (units c (told_ticket trace q j)) []) u ≡ Some r
        → told_units c trace q j ≡ units c (told_ticket trace q j)
    go true e f = inside_units c trace q j e
    go false e f = absurd (let z : None ≡ Some r = f in cc)

pub unit_of_entry : (c : ConfigNumbers) (trace : List Seen) (q j u : ℕ) (r : Range)
    → slice_get (told_units c trace q j) u ≡ Some r → slice_get (units c (told_ticket trace q j)) u ≡ Some r
unit_of_entry c trace q j u r h = ap (λ (xs : List Range). slice_get xs u) (sym (unit_inside c trace q j u r h)) ∙ h

pub one_inside : (c : ConfigNumbers) (trace : List Seen) (q j : ℕ) → length (told_units c trace q j) ≡ 1
    → length (units c (told_ticket trace q j)) ≡ 1
one_inside c trace q j h = go (is_inside c (told_ticket trace q j)) h
  where
    go : (b : Bool) → length (cond b (units c (told_ticket trace q j)) []) ≡ 1
        → length (units c (told_ticket trace q j)) ≡ 1
    go true f = f
    go false f = absurd (omega (arith, f))

-- ---- the ticket of an effect

pub record ToldEffect (c : ConfigNumbers) (trace : List Seen) (q j u : ℕ) (before : Past) (b : BlockLine) : Type 0 where
  pub alike : IsAlike (Tickets.ticket before b.ticket) (told_ticket trace q j)
  pub range : slice_get (told_units c trace q j) u ≡ Some (unit_range before b.ticket b.unit)
  pub some : (o : Op) × (op (told_ticket trace q j) ≡ Some o)
  pub passed : passed (Tickets.ticket before b.ticket).verdict ≡ true

pub told_effect : (c : ConfigNumbers) (past : Past) (trace : List Seen) (q j u : ℕ) (before : Past)
    (at : EffectBy past q j u before) → IsLegal c past → published_entries past q ≡ published_in trace q
    → ToldEffect c trace q j u before at.block
told_effect c past trace q j u before at h same =
    let f = effect_of c past q j u before at h in
    let s = entries_of c past q j u before at f in
    let b = at.block in
    let k = Tickets.ticket before b.ticket in
    let m = told_ticket trace q j in
    let range : slice_get (units c k) u ≡ Some (unit_range before b.ticket b.unit) =
    subst (λ (i : ℕ). slice_get (units c k) i ≡ Some (unit_range before b.ticket b.unit)) f.says.unit
    (block_facts c before b f.legal).range in
    let o = some_op c k u (unit_range before b.ticket b.unit) range in
    let ok = op_passed k.verdict (first_fields k) o.0 o.1 in
    let first : command k 0 ≡ command m 0 =
    sym (get_or_from_slice_get (published_in trace q) j (command k 0) no_command
    (subst (λ (xs : List Submission). slice_get xs j ≡ Some (command k 0)) same s.first)) in
    let verdict : m.verdict ≡ k.verdict =
    ap (λ (x : Submission). told_verdict (fuse x)) (sym first)
    ∙ told_passed k.verdict (command k 0) (command k 1) ok s.verdict in
    let alike : IsAlike k m = record {
      op = ap₂ (λ (v : Verdict) (x : Submission). op_by v (sqe_fields x.entry)) (sym verdict) first;
      first = first;
      second = λ p. sym (get_or_from_slice_get (published_in trace q) (suc j) (command k 1) no_command
          (subst (λ (xs : List Submission). slice_get xs (suc j) ≡ Some (command k 1)) same
          (s.second (pair_takes_two k (ap is_pair p)))));
    } in
    let legal : IsLegal c before = earlier c (Entry.Block b ∷ []) before f.legal in
    let within : is_inside c m ≡ true =
    le-leb (slba (first_fields m) + block_count (first_fields m)) c.blocks
    (subst (λ (s : Submission). slba (sqe_fields s.entry) + block_count (sqe_fields s.entry) ≤ c.blocks) first
    (ticket_checked c before b.ticket legal (ap is_some o.1)).first.inside) in
    record {
      alike = alike;
      range = ap (λ (xs : List Range). slice_get xs u)
          (inside_units c trace q j within ∙ sym (same_units c k m alike))
          ∙ range;
      some = (o.0, sym alike.op ∙ o.1);
      passed = ok;
    }

-- what a block is after an effect
pub value_after : (c : ConfigNumbers) (trace : List Seen) (q j u : ℕ) (before : Past) (b : BlockLine) (l : ℕ)
    → b.effect ≡ true → ToldEffect c trace q j u before b
    → value (Entry.Block b ∷ before) l
    ≡ cond (has_block (unit_range before b.ticket b.unit) l
    && writes (value before) (told_ticket trace q j) (unit_range before b.ticket b.unit))
    (write_data (told_ticket trace q j) l) (value before l)
value_after c trace q j u before b l e f =
    let k = Tickets.ticket before b.ticket in
    let r = unit_range before b.ticket b.unit in
    ap (λ (x : Bool). cond (x && has_block r l && writes (value before) k r) (write_data k l) (value before l)) e
    ∙ ap₂ (λ (x : Bool) (d : List ℕ). cond (has_block r l && x) d (value before l))
    (same_writes (value before) k (told_ticket trace q j) r f.alike)
    (same_written k (told_ticket trace q j) l f.alike)
