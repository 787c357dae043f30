-- What a ticket that passed its checks has: its range, and the data beside its commands.
use Rattle.std.proofs.Common.{◌≡◌, ℕ, ◌+◌, ◌≤◌, Bool, true, false, not, ◌&&◌, cond, List, [], ◌∷◌, map, take, refl}
use Rattle.std.proofs.Common.{ap, Option, Some, None, is_some, is_none, inl, inr, arith, eqb, eqb-true, ne_eqb}
use Rattle.std.proofs.Common.{ltb-false}
use Rattle.std.proofs.lemmas.Bool.{and_parts, cases_Bool, not-false}
use Rattle.nvme_model.specs.declared.config.AtomicParameters.{AtomicParameters}
use Rattle.nvme_model.specs.declared.config.ConfigNumbers.{ConfigNumbers}
use Rattle.nvme_model.specs.EntryBytes.{Sqe, sqe_fields, slba, block_count}
use Rattle.nvme_model.specs.Commands.{is_flush, is_write, is_read, is_compare, is_write_zeroes, data_length}
use Rattle.nvme_model.specs.Statuses.{missing_fused}
use Rattle.nvme_model.specs.Cells.{pair_fits}
use Rattle.nvme_model.specs.Verdict.{Item, item_of, command_faults, pair_faults, command_fault, pair_fault, of_command}
use Rattle.nvme_model.specs.Verdict.{of_pair, pair_verdict, verdict_of, taken_entries, same_verdict}
use Rattle.nvme_model.specs.History.{Past}
use Rattle.nvme_model.specs.Queues.{waiting}
use Rattle.nvme_model.specs.Tickets
use Rattle.nvme_model.specs.Tickets.{Ticket, command, fetched_ticket, cids_in_use}
use Rattle.nvme_model.specs.Operations.{op, op_of_fields, is_pair}
use Rattle.nvme_model.specs.Legal.{IsLegal}
use Rattle.nvme_model.specs.declared.operation.Op.{Op}
use Rattle.nvme_model.specs.declared.status.Status.{Status}
use Rattle.nvme_model.specs.declared.status.Verdict.{Verdict}
use Rattle.nvme_model.specs.declared.submission.Submission.{Submission}
use Rattle.nvme_model.specs.declared.entry.Entry.{Entry}
use Rattle.nvme_model.proofs.Rules.{follows, none_holds}
use Rattle.nvme_model.proofs.NextPost.{not_pair}
use Rattle.nvme_model.proofs.Cut.{clash}

-- ---- one command that passed its checks

-- its range lies in the volume, it is not too long, and its data has its length
pub record Checked (size : ℕ) (i : Item) : Type 0 where
  pub inside : slba i.fields + block_count i.fields ≤ size
  pub few : block_count i.fields ≤ 256
  pub payload : i.length ≡ data_length i.fields

op_not_flush : (e : Sqe) → is_some (op_of_fields e) ≡ true → is_flush e ≡ false
op_not_flush e h = elim (cases_Bool (is_flush e)) [
  | inl f ↦ let z = eqb-true e.opcode 0 f in
      clash _ h (none (is_write e) (is_read e) (is_compare e) (is_write_zeroes e) (other 1 z (omega arith))
      (other 2 z (omega arith)) (other 5 z (omega arith)) (other 8 z (omega arith)))
  | inr f ↦ f
]
  where
    other : (n : ℕ) → e.opcode ≡ 0 → 1 ≤ n → eqb e.opcode n ≡ false
    other n z l = ne_eqb e.opcode n (λ (q : e.opcode ≡ n). omega (arith, q, z, l))

    none : (w r m z : Bool) → w ≡ false → r ≡ false → m ≡ false → z ≡ false
        → is_some (cond w (Some Op.Write)
        (cond r (Some Op.Read) (cond m (Some Op.Compare) (cond z (Some Op.WriteZeroes) None)))) ≡ false
    none false false false false a b d e = refl
    none true r m z a b d e = clash true refl a
    none false true m z a b d e = clash true refl b
    none false false true z a b d e = clash true refl d
    none false false false true a b d e = clash true refl e

unless_flush : (x y : Bool) → x ≡ false → (not x && y) ≡ false → y ≡ false
unless_flush false true f g = g
unless_flush false false f g = refl
unless_flush true y f g = clash true refl f

command_checked : (size : ℕ) (in_use : List ℕ) (i : Item) → command_fault size in_use i ≡ None
    → is_flush i.fields ≡ false → Checked size i
command_checked size in_use i e f =
    let rows = none_holds (command_faults size in_use i) (ap is_none e) in
    record {
      inside = ltb-false size _ (unless_flush (is_flush i.fields) _ f rows.1.1.1.1.1.0);
      few = ltb-false 256 _ (unless_flush (is_flush i.fields) _ f rows.1.1.1.1.0);
      payload = eqb-true _ _ (not-false _ rows.1.1.1.1.1.1.0);
    }

-- ---- a pair that passed its checks

pub record PairChecked (u : AtomicParameters) (size : ℕ) (i j : Item) : Type 0 where
  pub compare : is_compare i.fields ≡ true
  pub write : is_write j.fields ≡ true
  pub first : Checked size i
  pub second : Checked size j
  pub start : slba i.fields ≡ slba j.fields
  pub length : block_count i.fields ≡ block_count j.fields
  pub fits : pair_fits u (slba i.fields) (block_count i.fields) ≡ true

none_of : (o : Option Status) → is_some o ≡ false → o ≡ None
none_of None q = refl
none_of (Some s) q = clash true refl q

opcode_not : (e : Sqe) (n : ℕ) → eqb e.opcode n ≡ true → 1 ≤ n → is_flush e ≡ false
opcode_not e n m l = ne_eqb e.opcode 0 (λ (q : e.opcode ≡ 0). omega (arith, q, eqb-true e.opcode n m, l))

pair_checked : (u : AtomicParameters) (size : ℕ) (in_use : List ℕ) (first second : Item)
    → pair_fault u size in_use first second ≡ None → PairChecked u size first second
pair_checked u size in_use first second e =
    let rows = none_holds (pair_faults u size in_use first second) (ap is_none e) in
    let ops = and_parts _ _ (not-false _ rows.0) in
    let same = and_parts _ _ (not-false _ rows.1.1.1.1.0) in
    record {
      compare = ops.0;
      write = ops.1;
      first = command_checked size in_use first (none_of _ rows.1.1.0) (opcode_not first.fields 5 ops.0 (omega arith));
      second = command_checked size in_use second (none_of _ rows.1.1.1.0)
          (opcode_not second.fields 1 ops.1 (omega arith));
      start = eqb-true _ _ same.0;
      length = eqb-true _ _ same.1;
      fits = not-false _ rows.1.1.1.1.1.0;
    }

-- ---- what the verdict says

single_is : (v : Verdict) → same_verdict Verdict.Single v ≡ true → v ≡ Verdict.Single
single_is Verdict.Single h = refl
single_is (Verdict.SingleFailed s) h = clash false h refl
single_is Verdict.Pair h = clash false h refl
single_is (Verdict.PairFailed s r) h = clash false h refl

pair_is : (v : Verdict) → same_verdict Verdict.Pair v ≡ true → v ≡ Verdict.Pair
pair_is Verdict.Pair h = refl
pair_is Verdict.Single h = clash false h refl
pair_is (Verdict.SingleFailed s) h = clash false h refl
pair_is (Verdict.PairFailed s r) h = clash false h refl

abbrev is_single : Verdict → Bool
is_single Verdict.Single = true
is_single _ = false

abbrev is_passed_pair : Verdict → Bool
is_passed_pair Verdict.Pair = true
is_passed_pair _ = false

of_pair_single : (o : Option (Status × Status)) → is_single (of_pair o) ≡ false
of_pair_single None = refl
of_pair_single (Some s) = refl

pair_verdict_single : (c : AtomicParameters) (size : ℕ) (in_use : List ℕ) (first : Item) (rest : List Item)
    → is_single (pair_verdict c size in_use first rest) ≡ false
pair_verdict_single c size in_use first [] = refl
pair_verdict_single c size in_use first (second ∷ rest) = go (eqb second.fields.fuse 2)
  where
    go : (x : Bool) → is_single
        (cond x (of_pair (pair_fault c size in_use first second)) (Verdict.SingleFailed missing_fused)) ≡ false
    go true = of_pair_single (pair_fault c size in_use first second)
    go false = refl

of_command_single : (o : Option Status) → is_single (of_command o) ≡ true → o ≡ None
of_command_single None h = refl
of_command_single (Some s) h = clash false h refl

of_command_pair : (o : Option Status) → is_passed_pair (of_command o) ≡ false
of_command_pair None = refl
of_command_pair (Some s) = refl

of_pair_pair : (o : Option (Status × Status)) → is_passed_pair (of_pair o) ≡ true → o ≡ None
of_pair_pair None h = refl
of_pair_pair (Some s) h = clash false h refl

single_fault : (c : AtomicParameters) (size : ℕ) (in_use : List ℕ) (first : Item) (rest : List Item)
    → is_single (verdict_of c size in_use (first ∷ rest)) ≡ true → command_fault size in_use first ≡ None
single_fault c size in_use first rest h = go (eqb first.fields.fuse 1) (eqb first.fields.fuse 2) h
  where
    go : (x y : Bool) → is_single
        (cond x (pair_verdict c size in_use first rest)
        (cond y (Verdict.SingleFailed missing_fused) (of_command (command_fault size in_use first)))) ≡ true
        → command_fault size in_use first ≡ None
    go true y h = clash _ h (pair_verdict_single c size in_use first rest)
    go false true h = clash false h refl
    go false false h = of_command_single (command_fault size in_use first) h

-- the first two items are a pair that passed
abbrev pub PairAt : AtomicParameters → ℕ → List Item → Type 0
PairAt u size [] = ⊥
PairAt u size (first ∷ []) = ⊥
PairAt u size (first ∷ (second ∷ rest)) = PairChecked u size first second

pair_at : (u : AtomicParameters) (size : ℕ) (in_use : List ℕ) (items : List Item)
    → is_passed_pair (verdict_of u size in_use items) ≡ true → PairAt u size items
pair_at u size in_use [] h = clash false h refl
pair_at u size in_use (first ∷ rest) h = go (eqb first.fields.fuse 1) (eqb first.fields.fuse 2) h
  where
    by_rest : (rest : List Item) → is_passed_pair (pair_verdict u size in_use first rest) ≡ true
        → PairAt u size (first ∷ rest)
    by_rest [] h = clash false h refl
    by_rest (second ∷ rest) h = by_fuse (eqb second.fields.fuse 2) h
      where
        by_fuse : (x : Bool) → is_passed_pair
            (cond x (of_pair (pair_fault u size in_use first second)) (Verdict.SingleFailed missing_fused)) ≡ true
            → PairChecked u size first second
        by_fuse true h = pair_checked u size in_use first second
            (of_pair_pair (pair_fault u size in_use first second) h)
        by_fuse false h = clash false h refl

    go : (x y : Bool) → is_passed_pair
        (cond x (pair_verdict u size in_use first rest)
        (cond y (Verdict.SingleFailed missing_fused) (of_command (command_fault size in_use first)))) ≡ true
        → PairAt u size (first ∷ rest)
    go true y h = by_rest rest h
    go false true h = clash false h refl
    go false false h = clash _ h (of_command_pair (command_fault size in_use first))

-- ---- a ticket that passed its checks, and does something with blocks

pub record TicketChecked (c : ConfigNumbers) (k : Ticket) : Type 0 where
  pub first : Checked c.blocks (item_of (command k 0))
  pub pair : is_pair (op k) ≡ true → PairChecked c.atomic c.blocks (item_of (command k 0)) (item_of (command k 1))

abbrev IsChecked : ConfigNumbers → Ticket → Type 0
IsChecked c k = is_some (op k) ≡ true → TicketChecked c k

by_verdict : (c : ConfigNumbers) (in_use : List ℕ) (q : ℕ) (ws : List Submission) (v : Verdict)
    → same_verdict v (verdict_of c.atomic c.blocks in_use (map item_of ws)) ≡ true
    → IsChecked c (record { queue = q; commands = take (taken_entries v) ws; verdict = v })
by_verdict c in_use q ws (Verdict.SingleFailed s) e h = clash false h refl
by_verdict c in_use q ws (Verdict.PairFailed s r) e h = clash false h refl
by_verdict c in_use q [] Verdict.Single e h = clash false h refl
by_verdict c in_use q (first ∷ rest) Verdict.Single e h =
    record {
      first = command_checked c.blocks in_use (item_of first)
          (single_fault c.atomic c.blocks in_use (item_of first) (map item_of rest) (ap is_single (single_is _ e)))
          (op_not_flush (sqe_fields first.entry) h);
      pair = λ p. clash _ p (not_pair (sqe_fields first.entry));
    }
by_verdict c in_use q ws Verdict.Pair e h =
    go ws (pair_at c.atomic c.blocks in_use (map item_of ws) (ap is_passed_pair (pair_is _ e)))
  where
    go : (ws : List Submission) → PairAt c.atomic c.blocks (map item_of ws)
        → TicketChecked c (record {
          queue = q;
          commands = take (taken_entries Verdict.Pair) ws;
          verdict = Verdict.Pair;
        })
    go [] p = absurd p
    go (first ∷ []) p = absurd p
    go (first ∷ (second ∷ rest)) p = record { first = p.first; pair = λ x. p }

pub ticket_checked : (c : ConfigNumbers) (past : Past) (t : ℕ) → IsLegal c past
    → is_some (op (Tickets.ticket past t)) ≡ true → TicketChecked c (Tickets.ticket past t)
ticket_checked c [] t h = λ e. clash false e refl
ticket_checked c (Entry.Fetch f ∷ past) t h =
    let p = follows c past (Entry.Fetch f) h in
    go (eqb f.ticket t) (by_verdict c (cids_in_use past f.queue) f.queue (waiting past f.queue) f.verdict
    (and_parts _ _ p.fits).1) (ticket_checked c past t p.before)
  where
    go : (b : Bool) → IsChecked c (fetched_ticket past f.queue f.verdict) → IsChecked c (Tickets.ticket past t)
        → IsChecked c (cond b (fetched_ticket past f.queue f.verdict) (Tickets.ticket past t))
    go true a b = a
    go false a b = b
ticket_checked c (e ∷ past) t h = ticket_checked c past t (follows c past e h).before
