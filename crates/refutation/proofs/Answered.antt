-- What an answered command's effects say.
use Rattle.nvme_model.specs.Answered
use Rattle.nvme_model.specs.EntryBytes
use Rattle.nvme_model.specs.Operations
use Rattle.nvme_model.specs.Tickets
use Rattle.std.proofs.Common.{◌≡◌, ℕ, zero, suc, ◌+◌, ◌≤◌, ◌<◌, Bool, true, false, not, ◌||◌, List, [], ◌∷◌, ◌++◌}
use Rattle.std.proofs.Common.{length, refl, sym, ap, ◌∙◌, subst, subst₂, Option, Some, None, is_some, inl, inr}
use Rattle.std.proofs.Common.{arith, eqb, slice_get}
use Rattle.std.specs.List.{list_all, list_any}
use Rattle.std.proofs.lemmas.Bool.{and_parts, cases_lt, cond-true, cond-false}
use Rattle.std.proofs.lemmas.Option.{get_or_from_slice_get}
use Rattle.nvme_model.specs.Answered.{says_no}
use Rattle.nvme_model.specs.EntryBytes.{sqe_fields}
use Rattle.nvme_model.specs.History.{Past}
use Rattle.nvme_model.specs.Legal.{IsLegal}
use Rattle.nvme_model.specs.Open.{grants_of, unit_range}
use Rattle.nvme_model.specs.Operations.{has_compare, is_pair, op, op_by, op_of_fields, units}
use Rattle.nvme_model.specs.Owed.{completion_data, numbered_units}
use Rattle.nvme_model.specs.Placed.{effect}
use Rattle.nvme_model.specs.Queues.{published_entries}
use Rattle.nvme_model.specs.Slots.{fetched_before}
use Rattle.nvme_model.specs.Statuses.{compare_failure, is_success, same_status, success}
use Rattle.nvme_model.specs.Tickets.{Ticket, command, first_fields, tickets}
use Rattle.nvme_model.specs.Value.{all_equal, value}
use Rattle.nvme_model.specs.Verdict.{passed, taken_entries}
use Rattle.nvme_model.specs.declared.array.Range.{Range}
use Rattle.nvme_model.specs.declared.config.ConfigNumbers.{ConfigNumbers}
use Rattle.nvme_model.specs.declared.entry.Entry.{Entry}
use Rattle.nvme_model.specs.declared.entry.PostLine.{PostLine}
use Rattle.nvme_model.specs.declared.operation.Op.{Op}
use Rattle.nvme_model.specs.declared.status.Verdict.{Verdict}
use Rattle.nvme_model.specs.declared.submission.Submission.{Submission}
use Rattle.nvme_model.proofs.Beginnings.{earlier}
use Rattle.nvme_model.proofs.Cut.{clash}
use Rattle.nvme_model.proofs.TakenEntries.{taken_two}
use Rattle.host_laws.specs.Calls.{IsDone, cqe_status, reaped_post}
use Rattle.host_laws.specs.Calls.{says_yes, takes, yes_at}
use Rattle.host_laws.proofs.Calls.{second_fuse, takes_parts}
use Rattle.host_laws.proofs.Elements.{same_some}
use Rattle.host_laws.proofs.FailedCalls.{failed_checks}
use Rattle.host_laws.proofs.Later.{block_facts, effect_at, grants_later, range_at, some_effect}
use Rattle.host_laws.proofs.PairCalls.{first_swaps, pair_differs}
use Rattle.host_laws.proofs.PostedAnswers.{reaped_posted_at}
use Rattle.host_laws.proofs.Reaps.{entry_is}
use Rattle.host_laws.proofs.SingleCalls.{compare_differs, done, only_compares}
use Rattle.host_laws.proofs.Taken.{ticket_taken}
use Rattle.host_laws.proofs.TicketsApart.{one_ticket}
use Rattle.host_laws.proofs.Units.{equal_units}
use Rattle.host_laws.proofs.Verdicts.{fuse, no_command, no_pair, one_not_two, status_eq}
use Rattle.trace.specs.Observed.{observed}
use Rattle.trace.specs.declared.seen.ReapedLine.{ReapedLine}
use Rattle.trace.specs.declared.seen.Seen.{Seen}
use Rattle.refutation.specs.Effects.{effect_by}
use Rattle.refutation.specs.Lines.{answer_in, published_in}
use Rattle.refutation.specs.Told.{told_ticket, told_units, told_verdict}
use Rattle.refutation.proofs.Lines.{answer_post, published_seen, tidy_on}
use Rattle.ticket_laws.proofs.Later.{tickets_later}
use Rattle.refutation.proofs.NamedEffects.{NumberedTicket, by_effect, effect_of}
use Rattle.refutation.proofs.ToldTickets.{IsAlike, one_inside, same_units, told_effect, unit_of_entry}

-- ---- the entry that is answered

pub record AnsweredEntry (c : ConfigNumbers) (past : Past) (q j : ℕ) (r : ReapedLine) : Type 0 where
  pub post : PostLine
  pub reaped : reaped_post c past q j ≡ Some post
  pub cqe : post.cqe ≡ r.cqe
  pub payload : post.payload ≡ r.payload
  pub entry : Submission
  pub published : slice_get (published_entries past q) j ≡ Some entry
  pub told : command (told_ticket (observed c past) q j) 0 ≡ entry

pub answered_entry : (c : ConfigNumbers) (past : Past) (q j : ℕ) (r : ReapedLine) → IsLegal c past
    → tidy_on q (observed c past) ≡ true → answer_in (observed c past) q j ≡ Some r → AnsweredEntry c past q j r
answered_entry c past q j r h d e =
    let a = answer_post c past q j r h d e in
    let s = entry_is c past q j a.0 h (reaped_posted_at c past q j a.0 a.1) in
    record {
      post = a.0;
      reaped = a.1;
      cqe = a.2;
      payload = a.3;
      entry = s.entry;
      published = s.published;
      told = get_or_from_slice_get (published_in (observed c past) q) j s.entry no_command
          (subst (λ (xs : List Submission). slice_get xs j ≡ Some s.entry) (published_seen c past q) s.published);
    }

-- a ticket that takes an entry which isn't a pair's second begins with it
pub begins_with : (c : ConfigNumbers) (past : Past) (t q j : ℕ) (s : Submission) → IsLegal c past
    → takes past t q j ≡ true → slice_get (published_entries past q) j ≡ Some s → eqb (fuse s) 2 ≡ false
    → NumberedTicket past t q j
begins_with c past t q j s h k e two =
    let x = takes_parts past t q j k in
    let n = Tickets.ticket past t in
    let taken = ticket_taken c past t h x.some x.known in
    elim (cases_lt (fetched_before past t) j) [
      | inr l ↦ record { queue = x.queue; number = omega (arith, l, x.low) }
      | inl l ↦
          let next : suc (fetched_before past t) ≡ j = omega (arith, l, x.high, taken_two n.verdict) in
          let both : taken_entries n.verdict ≡ 2 = omega (arith, l, x.high, taken_two n.verdict) in
          let there : slice_get (published_entries past q) j ≡ Some (command n 1) =
          subst₂ (λ (a b : ℕ). slice_get (published_entries past a) b ≡ Some (command n 1)) x.queue next
          (taken.second both) in
          clash (eqb (fuse s) 2)
          (second_fuse n.verdict (command n 0) (command n 1) s both taken.verdict
          (same_some (command n 1) s (slice_get (published_entries past q) j) there e)) two
    ]

-- ---- the ticket of an answered command

pub record TicketOf (c : ConfigNumbers) (past : Past) (q j : ℕ) : Type 0 where
  pub ticket : ℕ
  pub numbered : NumberedTicket past ticket q j
  pub alike : IsAlike (Tickets.ticket past ticket) (told_ticket (observed c past) q j)

-- the range of a unit that has its effect
pub range_of_effect : (c : ConfigNumbers) (past : Past) (t u : ℕ) (before : Past) → IsLegal c past
    → effect past t u ≡ Some before → slice_get (units c (Tickets.ticket past t)) u ≡ Some (unit_range past t u)
range_of_effect c past t u before h e =
    let at = effect_at past t u before e in
    let all : IsLegal c (at.later ++ (Entry.Block at.block ∷ before)) = subst (λ (p : Past). IsLegal c p) at.is h in
    let legal = earlier c at.later (Entry.Block at.block ∷ before) all in
    let facts = block_facts c before at.block legal in
    let number : u < grants_of past t =
    subst (λ (p : Past). u < grants_of p t) (sym at.is)
    (grants_later at.later (Entry.Block at.block ∷ before) t u
    (subst₂ (λ (x y : ℕ). y < grants_of before x) at.ticket at.unit facts.number)) in
    range_at c past t u h number

pub told_range : (c : ConfigNumbers) (past : Past) (q j u : ℕ) (before : Past) (r : Range) (k : TicketOf c past q j)
    → IsLegal c past → effect past k.ticket u ≡ Some before
    → slice_get (told_units c (observed c past) q j) u ≡ Some r → unit_range past k.ticket u ≡ r
told_range c past q j u before r k h e f =
    same_some (unit_range past k.ticket u) r (slice_get (units c (told_ticket (observed c past) q j)) u)
    (ap (λ (xs : List Range). slice_get xs u)
    (sym (same_units c (Tickets.ticket past k.ticket) (told_ticket (observed c past) q j) k.alike))
    ∙ range_of_effect c past k.ticket u before h e) (unit_of_entry c (observed c past) q j u r f)

-- ---- what the entry does

told_by : Submission → Option Op
told_by s = op_by (told_verdict (fuse s)) (sqe_fields s.entry)

told_is : (s : Submission) → told_by s ≡ op_by (told_verdict (fuse s)) (sqe_fields s.entry)
unfolding told_by
told_is s = refl

told_pair : (s : Submission) → eqb (fuse s) 1 ≡ true → told_by s ≡ Some Op.Pair
told_pair s one =
    told_is s ∙ ap (λ (v : Verdict). op_by v (sqe_fields s.entry)) (cond-true (eqb (fuse s) 1) Verdict.Pair _ one)

told_second : (s : Submission) → eqb (fuse s) 1 ≡ false → eqb (fuse s) 2 ≡ true → told_by s ≡ None
told_second s one two =
    told_is s ∙ ap (λ (v : Verdict). op_by v (sqe_fields s.entry))
    (cond-false (eqb (fuse s) 1) Verdict.Pair _ one ∙ cond-true (eqb (fuse s) 2) _ Verdict.Single two)

told_single : (s : Submission) → eqb (fuse s) 1 ≡ false → eqb (fuse s) 2 ≡ false
    → told_by s ≡ op_of_fields (sqe_fields s.entry)
told_single s one two =
    told_is s ∙ ap (λ (v : Verdict). op_by v (sqe_fields s.entry))
    (cond-false (eqb (fuse s) 1) Verdict.Pair _ one ∙ cond-false (eqb (fuse s) 2) _ Verdict.Single two)

-- by its FUSE
pub data Kind (s : Submission) (o : Op) : Type 0 where
  pair : eqb (fuse s) 1 ≡ true → o ≡ Op.Pair → Kind s o
  single : eqb (fuse s) 1 ≡ false → eqb (fuse s) 2 ≡ false → op_of_fields (sqe_fields s.entry) ≡ Some o
      → is_pair (Some o) ≡ false → Kind s o

kind_by : (s : Submission) (o : Op) → told_by s ≡ Some o → Kind s o
kind_by s o e = go (eqb (fuse s) 1) refl (eqb (fuse s) 2) refl
  where
    go : (x : Bool) → eqb (fuse s) 1 ≡ x → (y : Bool) → eqb (fuse s) 2 ≡ y → Kind s o
    go true one y two = Kind.pair one (same_some o Op.Pair (told_by s) e (told_pair s one))
    go false one true two = absurd (let f : Some o ≡ None = sym e ∙ told_second s one two in cc)
    go false one false two =
        let f : op_of_fields (sqe_fields s.entry) ≡ Some o = sym (told_single s one two) ∙ e in
        Kind.single one two f (no_pair s o f)

pub kind_of : (trace : List Seen) (q j : ℕ) (s : Submission) (o : Op) → command (told_ticket trace q j) 0 ≡ s
    → op (told_ticket trace q j) ≡ Some o → Kind s o
kind_of trace q j s o e f = kind_by s o (ap told_by (sym e) ∙ (told_is (command (told_ticket trace q j) 0) ∙ f))

-- ---- effects that say yes or no

pub yes_before : (o : Option Past) (k : Ticket) (r : Range) → yes_at o k r ≡ true
    → (before : Past) × (o ≡ Some before) × (all_equal (value before) k r ≡ true)
yes_before None k r h = absurd (let f : false ≡ true = h in cc)
yes_before (Some before) k r h = (before, refl, (and_parts (has_compare (op k)) _ h).1)

pub no_before : (past : Past) (t u : ℕ) → says_no past t u ≡ true
    → (before : Past) × (effect past t u ≡ Some before)
    × (all_equal (value before) (Tickets.ticket past t) (unit_range past t u) ≡ false)
no_before past t u h = go (effect past t u) h
  where
    go : (o : Option Past) → Answered.no_at o (Tickets.ticket past t) (unit_range past t u) ≡ true
        → (before : Past) × (o ≡ Some before)
        × (all_equal (value before) (Tickets.ticket past t) (unit_range past t u) ≡ false)
    go None n = absurd (let f : false ≡ true = n in cc)
    go (Some before) n = (before, refl, flipped _ (and_parts (has_compare (op (Tickets.ticket past t))) _ n).1)
      where
        flipped : (b : Bool) → not b ≡ true → b ≡ false
        flipped true m = absurd (let f : false ≡ true = m in cc)
        flipped false m = refl

-- ---- units by their numbers

pub numbered_all : (P : ℕ × Range → Bool) (n i k : ℕ) (r : Range) (xs : List Range)
    → list_all P (numbered_units n xs) ≡ true → slice_get xs i ≡ Some r → k ≡ n + i → P (k, r) ≡ true
numbered_all P n i k r [] a e m = absurd (let f : None ≡ Some r = e in cc)
numbered_all P n zero k r (x ∷ xs) a e m =
    let place : n ≡ k = omega (arith, m) in
    subst₂ (λ (y : ℕ) (z : Range). P (y, z) ≡ true) place (same_some x r (Some x) refl e)
    (and_parts (P (n, x)) (list_all P (numbered_units (suc n) xs)) a).0
numbered_all P n (suc i) k r (x ∷ xs) a e m =
    numbered_all P (suc n) i k r xs (and_parts (P (n, x)) (list_all P (numbered_units (suc n) xs)) a).1 e
    (omega (arith, m))

numbered_one : (P : ℕ → Bool) (xs : List Range) → length xs ≡ 1
    → list_any (λ (u : ℕ × Range). P u.0) (numbered_units 0 xs) ≡ true → P 0 ≡ true
numbered_one P [] l h = absurd (omega (arith, l))
numbered_one P (x ∷ []) l h = only (P 0) h
  where
    only : (b : Bool) → (b || false) ≡ true → b ≡ true
    only true m = refl
    only false m = m
numbered_one P (x ∷ y ∷ xs) l h = absurd (omega (arith, l))

-- of a pair there is one
pub pair_unit : (c : ConfigNumbers) (k : Ticket) (u : ℕ) (r : Range) → op k ≡ Some Op.Pair
    → slice_get (units c k) u ≡ Some r → u ≡ 0
pair_unit c k u r p h = one u (subst (λ (o : Option Op). slice_get (Operations.units_by c.atomic o s n) u ≡ Some r) p h)
  where
    s : ℕ
    s = EntryBytes.slba (first_fields k)

    n : ℕ
    n = EntryBytes.block_count (first_fields k)

    one : (i : ℕ) → slice_get (Operations.units_by c.atomic (Some Op.Pair) s n) i ≡ Some r → i ≡ 0
    one zero e = refl
    one (suc i) e = absurd (let f : None ≡ Some r = e in cc)

-- ---- success

pub record DoneCommand (c : ConfigNumbers) (past : Past) (q j : ℕ) (r : ReapedLine) (k : TicketOf c past q j)
    : Type 0 where
  pub effects : (u : ℕ) (x : Range) → slice_get (told_units c (observed c past) q j) u ≡ Some x
      → (before : Past) × (effect past k.ticket u ≡ Some before)
  pub equal : (u : ℕ) (before : Past) → effect past k.ticket u ≡ Some before
      → has_compare (op (told_ticket (observed c past) q j)) ≡ true
      → all_equal (value before) (Tickets.ticket past k.ticket) (unit_range past k.ticket u) ≡ true
  pub reads : op (told_ticket (observed c past) q j) ≡ Some Op.Read
      → r.payload ≡ completion_data c past k.ticket success

-- the same commands
alike_by : (c : ConfigNumbers) (past : Past) (t q j : ℕ) (s : Submission) (o : Op)
    → op (Tickets.ticket past t) ≡ Some o → op (told_ticket (observed c past) q j) ≡ Some o
    → slice_get (published_entries past q) j ≡ Some (command (Tickets.ticket past t) 0)
    → slice_get (published_entries past q) j ≡ Some s
    → command (told_ticket (observed c past) q j) 0 ≡ s
    → (o ≡ Op.Pair → slice_get (published_entries past q) (suc j) ≡ Some (command (Tickets.ticket past t) 1))
    → IsAlike (Tickets.ticket past t) (told_ticket (observed c past) q j)
alike_by c past t q j s o does tells first published told second =
    record {
      op = does ∙ sym tells;
      first = same_some (command (Tickets.ticket past t) 0) s (slice_get (published_entries past q) j) first published
          ∙ sym told;
      second = λ p. sym (get_or_from_slice_get (published_in (observed c past) q) (suc j)
          (command (Tickets.ticket past t) 1) no_command
          (subst (λ (xs : List Submission). slice_get xs (suc j) ≡ Some (command (Tickets.ticket past t) 1))
          (published_seen c past q)
          (second (same_some o Op.Pair (op (Tickets.ticket past t)) does p))));
    }

done_pair : (c : ConfigNumbers) (past : Past) (q j : ℕ) (r : ReapedLine) → IsLegal c past
    → (a : AnsweredEntry c past q j r) → is_success (cqe_status r.cqe) ≡ true
    → op (told_ticket (observed c past) q j) ≡ Some Op.Pair → eqb (fuse a.entry) 1 ≡ true
    → (k : TicketOf c past q j) × DoneCommand c past q j r k
done_pair c past q j r h a y o one =
    let ok : is_success (cqe_status a.post.cqe) ≡ true = ap (λ (b : List ℕ). is_success (cqe_status b)) a.cqe ∙ y in
    let d = first_swaps c past q j a.post a.entry h a.published one a.reaped ok in
    let t = d.ticket in
    let m = told_ticket (observed c past) q j in
    let yes = yes_before (effect past t 0) (Tickets.ticket past t) (unit_range past t 0) d.yes in
    let k : TicketOf c past q j = record {
      ticket = t;
      numbered = begins_with c past t q j a.entry h d.takes a.published (one_not_two (fuse a.entry) one);
      alike = alike_by c past t q j a.entry Op.Pair d.pair o d.first a.published a.told (λ p. d.second);
    } in (
      k,
      record {
        effects = λ u x e.
            let z = pair_unit c m u x o (unit_of_entry c (observed c past) q j u x e) in
            (yes.0, ap (effect past t) z ∙ yes.1);
        equal = λ u before e p.
            let z = pair_unit c (Tickets.ticket past t) u (unit_range past t u) d.pair
            (range_of_effect c past t u before h e) in
            let same = same_some yes.0 before (effect past t u) (ap (effect past t) z ∙ yes.1) e in
            subst₂ (λ (b : Past) (i : ℕ). all_equal (value b) (Tickets.ticket past t) (unit_range past t i) ≡ true)
            same (sym z) yes.2;
        reads = λ p. absurd (let f : Some Op.Pair ≡ Some Op.Read = sym o ∙ p in
            clash (is_pair (Some Op.Pair)) refl (ap is_pair f));
      },
    )

compare_equal : (c : ConfigNumbers) (past : Past) (q j : ℕ) (bytes : List ℕ) (u : ℕ) (before : Past)
    (d : IsDone c past q j Op.Compare bytes) → IsLegal c past → effect past d.ticket u ≡ Some before
    → all_equal (value before) (Tickets.ticket past d.ticket) (unit_range past d.ticket u) ≡ true
compare_equal c past q j bytes u before d h e =
    let yes = numbered_all (λ i. says_yes past d.ticket i.0) 0 u u (unit_range past d.ticket u)
    (units c (Tickets.ticket past d.ticket)) (equal_units c past q j bytes d)
    (range_of_effect c past d.ticket u before h e) (omega arith) in
    let there = yes_before (effect past d.ticket u) (Tickets.ticket past d.ticket) (unit_range past d.ticket u) yes in
    subst (λ (b : Past). all_equal (value b) (Tickets.ticket past d.ticket) (unit_range past d.ticket u) ≡ true)
    (same_some there.0 before (effect past d.ticket u) there.1 e) there.2

done_equal : (c : ConfigNumbers) (past : Past) (q j : ℕ) (bytes : List ℕ) (u : ℕ) (before : Past) (o : Op)
    (d : IsDone c past q j o bytes) → IsLegal c past → is_pair (Some o) ≡ false → has_compare (Some o) ≡ true
    → effect past d.ticket u ≡ Some before
    → all_equal (value before) (Tickets.ticket past d.ticket) (unit_range past d.ticket u) ≡ true
done_equal c past q j bytes u before Op.Compare d h n p e = compare_equal c past q j bytes u before d h e
done_equal c past q j bytes u before Op.Pair d h n p e = clash true refl n
done_equal c past q j bytes u before Op.Read d h n p e = clash false p refl
done_equal c past q j bytes u before Op.Write d h n p e = clash false p refl
done_equal c past q j bytes u before Op.WriteZeroes d h n p e = clash false p refl

done_single : (c : ConfigNumbers) (past : Past) (q j : ℕ) (r : ReapedLine) (o : Op) → IsLegal c past
    → (a : AnsweredEntry c past q j r) → is_success (cqe_status r.cqe) ≡ true
    → op (told_ticket (observed c past) q j) ≡ Some o → eqb (fuse a.entry) 1 ≡ false → eqb (fuse a.entry) 2 ≡ false
    → op_of_fields (sqe_fields a.entry.entry) ≡ Some o → is_pair (Some o) ≡ false
    → (k : TicketOf c past q j) × DoneCommand c past q j r k
done_single c past q j r o h a y oe one two fields np =
    let ok : is_success (cqe_status a.post.cqe) ≡ true = ap (λ (b : List ℕ). is_success (cqe_status b)) a.cqe ∙ y in
    let d = done c past q j a.post a.entry o h a.published one two fields np a.reaped ok in
    let t = d.ticket in
    let m = told_ticket (observed c past) q j in
    let k : TicketOf c past q j = record {
      ticket = t;
      numbered = begins_with c past t q j a.entry h d.takes a.published two;
      alike = alike_by c past t q j a.entry o d.does oe d.first a.published a.told
          (λ p. clash (is_pair (Some o)) (ap (λ (x : Op). is_pair (Some x)) p) np);
    } in
    let us = same_units c (Tickets.ticket past t) m k.alike in (
      k,
      record {
        effects = λ u x e.
            let e2 : slice_get (units c (Tickets.ticket past t)) u ≡ Some x =
            ap (λ (xs : List Range). slice_get xs u) us ∙ unit_of_entry c (observed c past) q j u x e in
            some_effect (effect past t u)
            (numbered_all (λ i. is_some (effect past t i.0)) 0 u u x (units c (Tickets.ticket past t)) d.effects e2
            (omega arith));
        equal = λ u before e p. done_equal c past q j a.post.payload u before o d h np (ap has_compare (sym oe) ∙ p) e;
        reads = λ p. sym a.payload ∙ d.reads;
      },
    )

pub done_command : (c : ConfigNumbers) (past : Past) (q j : ℕ) (r : ReapedLine) (o : Op) → IsLegal c past
    → tidy_on q (observed c past) ≡ true → answer_in (observed c past) q j ≡ Some r
    → is_success (cqe_status r.cqe) ≡ true → op (told_ticket (observed c past) q j) ≡ Some o
    → (k : TicketOf c past q j) × DoneCommand c past q j r k
done_command c past q j r o h d e y p =
    let a = answered_entry c past q j r h d e in
    by a (kind_of (observed c past) q j a.entry o a.told p)
  where
    by : (a : AnsweredEntry c past q j r) → Kind a.entry o → (k : TicketOf c past q j) × DoneCommand c past q j r k
    by a (Kind.pair one same) = done_pair c past q j r h a y (p ∙ ap Some same) one
    by a (Kind.single one two fields np) = done_single c past q j r o h a y p one two fields np

-- ---- Compare Failure

pub record DifferedCommand (c : ConfigNumbers) (past : Past) (q j : ℕ) (k : TicketOf c past q j) : Type 0 where
  pub before : Past
  pub there : effect past k.ticket 0 ≡ Some before
  pub no : all_equal (value before) (Tickets.ticket past k.ticket) (unit_range past k.ticket 0) ≡ false
  pub compares : has_compare (op (told_ticket (observed c past) q j)) ≡ true

differed_pair : (c : ConfigNumbers) (past : Past) (q j : ℕ) (r : ReapedLine) → IsLegal c past
    → (a : AnsweredEntry c past q j r) → cqe_status r.cqe ≡ compare_failure
    → op (told_ticket (observed c past) q j) ≡ Some Op.Pair → eqb (fuse a.entry) 1 ≡ true
    → (k : TicketOf c past q j) × DifferedCommand c past q j k
differed_pair c past q j r h a y o one =
    let failed : cqe_status a.post.cqe ≡ compare_failure = ap cqe_status a.cqe ∙ y in
    let d = pair_differs c past q j a.post a.entry h a.published one a.reaped failed in
    let no = no_before past d.ticket 0 d.no in (
      record {
        ticket = d.ticket;
        numbered = begins_with c past d.ticket q j a.entry h d.takes a.published (one_not_two (fuse a.entry) one);
        alike = alike_by c past d.ticket q j a.entry Op.Pair d.pair o d.first a.published a.told (λ p. d.second);
      },
      record {
        before = no.0;
        there = no.1;
        no = no.2;
        compares = ap has_compare o;
      },
    )

differed_single : (c : ConfigNumbers) (past : Past) (q j : ℕ) (r : ReapedLine) (o : Op) → IsLegal c past
    → (a : AnsweredEntry c past q j r) → cqe_status r.cqe ≡ compare_failure
    → op (told_ticket (observed c past) q j) ≡ Some o → length (told_units c (observed c past) q j) ≡ 1
    → eqb (fuse a.entry) 1 ≡ false → eqb (fuse a.entry) 2 ≡ false
    → op_of_fields (sqe_fields a.entry.entry) ≡ Some o → is_pair (Some o) ≡ false
    → (k : TicketOf c past q j) × DifferedCommand c past q j k
differed_single c past q j r o h a y oe only one two fields np =
    let failed : cqe_status a.post.cqe ≡ compare_failure = ap cqe_status a.cqe ∙ y in
    let compares = only_compares c past q j a.post a.entry o h a.published one two fields np a.reaped failed in
    let d = compare_differs c past q j a.post a.entry o h a.published one two fields np a.reaped failed in
    let t = d.ticket in
    let k : TicketOf c past q j = record {
      ticket = t;
      numbered = begins_with c past t q j a.entry h d.takes a.published two;
      alike = alike_by c past t q j a.entry Op.Compare d.compares (oe ∙ ap Some compares) d.first a.published a.told
          (λ p. clash (is_pair (Some Op.Compare)) (ap (λ (x : Op). is_pair (Some x)) p) refl);
    } in
    let us = same_units c (Tickets.ticket past t) (told_ticket (observed c past) q j) k.alike in
    let no = no_before past t 0
    (numbered_one (λ (u : ℕ). says_no past t u) (units c (Tickets.ticket past t))
    (ap length us ∙ one_inside c (observed c past) q j only) d.no) in (
      k,
      record {
        before = no.0;
        there = no.1;
        no = no.2;
        compares = ap has_compare (oe ∙ ap Some compares);
      },
    )

pub differed_command : (c : ConfigNumbers) (past : Past) (q j : ℕ) (r : ReapedLine) (o : Op) → IsLegal c past
    → tidy_on q (observed c past) ≡ true → answer_in (observed c past) q j ≡ Some r
    → same_status (cqe_status r.cqe) compare_failure ≡ true → op (told_ticket (observed c past) q j) ≡ Some o
    → length (told_units c (observed c past) q j) ≡ 1
    → (k : TicketOf c past q j) × DifferedCommand c past q j k
differed_command c past q j r o h d e y p only =
    let a = answered_entry c past q j r h d e in
    by a (kind_of (observed c past) q j a.entry o a.told p)
  where
    failed : cqe_status r.cqe ≡ compare_failure
    failed = status_eq (cqe_status r.cqe) compare_failure y

    by : (a : AnsweredEntry c past q j r) → Kind a.entry o → (k : TicketOf c past q j) × DifferedCommand c past q j k
    by a (Kind.pair one same) = differed_pair c past q j r h a failed (p ∙ ap Some same) one
    by a (Kind.single one two fields np) = differed_single c past q j r o h a failed p only one two fields np

-- ---- a failed check

pub not_second : (trace : List Seen) (q j : ℕ) (s : Submission) (o : Op) → command (told_ticket trace q j) 0 ≡ s
    → op (told_ticket trace q j) ≡ Some o → eqb (fuse s) 2 ≡ false
not_second trace q j s o e f = by (kind_of trace q j s o e f)
  where
    by : Kind s o → eqb (fuse s) 2 ≡ false
    by (Kind.pair one same) = one_not_two (fuse s) one
    by (Kind.single one two fields np) = two

pub no_effect_of_failed : (c : ConfigNumbers) (past : Past) (q j u : ℕ) (r : ReapedLine) (before : Past)
    → IsLegal c past
    → tidy_on q (observed c past) ≡ true → answer_in (observed c past) q j ≡ Some r
    → is_success (cqe_status r.cqe) ≡ false → same_status (cqe_status r.cqe) compare_failure ≡ false
    → effect_by past q j u ≡ Some before → ⊥
no_effect_of_failed c past q j u r before h d e y z f =
    let a = answered_entry c past q j r h d e in
    let at = by_effect past q j u before f in
    let of = effect_of c past q j u before at h in
    let told = told_effect c past (observed c past) q j u before at h (published_seen c past q) in
    let t = at.block.ticket in
    let known : t ≤ tickets past =
    subst (λ (p : Past). t ≤ tickets p) (sym at.is)
    (omega (arith, of.known, tickets_later at.later (Entry.Block at.block ∷ before))) in
    let two = not_second (observed c past) q j a.entry told.some.0 a.told told.some.1 in
    let ok : is_success (cqe_status a.post.cqe) ≡ false = ap (λ (b : List ℕ). is_success (cqe_status b)) a.cqe ∙ y in
    let no : same_status (cqe_status a.post.cqe) compare_failure ≡ false =
    ap (λ (b : List ℕ). same_status (cqe_status b) compare_failure) a.cqe ∙ z in
    let w = failed_checks c past q j a.post a.entry h a.published two a.reaped ok no in
    let x = takes_parts past w.ticket q j w.takes in
    let n = begins_with c past w.ticket q j a.entry h w.takes a.published two in
    let same = one_ticket c past w.ticket t h x.some x.known of.some known
    (n.queue ∙ sym (ap (λ (k : Ticket). k.queue) of.ticket ∙ of.says.queue)) (n.number ∙ sym of.number) in
    clash (passed (Tickets.ticket before t).verdict) told.passed
    (ap (λ (k : Ticket). passed k.verdict) (sym of.ticket)
    ∙ (ap (λ (i : ℕ). passed (Tickets.ticket past i).verdict) (sym same) ∙ w.failed))
