-- What is kept of a submission queue tells which lines answer its entries, and judges the newest line.
use Rattle.std.proofs.Common.{◌≡◌, ℕ, zero, suc, ◌-◌, ◌<◌, ◌≤◌, Bool, true, false, ◌&&◌, ◌||◌, not, cond, List, []}
use Rattle.std.proofs.Common.{◌∷◌}
use Rattle.std.proofs.Common.{◌++◌, Option, None, Some, is_none, length, length-append, replicate, set, slice_get}
use Rattle.std.proofs.Common.{nat_lt}
use Rattle.std.proofs.Common.{refl, sym, ap, ap₂, ◌∙◌, subst, inl, inr, arith, eq-eqb, eqb, eqb-true}
use Rattle.std.proofs.lemmas.Bool.{cases_Bool, cases_lt, cond-false, cond-true, eqb-false, ne_eqb}
use Rattle.std.proofs.lemmas.Option.{slice_get_within}
use Rattle.nvme_model.specs.Completions.{phase}
use Rattle.nvme_model.specs.EntryBytes.{cqe_fields, sqe_fields}
use Rattle.nvme_model.specs.Statuses.{missing_fused, same_status}
use Rattle.nvme_model.specs.declared.config.ConfigNumbers.{ConfigNumbers}
use Rattle.nvme_model.specs.declared.entry.PublishLine.{PublishLine}
use Rattle.nvme_model.specs.declared.status.Status.{Status}
use Rattle.nvme_model.specs.declared.submission.Submission.{Submission}
use Rattle.host_laws.specs.Book.{Book, cid_of, with_entry}
use Rattle.host_laws.specs.Calls.{cqe_status}
use Rattle.host_laws.proofs.Elements.{get_after, get_append}
use Rattle.trace.specs.declared.options.TraceOptions.{TraceOptions}
use Rattle.trace.specs.declared.seen.ReapedLine.{ReapedLine}
use Rattle.trace.specs.declared.seen.Seen.{Seen}
use Rattle.refutation.specs.Apart.{is_apart, is_lacked}
use Rattle.refutation.specs.LineRules.{breaks_entry_rules, has_wrong_head}
use Rattle.refutation.specs.LineRules.{is_apart_from, is_bad_line}
use Rattle.refutation.specs.LineRules.{is_second_apart, is_second_early, least_fetched, may_not_answer}
use Rattle.refutation.specs.LineRules.{names_wrong_queue, number_may_not, number_owes_other, owes_other_data}
use Rattle.refutation.specs.LineRules.{sets_unused_bits}
use Rattle.refutation.specs.Lines.{answer_in, answered, has_free_cids, is_number, is_tidy, published_in, reaped_in}
use Rattle.refutation.specs.Lines.{waiting_in}
use Rattle.refutation.specs.MayAnswer.{answers_first, has_fuse, may_answer, may_answer_behind}
use Rattle.refutation.specs.MayAnswer.{may_answer_first, may_answer_second, verdict_at}
use Rattle.refutation.specs.QueueBooks.{QueueBook, answer_by, answer_wrong_by, answered_by, are_free, book_of}
use Rattle.refutation.specs.QueueBooks.{entry_wrong_by, first_by, head_wrong_by, is_bad_by, least_by, line_or_none}
use Rattle.refutation.specs.QueueBooks.{number_of, second_by, second_wrong_by, with_answer}
use Rattle.refutation.specs.QueueBooks.{with_published}
use Rattle.refutation.specs.QueueBooks.{with_reaped}
use Rattle.refutation.specs.QueueBooks.{is_bad_read_by, read_wrong_by}
use Rattle.refutation.specs.ReadRules.{breaks_read_rules, is_bad_read_line, sets_read_bits}
use Rattle.refutation.proofs.QueueBooks.{answered_is, entries_are, get_replicated, has_entry, least_is, parts_are}
use Rattle.refutation.proofs.QueueBooks.{same_places, together_is, waits_are, waits_below}

abbrev no_line : Option ReapedLine
no_line = None

-- ---- the lines that answer

-- an entry that isn't published isn't answered
pub unanswered : (trace : List Seen) (q j : ℕ) → length (published_in trace q) ≤ j → answer_in trace q j ≡ None
unanswered [] q j l = refl
unanswered (Seen.Published p ∷ trace) q j l =
    unanswered trace q j (omega (arith, l, length-append (published_in trace q) (cond (eqb p.queue q) p.batch [])))
unanswered (Seen.Reaped r ∷ trace) q j l =
    go (eqb (cqe_fields r.cqe).sqid q) refl (answered trace r.cqe) refl (unanswered trace q j l)
  where
    go : (b : Bool) → eqb (cqe_fields r.cqe).sqid q ≡ b → (n : Option ℕ) → answered trace r.cqe ≡ n
        → answer_in trace q j ≡ None → cond (b && is_number j n) (Some r) (answer_in trace q j) ≡ None
    go false z n e ih = ih
    go true z None e ih = ih
    go true z (Some m) e ih =
        let below : m < length (published_in trace q) =
        subst (λ (k : ℕ). m < length (published_in trace k)) (eqb-true (cqe_fields r.cqe).sqid q z)
        (waits_below trace (cqe_fields r.cqe).sqid (cqe_fields r.cqe).cid m e) in
        elim (cases_Bool (eqb m j)) [
          | inl f ↦ absurd (omega (arith, below, l, eqb-true m j f))
          | inr f ↦ cond-false (eqb m j) (Some r) (answer_in trace q j) f ∙ ih
        ]

abbrev pub AnswersAre : List Seen → ℕ → List (Option ReapedLine) → Type 0
AnswersAre trace q answers = (j : ℕ) → j < length (published_in trace q)
    → slice_get answers j ≡ Some (answer_in trace q j)

get_set : {A : Type 0} (xs : List A) (i j : ℕ) (x : A) → i < length xs
    → slice_get (set xs i x) j ≡ cond (eqb i j) (Some x) (slice_get xs j)
get_set [] i j x l = absurd (omega (arith, l))
get_set (y ∷ xs) zero zero x l = refl
get_set (y ∷ xs) zero (suc j) x l = sym (cond-false (eqb zero (suc j)) (Some x) (slice_get xs j) (ne_eqb zero (suc j)
    (λ e. omega (arith, e))))
get_set (y ∷ xs) (suc i) zero x l = sym (cond-false (eqb (suc i) zero) (Some x) (Some y) (ne_eqb (suc i) zero
    (λ e. omega (arith, e))))
get_set (y ∷ xs) (suc i) (suc j) x l =
    get_set xs i j x (omega (arith, l)) ∙ ap (λ (b : Bool). cond b (Some x) (slice_get xs j)) (less_both i j)
  where
    less_both : (i j : ℕ) → eqb i j ≡ eqb (suc i) (suc j)
    less_both i j = elim (cases_Bool (eqb i j)) [
      | inl e ↦ e ∙ sym (eq-eqb (suc i) (suc j) (ap suc (eqb-true i j e)))
      | inr e ↦ e ∙ sym (ne_eqb (suc i) (suc j) (λ f. eqb-false i j e (omega (arith, f))))
    ]

pub answers_are : (c : ConfigNumbers) (trace : List Seen) (q : ℕ) → AnswersAre trace q (book_of c trace q).answers
answers_are c [] q = λ j l. absurd (omega (arith, l))
answers_are c (Seen.Published p ∷ trace) q = go (eqb p.queue q) (answers_are c trace q)
  where
    b : QueueBook
    b = book_of c trace q

    go : (x : Bool) → AnswersAre trace q b.answers → (j : ℕ) → j < length (published_in trace q ++ cond x p.batch [])
        → slice_get (cond x (with_published b p.batch) b).answers j ≡ Some (answer_in trace q j)
    go false ih j l = ih j (omega (arith, l, length-append (published_in trace q) []))
    go true ih j l =
        let all = length-append (published_in trace q) p.batch in
        let count : length b.answers ≡ length (published_in trace q) =
        (same_places c trace q).1 ∙ ap (λ (xs : List Submission). length xs) (entries_are c trace q) in
        elim (cases_lt j (length (published_in trace q))) [
          | inl k ↦ get_append b.answers (replicate (length p.batch) no_line) j (answer_in trace q j) (ih j k)
          | inr k ↦
              get_after b.answers (replicate (length p.batch) no_line) (j - length b.answers) j no_line
              (omega (arith, k, count))
              (get_replicated (length p.batch) (j - length b.answers) no_line (omega (arith, k, l, all, count)))
              ∙ ap Some (sym (unanswered trace q j k))
        ]
answers_are c (Seen.Reaped r ∷ trace) q = go (eqb (cqe_fields r.cqe).sqid q) refl (answers_are c trace q)
  where
    b : QueueBook
    b = book_of c trace q

    by_number : (n : Option ℕ) → ((m : ℕ) → n ≡ Some m → m < length (published_in trace q))
        → AnswersAre trace q b.answers → (j : ℕ) → j < length (published_in trace q)
        → slice_get (with_answer b.answers n r) j ≡ Some (cond (is_number j n) (Some r) (answer_in trace q j))
    by_number None few ih j l = ih j l
    by_number (Some m) few ih j l =
        let count : length b.answers ≡ length (published_in trace q) =
        (same_places c trace q).1 ∙ ap (λ (xs : List Submission). length xs) (entries_are c trace q) in
        get_set b.answers m j (Some r) (omega (arith, few m refl, count)) ∙ by_place (eqb m j)
      where
        by_place : (x : Bool) → cond x (Some (Some r)) (slice_get b.answers j)
            ≡ Some (cond x (Some r) (answer_in trace q j))
        by_place true = refl
        by_place false = ih j l

    go : (x : Bool) → eqb (cqe_fields r.cqe).sqid q ≡ x → AnswersAre trace q b.answers
        → (j : ℕ) → j < length (published_in trace q)
        → slice_get (cond x (with_reaped c b r) b).answers j
        ≡ Some (cond (x && is_number j (answered trace r.cqe)) (Some r) (answer_in trace q j))
    go false z ih j l = ih j l
    go true z ih j l =
        let same = eqb-true (cqe_fields r.cqe).sqid q z in
        let number : answered_by b r ≡ answered trace r.cqe =
        waits_are c trace q (cqe_fields r.cqe).cid
        ∙ ap (λ (k : ℕ). waiting_in trace k (cqe_fields r.cqe).cid) (sym same) in
        by_number (answered_by b r)
        (λ m e. waits_below trace q (cqe_fields r.cqe).cid m (sym (waits_are c trace q (cqe_fields r.cqe).cid)
        ∙ e)) ih j l
        ∙ ap (λ (n : Option ℕ). Some (cond (is_number j n) (Some r) (answer_in trace q j))) number

pub answer_is : (c : ConfigNumbers) (trace : List Seen) (q j : ℕ) → j < length (published_in trace q)
    → answer_by (book_of c trace q) j ≡ answer_in trace q j
answer_is c trace q j l = ap line_or_none (answers_are c trace q j l)

-- ---- tidy traces

free_is : (waiting : List (ℕ × ℕ)) (book : Book) (q j : ℕ) (batch : List Submission)
    → ((k : ℕ) → number_of waiting k ≡ book q k) → are_free waiting j batch ≡ has_free_cids book q j batch
free_is waiting book q j [] h = refl
free_is waiting book q j (s ∷ batch) h =
    ap₂ (λ (x y : Bool). x && y) (ap (λ (o : Option ℕ). nat_lt (cid_of s) 65536 && is_none o) (h (cid_of s)))
    (free_is ((cid_of s, j) ∷ waiting) (with_entry book q (cid_of s) j) q (suc j) batch
    (λ k. ap₂ (λ (x : Option ℕ) (b : Bool). cond (b && eqb k (cid_of s)) (Some j) x) (h k) (sym (eq-eqb q q refl))))

pub tidy_is : (c : ConfigNumbers) (trace : List Seen) (p : PublishLine)
    → is_tidy (Seen.Published p ∷ trace)
    ≡ (is_tidy trace && nat_lt p.queue 65536
    && are_free (book_of c trace p.queue).waiting (length (book_of c trace p.queue).entries) p.batch)
tidy_is c trace p =
    ap (λ (b : Bool). is_tidy trace && nat_lt p.queue 65536 && b)
    (sym (free_is (book_of c trace p.queue).waiting (waiting_in trace) p.queue
    (length (book_of c trace p.queue).entries) p.batch (waits_are c trace p.queue)
    ∙ ap (λ (es : List Submission). has_free_cids (waiting_in trace) p.queue (length es) p.batch)
    (entries_are c trace p.queue)))

-- ---- the newest line

may_is : (c : ConfigNumbers) (trace : List Seen) (q j : ℕ) (entry : Submission) (s : Status)
    → j < length (published_in trace q)
    → (first_by c (book_of c trace q) j entry s || second_by c (book_of c trace q) j entry s)
    ≡ may_answer c trace q j entry s
may_is c trace q j entry s l = ap₂ (λ (x y : Bool). x || y) first (second j)
  where
    e : (book_of c trace q).entries ≡ published_in trace q
    e = entries_are c trace q

    first : first_by c (book_of c trace q) j entry s ≡ may_answer_first c trace q j entry s
    first =
        ap₂ (λ (x y : Bool). not x && y) (parts_are c trace q j)
        (ap₂ (λ (es : List Submission) (b : Bool).
        answers_first (verdict_at c entry (slice_get es (suc j))) (sqe_fields entry.entry) s
        || (not b && answers_first (verdict_at c entry None) (sqe_fields entry.entry) s)) e (together_is c trace q j l))

    second : (i : ℕ) → second_by c (book_of c trace q) i entry s ≡ may_answer_second c trace q i entry s
    second zero = refl
    second (suc i) = ap (λ (es : List Submission). may_answer_behind c (slice_get es i) entry s) e

-- one test in place of two
both_seconds : (f a n : Bool) → (f && (a || n)) ≡ ((f && a) || (f && n))
both_seconds true a n = refl
both_seconds false a n = refl

second_is : (c : ConfigNumbers) (trace : List Seen) (q j : ℕ) (s : Status)
    → second_wrong_by (book_of c trace q) j s
    ≡ (is_second_apart trace q (Some j) s || is_second_early trace q (Some j) s)
second_is c trace q zero s = refl
second_is c trace q (suc i) s =
    ap (λ (es : List Submission). has_fuse 1 (slice_get es i) && has_fuse 2 (slice_get es (suc i))
    && (is_apart_from (answer_by (book_of c trace q) i) s
    || (is_none (answer_by (book_of c trace q) i) && not (same_status s missing_fused)))) (entries_are c trace q)
    ∙ go (has_fuse 1 (slice_get (published_in trace q) i)) (has_fuse 2 (slice_get (published_in trace q) (suc i))) refl
  where
    go : (x y : Bool) → has_fuse 1 (slice_get (published_in trace q) i) ≡ x
        → (x && y && (is_apart_from (answer_by (book_of c trace q) i) s
        || (is_none (answer_by (book_of c trace q) i) && not (same_status s missing_fused))))
        ≡ ((x && y && is_apart_from (answer_in trace q i) s)
        || (x && y && is_none (answer_in trace q i) && not (same_status s missing_fused)))
    go false y e = refl
    go true false e = refl
    go true true e =
        ap (λ (o : Option ReapedLine). is_apart_from o s || (is_none o && not (same_status s missing_fused)))
        (answer_is c trace q i (has_entry 1 (published_in trace q) i e))

-- the rules about an answer, together
sorted_answer : (st a n d : Bool) → ((st || d) || (a || n)) ≡ (st || a || n || d)
sorted_answer true a n d = refl
sorted_answer false a n true = sym (last a n)
  where
    last : (a n : Bool) → (a || n || true) ≡ true
    last true n = refl
    last false true = refl
    last false false = refl
sorted_answer false a n false = sym (last a n)
  where
    last : (a n : Bool) → (a || n || false) ≡ (a || n)
    last true n = refl
    last false true = refl
    last false false = refl

-- the rules about the answer to entry j
answer_wrong_is : (c : ConfigNumbers) (trace : List Seen) (q j : ℕ) (s : Status) (n : ℕ)
    → answer_wrong_by c (book_of c trace q) (Some j) s n
    ≡ (number_may_not c trace q (Some j) s || is_second_apart trace q (Some j) s || is_second_early trace q (Some j) s
    || number_owes_other trace q (Some j) s n)
answer_wrong_is c trace q j s n =
    ap₂ (λ (x y : Bool). x || y)
    (ap (λ (es : List Submission). entry_wrong_by c b j (slice_get es j) s n) (entries_are c trace q)
    ∙ entry_is (slice_get (published_in trace q) j) refl) (second_is c trace q j s)
    ∙ sorted_answer (number_may_not c trace q (Some j) s) (is_second_apart trace q (Some j) s)
    (is_second_early trace q (Some j) s) (number_owes_other trace q (Some j) s n)
  where
    b : QueueBook
    b = book_of c trace q

    entry_is : (o : Option Submission) → slice_get (published_in trace q) j ≡ o
        → entry_wrong_by c b j o s n ≡ (may_not_answer c trace q j o s || owes_other_data o s n)
    entry_is None e = refl
    entry_is (Some entry) e =
        ap (λ (x : Bool). not x || owes_other_data (Some entry) s n)
        (may_is c trace q j entry s (slice_get_within (published_in trace q) j entry e))

head_is : (c : ConfigNumbers) (trace : List Seen) (r : ReapedLine)
    → head_wrong_by c (book_of c trace (cqe_fields r.cqe).sqid) r ≡ has_wrong_head c trace r
head_is c trace r =
    let q = (cqe_fields r.cqe).sqid in
    let least : least_by c (book_of c trace q) r ≡ least_fetched c (Seen.Reaped r ∷ trace) q =
    sym (ap (λ (b : QueueBook). b.least)
    (cond-true (eqb q q) (with_reaped c (book_of c trace q) r) (book_of c trace q) (eq-eqb q q refl)))
    ∙ least_is c (Seen.Reaped r ∷ trace) q in
    ap₂ (λ (es : List Submission) (n : ℕ). not (nat_lt (cqe_fields r.cqe).sqhd c.sq_size) || nat_lt (length es) n)
    (entries_are c trace q) least

-- the head first or behind the number
head_first : (h st a n d : Bool) → (h || (st || a || n || d)) ≡ (false || h || st || a || n || d)
head_first true st a n d = refl
head_first false st a n d = refl

none_rules : (h : Bool) → (h || true) ≡ true
none_rules true = refl
none_rules false = refl

rules_are : (c : ConfigNumbers) (trace : List Seen) (r : ReapedLine)
    → (head_wrong_by c (book_of c trace (cqe_fields r.cqe).sqid) r
    || answer_wrong_by c (book_of c trace (cqe_fields r.cqe).sqid)
    (answered_by (book_of c trace (cqe_fields r.cqe).sqid) r) (cqe_status r.cqe) (length r.payload))
    ≡ breaks_entry_rules c trace r
rules_are c trace r =
    ap₂ (λ (x : Bool) (n : Option ℕ). x || answer_wrong_by c b n st (length r.payload)) (head_is c trace r)
    (answered_is c trace r)
    ∙ go (answered trace r.cqe)
  where
    q : ℕ
    q = (cqe_fields r.cqe).sqid

    b : QueueBook
    b = book_of c trace q

    st : Status
    st = cqe_status r.cqe

    go : (n : Option ℕ) → (has_wrong_head c trace r || answer_wrong_by c b n st (length r.payload))
        ≡ (is_none n || has_wrong_head c trace r || number_may_not c trace q n st || is_second_apart trace q n st
        || is_second_early trace q n st || number_owes_other trace q n st (length r.payload))
    go None = none_rules (has_wrong_head c trace r)
    go (Some j) =
        ap (λ (x : Bool). has_wrong_head c trace r || x) (answer_wrong_is c trace q j st (length r.payload))
        ∙ head_first (has_wrong_head c trace r) (number_may_not c trace q (Some j) st)
        (is_second_apart trace q (Some j) st) (is_second_early trace q (Some j) st)
        (number_owes_other trace q (Some j) st (length r.payload))

-- the same as options read a trace
read_rules_are : (o : TraceOptions) (c : ConfigNumbers) (trace : List Seen) (r : ReapedLine)
    → read_wrong_by o c (book_of c trace (cqe_fields r.cqe).sqid) r ≡ breaks_read_rules o c trace r
read_rules_are o c trace r =
    ap₂ (λ (n : Option ℕ) (x : Bool). is_none n || (not o.ignored.sqhd && x)
    || (not o.statuses_any && answer_wrong_by c b n st (length r.payload))) (answered_is c trace r) (head_is c trace r)
    ∙ go (answered trace r.cqe)
  where
    q : ℕ
    q = (cqe_fields r.cqe).sqid

    b : QueueBook
    b = book_of c trace q

    st : Status
    st = cqe_status r.cqe

    go : (n : Option ℕ) → (is_none n || (not o.ignored.sqhd && has_wrong_head c trace r)
        || (not o.statuses_any && answer_wrong_by c b n st (length r.payload)))
        ≡ (is_none n || (not o.ignored.sqhd && has_wrong_head c trace r)
        || (not o.statuses_any && (number_may_not c trace q n st || is_second_apart trace q n st
        || is_second_early trace q n st || number_owes_other trace q n st (length r.payload))))
    go None = refl
    go (Some j) =
        ap (λ (x : Bool). (not o.ignored.sqhd && has_wrong_head c trace r) || (not o.statuses_any && x))
        (answer_wrong_is c trace q j st (length r.payload))

pub bad_is : (c : ConfigNumbers) (trace : List Seen) (r : ReapedLine)
    → is_bad_by c (book_of c trace (cqe_fields r.cqe).sqid) (reaped_in trace r.queue) (is_tidy trace) r
    ≡ is_bad_line c (Seen.Reaped r ∷ trace)
bad_is c trace r =
    ap (λ (x : Bool). sets_unused_bits r || not (eqb (cqe_fields r.cqe).phase (phase
    (reaped_in trace r.queue) c.cq_size))
    || names_wrong_queue c r || (is_tidy trace && x)) (rules_are c trace r)

pub bad_read_is : (o : TraceOptions) (c : ConfigNumbers) (trace : List Seen) (r : ReapedLine)
    → is_bad_read_by o c (book_of c trace (cqe_fields r.cqe).sqid) (reaped_in trace r.queue) (is_tidy trace) r
    ≡ is_bad_read_line o c (Seen.Reaped r ∷ trace)
bad_read_is o c trace r =
    ap (λ (x : Bool). is_lacked o c (Seen.Reaped r) || sets_read_bits o r
    || (is_apart o c && not (eqb (cqe_fields r.cqe).phase (phase (reaped_in trace r.queue) c.cq_size)))
    || names_wrong_queue c r || (is_tidy trace && x)) (read_rules_are o c trace r)
