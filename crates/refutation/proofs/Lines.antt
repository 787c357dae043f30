-- A trace tells which entries are published, which wait, and which were answered by what.
use Rattle.std.proofs.Common.{◌≡◌, ℕ, zero, suc, ◌+◌, ◌<◌, ◌==◌, Bool, true, false, not, ◌&&◌, ◌||◌, cond}
use Rattle.std.proofs.Common.{List, [], ◌∷◌, ◌++◌, length}
use Rattle.std.proofs.Common.{refl, sym, ap, ap₂, ◌∙◌, subst, Option, Some, None, inl, inr, arith, eq-eqb, eqb}
use Rattle.std.proofs.Common.{eqb-true}
use Rattle.std.proofs.Common.{ltb-true, nat_lt, slice_get, is_none}
use Rattle.std.proofs.lemmas.Bool.{and_parts, and_from, cases_Bool, cond-true, cond-false, or_right}
use Rattle.plain_lemmas.proofs.Options.{no_some}
use Rattle.nvme_model.specs.Completions.{reaped_count, reaped_payload}
use Rattle.nvme_model.specs.EntryBytes.{cqe_fields}
use Rattle.nvme_model.specs.History.{Past}
use Rattle.nvme_model.specs.Legal.{IsLegal}
use Rattle.nvme_model.specs.Queues.{published_entries}
use Rattle.nvme_model.specs.declared.config.ConfigNumbers.{ConfigNumbers}
use Rattle.nvme_model.specs.declared.entry.Entry.{Entry}
use Rattle.nvme_model.specs.declared.entry.PostLine.{PostLine}
use Rattle.nvme_model.specs.declared.entry.PublishLine.{PublishLine}
use Rattle.nvme_model.specs.declared.entry.ReapLine.{ReapLine}
use Rattle.nvme_model.specs.declared.submission.Submission.{Submission}
use Rattle.nvme_model.proofs.Rules.{follows}
use Rattle.host_laws.specs.Book.{Book, cid_of, with_entry}
use Rattle.host_laws.specs.Calls.{IsEntryWaiting, ReapAnswers, reaped_post}
use Rattle.host_laws.proofs.Elements.{get_cases, same_some}
use Rattle.host_laws.proofs.Reaps.{none_if, reap_answers, reaped_later}
use Rattle.trace.specs.Observed.{next_payload, observed}
use Rattle.trace.specs.declared.seen.ReapedLine.{ReapedLine}
use Rattle.trace.specs.declared.seen.Seen.{Seen}
use Rattle.refutation.specs.Lines.{answer_in, answered, has_free_cids, is_number, is_tidy, published_in, reaped_in}
use Rattle.refutation.specs.Lines.{waiting_in, with_batch}

-- ---- what is published and reaped

pub published_seen : (c : ConfigNumbers) (past : Past) (q : ℕ)
    → published_entries past q ≡ published_in (observed c past) q
published_seen c [] q = refl
published_seen c (Entry.Publish p ∷ past) q =
    ap (λ (l : List Submission). l ++ cond (eqb p.queue q) p.batch []) (published_seen c past q)
published_seen c (Entry.Fetch f ∷ past) q = published_seen c past q
published_seen c (Entry.Grant g ∷ past) q = published_seen c past q
published_seen c (Entry.Block b ∷ past) q = published_seen c past q
published_seen c (Entry.Post p ∷ past) q = published_seen c past q
published_seen c (Entry.Reap r ∷ past) q = published_seen c past q

pub reaped_seen : (c : ConfigNumbers) (past : Past) (n : ℕ) → reaped_count past n ≡ reaped_in (observed c past) n
reaped_seen c [] n = refl
reaped_seen c (Entry.Reap r ∷ past) n = ap (λ (k : ℕ). k + cond (eqb r.queue n) 1 0) (reaped_seen c past n)
reaped_seen c (Entry.Publish p ∷ past) n = reaped_seen c past n
reaped_seen c (Entry.Fetch f ∷ past) n = reaped_seen c past n
reaped_seen c (Entry.Grant g ∷ past) n = reaped_seen c past n
reaped_seen c (Entry.Block b ∷ past) n = reaped_seen c past n
reaped_seen c (Entry.Post p ∷ past) n = reaped_seen c past n

-- ---- tidy traces

-- A trace is tidy on submission queue q: it publishes no CID there again before its completion was reaped; each queue
-- has a number of 16 bits.
abbrev pub tidy_on : ℕ → List Seen → Bool
tidy_on q [] = true
tidy_on q (Seen.Published p ∷ trace) =
    tidy_on q trace && nat_lt p.queue 65536
    && (not (p.queue == q)
    || has_free_cids (waiting_in trace) p.queue (length (published_in trace p.queue)) p.batch)
tidy_on q (Seen.Reaped r ∷ trace) = tidy_on q trace

-- a tidy trace is so on each
pub tidy_each : (q : ℕ) (trace : List Seen) → is_tidy trace ≡ true → tidy_on q trace ≡ true
tidy_each q [] h = refl
tidy_each q (Seen.Reaped r ∷ trace) h = tidy_each q trace h
tidy_each q (Seen.Published p ∷ trace) h =
    let a = and_parts (is_tidy trace && nat_lt p.queue 65536)
    (has_free_cids (waiting_in trace) p.queue (length (published_in trace p.queue)) p.batch) h in
    let b = and_parts (is_tidy trace) (nat_lt p.queue 65536) a.0 in
    and_from _ _ (and_from _ _ (tidy_each q trace b.0) b.1) (or_right (not (p.queue == q)) _ a.1)

-- so is each beginning
pub on_before : (q : ℕ) (more trace : List Seen) → tidy_on q (more ++ trace) ≡ true → tidy_on q trace ≡ true
on_before q [] trace h = h
on_before q (Seen.Published p ∷ more) trace h =
    on_before q more trace (and_parts (tidy_on q (more ++ trace)) (nat_lt p.queue 65536)
    (and_parts (tidy_on q (more ++ trace) && nat_lt p.queue 65536)
    (not (p.queue == q) || has_free_cids (waiting_in (more ++ trace)) p.queue
    (length (published_in (more ++ trace) p.queue)) p.batch) h).0).0
on_before q (Seen.Reaped r ∷ more) trace h = on_before q more trace h

pub tidy_before : (more trace : List Seen) → is_tidy (more ++ trace) ≡ true → is_tidy trace ≡ true
tidy_before [] trace h = h
tidy_before (Seen.Published p ∷ more) trace h =
    tidy_before more trace (and_parts (is_tidy (more ++ trace)) (nat_lt p.queue 65536)
    (and_parts (is_tidy (more ++ trace) && nat_lt p.queue 65536)
    (has_free_cids (waiting_in (more ++ trace)) p.queue (length (published_in (more ++ trace) p.queue)) p.batch) h).0).0
tidy_before (Seen.Reaped r ∷ more) trace h = tidy_before more trace h

-- the parts of a Publish
pub record TidyPublish (q : ℕ) (trace : List Seen) (p : PublishLine) : Type 0 where
  pub before : tidy_on q trace ≡ true
  pub queue : p.queue < 65536
  pub free : (p.queue == q) ≡ true
      → has_free_cids (waiting_in trace) p.queue (length (published_in trace p.queue)) p.batch ≡ true

pub tidy_publish : (q : ℕ) (trace : List Seen) (p : PublishLine) → tidy_on q (Seen.Published p ∷ trace) ≡ true
    → TidyPublish q trace p
tidy_publish q trace p h =
    let free = has_free_cids (waiting_in trace) p.queue (length (published_in trace p.queue)) p.batch in
    let a = and_parts (tidy_on q trace && nat_lt p.queue 65536) (not (p.queue == q) || free) h in
    let b = and_parts (tidy_on q trace) (nat_lt p.queue 65536) a.0 in
    record { before = b.0; queue = ltb-true p.queue 65536 b.1; free = λ e. own (p.queue == q) free e a.1 }
  where
    own : (x y : Bool) → x ≡ true → (not x || y) ≡ true → y ≡ true
    own true y e f = f
    own false y e f = absurd (let z : false ≡ true = e in cc)

-- the parts of a batch's first entry
record FreeFirst (book : Book) (q j : ℕ) (s : Submission) (batch : List Submission) : Type 0 where
  narrow : cid_of s < 65536
  none : book q (cid_of s) ≡ None
  rest : has_free_cids (with_entry book q (cid_of s) j) q (suc j) batch ≡ true

pub none_is : {A : Type 0} (o : Option A) → is_none o ≡ true → o ≡ None
none_is None h = refl
none_is (Some j) h = absurd (let f : false ≡ true = h in cc)

free_first : (book : Book) (q j : ℕ) (s : Submission) (batch : List Submission)
    → has_free_cids book q j (s ∷ batch) ≡ true → FreeFirst book q j s batch
free_first book q j s batch h =
    let a = and_parts (nat_lt (cid_of s) 65536 && is_none (book q (cid_of s)))
    (has_free_cids (with_entry book q (cid_of s) j) q (suc j) batch) h in
    let b = and_parts (nat_lt (cid_of s) 65536) (is_none (book q (cid_of s))) a.0 in
    record { narrow = ltb-true (cid_of s) 65536 b.0; none = none_is (book q (cid_of s)) b.1; rest = a.1 }

batch_narrow : (book : Book) (q j : ℕ) (batch : List Submission) (i : ℕ) (s : Submission)
    → has_free_cids book q j batch ≡ true → slice_get batch i ≡ Some s → cid_of s < 65536
batch_narrow book q j [] i s h e = absurd (let f : None ≡ Some s = e in cc)
batch_narrow book q j (x ∷ batch) zero s h e =
    subst (λ (y : Submission). cid_of y < 65536) (same_some x s (Some x) refl e) (free_first book q j x batch h).narrow
batch_narrow book q j (x ∷ batch) (suc i) s h e =
    batch_narrow (with_entry book q (cid_of x) j) q (suc j) batch i s (free_first book q j x batch h).rest e

-- the submission queue and the CID of an entry of a tidy trace are numbers of 16 bits
pub record IsNarrow (q : ℕ) (s : Submission) : Type 0 where
  pub queue : q < 65536
  pub cid : cid_of s < 65536

pub narrow_in : (trace : List Seen) (q j : ℕ) (s : Submission) → tidy_on q trace ≡ true
    → slice_get (published_in trace q) j ≡ Some s → IsNarrow q s
narrow_in [] q j s h e = absurd (let f : None ≡ Some s = e in cc)
narrow_in (Seen.Reaped r ∷ trace) q j s h e = narrow_in trace q j s h e
narrow_in (Seen.Published p ∷ trace) q j s h e =
    let t = tidy_publish q trace p h in
    elim (get_cases (published_in trace q) (cond (eqb p.queue q) p.batch []) j s e) [
      | inl x ↦ narrow_in trace q j s t.before x
      | inr m ↦ new t (eqb p.queue q) refl m.0 m.2
    ]
  where
    new : TidyPublish q trace p → (z : Bool) → eqb p.queue q ≡ z → (i : ℕ) → slice_get (cond z p.batch []) i ≡ Some s
        → IsNarrow q s
    new t true z i x = record {
      queue = subst (λ (k : ℕ). k < 65536) (eqb-true p.queue q z) t.queue;
      cid = batch_narrow (waiting_in trace) p.queue (length (published_in trace p.queue)) p.batch i s (t.free z) x;
    }
    new t false z i x = absurd (let f : None ≡ Some s = x in cc)

-- and so is each submission queue of a trace that is tidy on one of them
pub queue_in : (trace : List Seen) (k q j : ℕ) (s : Submission) → tidy_on k trace ≡ true
    → slice_get (published_in trace q) j ≡ Some s → q < 65536
queue_in [] k q j s h e = absurd (let f : None ≡ Some s = e in cc)
queue_in (Seen.Reaped r ∷ trace) k q j s h e = queue_in trace k q j s h e
queue_in (Seen.Published p ∷ trace) k q j s h e =
    let t = tidy_publish k trace p h in
    elim (get_cases (published_in trace q) (cond (eqb p.queue q) p.batch []) j s e) [
      | inl x ↦ queue_in trace k q j s t.before x
      | inr m ↦ new t (eqb p.queue q) refl m.0 m.2
    ]
  where
    new : TidyPublish k trace p → (z : Bool) → eqb p.queue q ≡ z → (i : ℕ) → slice_get (cond z p.batch []) i ≡ Some s
        → q < 65536
    new t true z i x = subst (λ (n : ℕ). n < 65536) (eqb-true p.queue q z) t.queue
    new t false z i x = absurd (let f : None ≡ Some s = x in cc)

-- ---- the entries that wait

with_kept : (book : Book) (q cid j r i k : ℕ) → book q cid ≡ None → book r i ≡ Some k
    → with_entry book q cid j r i ≡ Some k
with_kept book q cid j r i k none e = elim (cases_Bool (eqb r q && eqb i cid)) [
  | inr f ↦ cond-false (eqb r q && eqb i cid) (Some j) (book r i) f ∙ e
  | inl f ↦ let a = and_parts (eqb r q) (eqb i cid) f in
      no_some k (with_entry book q cid j r i ≡ Some k)
      (sym (ap₂ book (eqb-true r q a.0) (eqb-true i cid a.1) ∙ none) ∙ e)
]

with_own : (book : Book) (q cid j : ℕ) → with_entry book q cid j q cid ≡ Some j
with_own book q cid j =
    cond-true (eqb q q && eqb cid cid) (Some j) (book q cid)
    (and_from _ _ (eq-eqb q q refl) (eq-eqb cid cid refl))

-- entries of another queue leave who waits on this one
with_other : (book : Book) (q cid j r i : ℕ) → eqb q r ≡ false → with_entry book q cid j r i ≡ book r i
with_other book q cid j r i z =
    cond-false (eqb r q && eqb i cid) (Some j) (book r i) (ap (λ (x : Bool). x && eqb i cid) (flip (eqb r q) refl))
  where
    flip : (x : Bool) → eqb r q ≡ x → eqb r q ≡ false
    flip false e = e
    flip true e = absurd (let f : false ≡ true = sym z ∙ eq-eqb q r (sym (eqb-true r q e)) in cc)

pub batch_other : (book : Book) (q j : ℕ) (batch : List Submission) (r i : ℕ) → eqb q r ≡ false
    → with_batch book q j batch r i ≡ book r i
batch_other book q j [] r i z = refl
batch_other book q j (s ∷ batch) r i z =
    batch_other (with_entry book q (cid_of s) j) q (suc j) batch r i z ∙ with_other book q (cid_of s) j r i z

-- a batch under free CIDs leaves who waits
batch_kept : (book : Book) (q j : ℕ) (batch : List Submission) (r i k : ℕ) → has_free_cids book q j batch ≡ true
    → book r i ≡ Some k → with_batch book q j batch r i ≡ Some k
batch_kept book q j [] r i k h e = e
batch_kept book q j (s ∷ batch) r i k h e =
    let f = free_first book q j s batch h in
    batch_kept (with_entry book q (cid_of s) j) q (suc j) batch r i k f.rest
    (with_kept book q (cid_of s) j r i k f.none e)

-- and adds its own entries
batch_adds : (book : Book) (q j : ℕ) (batch : List Submission) (m : ℕ) (s : Submission)
    → has_free_cids book q j batch ≡ true → slice_get batch m ≡ Some s
    → with_batch book q j batch q (cid_of s) ≡ Some (j + m)
batch_adds book q j [] m s h e = absurd (let f : None ≡ Some s = e in cc)
batch_adds book q j (x ∷ batch) zero s h e =
    let f = free_first book q j x batch h in
    subst (λ (y : Submission). with_batch book q j (x ∷ batch) q (cid_of y) ≡ Some (j + 0))
    (same_some x s (Some x) refl e)
    (batch_kept (with_entry book q (cid_of x) j) q (suc j) batch q (cid_of x) (j + 0) f.rest
    (with_own book q (cid_of x) j ∙ ap Some (omega arith)))
batch_adds book q j (x ∷ batch) (suc m) s h e =
    let f = free_first book q j x batch h in
    batch_adds (with_entry book q (cid_of x) j) q (suc j) batch m s f.rest e ∙ ap Some (omega arith)

-- each entry of this queue that waits in a legal history is found under its CID
abbrev pub FindsWaiting : ConfigNumbers → Past → ℕ → Type 0
FindsWaiting c past q = (cid j : ℕ) → IsEntryWaiting c past q cid j → waiting_in (observed c past) q cid ≡ Some j

waits_published : (c : ConfigNumbers) (past : Past) (p : PublishLine) (q : ℕ)
    → tidy_on q (observed c (Entry.Publish p ∷ past)) ≡ true
    → FindsWaiting c past q → FindsWaiting c (Entry.Publish p ∷ past) q
waits_published c past p q d ih cid j w =
    elim (get_cases (published_entries past q) (cond (eqb p.queue q) p.batch []) j w.entry w.published) [
      | inl x ↦ old (ih cid j (record { entry = w.entry; published = x; says = w.says; unreaped = w.unreaped }))
          (eqb p.queue q) refl
      | inr m ↦ new (eqb p.queue q) refl m.0 m.1 m.2
    ]
  where
    t : TidyPublish q (observed c past) p
    t = tidy_publish q (observed c past) p d

    old : waiting_in (observed c past) q cid ≡ Some j → (z : Bool) → eqb p.queue q ≡ z
        → waiting_in (observed c (Entry.Publish p ∷ past)) q cid ≡ Some j
    old e true z = batch_kept (waiting_in (observed c past)) p.queue (length (published_in (observed c past) p.queue))
        p.batch q cid j (t.free z) e
    old e false z = batch_other (waiting_in (observed c past)) p.queue
        (length (published_in (observed c past) p.queue)) p.batch q cid z ∙ e

    new : (z : Bool) → eqb p.queue q ≡ z → (m : ℕ)
        → j ≡ length (published_entries past q) + m → slice_get (cond z p.batch []) m ≡ Some w.entry
        → waiting_in (observed c (Entry.Publish p ∷ past)) q cid ≡ Some j
    new false z m l x = absurd (let f : None ≡ Some w.entry = x in cc)
    new true z m l x =
        let same = eqb-true p.queue q z in
        let there = batch_adds (waiting_in (observed c past)) p.queue (length (published_in (observed c past) p.queue))
        p.batch m w.entry (t.free z) x in
        ap₂ (waiting_in (observed c (Entry.Publish p ∷ past))) (sym same) (sym w.says)
        ∙ (there ∙ ap Some (omega (
          arith,
          l,
          ap length (published_seen c past q),
          ap (λ (k : ℕ). length (published_in (observed c past) k)) same,
        )))

-- the entry that a Reap answers is the one that waits under the CID that it names
pub record AnswersOne (c : ConfigNumbers) (past : Past) (r : ReapLine) (x : ReapAnswers c past r) : Type 0 where
  pub sqid : (cqe_fields r.cqe).sqid ≡ x.queue
  pub cid : (cqe_fields r.cqe).cid ≡ cid_of x.entry
  pub number : answered (observed c past) r.cqe ≡ Some x.number

-- the queue that a completion names is that of the entry it answers
pub names_queue : (c : ConfigNumbers) (past : Past) (r : ReapLine) (x : ReapAnswers c past r) (k : ℕ)
    → tidy_on k (observed c past) ≡ true → (cqe_fields r.cqe).sqid ≡ x.queue
names_queue c past r x k d =
    x.sqid (queue_in (observed c past) k x.queue x.number x.entry d
    (ap (λ (l : List Submission). slice_get l x.number) (sym (published_seen c past x.queue)) ∙ x.published))

answers_by : (c : ConfigNumbers) (past : Past) (r : ReapLine) (x : ReapAnswers c past r)
    → tidy_on x.queue (observed c past) ≡ true → FindsWaiting c past x.queue → AnswersOne c past r x
answers_by c past r x d f =
    let there : slice_get (published_in (observed c past) x.queue) x.number ≡ Some x.entry =
    ap (λ (l : List Submission). slice_get l x.number) (sym (published_seen c past x.queue)) ∙ x.published in
    let n = narrow_in (observed c past) x.queue x.number x.entry d there in
    let sqid = x.sqid n.queue in
    let cid = x.cid n.cid in
    record {
      sqid = sqid;
      cid = cid;
      number = ap₂ (waiting_in (observed c past)) sqid cid
          ∙ f (cid_of x.entry) x.number
          (record { entry = x.entry; published = x.published; says = refl; unreaped = x.unreaped });
    }

waits_reaped : (c : ConfigNumbers) (past : Past) (r : ReapLine) (q : ℕ) → IsLegal c (Entry.Reap r ∷ past)
    → tidy_on q (observed c past) ≡ true → FindsWaiting c past q → FindsWaiting c (Entry.Reap r ∷ past) q
waits_reaped c past r q h d ih cid j w =
    let x = reap_answers c past r h in
    let old : waiting_in (observed c past) q cid ≡ Some j = ih cid j (record {
      entry = w.entry;
      published = w.published;
      says = w.says;
      unreaped = none_if (reaped_post c past q j) (λ p s.
          let f : Some p ≡ None = sym (reaped_later c (Entry.Reap r ∷ []) past q j p h s) ∙ w.unreaped in cc);
    }) in
    let e = cqe_fields r.cqe in
    elim (cases_Bool (eqb q e.sqid && eqb cid e.cid)) [
      | inr f ↦ cond-false (eqb q e.sqid && eqb cid e.cid) None (waiting_in (observed c past) q cid) f ∙ old
      | inl f ↦
          let k = and_parts (eqb q e.sqid) (eqb cid e.cid) f in
          let queue = eqb-true q e.sqid k.0 in
          let same : q ≡ x.queue = queue ∙ names_queue c past r x q d in
          let a = answers_by c past r x (subst (λ (n : ℕ). tidy_on n (observed c past) ≡ true) same d)
          (subst (FindsWaiting c past) same ih) in
          let number = same_some j x.number (waiting_in (observed c past) q cid) old
          (ap₂ (waiting_in (observed c past)) queue (eqb-true cid e.cid k.1) ∙ a.number) in
          let both : Some x.post ≡ None =
          sym (ap₂ (reaped_post c (Entry.Reap r ∷ past)) same number ∙ x.reaped) ∙ w.unreaped in
          absurd cc
    ]

pub finds_waiting : (c : ConfigNumbers) (past : Past) (q : ℕ) → IsLegal c past → tidy_on q (observed c past) ≡ true
    → FindsWaiting c past q
finds_waiting c [] q h d = λ cid j w. absurd (let f : None ≡ Some w.entry = w.published in cc)
finds_waiting c (Entry.Publish p ∷ past) q h d =
    waits_published c past p q d
    (finds_waiting c past q (follows c past (Entry.Publish p) h).before (tidy_publish q (observed c past) p d).before)
finds_waiting c (Entry.Reap r ∷ past) q h d =
    waits_reaped c past r q h d (finds_waiting c past q (follows c past (Entry.Reap r) h).before d)
finds_waiting c (Entry.Fetch f ∷ past) q h d = λ cid j w.
    finds_waiting c past q (follows c past (Entry.Fetch f) h).before d cid j
    (record { entry = w.entry; published = w.published; says = w.says; unreaped = w.unreaped })
finds_waiting c (Entry.Grant f ∷ past) q h d = λ cid j w.
    finds_waiting c past q (follows c past (Entry.Grant f) h).before d cid j
    (record { entry = w.entry; published = w.published; says = w.says; unreaped = w.unreaped })
finds_waiting c (Entry.Block f ∷ past) q h d = λ cid j w.
    finds_waiting c past q (follows c past (Entry.Block f) h).before d cid j
    (record { entry = w.entry; published = w.published; says = w.says; unreaped = w.unreaped })
finds_waiting c (Entry.Post f ∷ past) q h d = λ cid j w.
    finds_waiting c past q (follows c past (Entry.Post f) h).before d cid j
    (record { entry = w.entry; published = w.published; says = w.says; unreaped = w.unreaped })

-- ---- answers

-- by the queue that it names
pub answers_one : (c : ConfigNumbers) (past : Past) (r : ReapLine) (h : IsLegal c (Entry.Reap r ∷ past))
    → tidy_on (cqe_fields r.cqe).sqid (observed c past) ≡ true → AnswersOne c past r (reap_answers c past r h)
answers_one c past r h d =
    let x = reap_answers c past r h in
    let tidy : tidy_on x.queue (observed c past) ≡ true =
    subst (λ (n : ℕ). tidy_on n (observed c past) ≡ true) (names_queue c past r x (cqe_fields r.cqe).sqid d) d in
    answers_by c past r x tidy (finds_waiting c past x.queue (follows c past (Entry.Reap r) h).before tidy)

-- a line answers by the bytes and the data of the Post
abbrev pub AnswersAs : Option ReapedLine → Option PostLine → Type 0
AnswersAs None None = Unit {0}
AnswersAs None (Some p) = ⊥
AnswersAs (Some r) None = ⊥
AnswersAs (Some r) (Some p) = (p.cqe ≡ r.cqe) × (p.payload ≡ r.payload)

number_is : (i j : ℕ) (o : Option ℕ) → o ≡ Some i → is_number j o ≡ eqb i j
number_is i j o e = ap (is_number j) e

answers_reaped : (c : ConfigNumbers) (past : Past) (r : ReapLine) → IsLegal c (Entry.Reap r ∷ past)
    → (q j : ℕ) → tidy_on q (observed c past) ≡ true
    → AnswersAs (answer_in (observed c past) q j) (reaped_post c past q j)
    → AnswersAs (answer_in (observed c (Entry.Reap r ∷ past)) q j) (reaped_post c (Entry.Reap r ∷ past) q j)
answers_reaped c past r h q j d ih = go x test (eqb x.queue q && eqb x.number j) refl
  where
    x : ReapAnswers c past r
    x = reap_answers c past r h

    test : (eqb (cqe_fields r.cqe).sqid q && is_number j (answered (observed c past) r.cqe))
        ≡ (eqb x.queue q && eqb x.number j)
    test = by (eqb x.queue q) refl
      where
        sqid : (cqe_fields r.cqe).sqid ≡ x.queue
        sqid = names_queue c past r x q d

        by : (z : Bool) → eqb x.queue q ≡ z
            → (eqb (cqe_fields r.cqe).sqid q && is_number j (answered (observed c past) r.cqe))
            ≡ (eqb x.queue q && eqb x.number j)
        by false z =
            ap₂ (λ (u v : Bool). u && v) (ap (λ (k : ℕ). eqb k q) sqid ∙ z) refl
            ∙ ap (λ (u : Bool). u && eqb x.number j) (sym z)
        by true z =
            let a = answers_one c past r h
            (subst (λ (n : ℕ). tidy_on n (observed c past) ≡ true) (sym (sqid ∙ eqb-true x.queue q z)) d) in
            ap₂ (λ (u v : Bool). u && v) (ap (λ (k : ℕ). eqb k q) sqid) (number_is x.number j _ a.number)

    line : ReapedLine
    line = record { queue = r.queue; cqe = r.cqe; payload = next_payload c past r.queue }

    go : (x : ReapAnswers c past r)
        → (eqb (cqe_fields r.cqe).sqid q && is_number j (answered (observed c past) r.cqe))
        ≡ (eqb x.queue q && eqb x.number j)
        → (b : Bool) → (eqb x.queue q && eqb x.number j) ≡ b
        → AnswersAs (answer_in (observed c (Entry.Reap r ∷ past)) q j) (reaped_post c (Entry.Reap r ∷ past) q j)
    go x test true z =
        let k = and_parts (eqb x.queue q) (eqb x.number j) z in
        let post : reaped_post c (Entry.Reap r ∷ past) q j ≡ Some x.post =
        ap₂ (reaped_post c (Entry.Reap r ∷ past)) (sym (eqb-true x.queue q k.0)) (sym (eqb-true x.number j k.1))
        ∙ x.reaped in
        let mine : answer_in (observed c (Entry.Reap r ∷ past)) q j ≡ Some line =
        cond-true _ (Some line) (answer_in (observed c past) q j) (test ∙ z) in
        subst (λ (o : Option PostLine). AnswersAs (answer_in (observed c (Entry.Reap r ∷ past)) q j) o) (sym post)
        (subst (λ (o : Option ReapedLine). AnswersAs o (Some x.post)) (sym mine)
        (x.cqe, sym (ap reaped_payload x.posted)))
    go x test false z =
        let other : q ≡ x.queue → j ≡ x.number → ⊥ = λ e f.
        let y : false ≡ true = sym z ∙ and_from _ _ (eq-eqb x.queue q (sym e)) (eq-eqb x.number j (sym f)) in cc in
        let mine : answer_in (observed c (Entry.Reap r ∷ past)) q j ≡ answer_in (observed c past) q j =
        cond-false _ (Some line) (answer_in (observed c past) q j) (test ∙ z) in
        subst (λ (o : Option PostLine). AnswersAs (answer_in (observed c (Entry.Reap r ∷ past)) q j) o)
        (sym (x.others q j other))
        (subst (λ (o : Option ReapedLine). AnswersAs o (reaped_post c past q j)) (sym mine) ih)

pub answers_told : (c : ConfigNumbers) (past : Past) (q j : ℕ) → IsLegal c past
    → tidy_on q (observed c past) ≡ true → AnswersAs (answer_in (observed c past) q j) (reaped_post c past q j)
answers_told c [] q j h d = tt
answers_told c (Entry.Publish p ∷ past) q j h d =
    answers_told c past q j (follows c past (Entry.Publish p) h).before (tidy_publish q (observed c past) p d).before
answers_told c (Entry.Reap r ∷ past) q j h d =
    answers_reaped c past r h q j d (answers_told c past q j (follows c past (Entry.Reap r) h).before d)
answers_told c (Entry.Fetch f ∷ past) q j h d = answers_told c past q j (follows c past (Entry.Fetch f) h).before d
answers_told c (Entry.Grant f ∷ past) q j h d = answers_told c past q j (follows c past (Entry.Grant f) h).before d
answers_told c (Entry.Block f ∷ past) q j h d = answers_told c past q j (follows c past (Entry.Block f) h).before d
answers_told c (Entry.Post f ∷ past) q j h d = answers_told c past q j (follows c past (Entry.Post f) h).before d

-- ---- by cases

pub answer_post : (c : ConfigNumbers) (past : Past) (q j : ℕ) (r : ReapedLine) → IsLegal c past
    → tidy_on q (observed c past) ≡ true → answer_in (observed c past) q j ≡ Some r
    → (p : PostLine) × (reaped_post c past q j ≡ Some p) × (p.cqe ≡ r.cqe) × (p.payload ≡ r.payload)
answer_post c past q j r h d e =
    go (reaped_post c past q j) refl
    (subst (λ (o : Option ReapedLine). AnswersAs o (reaped_post c past q j)) e (answers_told c past q j h d))
  where
    go : (o : Option PostLine) → reaped_post c past q j ≡ o → AnswersAs (Some r) o
        → (p : PostLine) × (reaped_post c past q j ≡ Some p) × (p.cqe ≡ r.cqe) × (p.payload ≡ r.payload)
    go None z a = absurd a
    go (Some p) z a = (p, z, a.0, a.1)

pub no_answer_post : (c : ConfigNumbers) (past : Past) (q j : ℕ) → IsLegal c past
    → tidy_on q (observed c past) ≡ true
    → answer_in (observed c past) q j ≡ None → reaped_post c past q j ≡ None
no_answer_post c past q j h d e =
    go (reaped_post c past q j) refl
    (subst (λ (o : Option ReapedLine). AnswersAs o (reaped_post c past q j)) e (answers_told c past q j h d))
  where
    go : (o : Option PostLine) → reaped_post c past q j ≡ o → AnswersAs None o → reaped_post c past q j ≡ None
    go None z a = z
    go (Some p) z a = absurd a
