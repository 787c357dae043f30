-- What is kept of a submission queue, line by line, is what the trace tells.
use Rattle.std.proofs.Common.{◌≡◌, ℕ, zero, suc, ◌+◌, ◌-◌, ◌<◌, ◌≤◌, Bool, true, false, ◌&&◌, cond, List, []}
use Rattle.std.proofs.Common.{◌∷◌}
use Rattle.std.proofs.Common.{◌++◌, Option, None, Some, length, length-append, max, replicate}
use Rattle.std.proofs.Common.{slice_get}
use Rattle.std.proofs.Common.{nat_le, refl, sym, ap, ap₂, ◌∙◌, inl, inr, arith, eq-eqb, eqb, eqb-true}
use Rattle.std.proofs.lemmas.Bool.{cases_lt, cond-false, cond-true, le-leb, lt-leb}
use Rattle.std.proofs.lemmas.List.{append-nil, length-replicate, length-set}
use Rattle.std.proofs.lemmas.Option.{slice_get_past, slice_get_within}
use Rattle.plain_lemmas.proofs.Numbers.{eqb_swapped}
use Rattle.nvme_model.specs.EntryBytes.{cqe_fields}
use Rattle.nvme_model.specs.declared.config.ConfigNumbers.{ConfigNumbers}
use Rattle.nvme_model.specs.declared.submission.Submission.{Submission}
use Rattle.host_laws.specs.Book.{Book, cid_of, with_entry}
use Rattle.host_laws.proofs.Elements.{get_after, get_append, same_some}
use Rattle.trace.specs.declared.seen.ReapedLine.{ReapedLine}
use Rattle.trace.specs.declared.seen.Seen.{Seen}
use Rattle.refutation.specs.LineRules.{count_to, least_fetched, next_at, next_whole}
use Rattle.refutation.specs.Lines.{answered, before_entry, published_in, waiting_in}
use Rattle.refutation.specs.Lines.{with_batch}
use Rattle.refutation.specs.MayAnswer.{are_together, has_fuse, parts_pair}
use Rattle.refutation.specs.QueueBooks.{QueueBook, and_batch, answered_by, book_of, number_of}
use Rattle.refutation.specs.QueueBooks.{parts_by, starts_with, together_by, whole_by, with_answer, with_published}
use Rattle.refutation.specs.QueueBooks.{with_reaped, without_cid}

-- ---- the entries

pub entries_are : (c : ConfigNumbers) (trace : List Seen) (q : ℕ) → (book_of c trace q).entries ≡ published_in trace q
entries_are c [] q = refl
entries_are c (Seen.Published p ∷ trace) q = go (eqb p.queue q) (entries_are c trace q)
  where
    go : (b : Bool) → (book_of c trace q).entries ≡ published_in trace q
        → (cond b (with_published (book_of c trace q) p.batch) (book_of c trace q)).entries
        ≡ published_in trace q ++ cond b p.batch []
    go true ih = ap (λ (xs : List Submission). xs ++ p.batch) ih
    go false ih = ih ∙ sym (append-nil (published_in trace q))
entries_are c (Seen.Reaped r ∷ trace) q = go (eqb (cqe_fields r.cqe).sqid q) (entries_are c trace q)
  where
    go : (b : Bool) → (book_of c trace q).entries ≡ published_in trace q
        → (cond b (with_reaped c (book_of c trace q) r) (book_of c trace q)).entries ≡ published_in trace q
    go true ih = ih
    go false ih = ih

-- ---- who waits

batch_here : (waiting : List (ℕ × ℕ)) (book : Book) (q j : ℕ) (batch : List Submission) (i : ℕ)
    → ((k : ℕ) → number_of waiting k ≡ book q k)
    → number_of (and_batch waiting j batch) i ≡ with_batch book q j batch q i
batch_here waiting book q j [] i h = h i
batch_here waiting book q j (s ∷ batch) i h =
    batch_here ((cid_of s, j) ∷ waiting) (with_entry book q (cid_of s) j) q (suc j) batch i
    (λ k. ap₂ (λ (x : Option ℕ) (b : Bool). cond (b && eqb k (cid_of s)) (Some j) x) (h k) (sym (eq-eqb q q refl)))

pub batch_elsewhere : (book : Book) (p j : ℕ) (batch : List Submission) (q i : ℕ) → eqb q p ≡ false
    → with_batch book p j batch q i ≡ book q i
batch_elsewhere book p j [] q i e = refl
batch_elsewhere book p j (s ∷ batch) q i e =
    batch_elsewhere (with_entry book p (cid_of s) j) p (suc j) batch q i e
    ∙ ap (λ (b : Bool). cond (b && eqb i (cid_of s)) (Some j) (book q i)) e

abbrev no_number : Option ℕ
no_number = None

without_is : (waiting : List (ℕ × ℕ)) (a i : ℕ)
    → number_of (without_cid waiting a) i ≡ cond (eqb i a) None (number_of waiting i)
without_is [] a i = go (eqb i a)
  where
    go : (b : Bool) → no_number ≡ cond b no_number no_number
    go true = refl
    go false = refl
without_is (w ∷ waiting) a i = go (eqb a w.0) (eqb i a) (eqb i w.0) refl refl refl (without_is waiting a i)
  where
    go : (x y z : Bool) → eqb a w.0 ≡ x → eqb i a ≡ y → eqb i w.0 ≡ z
        → number_of (without_cid waiting a) i ≡ cond (eqb i a) None (number_of waiting i)
        → number_of (cond x (without_cid waiting a) (w ∷ without_cid waiting a)) i
        ≡ cond y None (cond z (Some w.1) (number_of waiting i))
    go true true z e f g ih = ih ∙ ap (λ (b : Bool). cond b None (number_of waiting i)) f
    go true false true e f g ih =
        let same : i ≡ a = eqb-true i w.0 g ∙ sym (eqb-true a w.0 e) in
        let z : true ≡ false = sym (eq-eqb i a same) ∙ f in absurd cc
    go true false false e f g ih = ih ∙ ap (λ (b : Bool). cond b None (number_of waiting i)) f
    go false true true e f g ih =
        let same : a ≡ w.0 = sym (eqb-true i a f) ∙ eqb-true i w.0 g in
        let z : true ≡ false = sym (eq-eqb a w.0 same) ∙ e in absurd cc
    go false true false e f g ih =
        ap (λ (b : Bool). cond b (Some w.1) (number_of (without_cid waiting a) i)) g
        ∙ (ih ∙ ap (λ (b : Bool). cond b None (number_of waiting i)) f)
    go false false true e f g ih = ap (λ (b : Bool). cond b (Some w.1) (number_of (without_cid waiting a) i)) g
    go false false false e f g ih =
        ap (λ (b : Bool). cond b (Some w.1) (number_of (without_cid waiting a) i)) g
        ∙ (ih ∙ ap (λ (b : Bool). cond b None (number_of waiting i)) f)

pub waits_are : (c : ConfigNumbers) (trace : List Seen) (q i : ℕ)
    → number_of (book_of c trace q).waiting i ≡ waiting_in trace q i
waits_are c [] q i = refl
waits_are c (Seen.Published p ∷ trace) q i = go (eqb p.queue q) refl (λ k. waits_are c trace q k)
  where
    go : (b : Bool) → eqb p.queue q ≡ b → ((k : ℕ) → number_of (book_of c trace q).waiting k ≡ waiting_in trace q k)
        → number_of (cond b (with_published (book_of c trace q) p.batch) (book_of c trace q)).waiting i
        ≡ with_batch (waiting_in trace) p.queue (length (published_in trace p.queue)) p.batch q i
    go true e ih =
        let same : p.queue ≡ q = eqb-true p.queue q e in
        batch_here (book_of c trace q).waiting (waiting_in trace) q (length (book_of c trace q).entries) p.batch i ih
        ∙ (ap (λ (es : List Submission). with_batch (waiting_in trace) q (length es) p.batch q i)
        (entries_are c trace q)
        ∙ ap (λ (k : ℕ). with_batch (waiting_in trace) k (length (published_in trace k)) p.batch q i) (sym same))
    go false e ih =
        ih i ∙ sym (batch_elsewhere (waiting_in trace) p.queue (length (published_in trace p.queue)) p.batch q i
        (eqb_swapped q p.queue ∙ e))
waits_are c (Seen.Reaped r ∷ trace) q i = go (eqb (cqe_fields r.cqe).sqid q) refl (waits_are c trace q i)
  where
    name : ℕ
    name = (cqe_fields r.cqe).cid

    turned : (b : Bool) → eqb (cqe_fields r.cqe).sqid q ≡ b → (b && eqb i name)
        ≡ (eqb q (cqe_fields r.cqe).sqid && eqb i name)
    turned b e = ap (λ (x : Bool). x && eqb i name) (sym e ∙ eqb_swapped (cqe_fields r.cqe).sqid q)

    go : (b : Bool) → eqb (cqe_fields r.cqe).sqid q ≡ b → number_of (book_of c trace q).waiting i ≡ waiting_in trace q i
        → number_of (cond b (with_reaped c (book_of c trace q) r) (book_of c trace q)).waiting i
        ≡ cond (eqb q (cqe_fields r.cqe).sqid && eqb i name) None (waiting_in trace q i)
    go true e ih =
        without_is (book_of c trace q).waiting name i
        ∙ (ap (cond (eqb i name) None) ih ∙ ap (λ (x : Bool). cond x None (waiting_in trace q i)) (turned true e))
    go false e ih = ih ∙ ap (λ (x : Bool). cond x None (waiting_in trace q i)) (turned false e)

-- a number that waits is that of an entry
batch_below : (book : Book) (p j : ℕ) (batch : List Submission) (q i m n : ℕ)
    → ((k : ℕ) → book q i ≡ Some k → k < n) → j + length batch ≤ n
    → with_batch book p j batch q i ≡ Some m → m < n
batch_below book p j [] q i m n h l e = h m e
batch_below book p j (s ∷ batch) q i m n h l e =
    batch_below (with_entry book p (cid_of s) j) p (suc j) batch q i m n
    (λ k. by (eqb q p && eqb i (cid_of s)) k) (omega (arith, l)) e
  where
    by : (b : Bool) (k : ℕ) → cond b (Some j) (book q i) ≡ Some k → k < n
    by true k f = omega (arith, l, same_some j k (Some j) refl f)
    by false k f = h k f

pub waits_below : (trace : List Seen) (q i m : ℕ) → waiting_in trace q i ≡ Some m → m < length (published_in trace q)
waits_below [] q i m e = absurd (let f : None ≡ Some m = e in cc)
waits_below (Seen.Published p ∷ trace) q i m e =
    go (eqb p.queue q) refl (λ k f. waits_below trace q i k f)
  where
    go : (b : Bool) → eqb p.queue q ≡ b
        → ((k : ℕ) → waiting_in trace q i ≡ Some k → k < length (published_in trace q))
        → m < length (published_in trace q ++ cond b p.batch [])
    go true z ih =
        let same = eqb-true p.queue q z in
        batch_below (waiting_in trace) p.queue (length (published_in trace p.queue)) p.batch q i m
        (length (published_in trace q ++ p.batch))
        (λ k f. omega (arith, ih k f, length-append (published_in trace q) p.batch))
        (omega (
          arith,
          length-append (published_in trace q) p.batch,
          ap (λ (k : ℕ). length (published_in trace k)) same,
        )) e
    go false z ih =
        let old : waiting_in trace q i ≡ Some m =
        sym (batch_elsewhere (waiting_in trace) p.queue (length (published_in trace p.queue)) p.batch q i
        (eqb_swapped q p.queue ∙ z)) ∙ e in
        omega (arith, ih m old, length-append (published_in trace q) [])
waits_below (Seen.Reaped r ∷ trace) q i m e =
    go (eqb q (cqe_fields r.cqe).sqid && eqb i (cqe_fields r.cqe).cid) e (λ f. waits_below trace q i m f)
  where
    go : (b : Bool) → cond b None (waiting_in trace q i) ≡ Some m
        → (waiting_in trace q i ≡ Some m → m < length (published_in trace q)) → m < length (published_in trace q)
    go true f ih = absurd (let z : None ≡ Some m = f in cc)
    go false f ih = ih f

-- ---- where each entry's line begins

abbrev no_line : Option ReapedLine
no_line = None

pub same_places : (c : ConfigNumbers) (trace : List Seen) (q : ℕ)
    → (length (book_of c trace q).starts ≡ length (book_of c trace q).entries)
    × (length (book_of c trace q).answers ≡ length (book_of c trace q).entries)
same_places c [] q = (refl, refl)
same_places c (Seen.Published p ∷ trace) q = go (eqb p.queue q) (same_places c trace q)
  where
    b : QueueBook
    b = book_of c trace q

    go : (x : Bool) → (length b.starts ≡ length b.entries) × (length b.answers ≡ length b.entries)
        → (length (cond x (with_published b p.batch) b).starts ≡ length (cond x (with_published b p.batch) b).entries)
        × (length (cond x (with_published b p.batch) b).answers ≡ length (cond x (with_published b p.batch) b).entries)
    go true ih =
        let all = length-append b.entries p.batch in (
          omega (
            arith,
            ih.0,
            all,
            length-append b.starts (replicate (length p.batch) (length b.entries)),
            length-replicate (length p.batch) (length b.entries),
          ),
          omega (
            arith,
            ih.1,
            all,
            length-append b.answers (replicate (length p.batch) no_line),
            none_long
                (length p.batch),
          ),
        )
      where
        none_long : (n : ℕ) → length (replicate n no_line) ≡ n
        none_long n = length-replicate n no_line
    go false ih = ih
same_places c (Seen.Reaped r ∷ trace) q = go (eqb (cqe_fields r.cqe).sqid q) (same_places c trace q)
  where
    b : QueueBook
    b = book_of c trace q

    kept : (n : Option ℕ) → length (with_answer b.answers n r) ≡ length b.answers
    kept None = refl
    kept (Some j) = length-set b.answers j (Some r)

    go : (x : Bool) → (length b.starts ≡ length b.entries) × (length b.answers ≡ length b.entries)
        → (length (cond x (with_reaped c b r) b).starts ≡ length (cond x (with_reaped c b r) b).entries)
        × (length (cond x (with_reaped c b r) b).answers ≡ length (cond x (with_reaped c b r) b).entries)
    go true ih = (ih.0, kept (answered_by b r) ∙ ih.1)
    go false ih = ih

pub get_replicated : {A : Type 0} (n i : ℕ) (x : A) → i < n → slice_get (replicate n x) i ≡ Some x
get_replicated zero i x l = absurd (omega (arith, l))
get_replicated (suc n) zero x l = refl
get_replicated (suc n) (suc i) x l = get_replicated n i x (omega (arith, l))

-- where entry j isn't published, all lines come before it
pub before_all : (trace : List Seen) (q j : ℕ) → length (published_in trace q) ≤ j → before_entry trace q j ≡ trace
before_all [] q j l = refl
before_all (s ∷ trace) q j l =
    cond-true (nat_le (length (published_in (s ∷ trace) q)) j) (s ∷ trace) (before_entry trace q j)
    (le-leb (length (published_in (s ∷ trace) q)) j l)

-- and where it is, a line more leaves those before it
before_more : (s : Seen) (trace : List Seen) (q j : ℕ) → j < length (published_in (s ∷ trace) q)
    → before_entry (s ∷ trace) q j ≡ before_entry trace q j
before_more s trace q j l =
    cond-false (nat_le (length (published_in (s ∷ trace) q)) j) (s ∷ trace) (before_entry trace q j)
    (lt-leb (length (published_in (s ∷ trace) q)) j l)

abbrev pub StartsAre : List Seen → ℕ → List ℕ → Type 0
StartsAre trace q starts = (j : ℕ) → j < length (published_in trace q)
    → slice_get starts j ≡ Some (length (published_in (before_entry trace q j) q))

starts_kept : (s : Seen) (trace : List Seen) (q : ℕ) (starts : List ℕ)
    → length (published_in (s ∷ trace) q) ≡ length (published_in trace q) → StartsAre trace q starts
    → StartsAre (s ∷ trace) q starts
starts_kept s trace q starts same h j l =
    h j (omega (arith, l, same))
    ∙ ap (λ (t : List Seen). Some (length (published_in t q))) (sym (before_more s trace q j l))

pub starts_are : (c : ConfigNumbers) (trace : List Seen) (q : ℕ) → StartsAre trace q (book_of c trace q).starts
starts_are c [] q = λ j l. absurd (omega (arith, l))
starts_are c (Seen.Published p ∷ trace) q = go (eqb p.queue q) refl (starts_are c trace q)
  where
    b : QueueBook
    b = book_of c trace q

    go : (x : Bool) → eqb p.queue q ≡ x → StartsAre trace q b.starts
        → StartsAre (Seen.Published p ∷ trace) q (cond x (with_published b p.batch) b).starts
    go false e ih =
        starts_kept (Seen.Published p) trace q b.starts
        (ap (λ (y : Bool). length (published_in trace q ++ cond y p.batch [])) e
        ∙ ap (λ (l : List Submission). length l) (append-nil (published_in trace q))) ih
    go true e ih = λ j l.
        let all : length (published_in (Seen.Published p ∷ trace) q) ≡ length (published_in trace q) + length p.batch =
        ap (λ (y : Bool). length (published_in trace q ++ cond y p.batch [])) e
        ∙ length-append (published_in trace q) p.batch in
        let count : length b.entries ≡ length (published_in trace q) =
        ap (λ (xs : List Submission). length xs) (entries_are c trace q) in
        let places = (same_places c trace q).0 in
        let more = before_more (Seen.Published p) trace q j l in
        elim (cases_lt j (length (published_in trace q))) [
          | inl k ↦
              get_append b.starts (replicate (length p.batch) (length b.entries)) j
              (length (published_in (before_entry trace q j) q)) (ih j k)
              ∙ ap (λ (t : List Seen). Some (length (published_in t q))) (sym more)
          | inr k ↦
              get_after b.starts (replicate (length p.batch) (length b.entries)) (j - length b.starts) j
              (length b.entries) (omega (arith, k, places, count))
              (get_replicated (length p.batch) (j - length b.starts) (length b.entries)
              (omega (arith, k, l, all, places, count)))
              ∙ (ap Some count
              ∙ ap (λ (t : List Seen). Some (length (published_in t q))) (sym (before_all trace q j k) ∙ sym more))
        ]
starts_are c (Seen.Reaped r ∷ trace) q = go (eqb (cqe_fields r.cqe).sqid q) (starts_are c trace q)
  where
    b : QueueBook
    b = book_of c trace q

    go : (x : Bool) → StartsAre trace q b.starts
        → StartsAre (Seen.Reaped r ∷ trace) q (cond x (with_reaped c b r) b).starts
    go true ih = starts_kept (Seen.Reaped r) trace q b.starts refl ih
    go false ih = starts_kept (Seen.Reaped r) trace q b.starts refl ih

pub together_is : (c : ConfigNumbers) (trace : List Seen) (q j : ℕ) → j < length (published_in trace q)
    → together_by (book_of c trace q).starts j ≡ are_together trace q j
together_is c trace q j l =
    elim (cases_lt (suc j) (length (published_in trace q))) [
      | inl k ↦ ap (λ (o : Option ℕ). starts_with o j) (starts_are c trace q (suc j) k)
      | inr k ↦
          let count : length (book_of c trace q).starts ≡ length (published_in trace q) =
          (same_places c trace q).0 ∙ ap (λ (xs : List Submission). length xs) (entries_are c trace q) in
          let none : slice_get (book_of c trace q).starts (suc j) ≡ None =
          slice_get_past (book_of c trace q).starts (suc j) (omega (arith, count, k)) in
          ap (λ (o : Option ℕ). starts_with o j) none
          ∙ sym (ap (λ (t : List Seen). nat_le (length (published_in t q)) j) (before_all trace q (suc j) k)
          ∙ lt-leb (length (published_in trace q)) j l)
    ]

-- ---- pairs

pub has_entry : (f : ℕ) (es : List Submission) (i : ℕ) → has_fuse f (slice_get es i) ≡ true → i < length es
has_entry f es i h = go (slice_get es i) refl h
  where
    go : (o : Option Submission) → slice_get es i ≡ o → has_fuse f o ≡ true → i < length es
    go None e k = absurd (let z : false ≡ true = k in cc)
    go (Some s) e k = slice_get_within es i s e

pub parts_are : (c : ConfigNumbers) (trace : List Seen) (q n : ℕ)
    → parts_by (book_of c trace q) n ≡ parts_pair trace q n
parts_are c trace q zero = refl
parts_are c trace q (suc i) =
    ap (λ (es : List Submission). has_fuse 1 (slice_get es i) && has_fuse 2 (slice_get es (suc i))
    && together_by (book_of c trace q).starts i) (entries_are c trace q)
    ∙ go (has_fuse 1 (slice_get (published_in trace q) i)) (has_fuse 2 (slice_get (published_in trace q) (suc i))) refl
  where
    go : (a b : Bool) → has_fuse 1 (slice_get (published_in trace q) i) ≡ a
        → (a && b && together_by (book_of c trace q).starts i) ≡ (a && b && are_together trace q i)
    go false b e = refl
    go true false e = refl
    go true true e = together_is c trace q i (has_entry 1 (published_in trace q) i e)

-- ---- how many were fetched

pub answered_is : (c : ConfigNumbers) (trace : List Seen) (r : ReapedLine)
    → answered_by (book_of c trace (cqe_fields r.cqe).sqid) r ≡ answered trace r.cqe
answered_is c trace r = waits_are c trace (cqe_fields r.cqe).sqid (cqe_fields r.cqe).cid

whole_is : (c : ConfigNumbers) (trace : List Seen) (q head n : ℕ)
    → whole_by c (book_of c trace q) head n ≡ next_whole c trace q head n
whole_is c trace q head n = ap (λ (b : Bool). cond b (next_at c.sq_size (suc n) head) n) (parts_are c trace q n)

pub least_is : (c : ConfigNumbers) (trace : List Seen) (q : ℕ)
    → (book_of c trace q).least ≡ least_fetched c trace q
least_is c [] q = refl
least_is c (Seen.Published p ∷ trace) q = go (eqb p.queue q) (least_is c trace q)
  where
    go : (b : Bool) → (book_of c trace q).least ≡ least_fetched c trace q
        → (cond b (with_published (book_of c trace q) p.batch) (book_of c trace q)).least ≡ least_fetched c trace q
    go true ih = ih
    go false ih = ih
least_is c (Seen.Reaped r ∷ trace) q = go (eqb (cqe_fields r.cqe).sqid q) refl (least_is c trace q)
  where
    head : ℕ
    head = (cqe_fields r.cqe).sqhd

    go : (b : Bool) → eqb (cqe_fields r.cqe).sqid q ≡ b → (book_of c trace q).least ≡ least_fetched c trace q
        → (cond b (with_reaped c (book_of c trace q) r) (book_of c trace q)).least
        ≡ cond b (next_whole c trace q head
        (next_at c.sq_size (max (least_fetched c trace q) (count_to (answered trace r.cqe))) head))
        (least_fetched c trace q)
    go false e ih = ih
    go true e ih =
        let number : answered_by (book_of c trace q) r ≡ answered trace r.cqe =
        waits_are c trace q (cqe_fields r.cqe).cid
        ∙ ap (λ (k : ℕ). waiting_in trace k (cqe_fields r.cqe).cid) (sym (eqb-true (cqe_fields r.cqe).sqid q e)) in
        whole_is c trace q head
        (next_at c.sq_size (max (book_of c trace q).least (count_to (answered_by (book_of c trace q) r))) head)
        ∙ ap₂ (λ (m : ℕ) (n : Option ℕ). next_whole c trace q head (next_at c.sq_size (max m
        (count_to n)) head)) ih number
