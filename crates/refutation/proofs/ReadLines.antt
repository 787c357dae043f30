-- A trace tells the same of entries, CIDs and SQHD as what it reads, as far as its options leave it.
use Rattle.std.proofs.Common.{◌≡◌, ℕ, zero, suc, ◌+◌, ◌-◌, ◌%◌, ◌≤◌, Bool, true, false, ◌&&◌, cond, List, [], ◌∷◌}
use Rattle.std.proofs.Common.{Option, None, Some, is_none, length, max, slice_get, nat_le, nat_lt, refl, ap, ap₂}
use Rattle.std.proofs.Common.{◌∙◌, subst, inl, inr, arith, eqb, set}
use Rattle.nvme_model.specs.EntryBytes.{cqe_fields, field}
use Rattle.nvme_model.specs.declared.config.ConfigNumbers.{ConfigNumbers}
use Rattle.nvme_model.specs.declared.submission.Submission.{Submission}
use Rattle.host_laws.specs.Book.{Book, cid_of, with_entry}
use Rattle.host_laws.proofs.Verdicts.{fuse}
use Rattle.trace.specs.Options.{Pointwise, ReadsAs, ReadsEntry, ReadsReap, refused}
use Rattle.trace.specs.declared.options.TraceOptions.{TraceOptions}
use Rattle.trace.specs.declared.seen.ReapedLine.{ReapedLine}
use Rattle.trace.specs.declared.seen.Seen.{Seen}
use Rattle.trace.proofs.Pointwise.{one_behind, same_length}
use Rattle.refutation.specs.LineRules.{count_to, least_fetched, next_at, next_whole}
use Rattle.refutation.specs.Lines.{answer_in, answered, before_entry, has_free_cids, is_number, is_tidy}
use Rattle.refutation.specs.Lines.{published_in}
use Rattle.refutation.specs.Lines.{reaped_in, waiting_in, with_batch}
use Rattle.refutation.specs.MayAnswer.{are_together, has_fuse, parts_pair}
use Rattle.refutation.proofs.ReadFields.{cid_read, field_above, sqhd_read, sqid_read}

-- these lines of a history stand for those of a trace
abbrev pub Reads : TraceOptions → List Seen → List Seen → Type 0
Reads o seen trace = Pointwise (ReadsAs o) seen trace

-- ---- an entry

pub refused_field : (first count : ℕ) (bytes : List ℕ) → first + count ≤ 4
    → field first count (refused bytes) ≡ field first count bytes
refused_field first count bytes l =
    at 7 (set (set (set bytes 4 0) 5 0) 6 0) (omega arith)
    ∙ (at 6 (set (set bytes 4 0) 5 0) (omega arith) ∙ (at 5 (set bytes 4 0) (omega arith) ∙ at 4 bytes (omega arith)))
  where
    at : (i : ℕ) (xs : List ℕ) → 4 ≤ i → field first count (set xs i 0) ≡ field first count xs
    at i xs m =
        let same : i ≡ first + (i - first) = omega (arith, l, m) in
        ap (λ (n : ℕ). field first count (set xs n 0)) same
        ∙ field_above first count (i - first) 0 xs (omega (arith, l, m))

pub same_cid : (o : TraceOptions) (e t : Submission) → ReadsEntry o e t → cid_of e ≡ cid_of t
same_cid o e t (p, inl h) = ap (field 2 2) h
same_cid o e t (p, inr h) = ap (field 2 2) h.1 ∙ refused_field 2 2 t.entry (omega arith)

pub same_fuse : (o : TraceOptions) (e t : Submission) → ReadsEntry o e t → fuse e ≡ fuse t
same_fuse o e t (p, inl h) = ap (λ (b : List ℕ). field 1 1 b % 4) h
same_fuse o e t (p, inr h) =
    ap (λ (b : List ℕ). field 1 1 b % 4) h.1 ∙ ap (λ (n : ℕ). n % 4) (refused_field 1 1 t.entry (omega arith))

-- ---- what is published and reaped

pub published_reads : (o : TraceOptions) (seen trace : List Seen) (q : ℕ) → Reads o seen trace
    → Pointwise (ReadsEntry o) (published_in seen q) (published_in trace q)
published_reads o [] [] q h = tt
published_reads o [] (t ∷ trace) q h = absurd h
published_reads o (s ∷ seen) [] q h = absurd h
published_reads o (Seen.Published p ∷ seen) (Seen.Published t ∷ trace) q h =
    one_behind (ReadsEntry o) (published_in seen q) (published_in trace q) (cond (eqb p.queue q) p.batch [])
    (cond (eqb t.queue q) t.batch []) (published_reads o seen trace q h.1)
    (subst (λ (n : ℕ). Pointwise (ReadsEntry o) (cond (eqb p.queue q) p.batch []) (cond (eqb n q) t.batch [])) h.0.0
    (by (eqb p.queue q)))
  where
    by : (b : Bool) → Pointwise (ReadsEntry o) (cond b p.batch []) (cond b t.batch [])
    by true = h.0.1
    by false = tt
published_reads o (Seen.Published p ∷ seen) (Seen.Reaped t ∷ trace) q h = absurd h.0
published_reads o (Seen.Reaped r ∷ seen) (Seen.Published t ∷ trace) q h = absurd h.0
published_reads o (Seen.Reaped r ∷ seen) (Seen.Reaped t ∷ trace) q h = published_reads o seen trace q h.1

pub same_count : (o : TraceOptions) (seen trace : List Seen) (q : ℕ) → Reads o seen trace
    → length (published_in seen q) ≡ length (published_in trace q)
same_count o seen trace q h =
    same_length (ReadsEntry o) (published_in seen q) (published_in trace q) (published_reads o seen trace q h)

pub same_reaped : (o : TraceOptions) (seen trace : List Seen) (n : ℕ) → Reads o seen trace
    → reaped_in seen n ≡ reaped_in trace n
same_reaped o [] [] n h = refl
same_reaped o [] (t ∷ trace) n h = absurd h
same_reaped o (s ∷ seen) [] n h = absurd h
same_reaped o (Seen.Published p ∷ seen) (Seen.Published t ∷ trace) n h = same_reaped o seen trace n h.1
same_reaped o (Seen.Published p ∷ seen) (Seen.Reaped t ∷ trace) n h = absurd h.0
same_reaped o (Seen.Reaped r ∷ seen) (Seen.Published t ∷ trace) n h = absurd h.0
same_reaped o (Seen.Reaped r ∷ seen) (Seen.Reaped t ∷ trace) n h =
    ap₂ (λ (k m : ℕ). k + cond (eqb m n) 1 0) (same_reaped o seen trace n h.1) h.0.0

-- ---- who waits

same_batch : (o : TraceOptions) (old book : Book) (q j : ℕ) (es ts : List Submission) (r i : ℕ)
    → ((r i : ℕ) → old r i ≡ book r i) → Pointwise (ReadsEntry o) es ts
    → with_batch old q j es r i ≡ with_batch book q j ts r i
same_batch o old book q j [] [] r i same h = same r i
same_batch o old book q j [] (t ∷ ts) r i same h = absurd h
same_batch o old book q j (e ∷ es) [] r i same h = absurd h
same_batch o old book q j (e ∷ es) (t ∷ ts) r i same h =
    same_batch o (with_entry old q (cid_of e) j) (with_entry book q (cid_of t) j) q (suc j) es ts r i
    (λ x y. ap₂ (λ (k : ℕ) (z : Option ℕ). cond (eqb x q && eqb y k) (Some j) z) (same_cid o e t h.0) (same x y)) h.1

same_free : (o : TraceOptions) (old book : Book) (q j : ℕ) (es ts : List Submission)
    → ((r i : ℕ) → old r i ≡ book r i) → Pointwise (ReadsEntry o) es ts
    → has_free_cids old q j es ≡ has_free_cids book q j ts
same_free o old book q j [] [] same h = refl
same_free o old book q j [] (t ∷ ts) same h = absurd h
same_free o old book q j (e ∷ es) [] same h = absurd h
same_free o old book q j (e ∷ es) (t ∷ ts) same h =
    let cid = same_cid o e t h.0 in
    ap₂ (λ (x y : Bool). x && y)
    (ap₂ (λ (x y : Bool). x && y) (ap (λ (k : ℕ). nat_lt k 65536) cid)
    (ap is_none (ap (old q) cid ∙ same q (cid_of t))))
    (same_free o (with_entry old q (cid_of e) j) (with_entry book q (cid_of t) j) q (suc j) es ts
    (λ x y. ap₂ (λ (k : ℕ) (z : Option ℕ). cond (eqb x q && eqb y k) (Some j) z) cid (same x y)) h.1)

pub same_waiting : (o : TraceOptions) (seen trace : List Seen) → Reads o seen trace
    → (q cid : ℕ) → waiting_in seen q cid ≡ waiting_in trace q cid
same_waiting o [] [] h q cid = refl
same_waiting o [] (t ∷ trace) h q cid = absurd h
same_waiting o (s ∷ seen) [] h q cid = absurd h
same_waiting o (Seen.Published p ∷ seen) (Seen.Published t ∷ trace) h q cid =
    ap₂ (λ (n j : ℕ). with_batch (waiting_in seen) n j p.batch q cid) h.0.0
    (same_count o seen trace p.queue h.1 ∙ ap (λ (n : ℕ). length (published_in trace n)) h.0.0)
    ∙ same_batch o (waiting_in seen) (waiting_in trace) t.queue (length (published_in trace t.queue)) p.batch t.batch q
    cid (same_waiting o seen trace h.1) h.0.1
same_waiting o (Seen.Published p ∷ seen) (Seen.Reaped t ∷ trace) h q cid = absurd h.0
same_waiting o (Seen.Reaped r ∷ seen) (Seen.Published t ∷ trace) h q cid = absurd h.0
same_waiting o (Seen.Reaped r ∷ seen) (Seen.Reaped t ∷ trace) h q cid =
    ap₂ (λ (a b : ℕ). cond (eqb q a && eqb cid b) None (waiting_in seen q cid)) (sqid_read o r.cqe t.cqe h.0.1)
    (cid_read o r.cqe t.cqe h.0.1)
    ∙ ap (λ (z : Option ℕ). cond (eqb q (cqe_fields t.cqe).sqid && eqb cid (cqe_fields t.cqe).cid) None z)
    (same_waiting o seen trace h.1 q cid)

pub same_tidy : (o : TraceOptions) (seen trace : List Seen) → Reads o seen trace → is_tidy seen ≡ is_tidy trace
same_tidy o [] [] h = refl
same_tidy o [] (t ∷ trace) h = absurd h
same_tidy o (s ∷ seen) [] h = absurd h
same_tidy o (Seen.Published p ∷ seen) (Seen.Published t ∷ trace) h =
    ap₂ (λ (x y : Bool). x && y)
    (ap₂ (λ (x : Bool) (n : ℕ). x && nat_lt n 65536) (same_tidy o seen trace h.1) h.0.0)
    (ap₂ (λ (n j : ℕ). has_free_cids (waiting_in seen) n j p.batch) h.0.0
    (same_count o seen trace p.queue h.1 ∙ ap (λ (n : ℕ). length (published_in trace n)) h.0.0)
    ∙ same_free o (waiting_in seen) (waiting_in trace) t.queue (length (published_in trace t.queue)) p.batch t.batch
    (same_waiting o seen trace h.1) h.0.1)
same_tidy o (Seen.Published p ∷ seen) (Seen.Reaped t ∷ trace) h = absurd h.0
same_tidy o (Seen.Reaped r ∷ seen) (Seen.Published t ∷ trace) h = absurd h.0
same_tidy o (Seen.Reaped r ∷ seen) (Seen.Reaped t ∷ trace) h = same_tidy o seen trace h.1

pub same_answered : (o : TraceOptions) (seen trace : List Seen) (a b : List ℕ) → Reads o seen trace
    → (cqe_fields a).sqid ≡ (cqe_fields b).sqid → (cqe_fields a).cid ≡ (cqe_fields b).cid
    → answered seen a ≡ answered trace b
same_answered o seen trace a b h x y =
    ap₂ (waiting_in seen) x y ∙ same_waiting o seen trace h (cqe_fields b).sqid (cqe_fields b).cid

-- ---- the lines that answer

abbrev pub AnswersRead : TraceOptions → Option ReapedLine → Option ReapedLine → Type 0
AnswersRead o None None = Unit {0}
AnswersRead o None (Some t) = ⊥
AnswersRead o (Some r) None = ⊥
AnswersRead o (Some r) (Some t) = ReadsReap o r t

pub same_answer : (o : TraceOptions) (seen trace : List Seen) (q j : ℕ) → Reads o seen trace
    → AnswersRead o (answer_in seen q j) (answer_in trace q j)
same_answer o [] [] q j h = tt
same_answer o [] (t ∷ trace) q j h = absurd h
same_answer o (s ∷ seen) [] q j h = absurd h
same_answer o (Seen.Published p ∷ seen) (Seen.Published t ∷ trace) q j h = same_answer o seen trace q j h.1
same_answer o (Seen.Published p ∷ seen) (Seen.Reaped t ∷ trace) q j h = absurd h.0
same_answer o (Seen.Reaped r ∷ seen) (Seen.Published t ∷ trace) q j h = absurd h.0
same_answer o (Seen.Reaped r ∷ seen) (Seen.Reaped t ∷ trace) q j h =
    let sqid = sqid_read o r.cqe t.cqe h.0.1 in
    let test : (eqb (cqe_fields r.cqe).sqid q && is_number j (answered seen r.cqe))
    ≡ (eqb (cqe_fields t.cqe).sqid q && is_number j (answered trace t.cqe)) =
    ap₂ (λ (x y : Bool). x && y) (ap (λ (n : ℕ). eqb n q) sqid)
    (ap (is_number j) (same_answered o seen trace r.cqe t.cqe h.1 sqid (cid_read o r.cqe t.cqe h.0.1))) in
    subst (λ (b : Bool). AnswersRead o
    (cond (eqb (cqe_fields r.cqe).sqid q && is_number j (answered seen r.cqe)) (Some r) (answer_in seen q j))
    (cond b (Some t) (answer_in trace q j))) test
    (by (eqb (cqe_fields r.cqe).sqid q && is_number j (answered seen r.cqe)) (same_answer o seen trace q j h.1))
  where
    by : (b : Bool) → AnswersRead o (answer_in seen q j) (answer_in trace q j)
        → AnswersRead o (cond b (Some r) (answer_in seen q j)) (cond b (Some t) (answer_in trace q j))
    by true ih = h.0
    by false ih = ih

-- ---- pairs

pub before_reads : (o : TraceOptions) (seen trace : List Seen) (q j : ℕ) → Reads o seen trace
    → Reads o (before_entry seen q j) (before_entry trace q j)
before_reads o [] [] q j h = tt
before_reads o [] (t ∷ trace) q j h = absurd h
before_reads o (s ∷ seen) [] q j h = absurd h
before_reads o (s ∷ seen) (t ∷ trace) q j h =
    subst (λ (n : ℕ). Reads o (cond (nat_le (length (published_in (s ∷ seen) q)) j) (s ∷ seen) (before_entry seen q j))
    (cond (nat_le n j) (t ∷ trace) (before_entry trace q j))) (same_count o (s ∷ seen) (t ∷ trace) q h)
    (by (nat_le (length (published_in (s ∷ seen) q)) j) (before_reads o seen trace q j h.1))
  where
    by : (b : Bool) → Reads o (before_entry seen q j) (before_entry trace q j)
        → Reads o (cond b (s ∷ seen) (before_entry seen q j)) (cond b (t ∷ trace) (before_entry trace q j))
    by true ih = h
    by false ih = ih

pub same_together : (o : TraceOptions) (seen trace : List Seen) (q j : ℕ) → Reads o seen trace
    → are_together seen q j ≡ are_together trace q j
same_together o seen trace q j h =
    ap (λ (n : ℕ). nat_le n j)
    (same_count o (before_entry seen q (suc j)) (before_entry trace q (suc j)) q (before_reads o seen trace q
    (suc j) h))

fuse_at : (o : TraceOptions) (f i : ℕ) (es ts : List Submission) → Pointwise (ReadsEntry o) es ts
    → has_fuse f (slice_get es i) ≡ has_fuse f (slice_get ts i)
fuse_at o f i [] [] h = refl
fuse_at o f i [] (t ∷ ts) h = absurd h
fuse_at o f i (e ∷ es) [] h = absurd h
fuse_at o f zero (e ∷ es) (t ∷ ts) h = ap (λ (n : ℕ). eqb n f) (same_fuse o e t h.0)
fuse_at o f (suc i) (e ∷ es) (t ∷ ts) h = fuse_at o f i es ts h.1

pub same_parts : (o : TraceOptions) (seen trace : List Seen) (q n : ℕ) → Reads o seen trace
    → parts_pair seen q n ≡ parts_pair trace q n
same_parts o seen trace q zero h = refl
same_parts o seen trace q (suc i) h =
    let p = published_reads o seen trace q h in
    ap₂ (λ (x y : Bool). x && y)
    (ap₂ (λ (x y : Bool). x && y) (fuse_at o 1 i (published_in seen q) (published_in trace q) p)
    (fuse_at o 2 (suc i) (published_in seen q) (published_in trace q) p)) (same_together o seen trace q i h)

-- ---- SQHD

pub same_least : (o : TraceOptions) (c : ConfigNumbers) (seen trace : List Seen) (q : ℕ) → o.ignored.sqhd ≡ false
    → Reads o seen trace → least_fetched c seen q ≡ least_fetched c trace q
same_least o c [] [] q kept h = refl
same_least o c [] (t ∷ trace) q kept h = absurd h
same_least o c (s ∷ seen) [] q kept h = absurd h
same_least o c (Seen.Published p ∷ seen) (Seen.Published t ∷ trace) q kept h = same_least o c seen trace q kept h.1
same_least o c (Seen.Published p ∷ seen) (Seen.Reaped t ∷ trace) q kept h = absurd h.0
same_least o c (Seen.Reaped r ∷ seen) (Seen.Published t ∷ trace) q kept h = absurd h.0
same_least o c (Seen.Reaped r ∷ seen) (Seen.Reaped t ∷ trace) q kept h =
    let sqid = sqid_read o r.cqe t.cqe h.0.1 in
    let head = sqhd_read o r.cqe t.cqe kept h.0.1 in
    let before = same_least o c seen trace q kept h.1 in
    let number = same_answered o seen trace r.cqe t.cqe h.1 sqid (cid_read o r.cqe t.cqe h.0.1) in
    let at : next_at c.sq_size (max (least_fetched c seen q) (count_to (answered seen r.cqe))) (cqe_fields r.cqe).sqhd
    ≡ next_at c.sq_size (max (least_fetched c trace q) (count_to (answered trace t.cqe))) (cqe_fields t.cqe).sqhd =
    ap₂ (next_at c.sq_size) (ap₂ max before (ap count_to number)) head in
    let whole : (n : ℕ) → next_whole c seen q (cqe_fields r.cqe).sqhd n
    ≡ next_whole c trace q (cqe_fields t.cqe).sqhd n =
    λ n. ap₂ (λ (b : Bool) (k : ℕ). cond b (next_at c.sq_size (suc n) k) n) (same_parts o seen trace q n h.1) head in
    ap₂ (λ (a b : ℕ). cond (eqb a q) b (least_fetched c seen q)) sqid
    (ap (next_whole c seen q (cqe_fields r.cqe).sqhd) at
    ∙ whole (next_at c.sq_size (max (least_fetched c trace q) (count_to (answered trace t.cqe)))
    (cqe_fields t.cqe).sqhd))
    ∙ ap (λ (b : ℕ). cond (eqb (cqe_fields t.cqe).sqid q)
    (next_whole c trace q (cqe_fields t.cqe).sqhd
    (next_at c.sq_size (max (least_fetched c trace q) (count_to (answered trace t.cqe))) (cqe_fields t.cqe).sqhd)) b)
    before
