-- What a trace tells of its own queues, whatever lines of the pair that it lacks stand between.
use Rattle.std.proofs.Common.{◌≡◌, ℕ, zero, suc, ◌<◌, ◌==◌, Bool, true, false, not, ◌&&◌, ◌||◌, cond, List, []}
use Rattle.std.proofs.Common.{◌∷◌, ◌++◌, length, refl, sym, ap, ap₂, ◌∙◌, subst, Option, Some, None, eq-eqb, eqb}
use Rattle.std.proofs.Common.{eqb-true, is_none, max, nat_le, nat_lt, slice_get, lt-ltb}
use Rattle.std.proofs.lemmas.Bool.{and_parts, and_from, cond-true, cond-false, or_left}
use Rattle.std.proofs.lemmas.List.{append-nil}
use Rattle.nvme_model.specs.EntryBytes.{cqe_fields}
use Rattle.nvme_model.specs.declared.config.ConfigNumbers.{ConfigNumbers}
use Rattle.nvme_model.specs.declared.entry.PublishLine.{PublishLine}
use Rattle.nvme_model.specs.declared.submission.Submission.{Submission}
use Rattle.host_laws.specs.Book.{Book, cid_of, with_entry}
use Rattle.trace.specs.Aside.{is_aside, own}
use Rattle.trace.specs.declared.seen.ReapedLine.{ReapedLine}
use Rattle.trace.specs.declared.seen.Seen.{Seen}
use Rattle.refutation.specs.LineRules.{count_to, least_fetched, next_at, next_whole}
use Rattle.refutation.specs.Lines.{answer_in, answered, before_entry, has_free_cids, is_number, is_tidy}
use Rattle.refutation.specs.Lines.{published_in, waiting_in, with_batch}
use Rattle.refutation.specs.MayAnswer.{are_together, has_fuse, parts_pair}
use Rattle.refutation.proofs.Lines.{batch_other, tidy_on}

-- the queue isn't that of the pair
abbrev pub is_other : Option ℕ → ℕ → Bool
is_other None q = true
is_other (Some n) q = not (q == n)

-- its number has 16 bits
abbrev pub IsNarrow : Option ℕ → Type 0
IsNarrow None = Unit {0}
IsNarrow (Some n) = n < 65536

turned : (x : Bool) → not x ≡ true → x ≡ false
turned false h = refl
turned true h = absurd (let f : false ≡ true = h in cc)

-- a line of the pair is of no other queue
pub not_there : (n : Option ℕ) (k q : ℕ) → (e : (m : ℕ) → n ≡ Some m → k ≡ m) → ((m : ℕ) × (n ≡ Some m))
    → is_other n q ≡ true → eqb k q ≡ false
not_there n k q e some o = by (eqb k q) refl
  where
    by : (b : Bool) → eqb k q ≡ b → b ≡ false
    by false z = refl
    by true z =
        let m : k ≡ some.0 = e some.0 some.1 in
        let same : q ≡ some.0 = sym (eqb-true k q z) ∙ m in
        let off : eqb q some.0 ≡ false =
        turned (eqb q some.0) (ap (λ (x : Option ℕ). is_other x q) (sym some.1) ∙ o) in
        let f : true ≡ false = sym (eq-eqb q some.0 same) ∙ off in
        absurd cc

pub published_aside : (n : Option ℕ) (p : PublishLine) (q : ℕ) → is_aside n (Seen.Published p) ≡ true
    → is_other n q ≡ true → eqb p.queue q ≡ false
published_aside None p q h o = absurd (let f : false ≡ true = h in cc)
published_aside (Some m) p q h o =
    not_there (Some m) p.queue q (λ k e. eqb-true p.queue m h ∙ (let x = e in cc)) (m, refl) o

pub reaped_aside : (n : Option ℕ) (r : ReapedLine) (q : ℕ) → is_aside n (Seen.Reaped r) ≡ true
    → is_other n q ≡ true → eqb (cqe_fields r.cqe).sqid q ≡ false
reaped_aside None r q h o = absurd (let f : false ≡ true = h in cc)
reaped_aside (Some m) r q h o =
    not_there (Some m) (cqe_fields r.cqe).sqid q (λ k e. eqb-true (cqe_fields r.cqe).sqid m h ∙ (let x = e in cc))
    (m, refl) o

-- any other line is of another queue
pub published_other : (n : Option ℕ) (p : PublishLine) → is_aside n (Seen.Published p) ≡ false
    → is_other n p.queue ≡ true
published_other None p h = refl
published_other (Some m) p h = ap not h

pub reaped_other : (n : Option ℕ) (r : ReapedLine) → is_aside n (Seen.Reaped r) ≡ false
    → is_other n (cqe_fields r.cqe).sqid ≡ true
reaped_other None r h = refl
reaped_other (Some m) r h = ap not h

-- ---- what is published

pub own_published : (n : Option ℕ) (seen : List Seen) (q : ℕ) → is_other n q ≡ true
    → published_in (own n seen) q ≡ published_in seen q
own_published n [] q o = refl
own_published n (Seen.Published p ∷ seen) q o =
    by (is_aside n (Seen.Published p)) refl (own_published n seen q o)
  where
    by : (b : Bool) → is_aside n (Seen.Published p) ≡ b → published_in (own n seen) q ≡ published_in seen q
        → published_in (cond b (own n seen) (Seen.Published p ∷ own n seen)) q
        ≡ published_in seen q ++ cond (eqb p.queue q) p.batch []
    by true e ih =
        ih ∙ sym (ap (λ (x : Bool). published_in seen q ++ cond x p.batch []) (published_aside n p q e o)
        ∙ append-nil (published_in seen q))
    by false e ih = ap (λ (l : List Submission). l ++ cond (eqb p.queue q) p.batch []) ih
own_published n (Seen.Reaped r ∷ seen) q o = by (is_aside n (Seen.Reaped r)) (own_published n seen q o)
  where
    by : (b : Bool) → published_in (own n seen) q ≡ published_in seen q
        → published_in (cond b (own n seen) (Seen.Reaped r ∷ own n seen)) q ≡ published_in seen q
    by true ih = ih
    by false ih = ih

-- ---- who waits

batch_same : (old book : Book) (q j : ℕ) (batch : List Submission) (r : ℕ) → ((i : ℕ) → old r i ≡ book r i) → (i : ℕ)
    → with_batch old q j batch r i ≡ with_batch book q j batch r i
batch_same old book q j [] r h i = h i
batch_same old book q j (s ∷ batch) r h i =
    batch_same (with_entry old q (cid_of s) j) (with_entry book q (cid_of s) j) q (suc j) batch r
    (λ k. ap (λ (x : Option ℕ). cond (eqb r q && eqb k (cid_of s)) (Some j) x) (h k)) i

free_same : (old book : Book) (q j : ℕ) (batch : List Submission) → ((i : ℕ) → old q i ≡ book q i)
    → has_free_cids old q j batch ≡ has_free_cids book q j batch
free_same old book q j [] h = refl
free_same old book q j (s ∷ batch) h =
    ap₂ (λ (x : Option ℕ) (y : Bool). nat_lt (cid_of s) 65536 && is_none x && y) (h (cid_of s))
    (free_same (with_entry old q (cid_of s) j) (with_entry book q (cid_of s) j) q (suc j) batch
    (λ k. ap (λ (x : Option ℕ). cond (eqb q q && eqb k (cid_of s)) (Some j) x) (h k)))

pub own_waiting : (n : Option ℕ) (seen : List Seen) (q : ℕ) → is_other n q ≡ true → (cid : ℕ)
    → waiting_in (own n seen) q cid ≡ waiting_in seen q cid
own_waiting n [] q o cid = refl
own_waiting n (Seen.Published p ∷ seen) q o cid =
    by (is_aside n (Seen.Published p)) refl (own_waiting n seen q o)
  where
    by : (b : Bool) → is_aside n (Seen.Published p) ≡ b
        → ((i : ℕ) → waiting_in (own n seen) q i ≡ waiting_in seen q i)
        → waiting_in (cond b (own n seen) (Seen.Published p ∷ own n seen)) q cid
        ≡ with_batch (waiting_in seen) p.queue (length (published_in seen p.queue)) p.batch q cid
    by true e ih =
        ih cid ∙ sym (batch_other (waiting_in seen) p.queue (length (published_in seen p.queue)) p.batch q cid
        (published_aside n p q e o))
    by false e ih =
        ap (λ (l : List Submission). with_batch (waiting_in (own n seen)) p.queue (length l) p.batch q cid)
        (own_published n seen p.queue (published_other n p e))
        ∙ batch_same (waiting_in (own n seen)) (waiting_in seen) p.queue (length (published_in seen p.queue)) p.batch
        q ih cid
own_waiting n (Seen.Reaped r ∷ seen) q o cid = by (is_aside n (Seen.Reaped r)) refl (own_waiting n seen q o cid)
  where
    flipped : eqb (cqe_fields r.cqe).sqid q ≡ false → eqb q (cqe_fields r.cqe).sqid ≡ false
    flipped e = go (eqb q (cqe_fields r.cqe).sqid) refl
      where
        go : (x : Bool) → eqb q (cqe_fields r.cqe).sqid ≡ x → x ≡ false
        go false z = refl
        go true z =
            let f : true ≡ false =
            sym (eq-eqb (cqe_fields r.cqe).sqid q (sym (eqb-true q (cqe_fields r.cqe).sqid z))) ∙ e in
            absurd cc

    by : (b : Bool) → is_aside n (Seen.Reaped r) ≡ b → waiting_in (own n seen) q cid ≡ waiting_in seen q cid
        → waiting_in (cond b (own n seen) (Seen.Reaped r ∷ own n seen)) q cid
        ≡ cond (eqb q (cqe_fields r.cqe).sqid && eqb cid (cqe_fields r.cqe).cid) None (waiting_in seen q cid)
    by true e ih =
        ih ∙ sym (cond-false (eqb q (cqe_fields r.cqe).sqid && eqb cid (cqe_fields r.cqe).cid) None
        (waiting_in seen q cid)
        (ap (λ (x : Bool). x && eqb cid (cqe_fields r.cqe).cid) (flipped (reaped_aside n r q e o))))
    by false e ih =
        ap (λ (x : Option ℕ). cond (eqb q (cqe_fields r.cqe).sqid && eqb cid (cqe_fields r.cqe).cid) None x) ih

pub own_answered : (n : Option ℕ) (seen : List Seen) (r : ReapedLine) → is_other n (cqe_fields r.cqe).sqid ≡ true
    → answered (own n seen) r.cqe ≡ answered seen r.cqe
own_answered n seen r o = own_waiting n seen (cqe_fields r.cqe).sqid o (cqe_fields r.cqe).cid

-- where the trace is tidy, so is what was seen, on each of its queues
pub own_tidy : (n : Option ℕ) (seen : List Seen) (q : ℕ) → IsNarrow n → is_other n q ≡ true
    → is_tidy (own n seen) ≡ true → tidy_on q seen ≡ true
own_tidy n [] q k o h = refl
own_tidy n (Seen.Reaped r ∷ seen) q k o h = by (is_aside n (Seen.Reaped r)) h (own_tidy n seen q k o)
  where
    by : (b : Bool) → is_tidy (cond b (own n seen) (Seen.Reaped r ∷ own n seen)) ≡ true
        → (is_tidy (own n seen) ≡ true → tidy_on q seen ≡ true) → tidy_on q seen ≡ true
    by true d ih = ih d
    by false d ih = ih d
own_tidy n (Seen.Published p ∷ seen) q k o h =
    by (is_aside n (Seen.Published p)) refl h (own_tidy n seen q k o)
  where
    few : (m : Option ℕ) → IsNarrow m → is_aside m (Seen.Published p) ≡ true → p.queue < 65536
    few None l e = absurd (let f : false ≡ true = e in cc)
    few (Some m) l e = subst (λ (i : ℕ). i < 65536) (sym (eqb-true p.queue m e)) l

    by : (b : Bool) → is_aside n (Seen.Published p) ≡ b
        → is_tidy (cond b (own n seen) (Seen.Published p ∷ own n seen)) ≡ true
        → (is_tidy (own n seen) ≡ true → tidy_on q seen ≡ true) → tidy_on q (Seen.Published p ∷ seen) ≡ true
    by true e d ih =
        and_from _ _ (and_from _ _ (ih d) (lt-ltb p.queue 65536 (few n k e)))
        (or_left _ _ (ap not (published_aside n p q e o)))
    by false e d ih =
        let free = has_free_cids (waiting_in (own n seen)) p.queue (length (published_in (own n seen) p.queue)) p.batch
        in
        let x = and_parts (is_tidy (own n seen) && nat_lt p.queue 65536) free d in
        let y = and_parts (is_tidy (own n seen)) (nat_lt p.queue 65536) x.0 in
        let other = published_other n p e in
        let same : free ≡ has_free_cids (waiting_in seen) p.queue (length (published_in seen p.queue)) p.batch =
        ap (λ (l : List Submission). has_free_cids (waiting_in (own n seen)) p.queue (length l) p.batch)
        (own_published n seen p.queue other)
        ∙ free_same (waiting_in (own n seen)) (waiting_in seen) p.queue (length (published_in seen p.queue)) p.batch
        (own_waiting n seen p.queue other) in
        and_from _ _ (and_from _ _ (ih y.0) y.1) (or_then (not (p.queue == q)) _ (sym same ∙ x.1))
      where
        or_then : (x y : Bool) → y ≡ true → (x || y) ≡ true
        or_then true y z = refl
        or_then false y z = z

-- ---- the lines that answer

pub own_answer : (n : Option ℕ) (seen : List Seen) (q j : ℕ) → is_other n q ≡ true
    → answer_in (own n seen) q j ≡ answer_in seen q j
own_answer n [] q j o = refl
own_answer n (Seen.Published p ∷ seen) q j o = by (is_aside n (Seen.Published p)) (own_answer n seen q j o)
  where
    by : (b : Bool) → answer_in (own n seen) q j ≡ answer_in seen q j
        → answer_in (cond b (own n seen) (Seen.Published p ∷ own n seen)) q j ≡ answer_in seen q j
    by true ih = ih
    by false ih = ih
own_answer n (Seen.Reaped r ∷ seen) q j o = by (is_aside n (Seen.Reaped r)) refl (own_answer n seen q j o)
  where
    by : (b : Bool) → is_aside n (Seen.Reaped r) ≡ b → answer_in (own n seen) q j ≡ answer_in seen q j
        → answer_in (cond b (own n seen) (Seen.Reaped r ∷ own n seen)) q j
        ≡ cond (eqb (cqe_fields r.cqe).sqid q && is_number j (answered seen r.cqe)) (Some r) (answer_in seen q j)
    by true e ih =
        ih ∙ sym (cond-false (eqb (cqe_fields r.cqe).sqid q && is_number j (answered seen r.cqe)) (Some r)
        (answer_in seen q j)
        (ap (λ (x : Bool). x && is_number j (answered seen r.cqe)) (reaped_aside n r q e o)))
    by false e ih =
        ap₂ (λ (x : Option ℕ) (y : Option ReapedLine). cond (eqb (cqe_fields r.cqe).sqid q && is_number j x) (Some r) y)
        (own_answered n seen r (reaped_other n r e)) ih

-- ---- pairs

all_before : (seen : List Seen) (q j : ℕ) → nat_le (length (published_in seen q)) j ≡ true
    → before_entry seen q j ≡ seen
all_before [] q j h = refl
all_before (s ∷ seen) q j h =
    cond-true (nat_le (length (published_in (s ∷ seen) q)) j) (s ∷ seen) (before_entry seen q j) h

-- a line of the pair publishes nothing there
pub none_more : (n : Option ℕ) (s : Seen) (seen : List Seen) (q : ℕ) → is_other n q ≡ true → is_aside n s ≡ true
    → published_in (s ∷ seen) q ≡ published_in seen q
none_more n (Seen.Published p) seen q o e =
    ap (λ (x : Bool). published_in seen q ++ cond x p.batch []) (published_aside n p q e o)
    ∙ append-nil (published_in seen q)
none_more n (Seen.Reaped r) seen q o e = refl

-- any other line publishes the same there
pub same_more : (n : Option ℕ) (s : Seen) (seen : List Seen) (q : ℕ) → is_other n q ≡ true
    → published_in (s ∷ own n seen) q ≡ published_in (s ∷ seen) q
same_more n (Seen.Published p) seen q o =
    ap (λ (l : List Submission). l ++ cond (eqb p.queue q) p.batch []) (own_published n seen q o)
same_more n (Seen.Reaped r) seen q o = own_published n seen q o

pub own_before : (n : Option ℕ) (seen : List Seen) (q j : ℕ) → is_other n q ≡ true
    → own n (before_entry seen q j) ≡ before_entry (own n seen) q j
own_before n [] q j o = refl
own_before n (s ∷ seen) q j o = by (is_aside n s) refl (own_before n seen q j o)
  where
    t : Bool
    t = nat_le (length (published_in (s ∷ seen) q)) j

    by : (b : Bool) → is_aside n s ≡ b → own n (before_entry seen q j) ≡ before_entry (own n seen) q j
        → own n (cond t (s ∷ seen) (before_entry seen q j))
        ≡ before_entry (cond b (own n seen) (s ∷ own n seen)) q j
    by true e ih = go t refl
      where
        go : (x : Bool) → t ≡ x → own n (cond x (s ∷ seen) (before_entry seen q j)) ≡ before_entry (own n seen) q j
        go false z = ih
        go true z =
            cond-true (is_aside n s) (own n seen) (s ∷ own n seen) e
            ∙ sym (all_before (own n seen) q j
            (ap (λ (l : List Submission). nat_le (length l) j)
            (own_published n seen q o ∙ sym (none_more n s seen q o e)) ∙ z))
    by false e ih =
        go t
        ∙ sym (ap (λ (l : List Submission). cond (nat_le (length l) j) (s ∷ own n seen) (before_entry (own n seen) q j))
        (same_more n s seen q o))
      where
        go : (x : Bool) → own n (cond x (s ∷ seen) (before_entry seen q j))
            ≡ cond x (s ∷ own n seen) (before_entry (own n seen) q j)
        go true = cond-false (is_aside n s) (own n seen) (s ∷ own n seen) e
        go false = ih

pub own_together : (n : Option ℕ) (seen : List Seen) (q j : ℕ) → is_other n q ≡ true
    → are_together (own n seen) q j ≡ are_together seen q j
own_together n seen q j o =
    ap (λ (t : List Seen). nat_le (length (published_in t q)) j) (sym (own_before n seen q (suc j) o))
    ∙ ap (λ (l : List Submission). nat_le (length l) j) (own_published n (before_entry seen q (suc j)) q o)

pub own_parts : (n : Option ℕ) (seen : List Seen) (q j : ℕ) → is_other n q ≡ true
    → parts_pair (own n seen) q j ≡ parts_pair seen q j
own_parts n seen q zero o = refl
own_parts n seen q (suc i) o =
    ap₂ (λ (l : List Submission) (b : Bool). has_fuse 1 (slice_get l i) && has_fuse 2 (slice_get l (suc i)) && b)
    (own_published n seen q o) (own_together n seen q i o)

-- ---- SQHD

pub own_least : (n : Option ℕ) (c : ConfigNumbers) (seen : List Seen) (q : ℕ) → is_other n q ≡ true
    → least_fetched c (own n seen) q ≡ least_fetched c seen q
own_least n c [] q o = refl
own_least n c (Seen.Published p ∷ seen) q o = by (is_aside n (Seen.Published p)) (own_least n c seen q o)
  where
    by : (b : Bool) → least_fetched c (own n seen) q ≡ least_fetched c seen q
        → least_fetched c (cond b (own n seen) (Seen.Published p ∷ own n seen)) q ≡ least_fetched c seen q
    by true ih = ih
    by false ih = ih
own_least n c (Seen.Reaped r ∷ seen) q o = by (is_aside n (Seen.Reaped r)) refl (own_least n c seen q o)
  where
    whole : List Seen → ℕ → ℕ
    whole t m =
        next_whole c t q (cqe_fields r.cqe).sqhd
        (next_at c.sq_size (max m (count_to (answered t r.cqe))) (cqe_fields r.cqe).sqhd)

    by : (b : Bool) → is_aside n (Seen.Reaped r) ≡ b → least_fetched c (own n seen) q ≡ least_fetched c seen q
        → least_fetched c (cond b (own n seen) (Seen.Reaped r ∷ own n seen)) q
        ≡ cond (eqb (cqe_fields r.cqe).sqid q) (whole seen (least_fetched c seen q)) (least_fetched c seen q)
    by true e ih =
        ih ∙ sym (cond-false (eqb (cqe_fields r.cqe).sqid q) (whole seen (least_fetched c seen q))
        (least_fetched c seen q) (reaped_aside n r q e o))
    by false e ih =
        ap₂ (λ (k m : ℕ). cond (eqb (cqe_fields r.cqe).sqid q) k m)
        (ap₂ (λ (m : ℕ) (x : Option ℕ). next_whole c (own n seen) q (cqe_fields r.cqe).sqhd
        (next_at c.sq_size (max m (count_to x)) (cqe_fields r.cqe).sqhd)) ih
        (own_answered n seen r (reaped_other n r e))
        ∙ ap (λ (b : Bool). cond b (next_at c.sq_size (suc (low seen)) (cqe_fields r.cqe).sqhd) (low seen))
        (own_parts n seen q (low seen) o)) ih
      where
        low : List Seen → ℕ
        low t =
            next_at c.sq_size (max (least_fetched c t q) (count_to (answered t r.cqe))) (cqe_fields r.cqe).sqhd
