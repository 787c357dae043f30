-- What the Fetch of a ticket found at the front of its queue, by a tidy trace.
use Rattle.nvme_model.specs.Tickets
use Rattle.std.proofs.Common.{eqb-true, ◌+◌, ◌≡◌, ℕ, suc, ◌<◌, ◌≤◌, Bool, true, false, cond, List, [], ◌∷◌, ◌++◌, ◌⊎◌}
use Rattle.std.proofs.Common.{Option, None, Some, length, map, drop, slice_get, nat_le, refl, sym, ap, ◌∙◌, subst, inl}
use Rattle.std.proofs.Common.{inr, arith, eqb, length-drop, length-append}
use Rattle.std.proofs.lemmas.Bool.{cases_lt, cond-true, eqb-false, le-leb, lt-leb}
use Rattle.ticket_laws.proofs.Counts.{fetched_within}
use Rattle.nvme_model.specs.History.{Past}
use Rattle.nvme_model.specs.Legal.{IsLegal}
use Rattle.nvme_model.specs.Queues.{fetched_count, published_entries, waiting}
use Rattle.nvme_model.specs.Slots.{fetched_before}
use Rattle.nvme_model.specs.Tickets.{Ticket, cids_in_use, tickets}
use Rattle.nvme_model.specs.Verdict.{is_in, item_of, taken_entries, verdict_of}
use Rattle.nvme_model.specs.declared.config.ConfigNumbers.{ConfigNumbers}
use Rattle.nvme_model.specs.declared.entry.Entry.{Entry}
use Rattle.nvme_model.specs.declared.entry.FetchLine.{FetchLine}
use Rattle.nvme_model.specs.declared.status.Verdict.{Verdict}
use Rattle.nvme_model.specs.declared.submission.Submission.{Submission}
use Rattle.nvme_model.proofs.Beginnings.{earlier}
use Rattle.nvme_model.proofs.Rules.{follows}
use Rattle.host_laws.specs.Book.{HasDistinctCids, cid_of}
use Rattle.host_laws.proofs.Apart.{no_conflict}
use Rattle.host_laws.proofs.Elements.{get_drop, same_some}
use Rattle.host_laws.proofs.Fetches.{fetched_at}
use Rattle.host_laws.proofs.Later.{published_later}
use Rattle.host_laws.proofs.Verdicts.{fetch_verdict}
use Rattle.trace.specs.Observed.{observed}
use Rattle.trace.specs.declared.seen.Seen.{Seen}
use Rattle.trace.proofs.Beginnings.{goes_on}
use Rattle.refutation.specs.Lines.{before_entry, published_in, waiting_in}
use Rattle.refutation.specs.MayAnswer.{are_together, verdict_at}
use Rattle.refutation.proofs.Lines.{finds_waiting, on_before, published_seen, tidy_on}
use Rattle.refutation.proofs.TableStatus.{free_verdict}

-- ---- entries that one line publishes

grows : (more trace : List Seen) (q : ℕ) → length (published_in trace q) ≤ length (published_in (more ++ trace) q)
grows [] trace q = omega arith
grows (Seen.Published p ∷ more) trace q =
    omega (arith, grows more trace q, length-append (published_in (more ++ trace) q) (cond (eqb p.queue q) p.batch []))
grows (Seen.Reaped r ∷ more) trace q = grows more trace q

-- where a beginning ends with entry j, so does the one before entry j + 1, or later
ends_there : (more trace : List Seen) (q j : ℕ) → length (published_in trace q) ≡ suc j
    → suc j ≤ length (published_in (before_entry (more ++ trace) q (suc j)) q)
ends_there [] [] q j e = absurd (omega (arith, e))
ends_there [] (s ∷ trace) q j e =
    subst (λ (t : List Seen). suc j ≤ length (published_in t q))
    (sym (cond-true (nat_le (length (published_in (s ∷ trace) q)) (suc j)) (s ∷ trace) (before_entry trace q (suc j))
    (le-leb _ _ (omega (arith, e))))) (omega (arith, e))
ends_there (s ∷ more) trace q j e =
    go (nat_le (length (published_in (s ∷ (more ++ trace)) q)) (suc j)) (ends_there more trace q j e)
  where
    go : (b : Bool) → suc j ≤ length (published_in (before_entry (more ++ trace) q (suc j)) q)
        → suc j ≤ length (published_in (cond b (s ∷ (more ++ trace)) (before_entry (more ++ trace) q (suc j))) q)
    go true ih = omega (arith, grows (s ∷ more) trace q, e)
    go false ih = ih

pub not_together : (more trace : List Seen) (q j : ℕ) → length (published_in trace q) ≡ suc j
    → are_together (more ++ trace) q j ≡ false
not_together more trace q j e = lt-leb _ _ (ends_there more trace q j e)

-- ---- the front of the queue

-- a Fetch with this verdict found these, from number n on: the second is what is published there now, or none was and
-- it came by a later line
pub record FetchOf (c : ConfigNumbers) (past : Past) (v : Verdict) (q n : ℕ) : Type 0 where
  pub first : Submission
  pub next : Option Submission
  pub there : slice_get (published_entries past q) n ≡ Some first
  pub verdict : v ≡ verdict_at c first next
  pub behind : (next ≡ slice_get (published_entries past q) (suc n))
      ⊎ ((next ≡ None) × (are_together (observed c past) q n ≡ false))

-- in a tidy trace no two entries wait under one CID
pub distinct : (c : ConfigNumbers) (past : Past) (q : ℕ) → IsLegal c past → tidy_on q (observed c past) ≡ true
    → HasDistinctCids c past q
distinct c past q h d = λ cid i j x y.
    same_some i j (waiting_in (observed c past) q cid) (finds_waiting c past q h d cid i x)
    (finds_waiting c past q h d cid j y)

-- what a Fetch found, where the history goes on behind it
pub found : (c : ConfigNumbers) (past later before : Past) (f : FetchLine) (q n : ℕ)
    → past ≡ later ++ (Entry.Fetch f ∷ before) → IsLegal c past → tidy_on q (observed c past) ≡ true → f.queue ≡ q
    → fetched_count before q ≡ n → FetchOf c past f.verdict q n
found c past later before f q n is h d fq count = by_waiting (drop n (published_entries before q)) refl
  where
    whole : IsLegal c (later ++ (Entry.Fetch f ∷ before))
    whole = subst (λ (x : Past). IsLegal c x) is h

    here : IsLegal c (Entry.Fetch f ∷ before)
    here = earlier c later (Entry.Fetch f ∷ before) whole

    legal : IsLegal c before
    legal = (follows c before (Entry.Fetch f) here).before

    goes : (more : List Seen) × (observed c past ≡ more ++ observed c before)
    goes = let g = goes_on c later (Entry.Fetch f ∷ before) in (g.0, ap (observed c) is ∙ g.1)

    tidy : tidy_on q (observed c before) ≡ true
    tidy = on_before q goes.0 (observed c before) (subst (λ (x : List Seen). tidy_on q x ≡ true) goes.1 d)

    some : fetched_count before q < length (published_entries before q)
    some =
        let off : eqb (length (published_entries before q)) (fetched_count before q) ≡ false =
        subst (λ (x : ℕ). eqb (length (published_entries before x)) (fetched_count before x) ≡ false) fq
        (follows c before (Entry.Fetch f) here).allowed.1.0 in
        elim (cases_lt (fetched_count before q) (length (published_entries before q))) [
          | inl k ↦ k
          | inr k ↦ absurd (eqb-false _ _ off (omega (arith, k, fetched_within c before q legal)))
        ]

    free : (i : ℕ) (s : Submission) → n ≤ i → slice_get (published_entries before q) i ≡ Some s
        → is_in (cid_of s) (cids_in_use before q) ≡ false
    free i s l e = no_conflict c before q i s legal (distinct c before q legal tidy) (omega (arith, count, l)) e

    says : (w : List Submission) → drop n (published_entries before q) ≡ w
        → f.verdict ≡ verdict_of c.atomic c.blocks (cids_in_use before q) (map item_of w)
    says w e =
        subst (λ (x : List Submission).
        f.verdict ≡ verdict_of c.atomic c.blocks (cids_in_use before q) (map item_of x)) e
        (subst (λ (k : ℕ). f.verdict ≡ verdict_of c.atomic c.blocks (cids_in_use before q)
        (map item_of (drop k (published_entries before q)))) count
        (subst (λ (x : ℕ). f.verdict
        ≡ verdict_of c.atomic c.blocks (cids_in_use before x) (map item_of (waiting before x)))
        fq (fetch_verdict c before f here)))

    now : (i : ℕ) (s : Submission) → slice_get (published_entries before q) i ≡ Some s
        → slice_get (published_entries past q) i ≡ Some s
    now i s e =
        subst (λ (x : Past). slice_get (published_entries x q) i ≡ Some s) (sym is)
        (published_later later (Entry.Fetch f ∷ before) q i s e)

    by_waiting : (w : List Submission) → drop n (published_entries before q) ≡ w → FetchOf c past f.verdict q n
    by_waiting [] e =
        absurd (omega (
          arith,
          some,
          count,
          length-drop n (published_entries before q),
          ap (λ
              (x : List Submission). length x) e,
        ))
    by_waiting (a ∷ []) e =
        let one = get_drop n (published_entries before q) (a ∷ []) 0 n a e (omega arith) refl in
        let full : length (published_in (observed c before) q) ≡ suc n =
        omega (
          arith,
          some,
          count,
          length-drop n (published_entries before q),
          ap (λ (x : List Submission). length x) e,
          ap (λ (x : List Submission). length x) (published_seen c before q),
        ) in
        record {
          first = a;
          next = None;
          there = now n a one;
          verdict = (says (a ∷ []) e ∙ free_verdict c (cids_in_use before q) a [] (free n a (omega arith) one)
              (λ b x. absurd (let y : None ≡ Some b = x in cc)));
          behind = inr (
            refl,
            subst (λ (x : List Seen). are_together x q n ≡ false) (sym goes.1)
                (not_together goes.0 (observed c before) q n full),
          );
        }
    by_waiting (a ∷ b ∷ rest) e =
        let one = get_drop n (published_entries before q) (a ∷ b ∷ rest) 0 n a e (omega arith) refl in
        let two = get_drop n (published_entries before q) (a ∷ b ∷ rest) 1 (suc n) b e (omega arith) refl in
        record {
          first = a;
          next = Some b;
          there = now n a one;
          verdict = (says (a ∷ b ∷ rest) e
              ∙ free_verdict c (cids_in_use before q) a (b ∷ rest) (free n a (omega arith) one)
              (λ x y. subst (λ (z : Submission). is_in (cid_of z) (cids_in_use before q) ≡ false)
              (same_some b x (Some b) refl y) (free (suc n) b (omega arith) two)));
          behind = inl (sym (now (suc n) b two));
        }

pub fetch_of : (c : ConfigNumbers) (past : Past) (t q n : ℕ) → IsLegal c past → tidy_on q (observed c past) ≡ true
    → 1 ≤ t → t ≤ tickets past → (Tickets.ticket past t).queue ≡ q → fetched_before past t ≡ n
    → FetchOf c past (Tickets.ticket past t).verdict q n
fetch_of c past t q n h d some known queue number =
    let f = fetched_at c past t h some known in
    let fq : f.fetch.queue ≡ q = ap (λ (k : Ticket). k.queue) (sym f.ticket) ∙ queue in
    subst (λ (v : Verdict). FetchOf c past v q n) (ap (λ (k : Ticket). k.verdict) (sym f.ticket))
    (found c past f.later f.before f.fetch q n f.is h d fq
    (ap (fetched_count f.before) (sym fq) ∙ (sym f.number ∙ number)))

-- ---- the newest Fetch of a queue

pub record NewestFetch (past : Past) (q n : ℕ) : Type 0 where
  pub later : Past
  pub fetch : FetchLine
  pub before : Past
  pub is : past ≡ later ++ (Entry.Fetch fetch ∷ before)
  pub queue : fetch.queue ≡ q
  pub count : fetched_count before q + taken_entries fetch.verdict ≡ n

fetch_on : (e : Entry) (past : Past) (q n : ℕ) → NewestFetch past q n → NewestFetch (e ∷ past) q n
fetch_on e past q n x =
    record {
      later = e ∷ x.later;
      fetch = x.fetch;
      before = x.before;
      is = ap (λ (p : Past). e ∷ p) x.is;
      queue = x.queue;
      count = x.count;
    }

pub newest_fetch : (past : Past) (q i : ℕ) → fetched_count past q ≡ suc i → NewestFetch past q (suc i)
newest_fetch [] q i e = absurd (omega (arith, e))
newest_fetch (Entry.Fetch f ∷ past) q i e = go (eqb f.queue q) refl e (newest_fetch past q i)
  where
    go : (b : Bool) → eqb f.queue q ≡ b → fetched_count past q + cond b (taken_entries f.verdict) 0 ≡ suc i
        → (fetched_count past q ≡ suc i → NewestFetch past q (suc i)) → NewestFetch (Entry.Fetch f ∷ past) q (suc i)
    go true z x ih = record {
      later = [];
      fetch = f;
      before = past;
      is = refl;
      queue = eqb-true f.queue q z;
      count = x;
    }
    go false z x ih = fetch_on (Entry.Fetch f) past q (suc i) (ih (omega (arith, x)))
newest_fetch (Entry.Publish p ∷ past) q i e = fetch_on (Entry.Publish p) past q (suc i) (newest_fetch past q i e)
newest_fetch (Entry.Grant p ∷ past) q i e = fetch_on (Entry.Grant p) past q (suc i) (newest_fetch past q i e)
newest_fetch (Entry.Block p ∷ past) q i e = fetch_on (Entry.Block p) past q (suc i) (newest_fetch past q i e)
newest_fetch (Entry.Post p ∷ past) q i e = fetch_on (Entry.Post p) past q (suc i) (newest_fetch past q i e)
newest_fetch (Entry.Reap p ∷ past) q i e = fetch_on (Entry.Reap p) past q (suc i) (newest_fetch past q i e)
