-- What one more line makes of the tables.
use Rattle.std.proofs.Common.{Bool, List, None, Option, Some, [], ap, arith, drop, drop-cons, eq-eqb, false, get_or}
use Rattle.std.proofs.Common.{if◌then◌else◌, length, length-take, refl, subst, take, suc, sym, true, ℕ, ◌&&◌, ◌+◌}
use Rattle.std.proofs.Common.{◌++◌, ◌-◌, ◌<◌, ◌≤◌, ◌==◌, ◌^◌}
use Rattle.std.proofs.Common.{◌∙◌, ◌∷◌, ◌≡◌}
use Rattle.std.specs.Prelude.{Err, Ok, OnOk, Result, is_none, nat_le, nat_lt, reverse}
use Rattle.std.proofs.lemmas.Bool.{and_from, and_parts, and_right, cond-false, cond-true, eqb-false, eqb-true}
use Rattle.std.proofs.lemmas.Bool.{false_from_ne_true, le-leb, leb-true, lt-ltb, ltb-true}
use Rattle.std.proofs.lemmas.List.{drop_all, length-append, length-reverse, reverse-append, take_more}
use Rattle.plain_lemmas.proofs.Bools.{same_tests}
use Rattle.nvme_model.specs.EntryBytes.{cqe_fields}
use Rattle.nvme_model.specs.declared.entry.PublishLine.{PublishLine}
use Rattle.nvme_model.specs.declared.submission.Submission.{Submission}
use Rattle.host_laws.specs.Book.{cid_of, with_entry, without_entry}
use Rattle.trace.specs.declared.seen.ReapedLine.{ReapedLine}
use Rattle.trace.specs.declared.seen.Seen.{Seen}
use Rattle.refutation.specs.Lines.{answered, has_free_cids, is_number, is_tidy, published_in, waiting_in}
use Rattle.refutation.specs.Lines.{with_batch}
use Rattle.refutation_check.specs.Answers.{KeptAnswers, KnowsAnswers, placed}
use Rattle.refutation_check.specs.declared.tables.EntryPlace.{EntryPlace}

pub on_ok : {X E : Type 0} (P : Type 0) (r : Result X E) → P → OnOk r P
on_ok P (Ok x) p = p
on_ok P (Err e) p = tt

-- ---- a batch

-- no entry is among none
none_of_none : (line q n : ℕ) (o : Option EntryPlace) (r j : ℕ) → o ≡ placed line q n 0 o r j
none_of_none line q n o r j =
    sym (cond-false _ _ o (and_right (q == r) _ (false_from_ne_true _ (λ h.
    let p = and_parts (nat_le n j) (nat_lt j (n + 0)) h in
    let low : n ≤ j = leb-true n j p.0 in
    let high : j < n + 0 = ltb-true j (n + 0) p.1 in
    absurd (omega arith)))))

-- the next of a line, and those before it there
one_placed : (line q n i : ℕ) (o : Option EntryPlace) (r j : ℕ)
    → (if (q == r) && ((n + i) == j) then Some (record { line = line; place = i }) else placed line q n i o r j)
    ≡ placed line q n (i + 1) o r j
one_placed line q n i o r j = by (q == r) ((n + i) == j) refl
  where
    by : (a b : Bool) → ((n + i) == j) ≡ b
        → (if a && b then Some (record { line = line; place = i })
        else (if a && (nat_le n j && nat_lt j (n + i)) then Some (record { line = line; place = j - n }) else o))
        ≡ (if a && (nat_le n j && nat_lt j (n + (i + 1))) then Some (record { line = line; place = j - n }) else o)
    by false b e = refl
    by true true e =
        let same : n + i ≡ j = eqb-true _ _ e in
        let low : n ≤ j = omega arith in
        let high : j < n + (i + 1) = omega arith in
        let place : i ≡ j - n = omega arith in
        ap (λ p. Some (record { line = line; place = p })) place
        ∙ sym (cond-true _ (Some (record { line = line; place = j - n })) o
        (and_from _ _ (le-leb n j low) (lt-ltb j (n + (i + 1)) high)))
    by true false e =
        let unlike : n + i ≡ j → ⊥ = eqb-false _ _ e in
        ap (λ b. if nat_le n j && b then Some (record { line = line; place = j - n }) else o)
        (same_tests (nat_lt j (n + i)) (nat_lt j (n + (i + 1)))
        (λ h. let l : j < n + i = ltb-true _ _ h in lt-ltb j (n + (i + 1)) (omega arith))
        (λ h. let l : j < n + (i + 1) = ltb-true _ _ h in
        lt-ltb j (n + i) (let other : j ≡ n + i → ⊥ = (λ s. unlike (sym s)) in omega arith)))

-- the tables behind i entries of a batch to submission queue q, and what the others will make of them
pub record Partway (k now : KeptAnswers) (line q : ℕ) (batch : List Submission) (i : ℕ) : Type 0 where
  pub published : (r : ℕ) → now.published r ≡ k.published r + (if q == r then i else 0)
  pub few : (r : ℕ) → k.published r < 2 ^ 64 → now.published r < 2 ^ 64
  pub entries : (r j : ℕ) → now.entries r j ≡ placed line q (k.published q) i (k.entries r j) r j
  pub waiting : with_batch now.waiting q (now.published q) (drop i batch) ≡ with_batch k.waiting q (k.published q) batch
  pub answers : (r j : ℕ) → now.answers r j ≡ k.answers r j
  pub tidy : (now.tidy && has_free_cids now.waiting q (now.published q) (drop i batch))
      ≡ (k.tidy && has_free_cids k.waiting q (k.published q) batch)

-- none yet
pub none_yet : (k : KeptAnswers) (line q : ℕ) (batch : List Submission) → Partway k k line q batch 0
none_yet k line q batch = record {
  published = λ r. zero_more (k.published r) (q == r);
  few = λ r l. l;
  entries = λ r j. none_of_none line q (k.published q) (k.entries r j) r j;
  waiting = refl;
  answers = λ r j. refl;
  tidy = refl;
}
  where
    zero_more : (n : ℕ) (b : Bool) → n ≡ n + (if b then 0 else 0)
    zero_more n true = omega arith
    zero_more n false = omega arith

drop_at : (batch : List Submission) (i : ℕ) (d : Submission) → i < length batch
    → drop i batch ≡ get_or batch i d ∷ drop (i + 1) batch
drop_at batch i d l =
    let more : suc i ≡ i + 1 = omega arith in
    drop-cons batch i d l ∙ ap (λ n. get_or batch i d ∷ drop n batch) more

-- what one entry changes
pub record AddsOne (old new : KeptAnswers) (line q i : ℕ) (s : Submission) : Type 0 where
  pub published : (r : ℕ) → new.published r ≡ old.published r + (if q == r then 1 else 0)
  pub entries : (r j : ℕ) → new.entries r j
      ≡ (if (q == r) && (old.published q == j) then Some (record { line = line; place = i }) else old.entries r j)
  pub waiting : (r cid : ℕ) → new.waiting r cid ≡ with_entry old.waiting q (cid_of s) (old.published q) r cid
  pub answers : (r j : ℕ) → new.answers r j ≡ old.answers r j
  pub tidy : new.tidy ≡ (old.tidy && is_none (old.waiting q (cid_of s)))
  pub fits : cid_of s < 65536
  pub few : new.published q < 2 ^ 64

pub one_more : (k old new : KeptAnswers) (line q : ℕ) (batch : List Submission) (i : ℕ) (d : Submission)
    → i < length batch → Partway k old line q batch i → AddsOne old new line q i (get_or batch i d)
    → Partway k new line q batch (i + 1)
one_more k old new line q batch i d l h a = record {
  published = λ r. a.published r ∙ ap (λ n. n + (if q == r then 1 else 0)) (h.published r)
      ∙ add_if (k.published r) i (q == r);
  few = λ r l. few_by r (q == r) refl (h.few r l);
  entries = λ r j. a.entries r j
      ∙ (λ t. if (q == r) && (so_far t == j) then Some (record { line = line; place = i }) else h.entries r j t)
      ∙ one_placed line q (k.published q) i (k.entries r j) r j;
  waiting = (λ t. with_batch (book t) q (count t) (drop (i + 1) batch))
      ∙ ap (with_batch old.waiting q (old.published q)) (sym cut) ∙ h.waiting;
  answers = λ r j. a.answers r j ∙ h.answers r j;
  tidy = (λ t. a.tidy t && has_free_cids (book t) q (count t) (drop (i + 1) batch))
      ∙ regroup old.tidy (is_none (old.waiting q (cid_of s))) (nat_lt (cid_of s) 65536) _ (lt-ltb _ _ a.fits)
      ∙ ap (λ xs. old.tidy && has_free_cids old.waiting q (old.published q) xs) (sym cut) ∙ h.tidy;
}
  where
    s : Submission
    s = get_or batch i d

    cut : drop i batch ≡ s ∷ drop (i + 1) batch
    cut = drop_at batch i d l

    book : new.waiting ≡ with_entry old.waiting q (cid_of s) (old.published q)
    book = λ t r cid. a.waiting r cid t

    same : (n : ℕ) → (n == n) ≡ true
    same n = eq-eqb n n refl

    count : new.published q ≡ suc (old.published q)
    count = a.published q ∙ ap (λ b. old.published q + (if b then 1 else 0)) (same q) ∙ omega arith

    so_far : old.published q ≡ k.published q + i
    so_far = h.published q ∙ ap (λ b. k.published q + (if b then i else 0)) (same q)

    few_by : (r : ℕ) (b : Bool) → (q == r) ≡ b → old.published r < 2 ^ 64 → new.published r < 2 ^ 64
    few_by r true e l = subst (λ x. new.published x < 2 ^ 64) (eqb-true q r e) a.few
    few_by r false e l =
        let stays : new.published r ≡ old.published r + 0 =
        a.published r ∙ ap (λ b. old.published r + (if b then 1 else 0)) e in
        omega arith

    add_if : (n i : ℕ) (b : Bool) → (n + (if b then i else 0)) + (if b then 1 else 0) ≡ n + (if b then i + 1 else 0)
    add_if n i true = omega arith
    add_if n i false = omega arith

    regroup : (x y z w : Bool) → z ≡ true → ((x && y) && w) ≡ (x && ((z && y) && w))
    regroup true y true w e = refl
    regroup false y true w e = refl
    regroup x y false w e = absurd cc

-- all of them
pub published_all : (k now : KeptAnswers) (p : PublishLine) (trace : List Seen) → p.queue < 65536
    → Partway k now (length trace) p.queue p.batch (length p.batch) → KnowsAnswers trace k
    → KnowsAnswers (Seen.Published p ∷ trace) now
published_all k now p trace l h is = record {
  published = λ r. h.published r ∙ ap (λ n. n + (if p.queue == r then length p.batch else 0)) (is.published r)
      ∙ longer (published_in trace r) p.batch (p.queue == r);
  few = λ r. subst (λ n. n < 2 ^ 64)
      (h.published r ∙ ap (λ n. n + (if p.queue == r then length p.batch else 0)) (is.published r)
      ∙ longer (published_in trace r) p.batch (p.queue == r))
      (h.few r (subst (λ n. n < 2 ^ 64) (sym (is.published r)) (is.few r)));
  entries = λ r j. h.entries r j
      ∙ (λ t. placed (length trace) p.queue (is.published p.queue t) (length p.batch) (is.entries r j t) r j);
  waiting = λ r cid. ap (λ b. b r cid)
      (ap (with_batch now.waiting p.queue (now.published p.queue)) (sym rest) ∙ h.waiting
      ∙ (λ t. with_batch (book t) p.queue (is.published p.queue t) p.batch));
  answers = λ r j. h.answers r j ∙ is.answers r j;
  tidy = with_true now.tidy true refl
      ∙ ap (λ xs. now.tidy && has_free_cids now.waiting p.queue (now.published p.queue) xs) (sym rest) ∙ h.tidy
      ∙ (λ t. is.tidy t && has_free_cids (book t) p.queue (is.published p.queue t) p.batch)
      ∙ ap (λ b. b && has_free_cids (waiting_in trace) p.queue (length (published_in trace p.queue)) p.batch)
      (with_true (is_tidy trace) (nat_lt p.queue 65536) (lt-ltb _ _ l));
}
  where
    book : k.waiting ≡ waiting_in trace
    book = λ t r cid. is.waiting r cid t

    rest : drop (length p.batch) p.batch ≡ []
    rest = drop_all (length p.batch) p.batch (omega arith)

    with_true : (x y : Bool) → y ≡ true → x ≡ (x && y)
    with_true true y e = sym e
    with_true false y e = refl

    longer : (xs ys : List Submission) (b : Bool)
        → length xs + (if b then length ys else 0) ≡ length (xs ++ (if b then ys else []))
    longer xs ys true = sym (length-append xs ys)
    longer xs ys false = omega (arith, length-append xs [])

-- ---- a completion

-- what it changes, where it answers this entry or none
pub record Answers (old new : KeptAnswers) (q cid place : ℕ) (o : Option ℕ) : Type 0 where
  pub published : (r : ℕ) → new.published r ≡ old.published r
  pub entries : (r j : ℕ) → new.entries r j ≡ old.entries r j
  pub waiting : (r i : ℕ) → new.waiting r i ≡ without_entry old.waiting q cid r i
  pub answers : (r j : ℕ) → new.answers r j ≡ (if (q == r) && is_number j o then Some place else old.answers r j)
  pub tidy : new.tidy ≡ old.tidy

pub reaped : (k now : KeptAnswers) (r : ReapedLine) (trace : List Seen) (o : Option ℕ)
    → o ≡ k.waiting (cqe_fields r.cqe).sqid (cqe_fields r.cqe).cid
    → Answers k now (cqe_fields r.cqe).sqid (cqe_fields r.cqe).cid (length trace) o → KnowsAnswers trace k
    → KnowsAnswers (Seen.Reaped r ∷ trace) now
reaped k now r trace o e h is = record {
  published = λ q. h.published q ∙ is.published q;
  few = is.few;
  entries = λ q j. h.entries q j ∙ is.entries q j;
  waiting = λ q i. h.waiting q i
      ∙ ap (λ x. if (q == (cqe_fields r.cqe).sqid) && (i == (cqe_fields r.cqe).cid) then None else x) (is.waiting q i);
  answers = λ q j. h.answers q j
      ∙ (λ t. if ((cqe_fields r.cqe).sqid == q) && is_number j (same t) then Some (length trace) else is.answers q j t);
  tidy = h.tidy ∙ is.tidy;
}
  where
    same : o ≡ answered trace r.cqe
    same = e ∙ is.waiting (cqe_fields r.cqe).sqid (cqe_fields r.cqe).cid

-- ---- a trace, the oldest line first

-- one line more is the newest
pub one_line : (xs : List Seen) (i : ℕ) (d : Seen) → i < length xs
    → get_or xs i d ∷ reverse (take i xs) ≡ reverse (take (i + 1) xs)
one_line xs i d l = sym (ap reverse (take_more xs i d l) ∙ reverse-append (take i xs) (get_or xs i d ∷ []))

-- its number
pub line_number : (xs : List Seen) (i : ℕ) → i < length xs → i ≡ length (reverse (take i xs))
line_number xs i l = omega (arith, length-reverse (take i xs), length-take i xs, l)
