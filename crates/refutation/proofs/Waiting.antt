-- An entry waits under one CID, and one that waits isn't answered: so an answer stays, whatever lines follow.
use Rattle.std.proofs.Common.{◌≡◌, ℕ, suc, ◌+◌, ◌≤◌, ◌<◌, Bool, true, false, ◌&&◌, cond, List, [], ◌∷◌, ◌++◌, ◌⊎◌}
use Rattle.std.proofs.Common.{Option, None, Some, length, refl, sym, ap, ap₂, ◌∙◌, subst, inl, inr, arith}
use Rattle.std.proofs.Common.{eq-eqb, eqb, eqb-true}
use Rattle.std.proofs.lemmas.Bool.{and_parts}
use Rattle.plain_lemmas.proofs.Numbers.{eqb_swapped}
use Rattle.nvme_model.specs.EntryBytes.{cqe_fields}
use Rattle.nvme_model.specs.declared.submission.Submission.{Submission}
use Rattle.host_laws.specs.Book.{Book, cid_of, with_entry}
use Rattle.trace.specs.declared.seen.Seen.{Seen}
use Rattle.refutation.specs.Lines.{answer_in, answered, is_number, published_in, waiting_in, with_batch}
use Rattle.refutation.proofs.BookAnswers.{unanswered}
use Rattle.refutation.proofs.QueueBooks.{batch_elsewhere, waits_below}

none_some : (m : ℕ) → None ≡ Some m → ⊥
none_some m e = absurd (let f : None ≡ Some m = e in cc)

same_number : (m n : ℕ) → Some m ≡ Some n → m ≡ n
same_number m n e = let f : Some m ≡ Some n = e in cc

-- ---- one CID each

-- The numbers of a queue's entries that wait are below n, each under one CID.
record Numbered (book : Book) (q n : ℕ) : Type 0 where
  below : (i m : ℕ) → book q i ≡ Some m → m < n
  once : (i k m : ℕ) → book q i ≡ Some m → book q k ≡ Some m → i ≡ k

one_more : (book : Book) (q n cid : ℕ) → Numbered book q n → Numbered (with_entry book q cid n) q (suc n)
one_more book q n cid x =
    record {
      below = λ i m e. low i m (eqb q q && eqb i cid) e;
      once = λ i k m e f. one i k m (eqb q q && eqb i cid) refl (eqb q q && eqb k cid) refl e f;
    }
  where
    low : (i m : ℕ) (b : Bool) → cond b (Some n) (book q i) ≡ Some m → m < suc n
    low i m true e = omega (arith, same_number n m e)
    low i m false e = omega (arith, x.below i m e)

    named : (i : ℕ) → (eqb q q && eqb i cid) ≡ true → i ≡ cid
    named i a = eqb-true i cid (and_parts (eqb q q) (eqb i cid) a).1

    one : (i k m : ℕ) (b : Bool) → (eqb q q && eqb i cid) ≡ b → (d : Bool) → (eqb q q && eqb k cid) ≡ d
        → cond b (Some n) (book q i) ≡ Some m → cond d (Some n) (book q k) ≡ Some m → i ≡ k
    one i k m true a true g e f = named i a ∙ sym (named k g)
    one i k m true a false g e f = absurd (omega (arith, same_number n m e, x.below k m f))
    one i k m false a true g e f = absurd (omega (arith, same_number n m f, x.below i m e))
    one i k m false a false g e f = x.once i k m e f

some_more : (book : Book) (q n : ℕ) (batch : List Submission) → Numbered book q n
    → Numbered (with_batch book q n batch) q (n + length batch)
some_more book q n [] x = record { below = λ i m e. omega (arith, x.below i m e); once = x.once }
some_more book q n (s ∷ batch) x =
    let y = some_more (with_entry book q (cid_of s) n) q (suc n) batch (one_more book q n (cid_of s) x) in
    record { below = λ i m e. omega (arith, y.below i m e); once = y.once }

one_cid : (trace : List Seen) (q i k m : ℕ) → waiting_in trace q i ≡ Some m → waiting_in trace q k ≡ Some m → i ≡ k
one_cid [] q i k m e f = absurd (none_some m e)
one_cid (Seen.Published p ∷ trace) q i k m e f =
    go (eqb p.queue q) refl (λ n x y. one_cid trace q i k n x y) (λ a b n x y. one_cid trace q a b n x y)
  where
    book : Book
    book = waiting_in trace

    go : (b : Bool) → eqb p.queue q ≡ b
        → ((n : ℕ) → book q i ≡ Some n → book q k ≡ Some n → i ≡ k)
        → ((a b n : ℕ) → book q a ≡ Some n → book q b ≡ Some n → a ≡ b) → i ≡ k
    go true z ih all =
        let same = eqb-true p.queue q z in
        let old : Numbered book p.queue (length (published_in trace p.queue)) =
        record {
          below = waits_below trace p.queue;
          once = subst (λ (n : ℕ). (a b j : ℕ) → book n a ≡ Some j → book n b ≡ Some j → a ≡ b) (sym same) all;
        } in
        let new : Numbered (waiting_in (Seen.Published p ∷ trace)) q (length (published_in trace p.queue)
        + length p.batch) =
        subst (λ (n : ℕ). Numbered (waiting_in (Seen.Published p ∷ trace)) n (length (published_in trace p.queue)
        + length p.batch)) same
        (some_more book p.queue (length (published_in trace p.queue)) p.batch old) in
        new.once i k m e f
    go false z ih all =
        let here : (a : ℕ) → waiting_in (Seen.Published p ∷ trace) q a ≡ book q a =
        λ a. batch_elsewhere book p.queue (length (published_in trace p.queue)) p.batch q a
        (eqb_swapped q p.queue ∙ z) in
        ih m (sym (here i) ∙ e) (sym (here k) ∙ f)
one_cid (Seen.Reaped r ∷ trace) q i k m e f =
    go (eqb q (cqe_fields r.cqe).sqid && eqb i (cqe_fields r.cqe).cid) e
    (eqb q (cqe_fields r.cqe).sqid && eqb k (cqe_fields r.cqe).cid) f (λ x y. one_cid trace q i k m x y)
  where
    go : (b : Bool) → cond b None (waiting_in trace q i) ≡ Some m
        → (d : Bool) → cond d None (waiting_in trace q k) ≡ Some m
        → (waiting_in trace q i ≡ Some m → waiting_in trace q k ≡ Some m → i ≡ k) → i ≡ k
    go true x d y ih = absurd (none_some m x)
    go false x true y ih = absurd (none_some m y)
    go false x false y ih = ih x y

-- ---- who waits isn't answered

pub number_is : (n : Option ℕ) (m : ℕ) → is_number m n ≡ true → n ≡ Some m
number_is None m e = absurd (let f : false ≡ true = e in cc)
number_is (Some i) m e = ap Some (eqb-true i m e)

-- behind a batch waits who waited before, or a new entry
batch_cases : (book : Book) (p j : ℕ) (batch : List Submission) (q i m : ℕ)
    → with_batch book p j batch q i ≡ Some m → (book q i ≡ Some m) ⊎ (j ≤ m)
batch_cases book p j [] q i m e = inl e
batch_cases book p j (s ∷ batch) q i m e =
    elim (batch_cases (with_entry book p (cid_of s) j) p (suc j) batch q i m e) [
      | inl f ↦ by (eqb q p && eqb i (cid_of s)) f
      | inr l ↦ inr (omega (arith, l))
    ]
  where
    by : (b : Bool) → cond b (Some j) (book q i) ≡ Some m → (book q i ≡ Some m) ⊎ (j ≤ m)
    by true f = inr (omega (arith, same_number j m f))
    by false f = inl f

pub waits_unanswered : (trace : List Seen) (q i m : ℕ) → waiting_in trace q i ≡ Some m → answer_in trace q m ≡ None
waits_unanswered [] q i m e = refl
waits_unanswered (Seen.Published p ∷ trace) q i m e = go (eqb p.queue q) refl (waits_unanswered trace q i m)
  where
    go : (b : Bool) → eqb p.queue q ≡ b → (waiting_in trace q i ≡ Some m → answer_in trace q m ≡ None)
        → answer_in trace q m ≡ None
    go true z ih =
        elim (batch_cases (waiting_in trace) p.queue (length (published_in trace p.queue)) p.batch q i m e) [
          | inl f ↦ ih f
          | inr l ↦ unanswered trace q m
              (subst (λ (n : ℕ). length (published_in trace n) ≤ m) (eqb-true p.queue q z) l)
        ]
    go false z ih =
        ih (sym (batch_elsewhere (waiting_in trace) p.queue (length (published_in trace p.queue)) p.batch q i
        (eqb_swapped q p.queue ∙ z)) ∙ e)
waits_unanswered (Seen.Reaped r ∷ trace) q i m e =
    go (eqb q s && eqb i name) refl e (eqb s q && is_number m (answered trace r.cqe)) refl
    (waits_unanswered trace q i m)
  where
    s : ℕ
    s = (cqe_fields r.cqe).sqid

    name : ℕ
    name = (cqe_fields r.cqe).cid

    go : (b : Bool) → (eqb q s && eqb i name) ≡ b → cond b None (waiting_in trace q i) ≡ Some m
        → (d : Bool) → (eqb s q && is_number m (answered trace r.cqe)) ≡ d
        → (waiting_in trace q i ≡ Some m → answer_in trace q m ≡ None)
        → cond d (Some r) (answer_in trace q m) ≡ None
    go true x f d y ih = absurd (none_some m f)
    go false x f false y ih = ih f
    go false x f true y ih =
        let parts = and_parts (eqb s q) (is_number m (answered trace r.cqe)) y in
        let same : s ≡ q = eqb-true s q parts.0 in
        let its : waiting_in trace q name ≡ Some m =
        subst (λ (n : ℕ). waiting_in trace n name ≡ Some m) same (number_is (answered trace r.cqe) m parts.1) in
        let cid : i ≡ name = one_cid trace q i name m f its in
        let yes : (eqb q s && eqb i name) ≡ true =
        ap₂ (λ (a b : Bool). a && b) (eq-eqb q s (sym same)) (eq-eqb i name cid) in
        let no : false ≡ true = sym x ∙ yes in
        cc

-- what isn't answered wasn't before
pub none_before : (more trace : List Seen) (q j : ℕ) → answer_in (more ++ trace) q j ≡ None → answer_in trace q j ≡ None
none_before [] trace q j e = e
none_before (Seen.Published p ∷ more) trace q j e = none_before more trace q j e
none_before (Seen.Reaped r ∷ more) trace q j e =
    none_before more trace q j (go (eqb (cqe_fields r.cqe).sqid q && is_number j (answered (more ++ trace) r.cqe)) e)
  where
    go : (b : Bool) → cond b (Some r) (answer_in (more ++ trace) q j) ≡ None → answer_in (more ++ trace) q j ≡ None
    go true f = absurd (let g : Some r ≡ None = f in cc)
    go false f = f
