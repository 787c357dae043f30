-- A driver's book stays right: over the entries of others, its own Publishes and its own Reaps.
use Rattle.std.proofs.Common.{◌≡◌, ℕ, zero, suc, ◌+◌, ◌≤◌, Bool, true, false, ◌&&◌, cond, List, [], ◌∷◌, ◌++◌, length}
use Rattle.std.proofs.Common.{refl, sym, ap, ap₂, ◌∙◌, subst, Option, Some, None, inl, inr, arith, eq-eqb, eqb}
use Rattle.std.proofs.Common.{eqb-true, slice_get, length-append, append_assoc}
use Rattle.std.specs.Prelude.{◌↔◌}
use Rattle.std.proofs.lemmas.Bool.{and_parts, and_from, cases_Bool, cond-true, cond-false}
use Rattle.std.proofs.lemmas.List.{append-nil}
use Rattle.std.proofs.lemmas.Option.{slice_get_within}
use Rattle.plain_lemmas.proofs.Options.{no_some}
use Rattle.nvme_model.specs.Config.{completion_queue}
use Rattle.nvme_model.specs.History.{Past}
use Rattle.nvme_model.specs.Legal.{IsLegal}
use Rattle.nvme_model.specs.Queues.{published_entries}
use Rattle.nvme_model.specs.declared.config.ConfigNumbers.{ConfigNumbers}
use Rattle.nvme_model.specs.declared.entry.Entry.{Entry}
use Rattle.nvme_model.specs.declared.entry.PostLine.{PostLine}
use Rattle.nvme_model.specs.declared.entry.PublishLine.{PublishLine}
use Rattle.nvme_model.specs.declared.entry.ReapLine.{ReapLine}
use Rattle.nvme_model.specs.declared.submission.Submission.{Submission}
use Rattle.nvme_model.proofs.Cut.{clash}
use Rattle.host_laws.specs.Beside.{IsBeside}
use Rattle.host_laws.specs.Book.{Book, IsBook, cid_of, empty_book, with_entry, without_entry}
use Rattle.host_laws.specs.Calls.{IsEntryWaiting, ReapAnswers, reaped_post}
use Rattle.host_laws.proofs.PostedAnswers.{reaped_posted_at}
use Rattle.host_laws.proofs.Beside.{published_beside, reaped_post_beside}
use Rattle.host_laws.proofs.Elements.{get_after, get_append, get_cases, same_some}
use Rattle.host_laws.proofs.Reaps.{entry_is, none_if, reaped_later}

-- ---- what a Publish adds

pub next_numbers : (past : Past) (p : PublishLine) (i : ℕ) (s : Submission) → slice_get p.batch i ≡ Some s
    → slice_get (published_entries (Entry.Publish p ∷ past) p.queue) (length (published_entries past p.queue) + i)
    ≡ Some s
next_numbers past p i s h =
    get_after (published_entries past p.queue) (cond (eqb p.queue p.queue) p.batch []) i
    (length (published_entries past p.queue) + i) s refl
    (ap (λ (xs : List Submission). slice_get xs i)
    (cond-true (eqb p.queue p.queue) p.batch [] (eq-eqb p.queue p.queue refl)) ∙ h)

pub other_queue : (past : Past) (p : PublishLine) (q : ℕ) → (q ≡ p.queue → ⊥)
    → published_entries (Entry.Publish p ∷ past) q ≡ published_entries past q
other_queue past p q d =
    ap (λ (xs : List Submission). published_entries past q ++ xs)
    (cond-false (eqb p.queue q) p.batch [] (elim (cases_Bool (eqb p.queue q)) [
      | inr e ↦ e
      | inl e ↦ absurd (d (sym (eqb-true p.queue q e)))
    ])) ∙ append-nil (published_entries past q)

-- an entry that isn't published yet isn't answered
pub new_unreaped : (c : ConfigNumbers) (past : Past) (q j : ℕ) → IsLegal c past → length (published_entries past q) ≤ j
    → reaped_post c past q j ≡ None
new_unreaped c past q j h l =
    none_if (reaped_post c past q j) (λ p s.
    let e = entry_is c past q j p h (reaped_posted_at c past q j p s) in
    omega (arith, slice_get_within (published_entries past q) j e.entry e.published, l))

-- ---- the book, over any lists of entries

record WaitingIn (entries : ℕ → List Submission) (reaped : ℕ → ℕ → Option PostLine) (q cid j : ℕ) : Type 0 where
  entry : Submission
  published : slice_get (entries q) j ≡ Some entry
  says : cid_of entry ≡ cid
  unreaped : reaped q j ≡ None

abbrev Right : ConfigNumbers → ℕ → (ℕ → List Submission) → (ℕ → ℕ → Option PostLine) → Book → Type 0
Right c n entries reaped book = (q cid j : ℕ) → completion_queue c q ≡ n
    → (book q cid ≡ Some j) ↔ WaitingIn entries reaped q cid j

waiting_in : (c : ConfigNumbers) (past : Past) (q cid j : ℕ) → IsEntryWaiting c past q cid j
    → WaitingIn (published_entries past) (reaped_post c past) q cid j
waiting_in c past q cid j w = record { entry = w.entry; published = w.published; says = w.says; unreaped = w.unreaped }

in_waiting : (c : ConfigNumbers) (past : Past) (q cid j : ℕ)
    → WaitingIn (published_entries past) (reaped_post c past) q cid j → IsEntryWaiting c past q cid j
in_waiting c past q cid j w = record { entry = w.entry; published = w.published; says = w.says; unreaped = w.unreaped }

book_right : (c : ConfigNumbers) (past : Past) (n : ℕ) (book : Book) → IsBook c past n book
    → Right c n (published_entries past) (reaped_post c past) book
book_right c past n book b =
    λ q cid j e. (
      λ x. waiting_in c past q cid j ((b q cid j e).0 x),
      λ w. (b q cid j e).1 (in_waiting c past q cid j w),
    )

right_book : (c : ConfigNumbers) (past : Past) (n : ℕ) (book : Book)
    → Right c n (published_entries past) (reaped_post c past) book → IsBook c past n book
right_book c past n book b =
    λ q cid j e. (
      λ x. in_waiting c past q cid j ((b q cid j e).0 x),
      λ w. (b q cid j e).1 (waiting_in c past q cid j w),
    )

-- the same entries and answers, for the submission queues of completion queue n
right_same : (c : ConfigNumbers) (n : ℕ) (xs ys : ℕ → List Submission) (f g : ℕ → ℕ → Option PostLine) (book : Book)
    → ((q : ℕ) → completion_queue c q ≡ n → ys q ≡ xs q) → ((q j : ℕ) → completion_queue c q ≡ n → g q j ≡ f q j)
    → Right c n xs f book → Right c n ys g book
right_same c n xs ys f g book a d b = λ q cid j e. (
  λ x. let w = (b q cid j e).0 x in
      record {
        entry = w.entry;
        published = ap (λ (zs : List Submission). slice_get zs j) (a q e) ∙ w.published;
        says = w.says;
        unreaped = d q j e ∙ w.unreaped;
      },
  λ w. (b q cid j e).1 (record {
    entry = w.entry;
    published = ap (λ (zs : List Submission). slice_get zs j) (sym (a q e)) ∙ w.published;
    says = w.says;
    unreaped = sym (d q j e) ∙ w.unreaped;
  }),
)

-- one entry more on queue q
abbrev grown : (ℕ → List Submission) → ℕ → Submission → ℕ → List Submission
grown entries q s r = entries r ++ cond (eqb q r) (s ∷ []) []

right_more : (c : ConfigNumbers) (n : ℕ) (entries : ℕ → List Submission) (reaped : ℕ → ℕ → Option PostLine)
    (book : Book) (q m : ℕ) (s : Submission) → m ≡ length (entries q) → reaped q m ≡ None → book q (cid_of s) ≡ None
    → Right c n entries reaped book → Right c n (grown entries q s) reaped (with_entry book q (cid_of s) m)
right_more c n entries reaped book q m s at none free b = λ r i j e. (to_entry r i j e, of_entry r i j e)
  where
    old : (r i j : ℕ) → completion_queue c r ≡ n → book r i ≡ Some j → WaitingIn (grown entries q s) reaped r i j
    old r i j e x =
        let w = (b r i j e).0 x in
        record {
          entry = w.entry;
          published = get_append (entries r) (cond (eqb q r) (s ∷ []) []) j w.entry w.published;
          says = w.says;
          unreaped = w.unreaped;
        }

    new : (r i : ℕ) → r ≡ q → i ≡ cid_of s → WaitingIn (grown entries q s) reaped r i m
    new r i x y =
        record {
          entry = s;
          published = get_after (entries r) (cond (eqb q r) (s ∷ []) []) 0 m s
              (omega (arith, at, ap (λ (k : ℕ). length (entries k)) x))
              (ap (λ (xs : List Submission). slice_get xs 0) (cond-true (eqb q r) (s ∷ []) [] (eq-eqb q r (sym x))));
          says = sym y;
          unreaped = ap (λ (k : ℕ). reaped k m) x ∙ none;
        }

    to_entry : (r i j : ℕ) → completion_queue c r ≡ n → with_entry book q (cid_of s) m r i ≡ Some j
        → WaitingIn (grown entries q s) reaped r i j
    to_entry r i j e x = go (eqb r q && eqb i (cid_of s)) refl x
      where
        go : (k : Bool) → (eqb r q && eqb i (cid_of s)) ≡ k → cond k (Some m) (book r i) ≡ Some j
            → WaitingIn (grown entries q s) reaped r i j
        go false f y = old r i j e y
        go true f y =
            let a = and_parts _ _ f in
            subst (λ (k : ℕ). WaitingIn (grown entries q s) reaped r i k) (same_some m j (Some m) refl y)
            (new r i (eqb-true r q a.0) (eqb-true i (cid_of s) a.1))

    of_entry : (r i j : ℕ) → completion_queue c r ≡ n → WaitingIn (grown entries q s) reaped r i j
        → with_entry book q (cid_of s) m r i ≡ Some j
    of_entry r i j e w =
        elim (get_cases (entries r) (cond (eqb q r) (s ∷ []) []) j w.entry w.published) [
          | inl f ↦ before f
          | inr f ↦ added f.0 f.1 (eqb q r) refl f.2
        ]
      where
        before : slice_get (entries r) j ≡ Some w.entry → with_entry book q (cid_of s) m r i ≡ Some j
        before f =
            let there = (b r i j e).1
            (record { entry = w.entry; published = f; says = w.says; unreaped = w.unreaped }) in
            elim (cases_Bool (eqb r q && eqb i (cid_of s))) [
              | inr k ↦ cond-false (eqb r q && eqb i (cid_of s)) (Some m) (book r i) k ∙ there
              | inl k ↦ let a = and_parts _ _ k in
                  no_some j (with_entry book q (cid_of s) m r i ≡ Some j)
                  (sym (ap₂ book (eqb-true r q a.0) (eqb-true i (cid_of s) a.1) ∙ free) ∙ there)
            ]

        added : (k : ℕ) → j ≡ length (entries r) + k → (z : Bool) → eqb q r ≡ z
            → slice_get (cond z (s ∷ []) []) k ≡ Some w.entry → with_entry book q (cid_of s) m r i ≡ Some j
        added k l false z f = absurd (let g : None ≡ Some w.entry = f in cc)
        added (suc k) l true z f = absurd (let g : None ≡ Some w.entry = f in cc)
        added zero l true z f =
            let x = sym (eqb-true q r z) in
            let y = sym w.says ∙ ap cid_of (sym (same_some s w.entry (Some s) refl f)) in
            cond-true (eqb r q && eqb i (cid_of s)) (Some m) (book r i)
            (and_from _ _ (eq-eqb r q x) (eq-eqb i (cid_of s) y))
            ∙ ap Some (omega (arith, at, l, ap (λ (z : ℕ). length (entries z)) x))

-- ---- the book is kept

pub book_empty : (c : ConfigNumbers) (past : Past) (n : ℕ)
    → ((q : ℕ) → completion_queue c q ≡ n → published_entries past q ≡ []) → IsBook c past n empty_book
book_empty c past n f = λ q cid j e. (
  λ x. no_some j (IsEntryWaiting c past q cid j) x,
  λ w. let g : None ≡ Some w.entry = sym (ap (λ (xs : List Submission). slice_get xs j) (f q e)) ∙ w.published in
      absurd cc,
)

pub book_beside : (c : ConfigNumbers) (later past : Past) (n : ℕ) (book : Book) → IsBeside c n later
    → IsBook c past n book → IsBook c (later ++ past) n book
book_beside c later past n book h b =
    right_book c (later ++ past) n book
    (right_same c n (published_entries past) (published_entries (later ++ past)) (reaped_post c past)
    (reaped_post c (later ++ past)) book (λ q e. published_beside c later past n q h e)
    (λ q j e. reaped_post_beside c later past n q j h e) (book_right c past n book b))

pub book_one : (c : ConfigNumbers) (past : Past) (n : ℕ) (book : Book) (q : ℕ) (s : Submission) → IsLegal c past
    → IsBook c past n book → book q (cid_of s) ≡ None
    → IsBook c (Entry.Publish (record { queue = q; batch = s ∷ [] }) ∷ past) n
    (with_entry book q (cid_of s) (length (published_entries past q)))
book_one c past n book q s h b free =
    right_book c (Entry.Publish (record { queue = q; batch = s ∷ [] }) ∷ past) n
    (with_entry book q (cid_of s) (length (published_entries past q)))
    (right_more c n (published_entries past) (reaped_post c past) book q (length (published_entries past q)) s refl
    (new_unreaped c past q (length (published_entries past q)) h (omega arith)) free (book_right c past n book b))

two_grown : (xs : List Submission) (a b : Submission) (k : Bool)
    → xs ++ cond k (a ∷ b ∷ []) [] ≡ (xs ++ cond k (a ∷ []) []) ++ cond k (b ∷ []) []
two_grown xs a b true = sym (append_assoc xs (a ∷ []) (b ∷ []))
two_grown xs a b false = ap (λ (ys : List Submission). ys ++ []) (sym (append-nil xs))

pub book_pair : (c : ConfigNumbers) (past : Past) (n : ℕ) (book : Book) (q : ℕ) (s t : Submission) → IsLegal c past
    → IsBook c past n book → book q (cid_of s) ≡ None → book q (cid_of t) ≡ None → (cid_of t ≡ cid_of s → ⊥)
    → IsBook c (Entry.Publish (record { queue = q; batch = s ∷ t ∷ [] }) ∷ past) n
    (with_entry (with_entry book q (cid_of s) (length (published_entries past q))) q (cid_of t)
    (suc (length (published_entries past q))))
book_pair c past n book q s t h b free free2 apart =
    let m = length (published_entries past q) in
    let one = right_more c n (published_entries past) (reaped_post c past) book q m s refl
    (new_unreaped c past q m h (omega arith)) free (book_right c past n book b) in
    let count : suc m ≡ length (grown (published_entries past) q s q) =
    omega (
      arith,
      length-append (published_entries past q) (cond (eqb q q) (s ∷ []) []),
      ap length (cond-true (eqb q q) (s ∷ []) [] (eq-eqb q q refl)),
    ) in
    let still : with_entry book q (cid_of s) m q (cid_of t) ≡ None =
    cond-false (eqb q q && eqb (cid_of t) (cid_of s)) (Some m) (book q (cid_of t))
    (unlike (eqb q q) (eqb (cid_of t) (cid_of s)) refl) ∙ free2 in
    let two = right_more c n (grown (published_entries past) q s) (reaped_post c past) (with_entry book q (cid_of s) m)
    q (suc m) t count (new_unreaped c past q (suc m) h (omega arith)) still one in
    let all : Past = Entry.Publish (record { queue = q; batch = s ∷ t ∷ [] }) ∷ past in
    right_book c all n (with_entry (with_entry book q (cid_of s) m) q (cid_of t) (suc m))
    (right_same c n (grown (grown (published_entries past) q s) q t) (published_entries all) (reaped_post c past)
    (reaped_post c past) (with_entry (with_entry book q (cid_of s) m) q (cid_of t) (suc m))
    (λ r e. two_grown (published_entries past r) s t (eqb q r)) (λ r j e. refl) two)
  where
    unlike : (x y : Bool) → eqb (cid_of t) (cid_of s) ≡ y → (x && y) ≡ false
    unlike x true e = absurd (apart (eqb-true (cid_of t) (cid_of s) e))
    unlike true false e = refl
    unlike false false e = refl

pub book_found : (c : ConfigNumbers) (past : Past) (r : ReapLine) (book : Book) (x : ReapAnswers c past r)
    → IsBook c past r.queue book → book x.queue (cid_of x.entry) ≡ Some x.number
book_found c past r book x b =
    (b x.queue (cid_of x.entry) x.number x.own).1
    (record { entry = x.entry; published = x.published; says = refl; unreaped = x.unreaped })

pub book_reaped : (c : ConfigNumbers) (past : Past) (r : ReapLine) (book : Book) (x : ReapAnswers c past r)
    → IsLegal c (Entry.Reap r ∷ past) → IsBook c past r.queue book
    → IsBook c (Entry.Reap r ∷ past) r.queue (without_entry book x.queue (cid_of x.entry))
book_reaped c past r book x h b = λ q cid j e. (to_entry q cid j e, of_entry q cid j e)
  where
    kept : (q cid j : ℕ) → (w : IsEntryWaiting c past q cid j) → (eqb q x.queue && eqb cid (cid_of x.entry)) ≡ false
        → IsEntryWaiting c (Entry.Reap r ∷ past) q cid j
    kept q cid j w k =
        record {
          entry = w.entry;
          published = w.published;
          says = w.says;
          unreaped = x.others q j (λ a d.
              let there : slice_get (published_entries past q) j ≡ Some x.entry =
              ap₂ (λ (y z : ℕ). slice_get (published_entries past y) z) a d ∙ x.published in
              let same = same_some w.entry x.entry (slice_get (published_entries past q) j) w.published there in
              clash (eqb q x.queue && eqb cid (cid_of x.entry))
              (and_from _ _ (eq-eqb q x.queue a) (eq-eqb cid (cid_of x.entry) (sym w.says ∙ ap cid_of same))) k)
              ∙ w.unreaped;
        }

    to_entry : (q cid j : ℕ) → completion_queue c q ≡ r.queue
        → without_entry book x.queue (cid_of x.entry) q cid ≡ Some j → IsEntryWaiting c (Entry.Reap r ∷ past) q cid j
    to_entry q cid j e y = go (eqb q x.queue && eqb cid (cid_of x.entry)) refl y
      where
        go : (k : Bool) → (eqb q x.queue && eqb cid (cid_of x.entry)) ≡ k → cond k None (book q cid) ≡ Some j
            → IsEntryWaiting c (Entry.Reap r ∷ past) q cid j
        go true k z = no_some j (IsEntryWaiting c (Entry.Reap r ∷ past) q cid j) z
        go false k z = kept q cid j ((b q cid j e).0 z) k

    of_entry : (q cid j : ℕ) → completion_queue c q ≡ r.queue → IsEntryWaiting c (Entry.Reap r ∷ past) q cid j
        → without_entry book x.queue (cid_of x.entry) q cid ≡ Some j
    of_entry q cid j e w =
        let none = none_if (reaped_post c past q j)
        (λ p s. let f : Some p ≡ None = sym (reaped_later c (Entry.Reap r ∷ []) past q j p h s) ∙ w.unreaped in
        cc) in
        let there = (b q cid j e).1
        (record { entry = w.entry; published = w.published; says = w.says; unreaped = none }) in
        elim (cases_Bool (eqb q x.queue && eqb cid (cid_of x.entry))) [
          | inr k ↦ cond-false (eqb q x.queue && eqb cid (cid_of x.entry)) None (book q cid) k ∙ there
          | inl k ↦
              let a = and_parts _ _ k in
              let queue = eqb-true q x.queue a.0 in
              let found = ap₂ book queue (eqb-true cid (cid_of x.entry) a.1) ∙ book_found c past r book x b in
              let number = same_some j x.number (book q cid) there found in
              let now : reaped_post c (Entry.Reap r ∷ past) q j ≡ Some x.post =
              ap₂ (reaped_post c (Entry.Reap r ∷ past)) queue number ∙ x.reaped in
              absurd (let f : Some x.post ≡ None = sym now ∙ w.unreaped in cc)
        ]
