-- The book of the entries that wait by a log, over what the port publishes and reaps.
use Rattle.std.proofs.Common.{◌≡◌, ℕ, suc, Bool, true, false, ◌&&◌, ◌||◌, cond, List, [], ◌∷◌, length, refl, sym, ap}
use Rattle.std.proofs.Common.{ap₂, ◌∙◌, Option, Some, None, eqb, eqb-true, nat_lt}
use Rattle.nvme_model.specs.Config.{completion_queue}
use Rattle.nvme_model.specs.History.{Past}
use Rattle.nvme_model.specs.Legal.{IsLegal}
use Rattle.nvme_model.specs.Queues.{published_entries}
use Rattle.nvme_model.specs.declared.config.ConfigNumbers.{ConfigNumbers}
use Rattle.nvme_model.specs.declared.entry.Entry.{Entry}
use Rattle.nvme_model.specs.declared.submission.Submission.{Submission}
use Rattle.host_laws.specs.Book.{Book, IsBook, cid_of, with_entry, without_entry}
use Rattle.host_laws.proofs.Book.{book_one, book_pair}
use Rattle.driver_calls.specs.Events.{waiting_number}
use Rattle.driver_calls.specs.Log.{after_got, has_free_cid, is_idle, is_tidy_batch, names_cid, newest, sent, state_of}
use Rattle.driver_calls.specs.declared.event.CidState.{CidState}
use Rattle.driver_calls.specs.declared.event.PortEvent.{PortEvent}
use Rattle.std.proofs.lemmas.Bool.{and_parts}
use Rattle.plain_lemmas.proofs.Numbers.{eqb_swapped}
use Rattle.driver_calls.proofs.Logs.{tidy_pair}

-- the entries that wait by a log
abbrev pub book_of : List PortEvent → Book
book_of log q cid = waiting_number (state_of log q cid) (newest log q cid)

-- a book with the same entries is right too
pub same_book : (c : ConfigNumbers) (past : Past) (n : ℕ) (book other : Book)
    → ((q cid : ℕ) → completion_queue c q ≡ n → other q cid ≡ book q cid) → IsBook c past n book → IsBook c past n other
same_book c past n book other f b =
    λ q cid j e. (λ x. (b q cid j e).0 (sym (f q cid e) ∙ x), λ w. f q cid e ∙ (b q cid j e).1 w)

-- no entry waits in such a state
idle_waits_not : (s : CidState) (j : Option ℕ) → is_idle s ≡ true → waiting_number s j ≡ None
idle_waits_not CidState.Idle j h = refl
idle_waits_not CidState.Waiting j h = absurd (let f = h in cc)
idle_waits_not (CidState.Answered x y) j h = refl

-- no entry waits under a free CID
pub free_waits_not : (log : List PortEvent) (q : ℕ) (s : Submission) → has_free_cid log q s ≡ true
    → book_of log q (cid_of s) ≡ None
free_waits_not log q s h =
    idle_waits_not (state_of log q (cid_of s)) (newest log q (cid_of s))
    (and_parts (nat_lt (cid_of s) 65536) (is_idle (state_of log q (cid_of s))) h).1

-- ---- what the port publishes

-- a book with an entry more, by the tests in the order of a log
with_swapped : (book : Book) (q cid j r i : ℕ)
    → with_entry book q cid j r i ≡ cond (eqb q r && eqb cid i) (Some j) (book r i)
with_swapped book q cid j r i =
    ap₂ (λ (x y : Bool). cond (x && y) (Some j) (book r i)) (eqb_swapped r q) (eqb_swapped i cid)

-- one entry waits
pub one_waits : (log : List PortEvent) (q : ℕ) (s : Submission) (r i : ℕ)
    → book_of (PortEvent.Sent q (s ∷ []) ∷ log) r i ≡ with_entry (book_of log) q (cid_of s) (length (sent log q)) r i
one_waits log q s r i = go (eqb q r) (eqb (cid_of s) i) refl
    ∙ sym (with_swapped (book_of log) q (cid_of s) (length (sent log q)) r i)
  where
    go : (a b : Bool) → eqb q r ≡ a
        → waiting_number (cond (a && (b || false)) CidState.Waiting (state_of log r i))
        (cond a (cond b (Some (length (sent log r))) (newest log r i)) (newest log r i))
        ≡ cond (a && b) (Some (length (sent log q))) (book_of log r i)
    go true true e = ap (λ (x : ℕ). Some (length (sent log x))) (sym (eqb-true q r e))
    go true false e = refl
    go false b e = refl

-- two entries wait
pub two_wait : (log : List PortEvent) (q : ℕ) (s t : Submission) (r i : ℕ)
    → book_of (PortEvent.Sent q (s ∷ t ∷ []) ∷ log) r i
    ≡ with_entry (with_entry (book_of log) q (cid_of s) (length (sent log q))) q (cid_of t)
    (suc (length (sent log q))) r i
two_wait log q s t r i =
    go (eqb q r) (eqb (cid_of s) i) (eqb (cid_of t) i) refl
    ∙ sym (with_swapped (with_entry (book_of log) q (cid_of s) (length (sent log q))) q (cid_of t)
    (suc (length (sent log q))) r i
    ∙ ap (λ (o : Option ℕ). cond (eqb q r && eqb (cid_of t) i) (Some (suc (length (sent log q)))) o)
    (with_swapped (book_of log) q (cid_of s) (length (sent log q)) r i))
  where
    go : (a b d : Bool) → eqb q r ≡ a
        → waiting_number (cond (a && (b || (d || false))) CidState.Waiting (state_of log r i))
        (cond a (cond d (Some (suc (length (sent log r)))) (cond b (Some (length (sent log r))) (newest log r i)))
        (newest log r i))
        ≡ cond (a && d) (Some (suc (length (sent log q))))
        (cond (a && b) (Some (length (sent log q))) (book_of log r i))
    go true true true e = ap (λ (x : ℕ). Some (suc (length (sent log x)))) (sym (eqb-true q r e))
    go true true false e = ap (λ (x : ℕ). Some (length (sent log x))) (sym (eqb-true q r e))
    go true false true e = ap (λ (x : ℕ). Some (suc (length (sent log x)))) (sym (eqb-true q r e))
    go true false false e = refl
    go false b d e = refl

-- a tidy batch keeps the book right
pub sent_book : (c : ConfigNumbers) (past : Past) (n : ℕ) (log : List PortEvent) (q : ℕ) (batch : List Submission)
    → IsLegal c past → published_entries past q ≡ sent log q → is_tidy_batch log q batch ≡ true
    → IsBook c past n (book_of log)
    → IsBook c (Entry.Publish (record { queue = q; batch = batch }) ∷ past) n
    (book_of (PortEvent.Sent q batch ∷ log))
sent_book c past n log q [] h e d b = absurd (let f = d in cc)
sent_book c past n log q (s ∷ []) h e d b =
    same_book c (Entry.Publish (record { queue = q; batch = s ∷ [] }) ∷ past) n
    (with_entry (book_of log) q (cid_of s) (length (published_entries past q)))
    (book_of (PortEvent.Sent q (s ∷ []) ∷ log))
    (λ r i x. one_waits log q s r i
    ∙ ap (λ (xs : List Submission). with_entry (book_of log) q (cid_of s) (length xs) r i) (sym e))
    (book_one c past n (book_of log) q s h b (free_waits_not log q s d))
sent_book c past n log q (s ∷ t ∷ []) h e d b =
    let f = tidy_pair log q s t d in
    same_book c (Entry.Publish (record { queue = q; batch = s ∷ t ∷ [] }) ∷ past) n
    (with_entry (with_entry (book_of log) q (cid_of s) (length (published_entries past q))) q (cid_of t)
    (suc (length (published_entries past q))))
    (book_of (PortEvent.Sent q (s ∷ t ∷ []) ∷ log))
    (λ r i x. two_wait log q s t r i
    ∙ ap (λ (xs : List Submission).
    with_entry (with_entry (book_of log) q (cid_of s) (length xs)) q (cid_of t) (suc (length xs)) r i) (sym e))
    (book_pair c past n (book_of log) q s t h b (free_waits_not log q s f.first) (free_waits_not log q t f.second)
    f.unlike)
sent_book c past n log q (s ∷ t ∷ u ∷ batch) h e d b = absurd (let f = d in cc)

-- ---- what the port reaps

-- the entry that a completion names waits no longer
pub one_answered : (log : List PortEvent) (cqe payload : List ℕ) (q cid r i : ℕ)
    → names_cid cqe r i ≡ (eqb r q && eqb i cid)
    → book_of (PortEvent.Got cqe payload ∷ log) r i ≡ without_entry (book_of log) q cid r i
one_answered log cqe payload q cid r i e = go (names_cid cqe r i) (state_of log r i)
    ∙ ap (λ (b : Bool). cond b None (book_of log r i)) e
  where
    go : (b : Bool) (s : CidState)
        → waiting_number (after_got b cqe payload s) (newest log r i) ≡ cond b None (waiting_number s (newest log r i))
    go true CidState.Idle = refl
    go true CidState.Waiting = refl
    go true (CidState.Answered x y) = refl
    go false s = refl
