-- What a log tells of the history, an entry at a time.
use Rattle.std.proofs.Common.{◌≡◌, ℕ, Bool, true, false, ◌&&◌, ◌||◌, cond, List, [], ◌∷◌, ◌++◌, refl, sym, ap, ap₂, ◌∙◌}
use Rattle.std.proofs.Common.{subst, Some, eqb, eqb-true, slice_get, nat_lt}
use Rattle.std.specs.List.{list_all}
use Rattle.std.proofs.lemmas.Bool.{and_parts, and_from, not_from_false}
use Rattle.nvme_model.specs.Completions.{posted_completions, reaped_count, reaped_payload}
use Rattle.nvme_model.specs.Config.{completion_queue}
use Rattle.nvme_model.specs.History.{Past}
use Rattle.nvme_model.specs.Legal.{IsLegal}
use Rattle.nvme_model.specs.Passes.{SharedPast, entries}
use Rattle.nvme_model.specs.declared.config.ConfigNumbers.{ConfigNumbers}
use Rattle.nvme_model.specs.declared.entry.Entry.{Entry}
use Rattle.nvme_model.specs.declared.entry.PostLine.{PostLine}
use Rattle.nvme_model.specs.declared.entry.PublishLine.{PublishLine}
use Rattle.nvme_model.specs.declared.entry.ReapLine.{ReapLine}
use Rattle.nvme_model.specs.declared.submission.Submission.{Submission}
use Rattle.nvme_model.proofs.Beginnings.{earlier}
use Rattle.host_laws.specs.Beside.{IsBeside, IsSole, is_beside}
use Rattle.host_laws.specs.Book.{IsBook, cid_of, without_entry}
use Rattle.host_laws.specs.Calls.{ReapAnswers, reaped_post}
use Rattle.host_laws.proofs.Beside.{published_beside, reaped_post_beside}
use Rattle.host_laws.proofs.Book.{book_beside, book_empty, book_found, book_reaped}
use Rattle.host_laws.proofs.Elements.{same_some}
use Rattle.host_laws.proofs.Reaps.{reap_answers, reaped_later}
use Rattle.driver_calls.specs.Events.{IsToldByLog, event_at, events, waiting_number}
use Rattle.driver_calls.specs.Log.{after_got, is_tidy, is_tidy_batch, names_cid, newest, state_of}
use Rattle.driver_calls.specs.declared.event.CidState.{CidState}
use Rattle.driver_calls.specs.declared.event.PortEvent.{PortEvent}
use Rattle.driver_calls.proofs.Books.{book_of, one_answered, same_book, sent_book}
use Rattle.driver_calls.proofs.Logs.{answered_before_sent, names_one, sent_narrow, tidy_before}

-- ---- what others add

-- an entry beside the completion queue leaves what a log tells
pub told_beside : (c : ConfigNumbers) (past : Past) (n : ℕ) (e : Entry) (log : List PortEvent) → is_beside c n e ≡ true
    → IsToldByLog c past n log → IsToldByLog c (e ∷ past) n log
told_beside c past n e log h t =
    let b : IsBeside c n (e ∷ []) = and_from (is_beside c n e) true h refl in
    record {
      entries_are = λ q x. published_beside c (e ∷ []) past n q b x ∙ t.entries_are q x;
      book = book_beside c (e ∷ []) past n (book_of log) b t.book;
      got = λ q cid j cqe payload x s w. let y = t.got q cid j cqe payload x s w in
          (y.0, reaped_post_beside c (e ∷ []) past n q j b x ∙ y.1, y.2, y.3);
    }

-- ---- what the port publishes

-- a tidy Publish tells as a Sent what it adds
pub told_sent : (c : ConfigNumbers) (past : Past) (n : ℕ) (p : PublishLine) (log : List PortEvent) → IsLegal c past
    → completion_queue c p.queue ≡ n → is_tidy (PortEvent.Sent p.queue p.batch ∷ log) ≡ true
    → IsToldByLog c past n log → IsToldByLog c (Entry.Publish p ∷ past) n (PortEvent.Sent p.queue p.batch ∷ log)
told_sent c past n p log h e d t =
    record {
      entries_are = λ q x. ap (λ (xs : List Submission). xs ++ cond (eqb p.queue q) p.batch []) (t.entries_are q x);
      book = sent_book c past n log p.queue p.batch h (t.entries_are p.queue e)
          (and_parts (is_tidy log && nat_lt p.queue 65536) (is_tidy_batch log p.queue p.batch) d).1 t.book;
      got = λ q cid j cqe payload x s w. let a = answered_before_sent log p.queue p.batch q cid j cqe payload s w in
          t.got q cid j cqe payload x a.state a.number;
    }

-- ---- what the port reaps

-- an answered CID was so before this completion, or waited, and it names it
data GotCase (log : List PortEvent) (b : Bool) (bytes data_of : List ℕ) (q cid : ℕ) (cqe payload : List ℕ) : Type 0
  where
    before : state_of log q cid ≡ CidState.Answered cqe payload → GotCase log b bytes data_of q cid cqe payload
    now : b ≡ true → state_of log q cid ≡ CidState.Waiting → cqe ≡ bytes → payload ≡ data_of
        → GotCase log b bytes data_of q cid cqe payload

-- it was or did
got_cases : (log : List PortEvent) (bytes data_of : List ℕ) (q cid : ℕ) (cqe payload : List ℕ)
    → state_of (PortEvent.Got bytes data_of ∷ log) q cid ≡ CidState.Answered cqe payload
    → GotCase log (names_cid bytes q cid) bytes data_of q cid cqe payload
got_cases log bytes data_of q cid cqe payload e = go (names_cid bytes q cid) (state_of log q cid) refl e
  where
    go : (b : Bool) (s : CidState) → state_of log q cid ≡ s
        → after_got b bytes data_of s ≡ CidState.Answered cqe payload → GotCase log b bytes data_of q cid cqe payload
    go true CidState.Idle z f = absurd (let x = f in cc)
    go true CidState.Waiting z f = GotCase.now refl z (let x = f in cc) (let x = f in cc)
    go true (CidState.Answered x y) z f = GotCase.before (z ∙ f)
    go false s z f = GotCase.before (z ∙ f)

-- which CID a reaped completion names
reap_names : (c : ConfigNumbers) (past : Past) (n : ℕ) (r : ReapLine) (log : List PortEvent) (x : ReapAnswers c past r)
    → r.queue ≡ n → is_tidy log ≡ true → IsToldByLog c past n log
    → (q cid : ℕ) → names_cid r.cqe q cid ≡ (eqb q x.queue && eqb cid (cid_of x.entry))
reap_names c past n r log x e d t = λ q cid.
    let there = ap (λ (xs : List Submission). slice_get xs x.number) (sym (t.entries_are x.queue (x.own ∙ e)))
    ∙ x.published in
    let narrow = sent_narrow log x.queue x.number x.entry d there in
    names_one r.cqe x.queue (cid_of x.entry) q cid x.clean (x.sqid narrow.queue) (x.cid narrow.cid)

-- the Post that answered an entry
abbrev GotPost : ConfigNumbers → Past → ℕ → ℕ → List ℕ → List ℕ → Type 0
GotPost c past q j cqe payload =
    (p : PostLine) × (reaped_post c past q j ≡ Some p) × (p.cqe ≡ cqe) × (p.payload ≡ payload)

-- an answered CID names the Post that was reaped, before or now
reap_got : (c : ConfigNumbers) (past : Past) (n : ℕ) (r : ReapLine) (log : List PortEvent) (x : ReapAnswers c past r)
    → IsLegal c (Entry.Reap r ∷ past) → IsBook c past r.queue (book_of log) → IsToldByLog c past n log
    → (q cid j : ℕ) (cqe payload : List ℕ) (b : Bool) → b ≡ (eqb q x.queue && eqb cid (cid_of x.entry))
    → completion_queue c q ≡ n → newest log q cid ≡ Some j
    → GotCase log b r.cqe
    (reaped_payload (slice_get (posted_completions c past r.queue) (reaped_count past r.queue))) q cid
    cqe payload → GotPost c (Entry.Reap r ∷ past) q j cqe payload
reap_got c past n r log x h k t q cid j cqe payload b names e w (GotCase.before s) =
    let y = t.got q cid j cqe payload e s w in
    (y.0, reaped_later c (Entry.Reap r ∷ []) past q j y.0 h y.1, y.2, y.3)
reap_got c past n r log x h k t q cid j cqe payload b names e w (GotCase.now is s f g) =
    let a = and_parts (eqb q x.queue) (eqb cid (cid_of x.entry)) (sym names ∙ is) in
    let queue = eqb-true q x.queue a.0 in
    let name = eqb-true cid (cid_of x.entry) a.1 in
    let waits : book_of log q cid ≡ Some j = ap (λ (z : CidState). waiting_number z (newest log q cid)) s ∙ w in
    let number = same_some j x.number (book_of log q cid) waits
    (ap₂ (book_of log) queue name ∙ book_found c past r (book_of log) x k) in (
      x.post,
      ap₂ (reaped_post c (Entry.Reap r ∷ past)) queue number ∙ x.reaped,
      x.cqe ∙ sym f,
      sym (g ∙ ap reaped_payload x.posted),
    )

-- a Reap tells as a Got which entry it answers
pub told_got : (c : ConfigNumbers) (past : Past) (n : ℕ) (r : ReapLine) (log : List PortEvent)
    → IsLegal c (Entry.Reap r ∷ past) → r.queue ≡ n → is_tidy log ≡ true → IsToldByLog c past n log
    → IsToldByLog c (Entry.Reap r ∷ past) n
    (PortEvent.Got r.cqe (reaped_payload (slice_get (posted_completions c past r.queue) (reaped_count past r.queue)))
    ∷ log)
told_got c past n r log h e d t =
    let x = reap_answers c past r h in
    let contents = reaped_payload (slice_get (posted_completions c past r.queue) (reaped_count past r.queue)) in
    let names = reap_names c past n r log x e d t in
    let book : IsBook c past r.queue (book_of log) = subst (λ (k : ℕ). IsBook c past k (book_of log)) (sym e) t.book in
    record {
      entries_are = t.entries_are;
      book = subst (λ (k : ℕ). IsBook c (Entry.Reap r ∷ past) k (book_of (PortEvent.Got r.cqe contents ∷ log))) e
          (same_book c (Entry.Reap r ∷ past) r.queue (without_entry (book_of log) x.queue (cid_of x.entry))
          (book_of (PortEvent.Got r.cqe contents ∷ log))
          (λ q cid y. one_answered log r.cqe contents x.queue (cid_of x.entry) q cid (names q cid))
          (book_reaped c past r (book_of log) x h book));
      got = λ q cid j cqe payload y s w.
          reap_got c past n r log x h book t q cid j cqe payload (names_cid r.cqe q cid) (names q cid) y w
          (got_cases log r.cqe contents q cid cqe payload s);
    }

-- ---- the whole history

-- so does each entry of the pass itself
told_own : (c : ConfigNumbers) (past : Past) (n : ℕ) (e : Entry) (log : List PortEvent) → IsLegal c (e ∷ past)
    → is_tidy (event_at c n past e ++ log) ≡ true → is_tidy log ≡ true → IsToldByLog c past n log
    → IsToldByLog c (e ∷ past) n (event_at c n past e ++ log)
told_own c past n (Entry.Publish p) log h d l t = go (eqb (completion_queue c p.queue) n) refl d
  where
    go : (b : Bool) → eqb (completion_queue c p.queue) n ≡ b
        → is_tidy (cond b (PortEvent.Sent p.queue p.batch ∷ []) [] ++ log) ≡ true
        → IsToldByLog c (Entry.Publish p ∷ past) n (cond b (PortEvent.Sent p.queue p.batch ∷ []) [] ++ log)
    go true z x = told_sent c past n p log (earlier c (Entry.Publish p ∷ []) past h)
        (eqb-true (completion_queue c p.queue) n z) x t
    go false z x = told_beside c past n (Entry.Publish p) log (not_from_false (eqb (completion_queue c p.queue) n) z) t
told_own c past n (Entry.Reap r) log h d l t = go (eqb r.queue n) refl
  where
    go : (b : Bool) → eqb r.queue n ≡ b
        → IsToldByLog c (Entry.Reap r ∷ past) n
        (cond b (PortEvent.Got r.cqe
        (reaped_payload (slice_get (posted_completions c past r.queue) (reaped_count past r.queue))) ∷ []) [] ++ log)
    go true z = told_got c past n r log h (eqb-true r.queue n z) l t
    go false z = told_beside c past n (Entry.Reap r) log (not_from_false (eqb r.queue n) z) t
told_own c past n (Entry.Fetch p) log h d l t = told_beside c past n (Entry.Fetch p) log refl t
told_own c past n (Entry.Grant p) log h d l t = told_beside c past n (Entry.Grant p) log refl t
told_own c past n (Entry.Block p) log h d l t = told_beside c past n (Entry.Block p) log refl t
told_own c past n (Entry.Post p) log h d l t = told_beside c past n (Entry.Post p) log refl t

-- so do the events of a sole pass
pub log_tells : (c : ConfigNumbers) (n p : ℕ) (shared : SharedPast) → IsLegal c (entries shared) → IsSole c n p shared
    → is_tidy (events c n p shared) ≡ true → IsToldByLog c (entries shared) n (events c n p shared)
log_tells c n p [] h o d =
    record {
      entries_are = λ q e. refl;
      book = book_empty c [] n (λ q e. refl);
      got = λ q cid j cqe payload e s w. absurd (let f : CidState.Idle ≡ CidState.Answered cqe payload = s in cc);
    }
log_tells c n p (m ∷ shared) h o d =
    let a = and_parts (is_beside c n m.1 || eqb m.0 p) (list_all (λ x. is_beside c n x.1 || eqb x.0 p) shared) o in
    let l = tidy_before (cond (eqb m.0 p) (event_at c n (entries shared) m.1) []) (events c n p shared) d in
    go (eqb m.0 p) refl a.0 d l (log_tells c n p shared (earlier c (m.1 ∷ []) (entries shared) h) a.1 l)
  where
    go : (b : Bool) → eqb m.0 p ≡ b → (is_beside c n m.1 || b) ≡ true
        → is_tidy (cond b (event_at c n (entries shared) m.1) [] ++ events c n p shared) ≡ true
        → is_tidy (events c n p shared) ≡ true
        → IsToldByLog c (entries shared) n (events c n p shared)
        → IsToldByLog c (m.1 ∷ entries shared) n (cond b (event_at c n (entries shared) m.1) [] ++ events c n p shared)
    go true z x y l t = told_own c (entries shared) n m.1 (events c n p shared) h y l t
    go false z x y l t = told_beside c (entries shared) n m.1 (events c n p shared) (left (is_beside c n m.1) x) t
      where
        left : (k : Bool) → (k || false) ≡ true → k ≡ true
        left true e = refl
        left false e = e
