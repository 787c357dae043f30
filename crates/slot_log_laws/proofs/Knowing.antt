-- What the log of a port that alone uses its queues knows of claims, releases and successes in the history.
use Rattle.std.proofs.Common.{Bool, List, None, Option, Some, [], ap, ap₂, cond, eq-eqb, eqb, eqb-true, false, inl, inr}
use Rattle.std.proofs.Common.{length, refl, slice_get, subst, sym, true, ℕ, ◌&&◌, ◌++◌, ◌||◌, ◌∙◌, ◌∷◌, ◌≡◌}
use Rattle.std.specs.List.{list_all}
use Rattle.std.proofs.lemmas.Bool.{and_from, and_parts, cases_Bool, cond-true, eqb-false, not_from_false, or_cases}
use Rattle.std.proofs.lemmas.Bool.{or_left, or_right}
use Rattle.nvme_model.specs.Config.{completion_queue}
use Rattle.nvme_model.specs.EntryBytes.{cqe_fields}
use Rattle.nvme_model.specs.History.{Past}
use Rattle.nvme_model.specs.Legal.{IsLegal}
use Rattle.nvme_model.specs.Passes.{SharedPast, entries}
use Rattle.nvme_model.specs.Queues.{published_entries}
use Rattle.nvme_model.specs.Slots.{Swap, swaps, swaps_in}
use Rattle.nvme_model.specs.Statuses.{is_success}
use Rattle.nvme_model.specs.declared.config.ConfigNumbers.{ConfigNumbers}
use Rattle.nvme_model.specs.declared.entry.Entry.{Entry}
use Rattle.nvme_model.specs.declared.entry.PostLine.{PostLine}
use Rattle.nvme_model.specs.declared.entry.PublishLine.{PublishLine}
use Rattle.nvme_model.specs.declared.entry.ReapLine.{ReapLine}
use Rattle.nvme_model.specs.declared.submission.Submission.{Submission}
use Rattle.nvme_model.proofs.Beginnings.{earlier}
use Rattle.nvme_model.proofs.Cut.{clash}
use Rattle.host_laws.specs.Beside.{IsBeside, IsSole, is_beside}
use Rattle.host_laws.specs.Book.{cid_of}
use Rattle.host_laws.specs.Calls.{ReapAnswers, reaped_post, cqe_status}
use Rattle.host_laws.proofs.Beside.{reaped_post_beside, swaps_beside}
use Rattle.host_laws.proofs.Book.{book_found}
use Rattle.host_laws.proofs.Discipline.{swaps_later}
use Rattle.host_laws.proofs.Elements.{In, in_cases, in_left, in_right, same_some}
use Rattle.host_laws.proofs.Reaps.{reap_answers, reaped_later}
use Rattle.host_laws.proofs.Successes.{Success}
use Rattle.host_laws.proofs.SwapEntries.{swaps_in_queue}
use Rattle.driver_calls.specs.Events.{IsToldByLog, event_at, events, waiting_number}
use Rattle.driver_calls.specs.Log.{is_tidy, names_cid, newest, sent, state_of}
use Rattle.driver_calls.specs.declared.event.PortEvent.{PortEvent}
use Rattle.driver_calls.proofs.Books.{book_of}
use Rattle.driver_calls.proofs.Following.{beside_no_event}
use Rattle.driver_calls.proofs.Logs.{names_one, sent_narrow, tidy_before}
use Rattle.driver_calls.proofs.Telling.{log_tells}
use Rattle.slot_log_laws.specs.Swaps.{names_entry, is_number, log_success, log_swaps}

-- the log has the claims and releases of completion queue n, and the successes
pub record Knows (c : ConfigNumbers) (past : Past) (n : ℕ) (log : List PortEvent) : Type 0 where
  pub there : (s : Swap) → In s (log_swaps log) → In s (swaps past)
  pub own : (s : Swap) → In s (log_swaps log) → completion_queue c s.queue ≡ n
  pub known : (s : Swap) → In s (swaps past) → completion_queue c s.queue ≡ n → In s (log_swaps log)
  pub success : (q j : ℕ) → completion_queue c q ≡ n → log_success log q j ≡ true → Success c past q j
  pub back : (q j : ℕ) → completion_queue c q ≡ n → Success c past q j → log_success log q j ≡ true

-- ---- what others add

knows_beside : (c : ConfigNumbers) (past : Past) (n : ℕ) (e : Entry) (log : List PortEvent) → is_beside c n e ≡ true
    → Knows c past n log → Knows c (e ∷ past) n log
knows_beside c past n e log h k =
    let b : IsBeside c n (e ∷ []) = and_from (is_beside c n e) true h refl in
    record {
      there = λ s i. swaps_later (e ∷ []) past s (k.there s i);
      own = k.own;
      known = λ s i x. k.known s (swaps_beside c (e ∷ []) past n s b x i) x;
      success = λ q j x y. let z = k.success q j x y in
          record { post = z.post; reaped = reaped_post_beside c (e ∷ []) past n q j b x ∙ z.reaped; says = z.says };
      back = λ q j x y. k.back q j x
          (record {
            post = y.post;
            reaped = sym (reaped_post_beside c (e ∷ []) past n q j b x) ∙ y.reaped;
            says = y.says;
          });
    }

-- ---- what the port publishes

knows_sent : (c : ConfigNumbers) (past : Past) (n : ℕ) (p : PublishLine) (log : List PortEvent)
    → completion_queue c p.queue ≡ n → published_entries past p.queue ≡ sent log p.queue → Knows c past n log
    → Knows c (Entry.Publish p ∷ past) n (PortEvent.Sent p.queue p.batch ∷ log)
knows_sent c past n p log e same k =
    record {
      there = λ s i. elim (in_cases s of (log_swaps log) i) [
        | inl j ↦ in_left s new (swaps past) (subst (λ (xs : List Swap). In s xs) (sym alike) j)
        | inr j ↦ in_right s new (swaps past) (k.there s j)
      ];
      own = λ s i. elim (in_cases s of (log_swaps log) i) [
        | inl j ↦ ap (completion_queue c) (swaps_in_queue past p s (subst (λ (xs : List Swap). In s xs) (sym alike) j))
            ∙ e
        | inr j ↦ k.own s j
      ];
      known = λ s i x. elim (in_cases s new (swaps past) i) [
        | inl j ↦ in_left s of (log_swaps log) (subst (λ (xs : List Swap). In s xs) alike j)
        | inr j ↦ in_right s of (log_swaps log) (k.known s j x)
      ];
      success = λ q j x y. let z = k.success q j x y in record { post = z.post; reaped = z.reaped; says = z.says };
      back = λ q j x y. k.back q j x (record { post = y.post; reaped = y.reaped; says = y.says });
    }
  where
    of : List Swap
    of = swaps_in p.queue (length (sent log p.queue)) p.batch

    new : List Swap
    new = swaps_in p.queue (length (published_entries past p.queue)) p.batch

    alike : new ≡ of
    alike = ap (λ (xs : List Submission). swaps_in p.queue (length xs) p.batch) same

-- ---- what the port reaps

-- which CID a reaped completion names
record Named (log : List PortEvent) (r : ReapLine) (queue cid number : ℕ) : Type 0 where
  names : (q i : ℕ) → names_cid r.cqe q i ≡ (eqb q queue && eqb i cid)
  says : (cqe_fields r.cqe).cid ≡ cid
  found : book_of log queue cid ≡ Some number

reap_named : (c : ConfigNumbers) (past : Past) (n : ℕ) (r : ReapLine) (log : List PortEvent) (x : ReapAnswers c past r)
    → r.queue ≡ n → is_tidy log ≡ true → IsToldByLog c past n log → Named log r x.queue (cid_of x.entry) x.number
reap_named c past n r log x e d t =
    let there = ap (λ (xs : List Submission). slice_get xs x.number) (sym (t.entries_are x.queue (x.own ∙ e)))
    ∙ x.published in
    let narrow = sent_narrow log x.queue x.number x.entry d there in
    record {
      names = λ q i. names_one r.cqe x.queue (cid_of x.entry) q i x.clean (x.sqid narrow.queue) (x.cid narrow.cid);
      says = x.cid narrow.cid;
      found = book_found c past r (book_of log) x (subst (λ (k : ℕ). IsToldByLog c past k log) (sym e) t).book;
    }

is_some_number : (j : ℕ) (o : Option ℕ) → is_number j o ≡ true → o ≡ Some j
is_some_number j None h = clash false h refl
is_some_number j (Some i) h = ap Some (eqb-true i j h)

-- an entry that a completion answers is the one that is reaped now
answers_one : (log : List PortEvent) (r : ReapLine) (queue cid number q j : ℕ) → Named log r queue cid number
    → names_entry log r.cqe q j ≡ true → (q ≡ queue) × (j ≡ number)
answers_one log r queue cid number q j x h =
    let i = (cqe_fields r.cqe).cid in
    let a = and_parts (names_cid r.cqe q i) (is_number j (waiting_number (state_of log q i) (newest log q i))) h in
    let b = and_parts (eqb q queue) (eqb i cid) (sym (x.names q i) ∙ a.0) in
    let at = eqb-true q queue b.0 in (
      at,
      same_some j number (book_of log q i) (is_some_number j (book_of log q i) a.1)
          (ap₂ (book_of log) at x.says ∙ x.found),
    )

-- and that one is
answers_it : (log : List PortEvent) (r : ReapLine) (queue cid number : ℕ) → Named log r queue cid number
    → names_entry log r.cqe queue number ≡ true
answers_it log r queue cid number x =
    let i = (cqe_fields r.cqe).cid in
    and_from (names_cid r.cqe queue i) (is_number number (waiting_number (state_of log queue i) (newest log queue i)))
    (x.names queue i ∙ and_from (eqb queue queue) (eqb i cid) (eq-eqb queue queue refl) (eq-eqb i cid x.says))
    (ap (is_number number) (ap (book_of log queue) x.says ∙ x.found) ∙ eq-eqb number number refl)

knows_got : (c : ConfigNumbers) (past : Past) (n : ℕ) (r : ReapLine) (payload : List ℕ) (log : List PortEvent)
    → IsLegal c (Entry.Reap r ∷ past) → r.queue ≡ n → is_tidy log ≡ true → IsToldByLog c past n log → Knows c past n log
    → Knows c (Entry.Reap r ∷ past) n (PortEvent.Got r.cqe payload ∷ log)
knows_got c past n r payload log h e d t k =
    record {
      there = k.there;
      own = k.own;
      known = k.known;
      success = λ q j y z. elim
          (or_cases (names_entry log r.cqe q j && is_success (cqe_status r.cqe)) (log_success log q j) z) [
            | inl w ↦ now q j (and_parts (names_entry log r.cqe q j) (is_success (cqe_status r.cqe)) w)
            | inr w ↦ let s = k.success q j y w in
                record {
                  post = s.post;
                  reaped = reaped_later c (Entry.Reap r ∷ []) past q j s.post h s.reaped;
                  says = s.says;
                }
          ];
      back = λ q j y s. by_queue q j y s (eqb q x.queue) (eqb j x.number) refl refl;
    }
  where
    x : ReapAnswers c past r
    x = reap_answers c past r h

    named : Named log r x.queue (cid_of x.entry) x.number
    named = reap_named c past n r log x e d t

    now : (q j : ℕ) → (names_entry log r.cqe q j ≡ true) × (is_success (cqe_status r.cqe) ≡ true)
        → Success c (Entry.Reap r ∷ past) q j
    now q j w =
        let at = answers_one log r x.queue (cid_of x.entry) x.number q j named w.0 in
        record {
          post = x.post;
          reaped = ap₂ (reaped_post c (Entry.Reap r ∷ past)) at.0 at.1 ∙ x.reaped;
          says = ap (λ (b : List ℕ). is_success (cqe_status b)) x.cqe ∙ w.1;
        }

    old : (q j : ℕ) → completion_queue c q ≡ n → Success c (Entry.Reap r ∷ past) q j → (q ≡ x.queue → j ≡ x.number → ⊥)
        → log_success (PortEvent.Got r.cqe payload ∷ log) q j ≡ true
    old q j y s other = or_right _ (log_success log q j)
        (k.back q j y (record { post = s.post; reaped = sym (x.others q j other) ∙ s.reaped; says = s.says }))

    this : (q j : ℕ) → q ≡ x.queue → j ≡ x.number → Success c (Entry.Reap r ∷ past) q j
        → log_success (PortEvent.Got r.cqe payload ∷ log) q j ≡ true
    this q j a b s =
        let post : s.post ≡ x.post =
        same_some s.post x.post (reaped_post c (Entry.Reap r ∷ past) q j) s.reaped
        (ap₂ (reaped_post c (Entry.Reap r ∷ past)) a b ∙ x.reaped) in
        let bytes : s.post.cqe ≡ r.cqe = ap (λ (p : PostLine). p.cqe) post ∙ x.cqe in
        or_left (names_entry log r.cqe q j && is_success (cqe_status r.cqe)) (log_success log q j)
        (and_from (names_entry log r.cqe q j) (is_success (cqe_status r.cqe))
        (ap₂ (names_entry log r.cqe) a b ∙ answers_it log r x.queue (cid_of x.entry) x.number named)
        (ap (λ (b : List ℕ). is_success (cqe_status b)) (sym bytes) ∙ s.says))

    by_queue : (q j : ℕ) → completion_queue c q ≡ n → Success c (Entry.Reap r ∷ past) q j → (a b : Bool)
        → eqb q x.queue ≡ a → eqb j x.number ≡ b → log_success (PortEvent.Got r.cqe payload ∷ log) q j ≡ true
    by_queue q j y s true true f g = this q j (eqb-true q x.queue f) (eqb-true j x.number g) s
    by_queue q j y s true false f g = old q j y s (λ u v. eqb-false j x.number g v)
    by_queue q j y s false b f g = old q j y s (λ u v. eqb-false q x.queue f u)

-- ---- the whole history

-- the event of a Reap of its own
reap_event : (c : ConfigNumbers) (n : ℕ) (past : Past) (r : ReapLine) → eqb r.queue n ≡ true
    → (payload : List ℕ) × (event_at c n past (Entry.Reap r) ≡ PortEvent.Got r.cqe payload ∷ [])
reap_event c n past r h = (_, cond-true (eqb r.queue n) _ [] h)

knows_own : (c : ConfigNumbers) (past : Past) (n : ℕ) (e : Entry) (log : List PortEvent) → IsLegal c (e ∷ past)
    → is_tidy log ≡ true → IsToldByLog c past n log → Knows c past n log
    → Knows c (e ∷ past) n (event_at c n past e ++ log)
knows_own c past n (Entry.Publish p) log h d t k = go (eqb (completion_queue c p.queue) n) refl
  where
    go : (b : Bool) → eqb (completion_queue c p.queue) n ≡ b
        → Knows c (Entry.Publish p ∷ past) n (cond b (PortEvent.Sent p.queue p.batch ∷ []) [] ++ log)
    go true z = let e = eqb-true (completion_queue c p.queue) n z in
        knows_sent c past n p log e (t.entries_are p.queue e) k
    go false z = knows_beside c past n (Entry.Publish p) log (not_from_false (eqb (completion_queue c p.queue) n) z) k
knows_own c past n (Entry.Reap r) log h d t k =
    elim (cases_Bool (eqb r.queue n)) [
      | inl z ↦
          let e = reap_event c n past r z in
          subst (λ (xs : List PortEvent). Knows c (Entry.Reap r ∷ past) n (xs ++ log)) (sym e.1)
          (knows_got c past n r e.0 log h (eqb-true r.queue n z) d t k)
      | inr z ↦
          let b = not_from_false (eqb r.queue n) z in
          subst (λ (xs : List PortEvent). Knows c (Entry.Reap r ∷ past) n (xs ++ log))
          (sym (beside_no_event c n past (Entry.Reap r) b)) (knows_beside c past n (Entry.Reap r) log b k)
    ]
knows_own c past n (Entry.Fetch p) log h d t k = knows_beside c past n (Entry.Fetch p) log refl k
knows_own c past n (Entry.Grant p) log h d t k = knows_beside c past n (Entry.Grant p) log refl k
knows_own c past n (Entry.Block p) log h d t k = knows_beside c past n (Entry.Block p) log refl k
knows_own c past n (Entry.Post p) log h d t k = knows_beside c past n (Entry.Post p) log refl k

-- where a test is false its alternative holds
pub right_of : (a b : Bool) → (a || b) ≡ true → b ≡ false → a ≡ true
right_of true b h e = refl
right_of false b h e = clash b h e

pub log_knows : (c : ConfigNumbers) (n p : ℕ) (shared : SharedPast) → IsLegal c (entries shared) → IsSole c n p shared
    → is_tidy (events c n p shared) ≡ true → Knows c (entries shared) n (events c n p shared)
log_knows c n p [] h o d =
    record {
      there = λ s i. i;
      own = λ s i. absurd i;
      known = λ s i x. i;
      success = λ q j x y. clash false y refl;
      back = λ q j x y. absurd (let f : None ≡ Some y.post = y.reaped in cc);
    }
log_knows c n p (m ∷ shared) h o d =
    let a = and_parts (is_beside c n m.1 || eqb m.0 p) (list_all (λ x. is_beside c n x.1 || eqb x.0 p) shared) o in
    let l = tidy_before (cond (eqb m.0 p) (event_at c n (entries shared) m.1) []) (events c n p shared) d in
    let legal = earlier c (m.1 ∷ []) (entries shared) h in
    go (eqb m.0 p) refl a.0 l (log_tells c n p shared legal a.1 l) (log_knows c n p shared legal a.1 l)
  where
    go : (b : Bool) → eqb m.0 p ≡ b → (is_beside c n m.1 || eqb m.0 p) ≡ true → is_tidy (events c n p shared) ≡ true
        → IsToldByLog c (entries shared) n (events c n p shared)
        → Knows c (entries shared) n (events c n p shared)
        → Knows c (m.1 ∷ entries shared) n (cond b (event_at c n (entries shared) m.1) [] ++ events c n p shared)
    go true z x l t k = knows_own c (entries shared) n m.1 (events c n p shared) h l t k
    go false z x l t k = knows_beside c (entries shared) n m.1 (events c n p shared)
        (right_of (is_beside c n m.1) (eqb m.0 p) x z) k
