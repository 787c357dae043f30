-- The claims of a slot that a log has, and those that its history has on the log's queues.
use Rattle.std.proofs.Common.{Bool, List, [], ap, ap₂, cond, eq-eqb, eqb, eqb-true, false, inl, inr, length, refl, suc}
use Rattle.std.proofs.Common.{true, ℕ, ◌&&◌, ◌++◌, ◌||◌, ◌∙◌, ◌∷◌, ◌≡◌}
use Rattle.std.specs.List.{filter, list_all}
use Rattle.std.proofs.lemmas.Bool.{and_parts, cond-false, cond-true, not-true, not_from_false}
use Rattle.nvme_model.specs.Config.{completion_queue}
use Rattle.nvme_model.specs.History.{Past}
use Rattle.nvme_model.specs.Legal.{IsLegal}
use Rattle.nvme_model.specs.Passes.{SharedPast, entries}
use Rattle.nvme_model.specs.Queues.{published_entries}
use Rattle.nvme_model.specs.Slots.{Name, Swap, swaps, swaps_in}
use Rattle.nvme_model.specs.declared.config.ConfigNumbers.{ConfigNumbers}
use Rattle.nvme_model.specs.declared.entry.Entry.{Entry}
use Rattle.nvme_model.specs.declared.entry.PublishLine.{PublishLine}
use Rattle.nvme_model.specs.declared.submission.Submission.{Submission}
use Rattle.nvme_model.proofs.Beginnings.{earlier}
use Rattle.host_laws.specs.Beside.{IsSole, is_beside}
use Rattle.host_laws.proofs.Elements.{In}
use Rattle.host_laws.proofs.Publishing.{claim_at, filter_append}
use Rattle.host_laws.proofs.SwapEntries.{swaps_in_queue}
use Rattle.driver_calls.specs.Events.{IsToldByLog, event_at, events}
use Rattle.driver_calls.specs.Log.{is_tidy, sent}
use Rattle.driver_calls.specs.declared.event.PortEvent.{PortEvent}
use Rattle.driver_calls.proofs.Logs.{tidy_before}
use Rattle.driver_calls.proofs.Telling.{log_tells}
use Rattle.slot_log_laws.specs.Calls.{IsClaimBatch, IsName, IsReleaseBatch}
use Rattle.slot_log_laws.specs.Counts.{claim_count, claims_on, log_claims}
use Rattle.slot_log_laws.specs.Swaps.{log_swaps}
use Rattle.slot_log_laws.proofs.Batches.{claim_batch, release_batch}
use Rattle.slot_log_laws.proofs.Knowing.{right_of}

-- ---- what one batch adds

-- a claim's batch adds one claim, of its slot
pub claim_counted : (log : List PortEvent) (q l first second : ℕ) (n : Name) (batch : List Submission) (m : ℕ)
    → IsName n → IsClaimBatch l first second n batch
    → log_claims (PortEvent.Sent q batch ∷ log) m ≡ cond (eqb l m) (suc (log_claims log m)) (log_claims log m)
claim_counted log q l first second n batch m x b =
    ap (λ (of : List Swap). claim_count m (of ++ log_swaps log))
    (claim_batch q (length (sent log q)) l first second n batch x b)
    ∙ go (claim_at q (length (sent log q)) l n) (eqb l m)
  where
    go : (s : Swap) (t : Bool)
        → length (cond t (s ∷ filter (λ w. w.claims && eqb w.lba m) (log_swaps log))
        (filter (λ w. w.claims && eqb w.lba m) (log_swaps log)))
        ≡ cond t (suc (log_claims log m)) (log_claims log m)
    go s true = refl
    go s false = refl

-- a release's batch adds none
pub release_counted : (log : List PortEvent) (q l first second : ℕ) (n : Name) (batch : List Submission) (m : ℕ)
    → IsName n → IsReleaseBatch l first second n batch
    → log_claims (PortEvent.Sent q batch ∷ log) m ≡ log_claims log m
release_counted log q l first second n batch m x b =
    ap (λ (of : List Swap). claim_count m (of ++ log_swaps log))
    (release_batch q (length (sent log q)) l first second n batch x b)

-- ---- a whole history

abbrev is_on : ConfigNumbers → ℕ → Swap → Bool
is_on c n s = eqb (completion_queue c s.queue) n

filter_all : {X : Type 0} (p : X → Bool) (xs : List X) → ((x : X) → In x xs → p x ≡ true) → filter p xs ≡ xs
filter_all p [] f = refl
filter_all p (x ∷ xs) f =
    cond-true (p x) (x ∷ filter p xs) (filter p xs) (f x (inl refl))
    ∙ ap (λ (ys : List _). x ∷ ys) (filter_all p xs (λ y i. f y (inr i)))

filter_none : {X : Type 0} (p : X → Bool) (xs : List X) → ((x : X) → In x xs → p x ≡ false) → filter p xs ≡ []
filter_none p [] f = refl
filter_none p (x ∷ xs) f =
    cond-false (p x) (x ∷ filter p xs) (filter p xs) (f x (inl refl)) ∙ filter_none p xs (λ y i. f y (inr i))

-- what others add
own_beside : (c : ConfigNumbers) (past : Past) (n : ℕ) (e : Entry) → is_beside c n e ≡ true
    → filter (is_on c n) (swaps (e ∷ past)) ≡ filter (is_on c n) (swaps past)
own_beside c past n (Entry.Publish p) h =
    let new = swaps_in p.queue (length (published_entries past p.queue)) p.batch in
    filter_append (is_on c n) new (swaps past)
    ∙ ap (λ (of : List Swap). of ++ filter (is_on c n) (swaps past))
    (filter_none (is_on c n) new (λ s i.
    ap (λ (q : ℕ). eqb (completion_queue c q) n) (swaps_in_queue past p s i) ∙ not-true _ h))
own_beside c past n (Entry.Reap r) h = refl
own_beside c past n (Entry.Fetch p) h = refl
own_beside c past n (Entry.Grant p) h = refl
own_beside c past n (Entry.Block p) h = refl
own_beside c past n (Entry.Post p) h = refl

-- what the log's port publishes
own_sent : (c : ConfigNumbers) (past : Past) (n : ℕ) (p : PublishLine) (log : List PortEvent)
    → completion_queue c p.queue ≡ n → published_entries past p.queue ≡ sent log p.queue
    → filter (is_on c n) (swaps past) ≡ log_swaps log
    → filter (is_on c n) (swaps (Entry.Publish p ∷ past)) ≡ log_swaps (PortEvent.Sent p.queue p.batch ∷ log)
own_sent c past n p log e same k =
    let new = swaps_in p.queue (length (published_entries past p.queue)) p.batch in
    filter_append (is_on c n) new (swaps past)
    ∙ ap₂ (λ (xs ys : List Swap). xs ++ ys)
    (filter_all (is_on c n) new (λ s i.
    eq-eqb (completion_queue c s.queue) n (ap (completion_queue c) (swaps_in_queue past p s i) ∙ e))
    ∙ ap (λ (xs : List Submission). swaps_in p.queue (length xs) p.batch) same) k

-- what it reaps
got_none : (b : Bool) (cqe payload : List ℕ) (log : List PortEvent)
    → log_swaps log ≡ log_swaps (cond b (PortEvent.Got cqe payload ∷ []) [] ++ log)
got_none true cqe payload log = refl
got_none false cqe payload log = refl

own_step : (c : ConfigNumbers) (past : Past) (n : ℕ) (e : Entry) (log : List PortEvent) → IsToldByLog c past n log
    → filter (is_on c n) (swaps past) ≡ log_swaps log
    → filter (is_on c n) (swaps (e ∷ past)) ≡ log_swaps (event_at c n past e ++ log)
own_step c past n (Entry.Publish p) log t k = go (eqb (completion_queue c p.queue) n) refl
  where
    go : (b : Bool) → eqb (completion_queue c p.queue) n ≡ b
        → filter (is_on c n) (swaps (Entry.Publish p ∷ past))
        ≡ log_swaps (cond b (PortEvent.Sent p.queue p.batch ∷ []) [] ++ log)
    go true z = let e = eqb-true (completion_queue c p.queue) n z in
        own_sent c past n p log e (t.entries_are p.queue e) k
    go false z = own_beside c past n (Entry.Publish p) (not_from_false (eqb (completion_queue c p.queue) n) z) ∙ k
own_step c past n (Entry.Reap r) log t k = k ∙ got_none (eqb r.queue n) r.cqe _ log
own_step c past n (Entry.Fetch p) log t k = k
own_step c past n (Entry.Grant p) log t k = k
own_step c past n (Entry.Block p) log t k = k
own_step c past n (Entry.Post p) log t k = k

-- a log has the claims and releases of its queues, in their order
pub own_swaps : (c : ConfigNumbers) (n p : ℕ) (shared : SharedPast) → IsLegal c (entries shared) → IsSole c n p shared
    → is_tidy (events c n p shared) ≡ true
    → filter (is_on c n) (swaps (entries shared)) ≡ log_swaps (events c n p shared)
own_swaps c n p [] h o d = refl
own_swaps c n p (m ∷ shared) h o d =
    let a = and_parts (is_beside c n m.1 || eqb m.0 p) (list_all (λ x. is_beside c n x.1 || eqb x.0 p) shared) o in
    let l = tidy_before (cond (eqb m.0 p) (event_at c n (entries shared) m.1) []) (events c n p shared) d in
    let legal = earlier c (m.1 ∷ []) (entries shared) h in
    go (eqb m.0 p) refl a.0 (log_tells c n p shared legal a.1 l) (own_swaps c n p shared legal a.1 l)
  where
    go : (b : Bool) → eqb m.0 p ≡ b → (is_beside c n m.1 || eqb m.0 p) ≡ true
        → IsToldByLog c (entries shared) n (events c n p shared)
        → filter (is_on c n) (swaps (entries shared)) ≡ log_swaps (events c n p shared)
        → filter (is_on c n) (swaps (m.1 ∷ entries shared))
        ≡ log_swaps (cond b (event_at c n (entries shared) m.1) [] ++ events c n p shared)
    go true z x t k = own_step c (entries shared) n m.1 (events c n p shared) t k
    go false z x t k =
        own_beside c (entries shared) n m.1 (right_of (is_beside c n m.1) (eqb m.0 p) x z) ∙ k

pub own_claims : (c : ConfigNumbers) (n p l : ℕ) (shared : SharedPast) → IsLegal c (entries shared)
    → IsSole c n p shared → is_tidy (events c n p shared) ≡ true
    → claims_on c (entries shared) n l ≡ log_claims (events c n p shared) l
own_claims c n p l shared h o d = ap (claim_count l) (own_swaps c n p shared h o d)
