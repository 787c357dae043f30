-- A call's entries in a driver's log, and its table after they were sent.
use Rattle.std.proofs.Common.{◌≡◌, ℕ, Bool, true, false, not, cond, ◌&&◌, ◌||◌, eqb, List, [], ◌∷◌, ◌++◌, length, suc}
use Rattle.std.proofs.Common.{Some, refl, sym, ap, ap₂, ◌∙◌, subst, inl, inr, eq-eqb, arith, ◌<◌, ◌≤◌, nat_lt, lt-ltb}
use Rattle.std.proofs.lemmas.Bool.{and_from, cases_Bool, cond-true, cond-false, ne_eqb}
use Rattle.plain_lemmas.proofs.Numbers.{eqb_swapped}
use Rattle.nvme_model.specs.Operations.{command_count, is_pair}
use Rattle.nvme_model.specs.declared.operation.Op.{Op}
use Rattle.nvme_model.specs.declared.submission.Submission.{Submission}
use Rattle.host_laws.specs.Book.{cid_of}
use Rattle.host_laws.proofs.Elements.{get_append}
use Rattle.driver_cas.specs.Cids.{QueueCids, held}
use Rattle.driver_cas.specs.declared.held.CidUse.{CidUse}
use Rattle.driver_calls.specs.Log.{has_cid, has_free_cid, is_idle, is_tidy, is_tidy_batch, newest, newest_number, sent}
use Rattle.driver_calls.specs.Log.{state_of}
use Rattle.driver_calls.specs.Says.{IsCallIn, IsFusedIn, IsSingleIn}
use Rattle.driver_calls.specs.Views.{since}
use Rattle.driver_calls.specs.declared.event.CidState.{CidState}
use Rattle.driver_calls.specs.declared.event.PortEvent.{PortEvent}
use Rattle.driver_calls.proofs.Logs.{unnamed_number}
use Rattle.driver_calls.specs.Entries.{IsBatch, IsCommand, first_opcode}
use Rattle.driver_calls.specs.declared.request.CallData.{CallData}
use Rattle.driver_calls.proofs.Calls.{by_call, call_fused, call_single, one_made}
use Rattle.driver_calls.proofs.Commands.{command_cid}
use Rattle.driver_cas.specs.Dropped.{drop_count}
use Rattle.driver_cas.specs.Starts.{IsSent, IsTaken}
use Rattle.driver_cas.specs.Tables.{Matches, use_fits, is_its_cid}
use Rattle.driver_cas.specs.Turns.{AreFree}
use Rattle.driver_cas.proofs.Tables.{since_more}

-- ---- which CIDs a call's entries have

or_none : (b : Bool) → (b || false) ≡ b
or_none true = refl
or_none false = refl

single_op : (o : Op) → command_count o ≡ 1 → is_pair (Some o) ≡ false
single_op Op.Read h = refl
single_op Op.Compare h = refl
single_op Op.Write h = refl
single_op Op.WriteZeroes h = refl
single_op Op.Pair h = absurd (omega (arith, h))

-- those that the call uses
pub batch_cids : (queue l n first second q i : ℕ) (o : Op) (contents : CallData) (batch : List Submission)
    → IsBatch o l n first second contents batch
    → (eqb queue q && has_cid i batch) ≡ is_its_cid o queue first second q i
batch_cids queue l n first second q i =
    by_call (λ o contents batch. (eqb queue q && has_cid i batch) ≡ is_its_cid o queue first second q i) l n first
    second
    (λ o payload s h c. ap₂ (λ (a b : Bool). a && b) (eqb_swapped queue q) (
    or_none (eqb (cid_of s) i)
    ∙ (ap (λ (k : ℕ). eqb k i) (command_cid s (first_opcode o) 0 first l n payload c)
    ∙ (eqb_swapped first i ∙ (sym (or_none (eqb i first))
    ∙ ap (λ (b : Bool). eqb i first || (b && eqb i second)) (sym (single_op o h)))))))
    (λ expected desired s t c d. ap₂ (λ (a b : Bool). a && b) (eqb_swapped queue q) (ap₂ (λ (a b : Bool). a || b)
    (ap (λ (k : ℕ). eqb k i) (command_cid s 5 1 first l n expected c) ∙ eqb_swapped first i)
    (or_none (eqb (cid_of t) i)
    ∙ (ap (λ (k : ℕ). eqb k i) (command_cid t 1 2 second l n desired d) ∙ eqb_swapped second i))))

-- ---- the log stays tidy

free_idle : (cids : QueueCids) (log : List PortEvent) (q i : ℕ) → Matches cids log → held cids q i ≡ CidUse.Free
    → is_idle (state_of log q i) ≡ true
free_idle cids log q i m e = ap (λ (h : CidUse). use_fits h (state_of log q i)) (sym e) ∙ m q i

free_cid : (log : List PortEvent) (q k : ℕ) (s : Submission) → cid_of s ≡ k → k < 64 → is_idle (state_of log q k) ≡ true
    → has_free_cid log q s ≡ true
free_cid log q k s e few idle =
    subst (λ (i : ℕ). (nat_lt i 65536 && is_idle (state_of log q i)) ≡ true) (sym e)
    (and_from (nat_lt k 65536) (is_idle (state_of log q k)) (lt-ltb k 65536 (omega (arith, few))) idle)

pub batch_tidy : (cids : QueueCids) (log : List PortEvent) (queue l n first second : ℕ) (o : Op) (contents : CallData)
    (batch : List Submission) → Matches cids log → AreFree cids o queue first second
    → IsBatch o l n first second contents batch → is_tidy_batch log queue batch ≡ true
batch_tidy cids log queue l n first second o contents batch m free is =
    by_call (λ o contents batch. AreFree cids o queue first second → is_tidy_batch log queue batch ≡ true) l n first
    second
    (λ o payload s h c f. free_cid log queue first s (command_cid s (first_opcode o) 0 first l n payload c)
    f.first_below (free_idle cids log queue first m f.first_free))
    (λ expected desired s t c d f.
    let a = command_cid s 5 1 first l n expected c in
    let b = command_cid t 1 2 second l n desired d in
    and_from (has_free_cid log queue s && has_free_cid log queue t) (not (eqb (cid_of t) (cid_of s)))
    (and_from (has_free_cid log queue s) (has_free_cid log queue t)
    (free_cid log queue first s a f.first_below (free_idle cids log queue first m f.first_free))
    (free_cid log queue second t b f.second_below (free_idle cids log queue second m f.second_free)))
    (ap not (ne_eqb (cid_of t) (cid_of s) (λ e. absurd (omega (arith, f.unlike refl, a, b, e))))))
    o contents batch is free

-- ---- the table fits

pub sent_matches : (old new : QueueCids) (log : List PortEvent) (queue l n first second : ℕ) (o : Op)
    (contents : CallData)
    (batch : List Submission) → Matches old log → IsTaken old new o queue first second
    → IsBatch o l n first second contents batch → Matches new (PortEvent.Sent queue batch ∷ log)
sent_matches old new log queue l n first second o contents batch m taken is q i =
    let its = is_its_cid o queue first second q i in
    let same = batch_cids queue l n first second q i o contents batch is in
    elim (cases_Bool its) [
      | inl h ↦ ap₂ use_fits (taken q i ∙ cond-true its CidUse.Waiting (held old q i) h)
          (cond-true (eqb queue q && has_cid i batch) CidState.Waiting (state_of log q i) (same ∙ h))
      | inr h ↦ ap₂ use_fits (taken q i ∙ cond-false its CidUse.Waiting (held old q i) h)
          (cond-false (eqb queue q && has_cid i batch) CidState.Waiting (state_of log q i) (same ∙ h)) ∙ m q i
    ]

-- ---- the call's entries stand in the log

call_in : (log : List PortEvent) (queue : ℕ) (o : Op) (first second j : ℕ) → command_count o ≡ 1
    → IsSingleIn (sent log queue) j o → newest log queue first ≡ Some j → IsCallIn log queue o first second j
call_in log queue Op.Read first second j h s e = (s, e)
call_in log queue Op.Compare first second j h s e = (s, e)
call_in log queue Op.Write first second j h s e = (s, e)
call_in log queue Op.WriteZeroes first second j h s e = (s, e)
call_in log queue Op.Pair first second j h s e = absurd (omega (arith, h))

-- the batch is added to what was sent, and numbers its CIDs
sent_there : (log : List PortEvent) (queue : ℕ) (batch : List Submission)
    → sent (PortEvent.Sent queue batch ∷ log) queue ≡ sent log queue ++ batch
sent_there log queue batch =
    ap (λ (xs : List Submission). sent log queue ++ xs) (cond-true (eqb queue queue) batch [] (eq-eqb queue queue refl))

newest_there : (log : List PortEvent) (queue i : ℕ) (batch : List Submission)
    → newest (PortEvent.Sent queue batch ∷ log) queue i
    ≡ newest_number (length (sent log queue)) batch i (newest log queue i)
newest_there log queue i batch = cond-true (eqb queue queue) _ _ (eq-eqb queue queue refl)

pub sent_call : (log : List PortEvent) (queue l n first second : ℕ) (o : Op) (contents : CallData)
    (batch : List Submission) → (is_pair (Some o) ≡ true → first < second) → IsBatch o l n first second contents batch
    → IsCallIn (PortEvent.Sent queue batch ∷ log) queue o first second (length (sent log queue))
sent_call log queue l n first second o contents batch unlike is =
    by_call (λ o contents batch. (is_pair (Some o) ≡ true → first < second)
    → IsCallIn (PortEvent.Sent queue batch ∷ log) queue o first second (length (sent log queue))) l n first second
    (λ o payload s h c u.
    let j = length (sent log queue) in
    let a = command_cid s (first_opcode o) 0 first l n payload c in
    call_in (PortEvent.Sent queue (s ∷ []) ∷ log) queue o first second j h
    (subst (λ (xs : List Submission). IsSingleIn xs j o) (sym (sent_there log queue (s ∷ [])))
    (call_single o l n first second (CallData.One payload) (sent log queue) (s ∷ [])
    (one_batch o l n first second payload s h c) h))
    (newest_there log queue first (s ∷ [])
    ∙ cond-true (eqb (cid_of s) first) (Some j) (newest log queue first) (eq-eqb (cid_of s) first a)))
    (λ expected desired s t c d u.
    let j = length (sent log queue) in
    let a = command_cid s 5 1 first l n expected c in
    let b = command_cid t 1 2 second l n desired d in (
      subst (λ (xs : List Submission). IsFusedIn xs j) (sym (sent_there log queue (s ∷ t ∷ [])))
          (call_fused l n first second (CallData.Two expected desired) (sent log queue) (s ∷ t ∷ []) (c, d)),
      newest_there log queue first (s ∷ t ∷ [])
          ∙ (cond-false (eqb (cid_of t) first) (Some (suc j))
          (cond (eqb (cid_of s) first) (Some j) (newest log queue first))
          (ne_eqb (cid_of t) first (λ e. absurd (omega (arith, u refl, b, e))))
          ∙ cond-true (eqb (cid_of s) first) (Some j) (newest log queue first) (eq-eqb (cid_of s) first a)),
      newest_there log queue second (s ∷ t ∷ [])
          ∙ cond-true (eqb (cid_of t) second) (Some (suc j))
          (cond (eqb (cid_of s) second) (Some j) (newest log queue second)) (eq-eqb (cid_of t) second b),
    ))
    o contents batch is unlike
  where
    one_batch : (o : Op) (l n first second : ℕ) (payload : List ℕ) (s : Submission) → command_count o ≡ 1
        → IsCommand s (first_opcode o) 0 first l n payload → IsBatch o l n first second (CallData.One payload) (s ∷ [])
    one_batch o l n first second payload s h c = one_made o l n first second payload s h c

-- ---- and so do those of other calls

unnamed : (log : List PortEvent) (queue q i : ℕ) (batch : List Submission) → (eqb queue q && has_cid i batch) ≡ false
    → newest (PortEvent.Sent queue batch ∷ log) q i ≡ newest log q i
unnamed log queue q i batch h = go (eqb queue q) h
  where
    go : (b : Bool) → (b && has_cid i batch) ≡ false
        → cond b (newest_number (length (sent log q)) batch i (newest log q i)) (newest log q i) ≡ newest log q i
    go true e = unnamed_number (length (sent log q)) batch i (newest log q i) e
    go false e = refl

single_more : (xs ys : List Submission) (j : ℕ) (o : Op) → IsSingleIn xs j o → IsSingleIn (xs ++ ys) j o
single_more xs ys j o s =
    record {
      entry = s.entry;
      there = get_append xs ys j s.entry s.there;
      not_first = s.not_first;
      not_second = s.not_second;
      does = s.does;
    }

fused_more : (xs ys : List Submission) (j : ℕ) → IsFusedIn xs j → IsFusedIn (xs ++ ys) j
fused_more xs ys j s =
    record {
      first = s.first;
      second = s.second;
      first_there = get_append xs ys j s.first s.first_there;
      second_there = get_append xs ys (suc j) s.second s.second_there;
      first_fuse = s.first_fuse;
      second_fuse = s.second_fuse;
    }

pub other_call : (log : List PortEvent) (queue : ℕ) (batch : List Submission) (q : ℕ) (o : Op) (first second j : ℕ)
    → (eqb queue q && has_cid first batch) ≡ false
    → (is_pair (Some o) ≡ true → (eqb queue q && has_cid second batch) ≡ false)
    → IsCallIn log q o first second j → IsCallIn (PortEvent.Sent queue batch ∷ log) q o first second j
other_call log queue batch q Op.Pair first second j a b h = (
  fused_more (sent log q) (cond (eqb queue q) batch []) j h.0,
  unnamed log queue q first batch a ∙ h.1,
  unnamed log queue q second batch (b refl) ∙ h.2,
)
other_call log queue batch q Op.Read first second j a b h =
    (single_more (sent log q) (cond (eqb queue q) batch []) j Op.Read h.0, unnamed log queue q first batch a ∙ h.1)
other_call log queue batch q Op.Compare first second j a b h =
    (single_more (sent log q) (cond (eqb queue q) batch []) j Op.Compare h.0, unnamed log queue q first batch a ∙ h.1)
other_call log queue batch q Op.Write first second j a b h =
    (single_more (sent log q) (cond (eqb queue q) batch []) j Op.Write h.0, unnamed log queue q first batch a ∙ h.1)
other_call log queue batch q Op.WriteZeroes first second j a b h = (
  single_more (sent log q) (cond (eqb queue q) batch []) j Op.WriteZeroes h.0,
  unnamed log queue q first batch a
      ∙ h.1,
)

-- ---- what a driver's type keeps, after a Publish

pub sent_keeps : (began before : List PortEvent) (old new : QueueCids) (queue l n first second : ℕ) (o : Op)
    (contents : CallData) (batch : List Submission) → queue < 65536 → AreFree old o queue first second
    → IsTaken old new o queue first second → IsBatch o l n first second contents batch → length began ≤ length before
    → is_tidy (since began before) ≡ true → Matches old (since began before)
    → (length began ≤ length (PortEvent.Sent queue batch ∷ before))
    × (is_tidy (since began (PortEvent.Sent queue batch ∷ before)) ≡ true)
    × Matches new (since began (PortEvent.Sent queue batch ∷ before))
sent_keeps began before old new queue l n first second o contents batch narrow free taken is few tidy m =
    let log = since began before in
    let more = since_more began before (PortEvent.Sent queue batch) few in (
      omega (arith, few),
      ap is_tidy more
          ∙ and_from (is_tidy log && nat_lt queue 65536) (is_tidy_batch log queue batch)
          (and_from (is_tidy log) (nat_lt queue 65536) tidy (lt-ltb queue 65536 narrow))
          (batch_tidy old log queue l n first second o contents batch m free is),
      subst (λ (xs : List PortEvent). Matches new xs) (sym more)
          (sent_matches old new log queue l n first second o contents batch m taken is),
    )

-- the same of a log that is the same
pub as_kept : (began log more : List PortEvent) (cids : QueueCids) → log ≡ more
    → (length began ≤ length more) × (is_tidy (since began more) ≡ true) × Matches cids (since began more)
    → (length began ≤ length log) × (is_tidy (since began log) ≡ true) × Matches cids (since began log)
as_kept began log more cids e =
    subst (λ (xs : List PortEvent). (length began ≤ length xs) × (is_tidy (since began xs) ≡ true)
    × Matches cids (since began xs)) (sym e)

-- a Publish drops nothing
pub send_drops : (began before after : List PortEvent) (old new : QueueCids) (queue first second : ℕ) (o : Op)
    (batch : List Submission) → length began ≤ length before
    → IsSent before after old new o queue first second batch
    → drop_count (since began after) ≡ drop_count (since began before)
send_drops began before after old new queue first second o batch few (inl s) =
    ap (λ (log : List PortEvent). drop_count (since began log)) s.0
    ∙ ap drop_count (since_more began before (PortEvent.Sent queue batch) few)
send_drops began before after old new queue first second o batch few (inr s) =
    ap (λ (log : List PortEvent). drop_count (since began log)) s.0

-- whether it was published or not
pub send_keeps : (began before after : List PortEvent) (old new : QueueCids) (queue l n first second : ℕ) (o : Op)
    (contents : CallData) (batch : List Submission) → queue < 65536 → AreFree old o queue first second
    → IsBatch o l n first second contents batch → length began ≤ length before → is_tidy (since began before) ≡ true
    → Matches old (since began before) → IsSent before after old new o queue first second batch
    → (length began ≤ length after) × (is_tidy (since began after) ≡ true) × Matches new (since began after)
send_keeps began before after old new queue l n first second o contents batch narrow free is few tidy m (inl s) =
    as_kept began after (PortEvent.Sent queue batch ∷ before) new s.0
    (sent_keeps began before old new queue l n first second o contents batch narrow free s.1 is few tidy m)
send_keeps began before after old new queue l n first second o contents batch narrow free is few tidy m (inr s) =
    as_kept began after before new s.0
    (few, tidy, subst (λ (c : QueueCids). Matches c (since began before)) (sym s.1) m)
