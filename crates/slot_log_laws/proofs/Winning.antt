-- What the answers to claims say by the log.
use Rattle.std.proofs.Common.{Bool, Err, List, None, Ok, Option, Result, Some, [], ap, ap₂, append_assoc, cond, eq-eqb}
use Rattle.std.proofs.Common.{eqb, eqb-true, false, inl, length, refl, subst, suc, sym, true, ℕ, ◌&&◌, ◌++◌, ◌∙◌, ◌∷◌}
use Rattle.std.proofs.Common.{◌≡◌}
use Rattle.std.proofs.lemmas.Bool.{and_from, and_parts, or_left, or_right}
use Rattle.nvme_model.specs.EntryBytes.{cqe_fields}
use Rattle.nvme_model.specs.Slots.{Name, Swap, swaps_in}
use Rattle.nvme_model.specs.Statuses.{compare_failure, is_success, same_status}
use Rattle.nvme_model.specs.declared.operation.Op.{Op}
use Rattle.nvme_model.specs.declared.status.Status.{Status}
use Rattle.nvme_model.specs.declared.submission.Submission.{Submission}
use Rattle.host_laws.specs.Calls.{is_clean, cqe_status}
use Rattle.host_laws.proofs.Elements.{In, in_left, in_right}
use Rattle.host_laws.proofs.Publishing.{claim_at}
use Rattle.driver_calls.specs.Answers.{pair_answer_of}
use Rattle.driver_calls.specs.Events.{waiting_number}
use Rattle.driver_calls.specs.Log.{after_got, names_cid, newest, sent, state_of}
use Rattle.driver_calls.specs.Says.{IsCallIn, call_outcome, pair_outcome}
use Rattle.driver_calls.specs.declared.event.CidState.{CidState}
use Rattle.driver_calls.specs.declared.event.PortEvent.{PortEvent}
use Rattle.driver_calls.specs.declared.reply.Reply.{Reply}
use Rattle.driver_calls.proofs.Logs.{answered_before_sent}
use Rattle.slot_log_laws.specs.Calls.{IsClaimBatch, IsClaimIn, IsName, IsReleaseBatch, IsReleaseIn, IsSentAs}
use Rattle.slot_log_laws.specs.Swaps.{names_entry, is_number, log_believed, log_released, log_success, log_swaps}
use Rattle.slot_log_laws.proofs.Batches.{claim_batch}
use Rattle.slot_log_laws.proofs.Beliefs.{believed_from}

-- ---- the batch of a call

pub sent_now : (log : List PortEvent) (q : ℕ) (batch : List Submission)
    → IsSentAs (PortEvent.Sent q batch ∷ log) q (length (sent log q)) batch
sent_now log q batch = record { later = []; before = log; whole = refl; number = refl }

pub sent_later : (later log : List PortEvent) (q j : ℕ) (batch : List Submission) → IsSentAs log q j batch
    → IsSentAs (later ++ log) q j batch
sent_later later log q j batch s =
    record {
      later = later ++ s.later;
      before = s.before;
      whole = append_assoc later s.later (PortEvent.Sent q batch ∷ s.before)
          ∙ ap (λ (xs : List PortEvent). later ++ xs) s.whole;
      number = s.number;
    }

pub claim_in : (log : List PortEvent) (q l first second : ℕ) (n : Name) (batch : List Submission) → IsName n
    → IsClaimBatch l first second n batch
    → IsCallIn (PortEvent.Sent q batch ∷ log) q Op.Pair first second (length (sent log q))
    → IsClaimIn (PortEvent.Sent q batch ∷ log) q first second (length (sent log q)) l n
claim_in log q l first second n batch x b k =
    record { name = x; batch = batch; is = b; sent_as = sent_now log q batch; call = k }

pub release_in : (log : List PortEvent) (q l first second : ℕ) (n : Name) (batch : List Submission) → IsName n
    → IsReleaseBatch l first second n batch
    → IsCallIn (PortEvent.Sent q batch ∷ log) q Op.Pair first second (length (sent log q))
    → IsReleaseIn (PortEvent.Sent q batch ∷ log) q first second (length (sent log q)) l n
release_in log q l first second n batch x b k =
    record { name = x; batch = batch; is = b; sent_as = sent_now log q batch; call = k }

pub claim_in_later : (later log : List PortEvent) (q first second j l : ℕ) (n : Name)
    → IsClaimIn log q first second j l n → IsCallIn (later ++ log) q Op.Pair first second j
    → IsClaimIn (later ++ log) q first second j l n
claim_in_later later log q first second j l n x k =
    record { name = x.name; batch = x.batch; is = x.is; sent_as = sent_later later log q j x.batch x.sent_as; call = k }

pub release_in_later : (later log : List PortEvent) (q first second j l : ℕ) (n : Name)
    → IsReleaseIn log q first second j l n → IsCallIn (later ++ log) q Op.Pair first second j
    → IsReleaseIn (later ++ log) q first second j l n
release_in_later later log q first second j l n x k =
    record { name = x.name; batch = x.batch; is = x.is; sent_as = sent_later later log q j x.batch x.sent_as; call = k }

-- ---- its claims and releases

pub log_swaps_later : (later log : List PortEvent) (s : Swap) → In s (log_swaps log) → In s (log_swaps (later ++ log))
log_swaps_later [] log s i = i
log_swaps_later (PortEvent.Sent q batch ∷ later) log s i =
    in_right s (swaps_in q (length (sent (later ++ log) q)) batch) (log_swaps (later ++ log))
    (log_swaps_later later log s i)
log_swaps_later (PortEvent.Got cqe payload ∷ later) log s i = log_swaps_later later log s i

pub swap_sent : (log : List PortEvent) (q j : ℕ) (batch : List Submission) (s : Swap) → IsSentAs log q j batch
    → swaps_in q j batch ≡ s ∷ [] → In s (log_swaps log)
swap_sent log q j batch s x e =
    let alone : swaps_in q (length (sent x.before q)) batch ≡ s ∷ [] = ap (λ (i : ℕ). swaps_in q i batch) x.number
    ∙ e in
    let now : In s (log_swaps (PortEvent.Sent q batch ∷ x.before)) =
    in_left s (swaps_in q (length (sent x.before q)) batch) (log_swaps x.before)
    (subst (λ (xs : List Swap). In s xs) (sym alone) (inl refl)) in
    subst (λ (xs : List PortEvent). In s (log_swaps xs)) x.whole
    (log_swaps_later x.later (PortEvent.Sent q batch ∷ x.before) s now)

-- ---- its completions

-- an entry whose CID names it was answered with success
pub answered_success : (log : List PortEvent) (q cid j : ℕ) (cqe payload : List ℕ)
    → state_of log q cid ≡ CidState.Answered cqe payload → newest log q cid ≡ Some j
    → is_success (cqe_status cqe) ≡ true
    → log_success log q j ≡ true
answered_success [] q cid j cqe payload e w y = absurd (let f : CidState.Idle ≡ CidState.Answered cqe payload = e in cc)
answered_success (PortEvent.Sent p batch ∷ log) q cid j cqe payload e w y =
    let a = answered_before_sent log p batch q cid j cqe payload e w in
    answered_success log q cid j cqe payload a.state a.number y
answered_success (PortEvent.Got bytes read ∷ log) q cid j cqe payload e w y =
    go (names_cid bytes q cid) (state_of log q cid) refl refl e (λ f. answered_success log q cid j cqe payload f w y)
  where
    now : names_cid bytes q cid ≡ true → state_of log q cid ≡ CidState.Waiting → bytes ≡ cqe
        → log_success (PortEvent.Got bytes read ∷ log) q j ≡ true
    now n s z =
        let named : (cqe_fields bytes).cid ≡ cid =
        eqb-true (cqe_fields bytes).cid cid
        (and_parts (is_clean bytes && eqb (cqe_fields bytes).sqid q) (eqb (cqe_fields bytes).cid cid) n).1 in
        let waits : is_number j (waiting_number (state_of log q cid) (newest log q cid)) ≡ true =
        ap₂ (λ (t : CidState) (o : Option ℕ). is_number j (waiting_number t o)) s w ∙ eq-eqb j j refl in
        let here : (names_cid bytes q cid && is_number j (waiting_number (state_of log q cid) (newest log q cid)))
        ≡ true = and_from _ _ n waits in
        or_left _ (log_success log q j)
        (and_from (names_entry log bytes q j) (is_success (cqe_status bytes))
        (subst (λ (i : ℕ). (names_cid bytes q i && is_number j (waiting_number (state_of log q i) (newest log q i)))
        ≡ true) (sym named) here)
        (ap (λ (b : List ℕ). is_success (cqe_status b)) z ∙ y))

    go : (b : Bool) (s : CidState) → names_cid bytes q cid ≡ b → state_of log q cid ≡ s
        → after_got b bytes read s ≡ CidState.Answered cqe payload
        → (state_of log q cid ≡ CidState.Answered cqe payload → log_success log q j ≡ true)
        → log_success (PortEvent.Got bytes read ∷ log) q j ≡ true
    go true CidState.Idle n s f ih = absurd (let x : CidState.Idle ≡ CidState.Answered cqe payload = f in cc)
    go true CidState.Waiting n s f ih =
        now n s (let x : CidState.Answered bytes read ≡ CidState.Answered cqe payload = f in cc)
    go true (CidState.Answered a b) n s f ih = or_right _ (log_success log q j) (ih (s ∙ f))
    go false t n s f ih = or_right _ (log_success log q j) (ih (s ∙ f))

-- an answered CID
pub record IsAnswered (log : List PortEvent) (q cid : ℕ) : Type 0 where
  pub cqe : List ℕ
  pub payload : List ℕ
  pub state : state_of log q cid ≡ CidState.Answered cqe payload

-- both CIDs of a pair that was answered are, and by their statuses it was
pub record PairAnswered (log : List PortEvent) (q cid next : ℕ) (r : Result Reply Status) : Type 0 where
  pub first : IsAnswered log q cid
  pub second : IsAnswered log q next
  pub by : pair_answer_of (cqe_status first.cqe) (cqe_status second.cqe) ≡ r

pub pair_answered : (log : List PortEvent) (q first second : ℕ) (r : Result Reply Status)
    → call_outcome log q Op.Pair first second ≡ Some r → PairAnswered log q first second r
pair_answered log q first second r h = go (state_of log q first) (state_of log q second) refl refl h
  where
    go : (s t : CidState) → state_of log q first ≡ s → state_of log q second ≡ t → pair_outcome s t ≡ Some r
        → PairAnswered log q first second r
    go (CidState.Answered a x) (CidState.Answered b y) e f g =
        record {
          first = record { cqe = a; payload = x; state = e };
          second = record { cqe = b; payload = y; state = f };
          by = let z : Some (pair_answer_of (cqe_status a) (cqe_status b)) ≡ Some r = g in cc;
        }
    go (CidState.Answered a x) CidState.Idle e f g = absurd (let z : None ≡ Some r = g in cc)
    go (CidState.Answered a x) CidState.Waiting e f g = absurd (let z : None ≡ Some r = g in cc)
    go CidState.Idle t e f g = absurd (let z : None ≡ Some r = g in cc)
    go CidState.Waiting t e f g = absurd (let z : None ≡ Some r = g in cc)

-- a pair that swapped has both statuses success
pub swapped_second : (s r : Status) → pair_answer_of s r ≡ Ok Reply.Swapped → is_success r ≡ true
swapped_second s r h = go (is_success s) (is_success r) (same_status s compare_failure) h
  where
    go : (a b d : Bool) → cond a (cond b (Ok Reply.Swapped) (Err r)) (cond d (Ok Reply.Differs) (Err s))
        ≡ Ok Reply.Swapped → b ≡ true
    go true true d e = refl
    go true false d e = absurd (let z : Err r ≡ Ok Reply.Swapped = e in cc)
    go false b true e = absurd (let z : Ok Reply.Differs ≡ Ok Reply.Swapped = e in cc)
    go false b false e = absurd (let z : Err s ≡ Ok Reply.Swapped = e in cc)

-- ---- a claim that was won

pub won_by_log : (log : List PortEvent) (q first second j l : ℕ) (n : Name) → IsClaimIn log q first second j l n
    → call_outcome log q Op.Pair first second ≡ Some (Ok Reply.Swapped) → log_released log l n ≡ false
    → log_believed log l n ≡ true
won_by_log log q first second j l n x h u =
    let a = pair_answered log q first second (Ok Reply.Swapped) h in
    believed_from log l n
    (record {
      swap = claim_at q j l n;
      there = swap_sent log q j x.batch (claim_at q j l n) x.sent_as
          (claim_batch q j l first second n x.batch x.name x.is);
      claims = refl;
      lba = refl;
      name = refl;
      success = answered_success log q second (suc j) a.second.cqe a.second.payload a.second.state x.call.2
          (swapped_second (cqe_status a.first.cqe) (cqe_status a.second.cqe) a.by);
      unreleased = u;
    })
