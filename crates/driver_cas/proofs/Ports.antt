-- What a step of the port's pass adds to its events.
use Rattle.std.proofs.Common.{◌≡◌, ℕ, Bool, true, false, List, [], ◌∷◌, ◌++◌, ◌&&◌, ◌||◌, eqb, eq-eqb, nat_le, nat_lt}
use Rattle.std.proofs.Common.{refl, sym, ap, ap₂, ◌∙◌, length, subst, Option, Some, None, Result, Ok, Err, inl, inr}
use Rattle.std.proofs.Common.{arith, ◌<◌, ◌≤◌, ◌+◌, ◌-◌, ◌⊎◌, ◌≢◌}
use Rattle.std.proofs.lemmas.Bool.{and_parts, cond-true, leb-true}
use Rattle.std.proofs.lemmas.Bool.Decides.{nat_tests}
use Rattle.nvme_model.specs.Queues.{fetched_count, published_entries}
use Rattle.nvme_model.specs.Tables.{first_row}
use Rattle.std.specs.Prelude.{unwrap_or, slice_get}
use Rattle.nvme_model.specs.Completions.{posted_completions, reaped_count, reaped_payload}
use Rattle.nvme_model.specs.Config.{completion_queue}
use Rattle.nvme_model.specs.History.{Past}
use Rattle.nvme_model.specs.Passes.{IsBeginning, SharedPast, entries, places}
use Rattle.nvme_model.specs.Refusals.{no_completion_queue, no_queue, refusal}
use Rattle.nvme_model.specs.declared.config.ConfigNumbers.{ConfigNumbers}
use Rattle.nvme_model.specs.declared.entry.Entry.{Entry}
use Rattle.nvme_model.specs.declared.entry.ReapLine.{ReapLine}
use Rattle.nvme_model.specs.declared.refusal.Why.{Why}
use Rattle.nvme_model.specs.declared.step.Step.{Step}
use Rattle.nvme_model.specs.declared.submission.Submission.{Submission}
use Rattle.nvme_model.specs.Steps.{reap_entry}
use Rattle.nvme_model.specs.declared.entry.PostLine.{PostLine}
use Rattle.meet_lock.specs.Passes.{Declines, IsCallMade, IsSame, config_of, mine, number, passes_of, seen}
use Rattle.meet_lock.specs.declared.pass.Declined.{Declined}
use Rattle.meet_lock.specs.declared.pass.Unmade.{Unmade}
use Rattle.step_core.specs.declared.calls.PublishCall.{PublishCall}
use Rattle.step_core.specs.declared.calls.ReapCall.{ReapCall}
use Rattle.work_queue.specs.Engines.{publish_declined, reap_declined}
use Rattle.driver_cas.specs.Passes.{log_at, view_at}
use Rattle.driver_cas.specs.Ports.{IsRefused}
use Rattle.driver_cas.specs.Reaps.{IsReapAnswered, IsReapFault, IsReapUnmade, cause_of}
use Rattle.driver_cas.specs.declared.fault.PortFault.{PortFault}
use Rattle.driver_cas.specs.declared.port.Reaped.{Reaped}
use Rattle.work_queue.specs.Engines.{EnginePass}
use Rattle.controller_interface.specs.State.{Accepts, Refuses, answer_of}
use Rattle.controller_interface.specs.declared.answer.Answer.{Answer}
use Rattle.controller_interface.specs.declared.answer.Refused.{Refused}
use Rattle.driver_calls.specs.Events.{event_at, events}
use Rattle.driver_calls.specs.Views.{PortView, owns}
use Rattle.driver_calls.specs.declared.event.PortEvent.{PortEvent}
use Rattle.driver_calls.proofs.Views.{accepted_before, events_accepted, events_declined}

same_events : (n : ℕ) (p q : EnginePass) → IsSame p q → log_at n q ≡ events (config_of p) n (number p) (seen q)
same_events n p q s = ap₂ (λ (c : ConfigNumbers) (k : ℕ). events c n k (seen q)) s.3 s.1

-- an accepted step adds the event of its entry
pub log_accepted : (n : ℕ) (p q : EnginePass) (e : Entry) (before : SharedPast) → IsSame p q
    → seen q ≡ (number p, e) ∷ before → mine q ≡ length (seen q) ∷ mine p → IsBeginning (seen p) (seen q)
    → log_at n q ≡ event_at (config_of p) n (entries before) e ++ log_at n p
log_accepted n p q e before s ends adds on =
    same_events n p q s
    ∙ events_accepted (config_of p) n (number p) e before (seen p) (seen q) ends
    (ap (λ (k : ℕ). places k (seen q)) (sym s.1) ∙ adds) on

-- what was seen before it begins with what had been seen
pub before_accepted : (p q : EnginePass) (e : Entry) (before : SharedPast) → IsSame p q
    → seen q ≡ (number p, e) ∷ before → mine q ≡ length (seen q) ∷ mine p → IsBeginning (seen p) (seen q)
    → IsBeginning (seen p) before
before_accepted p q e before s ends adds on =
    accepted_before (number p) e before (seen p) (seen q) ends (ap (λ (k : ℕ). places k (seen q)) (sym s.1) ∙ adds) on

-- any other adds none
pub log_declined : (n : ℕ) (p q : EnginePass) → IsSame p q → mine q ≡ mine p → IsBeginning (seen p) (seen q)
    → log_at n q ≡ log_at n p
log_declined n p q s m on =
    same_events n p q s ∙ events_declined (config_of p) n (number p) (seen p) (seen q)
    (ap (λ (k : ℕ). places k (seen q)) (sym s.1) ∙ m) on

-- the event of a Publish to a submission queue of the port
pub publish_event : (v : PortView) (past : Past) (e : Entry) (q : ℕ) (batch : List Submission)
    → e ≡ Entry.Publish (record { queue = q; batch = batch }) → owns v q ≡ true
    → event_at v.config v.queue past e ≡ PortEvent.Sent q batch ∷ []
publish_event v past e q batch is own =
    ap (event_at v.config v.queue past) is
    ∙ cond-true (eqb (completion_queue v.config q) v.queue) (PortEvent.Sent q batch ∷ []) []
    (and_parts (nat_le 1 q && nat_le q v.config.pairs) (eqb (completion_queue v.config q) v.queue) own).1

-- the entry of a Reap
record Line (q : ℕ) (e : Entry) : Type 0 where
  line : ReapLine
  is : e ≡ Entry.Reap line
  of : line.queue ≡ q

reap_line : (q : ℕ) (o : Option PostLine) → Line q (reap_entry q o)
reap_line q None = record { line = _; is = refl; of = refl }
reap_line q (Some p) = record { line = _; is = refl; of = refl }

-- what an accepted Reap of the completion queue is answered, and its event
pub record Got (c : ConfigNumbers) (n : ℕ) (past : Past) (e : Entry) (a : Answer) : Type 0 where
  pub cqe : List ℕ
  pub payload : List ℕ
  pub answers : a ≡ Answer.Reaped cqe payload
  pub event : event_at c n past e ≡ PortEvent.Got cqe payload ∷ []

pub reap_event : (c : ConfigNumbers) (n : ℕ) (past : Past) (e : Entry) (a : Answer) → Accepts c past (Step.Reap n) e a
    → Got c n past e a
reap_event c n past e a s =
    let l = reap_line n (slice_get (posted_completions c past n) (reaped_count past n)) in
    let r = l.line in
    let is = s.1 ∙ l.is in
    record {
      cqe = r.cqe;
      payload = reaped_payload (slice_get (posted_completions c past r.queue) (reaped_count past r.queue));
      answers = s.2 ∙ ap (answer_of c past) is;
      event =
          ap (event_at c n past) is
          ∙ cond-true (eqb r.queue n)
          (PortEvent.Got r.cqe (reaped_payload
          (slice_get (posted_completions c past r.queue) (reaped_count past r.queue))) ∷ []) []
          (eq-eqb r.queue n l.of);
    }

reaped_cqe : Answer → List ℕ
reaped_cqe (Answer.Reaped c p) = c
reaped_cqe _ = []

reaped_data : Answer → List ℕ
reaped_data (Answer.Reaped c p) = p
reaped_data _ = []

-- the event of the completion that was answered
pub got_of : (cqe payload c p : List ℕ) → Answer.Reaped cqe payload ≡ Answer.Reaped c p
    → PortEvent.Got cqe payload ∷ [] ≡ PortEvent.Got c p ∷ []
unfolding reaped_cqe reaped_data
got_of cqe payload c p h = ap₂ (λ (x y : List ℕ). PortEvent.Got x y ∷ []) (ap reaped_cqe h) (ap reaped_data h)

-- a step that wasn't made adds no entry of the pass
pub declined_mine : (refuses : ConfigNumbers → Past → Step → Refused → Type 0) (p q : EnginePass) (step : Step)
    (d : Declined) → Declines refuses p q step d → mine q ≡ mine p
declined_mine refuses p q step (Declined.Busy s) h = h.2
declined_mine refuses p q step (Declined.Refused r) h = h.0

-- the parts of a refused batch
refused_why : Refused → Why
refused_why (Refused.Publish why batch) = why
refused_why (Refused.Step why) = why

refused_batch : List Submission → Refused → List Submission
refused_batch other (Refused.Publish why batch) = batch
refused_batch other (Refused.Step why) = other

pub same_step : (why w : Why) → Refused.Step why ≡ Refused.Step w → why ≡ w
unfolding refused_why
same_step why w h = ap refused_why h

pub same_why : (why w : Why) (a b : List Submission) → Refused.Publish why a ≡ Refused.Publish w b → why ≡ w
unfolding refused_why
same_why why w a b h = ap refused_why h

pub same_batch : (why w : Why) (a b : List Submission) → Refused.Publish why a ≡ Refused.Publish w b → a ≡ b
unfolding refused_batch
same_batch why w a b h = ap (refused_batch a) h

-- a batch that comes back refused is the one that was asked, and why is what the table says at what was seen
pub refused_publish : (p q : EnginePass) (queue : ℕ) (batch : List Submission)
    (u : Unmade PublishCall (Why × List Submission)) (why : Why) (b : List Submission) → u ≡ Unmade.Refused (why, b)
    → Declines Refuses p q (Step.Publish queue batch) (publish_declined u)
    → (mine q ≡ mine p) × (Refused.Publish why b
    ≡ Refused.Publish (unwrap_or (refusal (config_of p) (entries (seen q)) (Step.Publish queue batch)) Why.NoMemory)
    batch)
refused_publish p q queue batch u why b is h =
    subst (λ (x : Unmade PublishCall (Why × List Submission)).
    Declines Refuses p q (Step.Publish queue batch) (publish_declined x)) is h

-- ---- why a step that the port asks for is refused

-- a batch that it may publish is refused for want of room alone
rows_publish : (c : ConfigNumbers) (past : Past) (q : ℕ) (batch : List Submission) → no_queue c q ≡ false
    → eqb (length batch) 0 ≡ false
    → (refusal c past (Step.Publish q batch) ≡ Some Why.NoRoom) ⊎ (refusal c past (Step.Publish q batch) ≡ None)
rows_publish c past q batch a b =
    go (no_queue c q) (eqb (length batch) 0)
    (nat_lt (c.sq_size - 1) (length (published_entries past q) - fetched_count past q + length batch)) a b
  where
    go : (x y z : Bool) → x ≡ false → y ≡ false
        → (first_row ((x, Why.NoQueue) ∷ (y, Why.BadBatch) ∷ (z, Why.NoRoom) ∷ []) ≡ Some Why.NoRoom)
        ⊎ (first_row ((x, Why.NoQueue) ∷ (y, Why.BadBatch) ∷ (z, Why.NoRoom) ∷ []) ≡ None)
    go true y z a b = absurd (let h : true ≡ false = a in cc)
    go false true z a b = absurd (let h : true ≡ false = b in cc)
    go false false true a b = inl refl
    go false false false a b = inr refl

-- and a Reap of a completion queue that is there for want of a completion
rows_reap : (c : ConfigNumbers) (past : Past) (q : ℕ) → no_completion_queue c q ≡ false
    → (refusal c past (Step.Reap q) ≡ Some Why.NoCompletion) ⊎ (refusal c past (Step.Reap q) ≡ None)
rows_reap c past q a =
    go (no_completion_queue c q) (eqb (length (posted_completions c past q)) (reaped_count past q)) a
  where
    go : (x y : Bool) → x ≡ false
        → (first_row ((x, Why.NoQueue) ∷ (y, Why.NoCompletion) ∷ []) ≡ Some Why.NoCompletion)
        ⊎ (first_row ((x, Why.NoQueue) ∷ (y, Why.NoCompletion) ∷ []) ≡ None)
    go true y a = absurd (let h : true ≡ false = a in cc)
    go false true a = inl refl
    go false false a = inr refl

none_before : (q last : ℕ) → 1 ≤ q → q ≤ last → (eqb q 0 || nat_lt last q) ≡ false
none_before q last few most = grind (arith, nat_tests)

not_none : (n : ℕ) → 0 < n → eqb n 0 ≡ false
not_none n some = grind (arith, nat_tests)

pub owned_publish : (v : PortView) (past : Past) (q : ℕ) (batch : List Submission) → owns v q ≡ true → 0 < length batch
    → (refusal v.config past (Step.Publish q batch) ≡ Some Why.NoRoom)
    ⊎ (refusal v.config past (Step.Publish q batch) ≡ None)
owned_publish v past q batch own some =
    let there = and_parts (nat_le 1 q) (nat_le q v.config.pairs)
    (and_parts (nat_le 1 q && nat_le q v.config.pairs) (eqb (completion_queue v.config q) v.queue) own).0 in
    rows_publish v.config past q batch
    (none_before q v.config.pairs (leb-true 1 q there.0) (leb-true q v.config.pairs there.1))
    (not_none (length batch) some)

pub owned_reap : (c : ConfigNumbers) (past : Past) (q : ℕ) → 1 ≤ q → q ≤ c.cqs
    → (refusal c past (Step.Reap q) ≡ Some Why.NoCompletion) ⊎ (refusal c past (Step.Reap q) ≡ None)
owned_reap c past q few most = rows_reap c past q (none_before q c.cqs few most)

-- and the fault that is answered tells which
pub fault_tells : (passes : ℕ) (a b : PortView) (q : ℕ) (batch : List Submission) (f : PortFault)
    → cause_of f ≡ unwrap_or (refusal b.config (entries b.seen) (Step.Publish q batch)) Why.NoMemory
    → (refusal b.config (entries b.seen) (Step.Publish q batch) ≡ Some Why.NoRoom)
    ⊎ (refusal b.config (entries b.seen) (Step.Publish q batch) ≡ None) → IsRefused passes a b q batch f
fault_tells passes a b q batch PortFault.RingFull h (inl e) = e
fault_tells passes a b q batch PortFault.RingFull h (inr e) =
    absurd (let x : Why.NoRoom ≡ Why.NoMemory = h ∙ ap (λ (o : Option Why). unwrap_or o Why.NoMemory) e in cc)
fault_tells passes a b q batch PortFault.Busy h (inl e) =
    absurd (let x : Why.Busy ≡ Why.NoRoom = h ∙ ap (λ (o : Option Why). unwrap_or o Why.NoMemory) e in cc)
fault_tells passes a b q batch PortFault.Busy h (inr e) =
    absurd (let x : Why.Busy ≡ Why.NoMemory = h ∙ ap (λ (o : Option Why). unwrap_or o Why.NoMemory) e in cc)
fault_tells passes a b q batch PortFault.NoMemory h (inl e) =
    absurd (let x : Why.NoMemory ≡ Why.NoRoom = h ∙ ap (λ (o : Option Why). unwrap_or o Why.NoMemory) e in cc)
fault_tells passes a b q batch PortFault.NoMemory h (inr e) = e

-- why a Reap of a completion queue that is there isn't made
pub unmade_reap : (p q : EnginePass) (n : ℕ) (u : Unmade ReapCall Why) → 1 ≤ n → n ≤ (config_of p).cqs
    → Declines Refuses p q (Step.Reap n) (reap_declined u) → IsReapUnmade u
unmade_reap p q n (Unmade.Busy c) few most h = tt
unmade_reap p q n (Unmade.Refused why) few most h =
    subst (λ (w : Why). IsReapUnmade (Unmade.Refused w)) (sym (same_step _ _ h.1))
    (elim (owned_reap (config_of p) (entries (seen q)) n few most) [
      | inl e ↦ subst (λ (o : Option Why). IsReapUnmade (Unmade.Refused (unwrap_or o Why.NoMemory))) (sym e) tt
      | inr e ↦ subst (λ (o : Option Why). IsReapUnmade (Unmade.Refused (unwrap_or o Why.NoMemory))) (sym e) tt
    ])

-- and what is known where the port then answers so
abbrev reap_result : Option PortFault → Result (Option Reaped) PortFault
reap_result None = Ok None
reap_result (Some f) = Err f

pub reap_told : (p q : EnginePass) (n : ℕ) (u : Unmade ReapCall Why) (o : Option PortFault) → IsSame p q
    → 1 ≤ n → n ≤ (config_of p).cqs → Declines Refuses p q (Step.Reap n) (reap_declined u)
    → (passes_of p ≡ 1 → IsCallMade {A = Unit {0}} (Err u)) → IsReapFault u o
    → IsReapAnswered (passes_of p) (view_at n p) (view_at n q) (reap_result o)
reap_told p q n (Unmade.Busy c) o same few most h alone f =
    subst (λ (x : Option PortFault). IsReapAnswered (passes_of p) (view_at n p) (view_at n q) (reap_result x)) (sym f)
    (alone, λ i. record { config = same.3 i; queue = n; pass = same.1 i; seen = h.1 i })
reap_told p q n (Unmade.Refused why) o same few most h alone f =
    go (refusal (config_of p) (entries (seen q)) (Step.Reap n)) refl
    (owned_reap (config_of p) (entries (seen q)) n few most)
  where
    same_refusal : refusal (config_of q) (entries (seen q)) (Step.Reap n)
        ≡ refusal (config_of p) (entries (seen q)) (Step.Reap n)
    same_refusal = ap (λ (c : ConfigNumbers). refusal c (entries (seen q)) (Step.Reap n)) same.3

    go : (w : Option Why) → refusal (config_of p) (entries (seen q)) (Step.Reap n) ≡ w
        → (w ≡ Some Why.NoCompletion) ⊎ (w ≡ None)
        → IsReapAnswered (passes_of p) (view_at n p) (view_at n q) (reap_result o)
    go w is (inl e) =
        let told : IsReapFault (Unmade.Refused Why.NoCompletion) o =
        subst (λ (x : Why). IsReapFault (Unmade.Refused x) o)
        (same_step _ _ h.1 ∙ ap (λ (x : Option Why). unwrap_or x Why.NoMemory) (is ∙ e)) f in
        subst (λ (x : Option PortFault). IsReapAnswered (passes_of p) (view_at n p) (view_at n q) (reap_result x))
        (sym told) (same_refusal ∙ is ∙ e)
    go w is (inr e) =
        let told : IsReapFault (Unmade.Refused Why.NoMemory) o =
        subst (λ (x : Why). IsReapFault (Unmade.Refused x) o)
        (same_step _ _ h.1 ∙ ap (λ (x : Option Why). unwrap_or x Why.NoMemory) (is ∙ e)) f in
        subst (λ (x : Option PortFault). IsReapAnswered (passes_of p) (view_at n p) (view_at n q) (reap_result x))
        (sym told) (same_refusal ∙ is ∙ e)

-- no fault of a Reap is want of room
pub reap_room : (passes : ℕ) (a b : PortView) (f : PortFault) → IsReapAnswered passes a b (Err f)
    → f ≢ PortFault.RingFull
reap_room passes a b PortFault.RingFull h = absurd h
reap_room passes a b PortFault.Busy h = λ e. absurd (let x : PortFault.Busy ≡ PortFault.RingFull = e in cc)
reap_room passes a b PortFault.NoMemory h = λ e. absurd (let x : PortFault.NoMemory ≡ PortFault.RingFull = e in cc)
