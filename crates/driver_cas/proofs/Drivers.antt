-- A driver's calls after a Reap, and after an answer to one of them.
use Rattle.std.proofs.Common.{◌≡◌, ℕ, true, false, ◌&&◌, eqb, List, ◌∷◌, Option, Some, None, is_some, refl, sym, ap}
use Rattle.std.proofs.Common.{ap₂, ◌∙◌, subst, inl, inr, eq-eqb, Result, length, ◌≤◌}
use Rattle.std.specs.Prelude.{Err, IfErr, IfNone, IfOk, IfSome, Ok, ◌≢◌}
use Rattle.std.specs.List.{Contains}
use Rattle.std.proofs.lemmas.Bool.{and_from, cases_Bool, cond-true, cond-false, or_left, or_right}
use Rattle.std.specs.declared.snapshot.Snapshot.{Snapshot}
use Rattle.nvme_model.specs.Operations.{is_pair}
use Rattle.nvme_model.specs.declared.operation.Op.{Op}
use Rattle.nvme_model.specs.declared.status.Status.{Status}
use Rattle.nvme_model.proofs.Cut.{clash}
use Rattle.driver_cas.specs.Cids.{QueueCids, held}
use Rattle.driver_cas.specs.declared.held.CidUse.{CidUse}
use Rattle.driver_calls.specs.Log.{sent}
use Rattle.driver_calls.specs.Says.{IsCallIn}
use Rattle.driver_calls.specs.Views.{since}
use Rattle.driver_calls.specs.declared.event.PortEvent.{PortEvent}
use Rattle.driver_calls.specs.declared.reply.Reply.{Reply}
use Rattle.driver_cas.specs.Drivers.{AsksPort, SharesNoCid, IsBack, IsCallOf, IsFreed, IsOneMore, IsSameDriver}
use Rattle.driver_cas.specs.Drivers.{SaysOfPort, answer_to}
use Rattle.driver_cas.specs.Drivers.{later_by, later_told, made, number_of, poll_answer}
use Rattle.driver_cas.specs.Made.{after_reap}
use Rattle.driver_cas.specs.Tables.{SameFreeCids, IsHeld, AreCidsReleased, Reaps, is_free, is_its_cid}
use Rattle.driver_cas.proofs.Tables.{since_more}
use Rattle.driver_cas.specs.declared.call.Call.{Call}
use Rattle.driver_cas.specs.declared.call.Poll.{Poll}
use Rattle.driver_cas.specs.declared.driver.Driver.{Driver}
use Rattle.driver_cas.specs.declared.fault.Fault.{Fault}
use Rattle.driver_cas.specs.declared.fault.PortFault.{PortFault}
use Rattle.driver_cas.specs.declared.port.Port.{Ghosts}
use Rattle.driver_cas.specs.declared.port.Reaped.{Reaped}

-- what a Reap adds since the driver was made
pub one_more : (began before after : List PortEvent) (old new : QueueCids) → length began ≤ length before
    → Reaps before after old new → IsOneMore (since began before) (since began after)
one_more began before after old new few (inl s) = inl (ap (λ (log : List PortEvent). since began log) s.0)
one_more began before after old new few (inr s) =
    inr (
      s.0,
      s.1,
      ap (λ (log : List PortEvent). since began log) s.2
          ∙ since_more began before (PortEvent.Got s.0 s.1) few,
    )

-- the entries of a call stand in the log also after a completion
got_call : (cqe payload : List ℕ) (log : List PortEvent) (q : ℕ) (o : Op) (first second j : ℕ)
    → IsCallIn log q o first second j → IsCallIn (PortEvent.Got cqe payload ∷ log) q o first second j
got_call cqe payload log q Op.Pair first second j h = h
got_call cqe payload log q Op.Read first second j h = h
got_call cqe payload log q Op.Compare first second j h = h
got_call cqe payload log q Op.Write first second j h = h
got_call cqe payload log q Op.WriteZeroes first second j h = h

more_call : (log more : List PortEvent) (q : ℕ) (o : Op) (first second j : ℕ) → IsOneMore log more
    → IsCallIn log q o first second j → IsCallIn more q o first second j
more_call log more q o first second j (inl e) h =
    subst (λ (xs : List PortEvent). IsCallIn xs q o first second j) (sym e) h
more_call log more q o first second j (inr e) h =
    subst (λ (xs : List PortEvent). IsCallIn xs q o first second j) (sym e.2)
    (got_call e.0 e.1 log q o first second j h)

is_none : {A : Type 0} → (o : Option A) → is_some o ≡ false → o ≡ None
is_none None h = refl
is_none (Some x) h = absurd (let e : true ≡ false = h in cc)

module _ {P : Type 0} (g : Ghosts P) where
  pub same_number : (d e : Driver P g) (k : Call P) → e.began ≡ d.began → number_of e k ≡ number_of d k
  same_number d e k b = ap (λ (s : Snapshot P). length (sent (since (g.log s.value) (g.log k.start.value)) k.queue)) b

  pub same_made : (d e : Driver P g) → e.began ≡ d.began → e.port ≡ d.port → made e ≡ made d
  same_made d e b p = ap₂ (λ (s : Snapshot P) (q : P). since (g.log s.value) (g.log q)) b p

  -- after a Reap
  pub reaped_calls : ((a b c : P) → g.follows a b → g.follows b c → g.follows a c) → (d e : Driver P g) (k : Call P)
      → IsSameDriver d e → g.follows d.port e.port → IsOneMore (made d) (made e) → SameFreeCids d.cids e.cids
      → IsCallOf d k
      → IsCallOf e k
  reaped_calls on d e k s later more goes of =
      record {
        later = on k.start.value d.port e.port of.later later;
        known = subst (λ (qs : List ℕ). Contains qs k.queue) (sym s.queues) of.known;
        published = subst (λ (j : ℕ). IsCallIn (made e) k.queue k.op k.first k.second j)
            (sym (same_number d e k s.began))
            (more_call (made d) (made e) k.queue k.op k.first k.second (number_of d k) more of.published);
        in_use = (goes k.queue k.first ∙ of.in_use.0, λ p. goes k.queue k.second ∙ of.in_use.1 p);
      }

  -- after an answer to another
  pub taken_others : (d e : Driver P g) (k other : Call P) → IsSameDriver d e → e.port ≡ d.port
      → IsHeld e.cids other.op other.queue other.first other.second → IsCallOf d other → IsCallOf e other
  taken_others d e k other s port held of =
      record {
        later = subst (λ (p : P). g.follows other.start.value p) (sym port) of.later;
        known = subst (λ (qs : List ℕ). Contains qs other.queue) (sym s.queues) of.known;
        published = subst (λ (z : ℕ × List PortEvent). IsCallIn z.1 other.queue other.op other.first other.second z.0)
            (λ i. (sym (same_number d e other s.began) i, sym (same_made d e s.began port) i)) of.published;
        in_use = held;
      }

  pub says_over : (d e : Driver P g) (k : Call P) (r : Poll P) → SaysOfPort d k (answer_to d k) → IsSameDriver d e
      → e.port ≡ d.port
      → poll_answer r ≡ answer_to d k → SaysOfPort e k (poll_answer r)
  says_over d e k r h s port t =
      subst (λ (o : Option (Result Reply Status)). SaysOfPort e k o) (sym t)
      (subst (λ (z : Snapshot P × P).
      g.says (g.log z.0.value) k.start.value z.1 k.queue
      (length (sent (since (g.log z.0.value) (g.log k.start.value)) k.queue)) k.op (answer_to d k))
      (λ i. (sym s.began i, sym port i)) h)

  pub one_over : (a d e : Driver P g) → IsOneMore (made a) (made d) → IsSameDriver d e → e.port ≡ d.port
      → IsOneMore (made a) (made e)
  one_over a d e h s port =
      subst (λ (log : List PortEvent). IsOneMore (made a) log) (sym (same_made d e s.began port)) h

  -- where the call's completions weren't all reaped the port is asked once
  pub asked_once : {A : Type 0} → (d e : Driver P g) (k : Call P) (r : Result A PortFault)
      → is_some (answer_to d k) ≡ false
      → IfOk r (λ x. (o : Option Reaped) × g.reaps d.port e.port (Ok o) × (g.log e.port ≡ after_reap o (g.log d.port)))
      → IfErr r (λ f. g.reaps d.port e.port (Err f))
      → IfErr r (λ f. (g.log e.port ≡ g.log d.port) × (f ≢ PortFault.RingFull)) → AsksPort d e k (later_by r)
  asked_once d e k (Ok x) few got declined fault =
      inr (is_none (answer_to d k) few, record { answer = Ok got.0; is = got.1; log = got.2; told = refl })
  asked_once d e k (Err f) few got declined fault =
      inr (is_none (answer_to d k) few, record { answer = Err f; is = declined; log = fault.0; told = refl })

  -- what a poll asks of the port, where another driver has the same port after it, and the same is told
  pub asks_over : (a d e : Driver P g) (k : Call P) (x y : Option Fault) → AsksPort a d k x → e.port ≡ d.port → y ≡ x
      → AsksPort a e k y
  asks_over a d e k x y (inl h) port is = inl (h.0, port ∙ h.1, is ∙ h.2)
  asks_over a d e k x y (inr h) port is =
      let r = h.1 in
      inr (
        h.0,
        record {
          answer = r.answer;
          is = subst (λ (p : P). g.reaps a.port p r.answer) (sym port) r.is;
          log = ap g.log port ∙ r.log;
          told = is ∙ r.told;
        },
      )

module _ {P : Type 0} where
  -- where an answer is told the poll isn't put off
  pub later_ended : (r : Poll P) (x : Result Reply Status) → poll_answer r ≡ Some x → later_told r ≡ None
  later_ended (Poll.Pending j) x h = refl
  later_ended (Poll.Later f j) x h = absurd (let e : None ≡ Some x = h in cc)
  later_ended (Poll.Done r) x h = refl
  later_ended (Poll.Failed f) x h = refl

  -- what is told is an answer
  pub told_back : (k : Call P) (r : Poll P) (x : Result Reply Status) → poll_answer r ≡ Some x → IsBack k r
  told_back k (Poll.Pending j) x h = absurd (let e : None ≡ Some x = h in cc)
  told_back k (Poll.Later f j) x h = absurd (let e : None ≡ Some x = h in cc)
  told_back k (Poll.Done r) x h = tt
  told_back k (Poll.Failed (Fault.Status s)) x h = tt
  told_back k (Poll.Failed _) x h = absurd (let e : None ≡ Some x = h in cc)

  pub own_first : (k : Call P) → is_its_cid k.op k.queue k.first k.second k.queue k.first ≡ true
  own_first k = and_from _ _ (eq-eqb k.queue k.queue refl)
      (or_left (eqb k.first k.first) (is_pair (Some k.op) && eqb k.first k.second) (eq-eqb k.first k.first refl))

  pub own_second : (k : Call P) → is_pair (Some k.op) ≡ true
      → is_its_cid k.op k.queue k.first k.second k.queue k.second ≡ true
  own_second k p = and_from _ _ (eq-eqb k.queue k.queue refl)
      (or_right (eqb k.second k.first) (is_pair (Some k.op) && eqb k.second k.second)
      (and_from _ _ p (eq-eqb k.second k.second refl)))

  -- the CIDs of a call apart stay in use
  pub kept_others : (old new : QueueCids) (k : Call P) (r : Option (Result Reply Status)) (other : Call P)
      → SharesNoCid k other
      → IfNone r (new ≡ old) → IfSome r (λ x. AreCidsReleased old new k.op k.queue k.first k.second)
      → IsHeld old other.op other.queue other.first other.second
      → IsHeld new other.op other.queue other.first other.second
  kept_others old new k None other apart none some h =
      subst (λ (c : QueueCids). IsHeld c other.op other.queue other.first other.second) (sym none) h
  kept_others old new k (Some x) other apart none some h =
      (kept other.first (own_first other) ∙ h.0, λ p. kept other.second (own_second other p) ∙ h.1 p)
    where
      not_its : (q i : ℕ) → is_its_cid other.op other.queue other.first other.second q i ≡ true
          → is_its_cid k.op k.queue k.first k.second q i ≡ false
      not_its q i own = elim (cases_Bool (is_its_cid k.op k.queue k.first k.second q i)) [
        | inr e ↦ e
        | inl e ↦ absurd (clash (is_its_cid other.op other.queue other.first other.second q i) own (apart q i e))
      ]

      kept : (i : ℕ) → is_its_cid other.op other.queue other.first other.second other.queue i ≡ true
          → is_free (held new other.queue i) ≡ is_free (held old other.queue i)
      kept i own = ap is_free (some other.queue i
          ∙ cond-false (is_its_cid k.op k.queue k.first k.second other.queue i) CidUse.Free (held old other.queue i)
          (not_its other.queue i own))

  -- the CIDs of an answered call are free
  pub freed_some : (old mid new : QueueCids) (k : Call P) (r : Poll P) (x : Result Reply Status) → SameFreeCids old mid
      → AreCidsReleased mid new k.op k.queue k.first k.second → poll_answer r ≡ Some x → IsFreed old new k r
  freed_some old mid new k r x goes changes t q i =
      let its = is_its_cid k.op k.queue k.first k.second q i in
      let some : (is_some (poll_answer r) && its) ≡ its =
      ap (λ (o : Option (Result Reply Status)). is_some o && its) t in
      ap is_free (changes q i)
      ∙ (elim (cases_Bool its) [
        | inl h ↦ ap is_free (cond-true its CidUse.Free (held mid q i) h)
            ∙ sym (cond-true (is_some (poll_answer r) && its) true (is_free (held old q i)) (some ∙ h))
        | inr h ↦ ap is_free (cond-false its CidUse.Free (held mid q i) h)
            ∙ (goes q i ∙ sym (cond-false (is_some (poll_answer r) && its) true (is_free (held old q i)) (some ∙ h)))
      ])
