-- A question who holds a slot, after a poll of its Read.
use Rattle.std.proofs.Common.{Bool, Err, List, None, Ok, Some, [], ap, arith, cond, eq-eqb, eqb, false, inl, inr}
use Rattle.std.proofs.Common.{length, refl, slice_get, subst, sym, true, ℕ, ◌&&◌, ◌<◌, ◌∙◌, ◌∷◌, ◌≡◌}
use Rattle.std.proofs.lemmas.Bool.{cond-true}
use Rattle.plain_lemmas.proofs.Options.{some_one}
use Rattle.nvme_model.specs.Statuses.{compare_failure, is_success, same_status}
use Rattle.nvme_model.specs.declared.array.Range.{Range}
use Rattle.nvme_model.specs.declared.operation.Op.{Op}
use Rattle.nvme_model.specs.declared.status.Status.{Status}
use Rattle.nvme_model.specs.declared.submission.Submission.{Submission}
use Rattle.host_laws.specs.Calls.{cqe_status}
use Rattle.host_laws.proofs.Elements.{get_after}
use Rattle.driver_calls.specs.Entries.{IsBatch, IsCommand}
use Rattle.driver_calls.specs.Log.{newest, sent, state_of}
use Rattle.driver_calls.specs.Says.{IsCallIn, call_outcome, one_outcome}
use Rattle.driver_calls.specs.declared.event.CidState.{CidState}
use Rattle.driver_calls.specs.declared.event.PortEvent.{PortEvent}
use Rattle.driver_calls.specs.declared.reply.Reply.{Reply}
use Rattle.driver_calls.specs.declared.request.CallData.{CallData}
use Rattle.driver_cas.proofs.Sending.{sent_call}
use Rattle.driver_cas.specs.Drivers.{IsBack, IsCallOf, IsOneMore, SaysOfPort, answer_to, area_of, made, number_of}
use Rattle.driver_cas.specs.Drivers.{poll_answer}
use Rattle.driver_cas.specs.Starts.{IsStarted}
use Rattle.driver_cas.specs.declared.call.Call.{Call}
use Rattle.driver_cas.specs.declared.call.Poll.{Poll}
use Rattle.driver_cas.specs.declared.driver.Driver.{Driver}
use Rattle.driver_cas.specs.declared.fault.Fault.{Fault}
use Rattle.driver_cas.specs.declared.port.Port.{Ghosts}
use Rattle.slot_alloc.proofs.Starting.{number_same, settings_of}
use Rattle.slot_alloc.specs.Areas.{block_of}
use Rattle.slot_alloc.specs.Progresses.{IsQuiet}
use Rattle.slot_takeover.specs.Holders.{IsHolderPolled, IsRead, IsReadBy, IsReadIn, IsReadingOf}
use Rattle.slot_takeover.specs.declared.holder.HolderPoll.{HolderPoll}
use Rattle.slot_takeover.specs.declared.holder.ReadingHolder.{ReadingHolder}

-- what the reply to a Read read
pub record Reads (reply : Reply) : Type 0 where
  pub bytes : List ℕ
  pub is : reply ≡ Reply.Read bytes

by_status : (s x : Bool) (status : Status) (payload : List ℕ) (reply : Reply)
    → Some (cond s (Ok (Reply.Read payload)) (cond (x && false) (Ok Reply.Differs) (Err status))) ≡ Some (Ok reply)
    → Reads reply
by_status true x status payload reply h =
    record { bytes = payload; is = let e : Some (Ok (Reply.Read payload)) ≡ Some (Ok reply) = h in cc }
by_status false true status payload reply h =
    absurd (let e : Some (Err status) ≡ Some (Ok reply) = h in cc)
by_status false false status payload reply h =
    absurd (let e : Some (Err status) ≡ Some (Ok reply) = h in cc)

by_state : (s : CidState) (reply : Reply) → one_outcome Op.Read s ≡ Some (Ok reply) → Reads reply
by_state CidState.Idle reply h = absurd (let e : None ≡ Some (Ok reply) = h in cc)
by_state CidState.Waiting reply h = absurd (let e : None ≡ Some (Ok reply) = h in cc)
by_state (CidState.Answered cqe payload) reply h =
    by_status (is_success (cqe_status cqe)) (same_status (cqe_status cqe) compare_failure) (cqe_status cqe) payload
    reply h

pub is_read : (reply : Reply) → Reads reply → IsRead reply
is_read reply x = subst IsRead (sym x.is) tt

-- what was sent stays so over what a poll reaps
read_more : (log more : List PortEvent) (q j l : ℕ) → IsOneMore log more → IsReadIn log q j l → IsReadIn more q j l
read_more log more q j l (inl e) r = subst (λ (xs : List PortEvent). IsReadIn xs q j l) (sym e) r
read_more log more q j l (inr e) r =
    subst (λ (xs : List PortEvent). IsReadIn xs q j l) (sym e.2)
    (record { entry = r.entry; cid = r.cid; there = r.there; is = r.is })

-- the entry of a Read that was published just now
read_sent : (log : List PortEvent) (q l first second : ℕ) (contents : CallData) (batch : List Submission)
    → contents ≡ CallData.One [] → IsBatch Op.Read l 1 first second contents batch
    → IsReadIn (PortEvent.Sent q batch ∷ log) q (length (sent log q)) l
read_sent log q l first second (CallData.One payload) (s ∷ []) e is =
    record {
      entry = s;
      cid = first;
      there = get_after (sent log q) (cond (eqb q q) (s ∷ []) []) 0 (length (sent log q)) s (omega arith)
          (ap (λ (xs : List Submission). slice_get xs 0) (cond-true (eqb q q) (s ∷ []) [] (eq-eqb q q refl)));
      is = subst (λ (bytes : List ℕ). IsCommand s 2 0 first l 1 bytes) (empty payload e) is;
    }
  where
    empty : (payload : List ℕ) → CallData.One payload ≡ CallData.One [] → payload ≡ []
    empty payload h = cc
read_sent log q l first second (CallData.One payload) [] e is = absurd is
read_sent log q l first second (CallData.One payload) (s ∷ t ∷ batch) e is = absurd is
read_sent log q l first second (CallData.Two a b) batch e is =
    absurd (let h : CallData.Two a b ≡ CallData.One [] = e in cc)

module _ {P : Type 0} (g : Ghosts P) where
  -- the number of a Read that was published just now
  number_read : (d e : Driver P g) (k : Call P) (l : ℕ) (contents : CallData) → IsStarted d e k Op.Read l 1 contents
      → number_of e k ≡ length (sent (made d) k.queue)
  number_read d e k l contents s =
      let there : newest (PortEvent.Sent k.queue s.batch ∷ made d) k.queue k.first
      ≡ Some (length (sent (made d) k.queue)) =
      (sent_call (made d) k.queue l 1 k.first k.second Op.Read contents s.batch s.free.unlike s.is).1 in
      let of : newest (made e) k.queue k.first ≡ Some (number_of e k) =
      (subst (λ (o : Op). IsCallIn (made e) k.queue o k.first k.second (number_of e k)) s.does s.of.published).1 in
      some_one (number_of e k) (length (sent (made d) k.queue))
      (sym of ∙ (ap (λ (log : List PortEvent). newest log k.queue k.first) s.published ∙ there))

  -- the Read of a question that was begun just now
  pub read_now : (d e : Driver P g) (k : ReadingHolder P) (l : ℕ)
      → IsStarted d e k.call Op.Read l 1 (CallData.One []) → block_of (area_of e) k.slot ≡ l → IsReadBy e k
  read_now d e k l s at =
      subst (λ (z : List PortEvent × ℕ × ℕ). IsReadIn z.0 k.call.queue z.1 z.2)
      (λ i. (sym s.published i, sym (number_read d e k.call l (CallData.One []) s) i, sym at i))
      (read_sent (made d) k.call.queue l k.call.first k.call.second (CallData.One []) s.batch refl s.is)

  pub read_there : (d e : Driver P g) (k : ReadingHolder P) → IsReadBy d k → IsQuiet d e → IsReadBy e k
  read_there d e k r x =
      subst (λ (z : ℕ × Range). IsReadIn (made e) k.call.queue z.0 (block_of z.1 k.slot))
      (λ i. (sym (number_same g d e k.call (settings_of g d e x.same)) i, sym x.same.slots i))
      (read_more (made d) (made e) k.call.queue (number_of d k.call) (block_of (area_of d) k.slot) x.one r)

  pub reads : (e : Driver P g) (k : ReadingHolder P) (reply : Reply) → k.call.op ≡ Op.Read
      → answer_to e k.call ≡ Some (Ok reply) → Reads reply
  reads e k reply does answer =
      by_state (state_of (made e) k.call.queue k.call.first) reply
      (subst (λ (o : Op). call_outcome (made e) k.call.queue o k.call.first k.call.second ≡ Some (Ok reply)) does
      answer)

  pub reading_polled : (d e : Driver P g) (k : ReadingHolder P) → IsReadingOf d k → IsQuiet d e → IsCallOf e k.call
      → IsReadingOf e k
  reading_polled d e k of x call_of =
      record {
        of = call_of;
        does = of.does;
        inside = subst (λ (r : Range). k.slot < r.blocks) (sym x.same.slots) of.inside;
        reads = read_there d e k of.reads x;
      }

  -- the question's call comes back
  pub same_reading : (k : ReadingHolder P) (call : Call P) → call ≡ k.call
      → (let j : ReadingHolder P = record { slot = k.slot; call = call } in j) ≡ k
  same_reading k call h = ap (λ (c : Call P). record { slot = k.slot; call = c }) h

  pub reading_failed : (e : Driver P g) (k : ReadingHolder P) (f : Fault) → IsBack k.call (Poll.Failed f)
      → poll_answer {P = P} (Poll.Failed f) ≡ answer_to e k.call
      → SaysOfPort e k.call (poll_answer {P = P} (Poll.Failed f))
      → IsHolderPolled e k (HolderPoll.Failed f)
  reading_failed e k (Fault.Status s) back answer says = (sym answer, says)
  reading_failed e k Fault.Length back answer says = absurd back
  reading_failed e k Fault.TooLong back answer says = absurd back
  reading_failed e k Fault.RingFull back answer says = absurd back
  reading_failed e k Fault.Busy back answer says = absurd back
  reading_failed e k Fault.NoMemory back answer says = absurd back
  reading_failed e k Fault.SlotArea back answer says = absurd back
  reading_failed e k Fault.NoSerial back answer says = absurd back
