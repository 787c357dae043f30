-- A takeover after a poll of its call.
use Rattle.std.proofs.lemmas.Bool.{or_right}
use Rattle.std.proofs.Common.{List, Ok, Some, ap, arith, eqb, false, inl, inr, subst, suc, sym, true, ℕ, ◌&&◌, ◌∙◌}
use Rattle.std.proofs.Common.{◌∷◌, ◌<◌, ◌≡◌, ◌≢◌}
use Rattle.nvme_model.specs.Slots.{Name}
use Rattle.nvme_model.specs.declared.array.Range.{Range}
use Rattle.nvme_model.specs.Statuses.{is_success}
use Rattle.nvme_model.specs.declared.operation.Op.{Op}
use Rattle.nvme_model.specs.declared.submission.Submission.{Submission}
use Rattle.host_laws.specs.Calls.{cqe_status}
use Rattle.driver_calls.specs.Says.{call_outcome}
use Rattle.driver_calls.specs.declared.event.PortEvent.{PortEvent}
use Rattle.driver_calls.specs.declared.reply.Reply.{Reply}
use Rattle.driver_cas.specs.Drivers.{IsBack, IsCallOf, IsOneMore, SaysOfPort, answer_to, area_of, made, number_of}
use Rattle.driver_cas.specs.Drivers.{poll_answer}
use Rattle.driver_cas.specs.declared.call.Call.{Call}
use Rattle.driver_cas.specs.declared.call.Poll.{Poll}
use Rattle.driver_cas.specs.declared.driver.Driver.{Driver}
use Rattle.driver_cas.specs.declared.fault.Fault.{Fault}
use Rattle.driver_cas.specs.declared.port.Port.{Ghosts}
use Rattle.slot_log_laws.proofs.Winning.{answered_success, pair_answered, swapped_second}
use Rattle.slot_log_laws.specs.Calls.{IsName, IsSentAs}
use Rattle.slot_log_laws.specs.Swaps.{log_success, names_entry}
use Rattle.slot_alloc.specs.Areas.{block_of}
use Rattle.slot_alloc.specs.Progresses.{IsQuiet}
use Rattle.slot_alloc.specs.SlotRules.{own_name}
use Rattle.slot_alloc.proofs.Polling.{pair_reply}
use Rattle.slot_alloc.proofs.Starting.{number_same, settings_of}
use Rattle.slot_takeover.specs.Polls.{IsTakeoverPolled}
use Rattle.slot_takeover.specs.Takeovers.{HoldsTaken, IsTakeoverBatch, IsTakeoverIn, IsTakingOverOf}
use Rattle.slot_takeover.specs.Takeovers.{held_serial, slot_held}
use Rattle.slot_takeover.specs.declared.held.HeldSlot.{HeldSlot}
use Rattle.slot_takeover.specs.declared.polling.TakeoverProgress.{TakeoverProgress}
use Rattle.slot_takeover.specs.declared.taking.TakingOver.{TakingOver}

-- what was sent stays so over one more event
pub sent_more : (log : List PortEvent) (e : PortEvent) (q j : ℕ) (batch : List Submission) → IsSentAs log q j batch
    → IsSentAs (e ∷ log) q j batch
sent_more log e q j batch x =
    record {
      later = e ∷ x.later;
      before = x.before;
      whole = ap (λ (xs : List PortEvent). e ∷ xs) x.whole;
      number = x.number;
    }

-- and over what a poll reaps
sent_one : (log more : List PortEvent) (q j : ℕ) (batch : List Submission) → IsOneMore log more
    → IsSentAs log q j batch → IsSentAs more q j batch
sent_one log more q j batch (inl e) x = subst (λ (xs : List PortEvent). IsSentAs xs q j batch) (sym e) x
sent_one log more q j batch (inr e) x =
    subst (λ (xs : List PortEvent). IsSentAs xs q j batch) (sym e.2)
    (sent_more log (PortEvent.Got e.0 e.1) q j batch x)

success_one : (log more : List PortEvent) (q j : ℕ) → IsOneMore log more → log_success log q j ≡ true
    → log_success more q j ≡ true
success_one log more q j (inl e) x = ap (λ (xs : List PortEvent). log_success xs q j) e ∙ x
success_one log more q j (inr e) x =
    ap (λ (xs : List PortEvent). log_success xs q j) e.2
    ∙ or_right (names_entry log e.0 q j && is_success (cqe_status e.0)) (log_success log q j) x

takeover_more : (log more : List PortEvent) (q first second j l : ℕ) (dead n : Name) → IsOneMore log more
    → IsTakeoverIn log q first second j l dead n → IsTakeoverIn more q first second j l dead n
takeover_more log more q first second j l dead n (inl e) c =
    subst (λ (xs : List PortEvent). IsTakeoverIn xs q first second j l dead n) (sym e) c
takeover_more log more q first second j l dead n (inr e) c =
    subst (λ (xs : List PortEvent). IsTakeoverIn xs q first second j l dead n) (sym e.2)
    (record {
      dead_name = c.dead_name;
      name = c.name;
      apart = c.apart;
      batch = c.batch;
      is = c.is;
      sent_as = sent_more log (PortEvent.Got e.0 e.1) q j c.batch c.sent_as;
      call = c.call;
    })

module _ {P : Type 0} (g : Ghosts P) where
  -- the takeover stands in the log after a poll
  pub takeover_there : (d e : Driver P g) (k : TakingOver P) → IsTakingOverOf d k → IsQuiet d e
      → IsTakeoverIn (made e) k.call.queue k.call.first k.call.second (number_of e k.call)
      (block_of (area_of e) k.slot) k.dead (own_name e k.serial)
  takeover_there d e k of x =
      subst (λ (z : ℕ × ℕ × Range).
      IsTakeoverIn (made e) k.call.queue k.call.first k.call.second z.0 (block_of z.2 k.slot) k.dead
      (record { host = z.1; serial = k.serial }))
      (λ i. (sym (number_same g d e k.call (settings_of g d e x.same)) i, sym x.same.host i, sym x.same.slots i))
      (takeover_more (made d) (made e) k.call.queue k.call.first k.call.second (number_of d k.call)
      (block_of (area_of d) k.slot) k.dead (own_name d k.serial) x.one of.takeover)

  inside_there : (d e : Driver P g) (k : TakingOver P) → IsTakingOverOf d k → IsQuiet d e → k.slot < (area_of e).blocks
  inside_there d e k of x = subst (λ (r : Range). k.slot < r.blocks) (sym x.same.slots) of.inside

  pub taking_polled : (d e : Driver P g) (k : TakingOver P) → IsTakingOverOf d k → IsQuiet d e → IsCallOf e k.call
      → IsTakingOverOf e k
  taking_polled d e k of x call_of =
      record {
        of = call_of;
        does = of.does;
        inside = inside_there d e k of x;
        drawn = omega (arith, of.drawn, x.same.serial);
        takeover = takeover_there d e k of x;
      }

  -- the takeover's call comes back
  pub same_taking : (k : TakingOver P) (call : Call P) → call ≡ k.call
      → (let j : TakingOver P = record { slot = k.slot; dead = k.dead; serial = k.serial; call = call } in j) ≡ k
  same_taking k call h =
      ap (λ (c : Call P). record { slot = k.slot; dead = k.dead; serial = k.serial; call = c }) h

  pub taking_differs : (d e : Driver P g) (k : TakingOver P) (reply : Reply) → IsTakingOverOf d k
      → reply ≢ Reply.Swapped → answer_to e k.call ≡ Some (Ok reply) → reply ≡ Reply.Differs
  taking_differs d e k reply of other answer =
      pair_reply (made e) k.call.queue k.call.first k.call.second reply
      (subst (λ (o : Op). call_outcome (made e) k.call.queue o k.call.first k.call.second ≡ Some (Ok reply)) of.does
      answer) other

  -- a takeover that swapped is held by the driver's log
  pub held_now : (d e : Driver P g) (k : TakingOver P) → IsTakingOverOf d k → IsQuiet d e
      → answer_to e k.call ≡ Some (Ok Reply.Swapped)
      → HoldsTaken e (record { slot = k.slot; serial = k.serial })
  held_now d e k of x answer =
      let t = takeover_there d e k of x in
      let outcome = subst (λ (o : Op).
      call_outcome (made e) k.call.queue o k.call.first k.call.second ≡ Some (Ok Reply.Swapped)) of.does answer in
      let a = pair_answered (made e) k.call.queue k.call.first k.call.second (Ok Reply.Swapped) outcome in
      record {
        inside = inside_there d e k of x;
        drawn = omega (arith, of.drawn, x.same.serial);
        queue = k.call.queue;
        first = k.call.first;
        second = k.call.second;
        number = number_of e k.call;
        dead = k.dead;
        batch = t.batch;
        name = t.name;
        dead_name = t.dead_name;
        apart = t.apart;
        is = t.is;
        sent_as = t.sent_as;
        success = answered_success (made e) k.call.queue k.call.second _ a.second.cqe a.second.payload a.second.state
            t.call.2 (swapped_second (cqe_status a.first.cqe) (cqe_status a.second.cqe) a.by);
      }

  pub taking_failed : (e : Driver P g) (k : TakingOver P) (f : Fault) → IsBack k.call (Poll.Failed f)
      → poll_answer {P = P} (Poll.Failed f) ≡ answer_to e k.call
      → SaysOfPort e k.call (poll_answer {P = P} (Poll.Failed f))
      → IsTakeoverPolled e k (TakeoverProgress.Failed f)
  taking_failed e k (Fault.Status s) back answer says = (sym answer, says)
  taking_failed e k Fault.Length back answer says = absurd back
  taking_failed e k Fault.TooLong back answer says = absurd back
  taking_failed e k Fault.RingFull back answer says = absurd back
  taking_failed e k Fault.Busy back answer says = absurd back
  taking_failed e k Fault.NoMemory back answer says = absurd back
  taking_failed e k Fault.SlotArea back answer says = absurd back
  taking_failed e k Fault.NoSerial back answer says = absurd back

  -- what is held stays so over a quiet poll
  pub held_more : (d e : Driver P g) (h : HeldSlot) → HoldsTaken d h → IsQuiet d e → HoldsTaken e h
  held_more d e h of x =
      record {
        inside = subst (λ (r : Range). slot_held h < r.blocks) (sym x.same.slots) of.inside;
        drawn = omega (arith, of.drawn, x.same.serial);
        queue = of.queue;
        first = of.first;
        second = of.second;
        number = of.number;
        dead = of.dead;
        batch = of.batch;
        name = subst (λ (n : ℕ). IsName (record { host = n; serial = held_serial h })) (sym x.same.host) of.name;
        dead_name = of.dead_name;
        apart = subst (λ (n : ℕ). eqb of.dead.host n ≡ false) (sym x.same.host) of.apart;
        is = subst (λ (z : ℕ × Range).
            IsTakeoverBatch (block_of z.1 (slot_held h)) of.first of.second of.dead
            (record { host = z.0; serial = held_serial h }) of.batch)
            (λ i. (sym x.same.host i, sym x.same.slots i)) of.is;
        sent_as = sent_one (made d) (made e) of.queue of.number of.batch x.one of.sent_as;
        success = success_one (made d) (made e) of.queue (suc of.number) x.one of.success;
      }
