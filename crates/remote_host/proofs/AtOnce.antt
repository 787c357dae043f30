-- A port over two queues in memory passes no submission queue over, and puts no poll off.
use Rattle.std.proofs.Common.{Result, ap, inl, inr, length, refl, subst, suc, sym, zero, ℕ, ◌∙◌, ◌≡◌, ◌⊎◌}
use Rattle.std.specs.Prelude.{Err, None, Ok, Option, Some}
use Rattle.driver_calls.specs.declared.request.CallData.{CallData}
use Rattle.driver_calls.specs.declared.request.Request.{Request}
use Rattle.driver_cas.specs.Cids.{queues_of}
use Rattle.driver_cas.specs.Drivers.{AsksPort, later_by, later_told}
use Rattle.driver_cas.specs.Requests.{IsStart}
use Rattle.driver_cas.specs.Tries.{IsPortFault}
use Rattle.driver_cas.specs.Turns.{ArePassed, IsEndedBy}
use Rattle.driver_cas.specs.declared.call.Call.{Call}
use Rattle.driver_cas.specs.declared.call.Poll.{Poll}
use Rattle.driver_cas.specs.declared.driver.Driver.{Driver}
use Rattle.driver_cas.specs.declared.fault.Fault.{Fault}
use Rattle.driver_cas.specs.declared.fault.PortFault.{PortFault}
use Rattle.driver_cas.specs.declared.port.Reaped.{Reaped}
use Rattle.remote_host.specs.Calls.{polled_of}
use Rattle.remote_host.specs.Hosts.{PollTells, StartTells}
use Rattle.remote_host.specs.Queues.{IsReap, SameQueues, brought, to_carry}
use Rattle.remote_host.specs.RemoteStates.{RemoteState}
use Rattle.remote_host.specs.Remotes.{IsAtOnce, IsNotLater, RemoteStartTells}
use Rattle.remote_host.specs.contracts.port.RemotePortPort.TheImpl.{ghosts}
use Rattle.remote_host.specs.declared.polled.Polled.{Polled}
use Rattle.remote_host.specs.declared.port.RemotePort.{RemotePort}

-- no submission queue is passed over by a Publish
none_asked : (d : Driver RemotePort ghosts) (now : RemotePort) (r : Request) (contents : CallData) (n : ℕ)
    → ArePassed d now r contents n → now ≡ d.port
none_asked d now r contents zero h = h
none_asked d now r contents (suc n) h =
    elim h.2 [
      | inl x ↦ x.1 ∙ none_asked d h.0 r contents n h.1
      | inr x ↦ absurd (let a : PortFault.RingFull ≡ PortFault.NoMemory = x.1.5.cause in cc)
    ]

-- that the port refused a Publish changes nothing
same_over : (a b c : RemotePort) → b ≡ a → SameQueues b c → SameQueues a c
same_over a b c e h = subst (λ (p : RemotePort). SameQueues p c) e h

ended : (d e : Driver RemotePort ghosts) (r : Request) (contents : CallData) (fault : PortFault)
    → IsEndedBy d e r contents fault → (fault ≡ PortFault.NoMemory) × SameQueues d.port e.port
ended d e r contents fault h =
    let before = none_asked d h.before r contents h.turn.place h.turn.passed in
    (h.refused.5.cause, same_over d.port h.before e.port before h.refused.5.same)

-- a port that is as it was has its queues as before
same_port : (a b : RemotePort) → b ≡ a → SameQueues a b
same_port a b e = record {
  to_carry_is = ap (λ (p : RemotePort). to_carry p) e;
  brought_is = ap (λ (p : RemotePort). brought p) e;
}

refused : (d e : Driver RemotePort ghosts) (r : Request) (contents : CallData) (f : Fault)
    → IsPortFault d e r contents f → SameQueues d.port e.port × ((f ≡ Fault.RingFull) ⊎ (f ≡ Fault.NoMemory))
refused d e r contents Fault.RingFull h =
    (same_port d.port e.port (none_asked d e.port r contents (length (queues_of d.cids)) h), inl refl)
refused d e r contents Fault.Busy h =
    absurd (let a : PortFault.Busy ≡ PortFault.NoMemory = (ended d e r contents PortFault.Busy h).0 in cc)
refused d e r contents Fault.NoMemory (inl x) = (same_port d.port e.port x.1, inr refl)
refused d e r contents Fault.NoMemory (inr x) = ((ended d e r contents PortFault.NoMemory x).1, inr refl)
refused d e r contents Fault.Length h = absurd h
refused d e r contents Fault.TooLong h = absurd h
refused d e r contents (Fault.Status s) h = absurd h
refused d e r contents Fault.SlotArea h = absurd h
refused d e r contents Fault.NoSerial h = absurd h

at_once : (d e : Driver RemotePort ghosts) (q : Result Request Fault) (contents : CallData)
    (r : Result (Call RemotePort) Fault) → IsStart d e q contents r → IsAtOnce d.port e.port q r
at_once d e (Ok q) contents (Ok k) s =
    none_asked d k.start.value (record { op = q.op; slba = q.slba; blocks = q.blocks }) contents s.turn.place
    s.turn.passed
at_once d e (Ok q) contents (Err f) s = refused d e q contents f s.1
at_once d e (Err f) contents r s = same_port d.port e.port s.1

-- what a start call tells
pub told_at_once : (h i : RemoteState) (q : Result Request Fault) (contents : CallData) (t : Result ℕ Fault)
    → StartTells h i q contents t → RemoteStartTells h i q contents t
told_at_once h i q contents t (inl x) =
    inl (record { host = x; at_once = at_once h.driver i.driver q contents x.answer x.starts.is })
told_at_once h i q contents t (inr x) = inr x

reaped_at_once : (a b : RemotePort) (r : Result (Option Reaped) PortFault) → IsReap a b r → later_by r ≡ None
reaped_at_once a b (Ok o) h = refl
reaped_at_once a b (Err f) h = absurd h

-- no poll is put off
not_later : (d e : Driver RemotePort ghosts) (k : Call RemotePort) (f : Option Fault) → AsksPort d e k f → f ≡ None
not_later d e k f (inl x) = x.2
not_later d e k f (inr x) = x.1.told ∙ reaped_at_once d.port e.port x.1.answer x.1.is

not_told_later : (p : Poll RemotePort) → later_told p ≡ None → IsNotLater (Some (polled_of p))
not_told_later (Poll.Pending k) h = tt
not_told_later (Poll.Later f k) h = absurd (let a : Some f ≡ None = h in cc)
not_told_later (Poll.Done r) h = tt
not_told_later (Poll.Failed f) h = tt

-- what a poll tells
pub told_not_later : (h i : RemoteState) (n : ℕ) (t : Option Polled) → PollTells h i n t → IsNotLater t
told_not_later h i n None x = tt
told_not_later h i n (Some told) x =
    let y = x.2.2 in
    subst (λ (t : Polled). IsNotLater (Some t)) (sym y.told_is)
    (not_told_later y.polled (not_later x.0.driver i.driver x.2.0 (later_told y.polled) y.is.asks))
