-- A release that was begun, and after a poll of its call.
use Rattle.std.proofs.Common.{List, Ok, Some, [], arith, ap, inl, inr, subst, sym, true, ℕ, ◌∙◌, ◌∷◌, ◌<◌, ◌≡◌, ◌≢◌}
use Rattle.std.specs.Prelude.{Err, Result}
use Rattle.nvme_model.specs.Array.{has_block}
use Rattle.nvme_model.specs.Slots.{Name}
use Rattle.nvme_model.specs.declared.array.Range.{Range}
use Rattle.nvme_model.specs.declared.operation.Op.{Op}
use Rattle.nvme_model.specs.declared.status.Status.{Status}
use Rattle.driver_calls.specs.Says.{call_outcome}
use Rattle.driver_calls.specs.declared.event.PortEvent.{PortEvent}
use Rattle.driver_calls.specs.declared.reply.Reply.{Reply}
use Rattle.driver_cas.proofs.Sending.{sent_call}
use Rattle.driver_cas.specs.Drivers.{IsBack, IsCallOf, IsOneMore, IsSameDriver, SaysOfPort, answer_to, area_of, host_of}
use Rattle.driver_cas.specs.Drivers.{made}
use Rattle.driver_cas.specs.Drivers.{number_of, serial_of as last_of, poll_answer}
use Rattle.driver_cas.specs.SlotStarts.{IsReleaseStart, release_data}
use Rattle.driver_cas.specs.declared.call.Call.{Call}
use Rattle.driver_cas.specs.declared.call.Poll.{Poll}
use Rattle.driver_cas.specs.declared.driver.Driver.{Driver}
use Rattle.driver_cas.specs.declared.fault.Fault.{Fault}
use Rattle.driver_cas.specs.declared.port.Port.{Ghosts}
use Rattle.slot_log_laws.proofs.SlotRules.{slot_rules_release}
use Rattle.slot_log_laws.proofs.Winning.{release_in, release_in_later}
use Rattle.slot_log_laws.specs.Calls.{IsName, IsReleaseIn}
use Rattle.slot_log_laws.specs.SlotRules.{keeps_slot_rules}
use Rattle.slot_log_laws.specs.Swaps.{log_believed}
use Rattle.slot_alloc.specs.Areas.{block_of, claim_serial, slot_of}
use Rattle.slot_alloc.specs.SlotRules.{DriverContinues, KeepsSlotRules, LogContinues, own_name}
use Rattle.slot_alloc.specs.Claims.{IsHeldBy, IsReleasingOf}
use Rattle.slot_alloc.specs.Progresses.{IsQuiet}
use Rattle.slot_alloc.specs.Releases.{IsReleasePolled}
use Rattle.slot_alloc.specs.declared.claim.Claim.{Claim}
use Rattle.slot_alloc.specs.declared.progress.Released.{Released}
use Rattle.slot_alloc.specs.declared.release.Releasing.{Releasing}
use Rattle.slot_alloc.proofs.Asking.{inside_of}
use Rattle.slot_alloc.proofs.Logs.{release_on}
use Rattle.slot_alloc.proofs.Polling.{Polls, pair_reply, quiet_polled}
use Rattle.slot_alloc.proofs.Starting.{slot_rules_same, goes_on_any, goes_on_same, number_now, number_same, settings_of}

module _ {P : Type 0} (g : Ghosts P) where
  -- what is known of a release that was begun
  pub record Releases (d e : Driver P g) (c : Claim) (k : Call P) : Type 0 where
    pub same : IsSameDriver d e
    pub later : g.follows d.port e.port
    pub start : IsReleaseStart d e (block_of (area_of d) (slot_of c)) (claim_serial c) (Ok k)
    pub held : IsHeldBy d c

  pub releases_of : (d e : Driver P g) (c : Claim) (k : Call P) (r : Range) (l : ℕ) → l ≡ block_of r (slot_of c)
      → area_of d ≡ r → IsSameDriver d e → g.follows d.port e.port → IsReleaseStart d e l (claim_serial c) (Ok k)
      → IsHeldBy d c
      → Releases d e c k
  releases_of d e c k r l at is same later start held =
      record {
        same = same;
        later = later;
        start = subst (λ (b : ℕ). IsReleaseStart d e b (claim_serial c) (Ok k))
            (at ∙ ap (λ (a : Range). block_of a (slot_of c)) (sym is)) start;
        held = held;
      }

  -- ---- whoever's name it is

  pub slot_rules_start : (d e : Driver P g) (l serial : ℕ) (r : Result (Call P) Fault) → IsSameDriver d e
      → IsReleaseStart d e l serial r → IsName (own_name d serial) → has_block (area_of d) l ≡ true
      → log_believed (made d) l (own_name d serial) ≡ true → KeepsSlotRules d → KeepsSlotRules e
  slot_rules_start d e l serial (Ok k) same s name inside believed slot_rules =
      let p : keeps_slot_rules (area_of e) (host_of e) (last_of e) (made e)
      ≡ keeps_slot_rules (area_of d) (host_of d) (last_of d) (PortEvent.Sent k.queue s.batch ∷ made d) =
      λ i. keeps_slot_rules (same.slots i) (same.host i) (same.serial i) (s.published i) in
      p ∙ slot_rules_release (area_of d) (host_of d) (last_of d) (made d) k.queue l k.first k.second (own_name d serial)
      s.batch name s.is inside believed slot_rules
  slot_rules_start d e l serial (Err f) same s name inside believed slot_rules =
      slot_rules_same g d e (settings_of g d e same) same.serial s.0.0 slot_rules

  pub goes_on_start : (d e : Driver P g) (l serial : ℕ) (r : Result (Call P) Fault) → IsSameDriver d e
      → g.follows d.port e.port → IsReleaseStart d e l serial r → IsName (own_name d serial)
      → DriverContinues d e (Some (l, own_name d serial))
  goes_on_start d e l serial (Ok k) same later s name =
      let drawn = same.serial in
      record {
        settings = settings_of g d e same;
        drawn = omega (arith, drawn);
        later = later;
        log = subst (λ (log : List PortEvent). LogContinues (area_of d) (made d) log (Some (l, own_name d serial)))
            (sym s.published)
            (release_on (area_of d) (made d) k.queue l k.first k.second (own_name d serial) s.batch name s.is);
      }
  goes_on_start d e l serial (Err f) same later s name =
      goes_on_any g d e (Some (l, own_name d serial))
      (goes_on_same g d e (settings_of g d e same) same.serial later s.0.0)

  pub releasing_begun : (d e : Driver P g) (slot serial : ℕ) (k : Call P) → IsSameDriver d e
      → IsReleaseStart d e (block_of (area_of d) slot) serial (Ok k) → slot < (area_of d).blocks
      → IsName (own_name d serial) → IsReleasingOf e (record { slot = slot; serial = serial; call = k })
  releasing_begun d e slot serial k same s inside name =
      let l = block_of (area_of d) slot in
      let contents = release_data (host_of d) serial in
      let number = number_now g d e k l contents s in
      record {
        of = s.of;
        does = s.does;
        inside = subst (λ (r : Range). slot < r.blocks) (sym same.slots) inside;
        release = subst (λ (z : List PortEvent × ℕ × ℕ × Range).
            IsReleaseIn z.0 k.queue k.first k.second z.1 (block_of z.3 slot) (record { host = z.2; serial = serial }))
            (λ i. (sym s.published i, sym number i, sym same.host i, sym same.slots i))
            (release_in (made d) k.queue l k.first k.second (own_name d serial) s.batch name s.is
            (sent_call (made d) k.queue l 1 k.first k.second Op.Pair contents s.batch s.free.unlike s.is));
      }

  -- ---- that of a claim

  pub slot_rules_released : (d e : Driver P g) (c : Claim) (k : Call P) → Releases d e c k → KeepsSlotRules d
      → KeepsSlotRules e
  slot_rules_released d e c k x slot_rules =
      slot_rules_start d e (block_of (area_of d) (slot_of c)) (claim_serial c) (Ok k) x.same x.start x.held.name
      (inside_of (area_of d) (slot_of c) x.held.inside) x.held.believed slot_rules

  pub goes_on_released : (d e : Driver P g) (c : Claim) (k : Call P) → Releases d e c k
      → DriverContinues d e (Some (block_of (area_of d) (slot_of c), own_name d (claim_serial c)))
  goes_on_released d e c k x =
      goes_on_start d e (block_of (area_of d) (slot_of c)) (claim_serial c) (Ok k) x.same x.later x.start x.held.name

  pub releasing_now : (d e : Driver P g) (c : Claim) (k : Call P) → Releases d e c k
      → IsReleasingOf e (record { slot = slot_of c; serial = claim_serial c; call = k })
  releasing_now d e c k x =
      releasing_begun d e (slot_of c) (claim_serial c) k x.same x.start x.held.inside x.held.name

  -- ---- after a poll

  release_more : (log more : List PortEvent) (q first second j l : ℕ) (n : Name) → IsOneMore log more
      → IsReleaseIn log q first second j l n → IsReleaseIn more q first second j l n
  release_more log more q first second j l n (inl e) c =
      subst (λ (xs : List PortEvent). IsReleaseIn xs q first second j l n) (sym e) c
  release_more log more q first second j l n (inr e) c =
      subst (λ (xs : List PortEvent). IsReleaseIn xs q first second j l n) (sym e.2)
      (release_in_later (PortEvent.Got e.0 e.1 ∷ []) log q first second j l n c c.call)

  -- the release stands in the log after a poll
  pub release_there : (d e : Driver P g) (k : Releasing P) → IsReleasingOf d k → IsQuiet d e
      → IsReleaseIn (made e) k.call.queue k.call.first k.call.second (number_of e k.call) (block_of (area_of e) k.slot)
      (own_name e k.serial)
  release_there d e k of x =
      subst (λ (z : ℕ × ℕ × Range).
      IsReleaseIn (made e) k.call.queue k.call.first k.call.second z.0 (block_of z.2 k.slot)
      (record { host = z.1; serial = k.serial }))
      (λ i. (sym (number_same g d e k.call (settings_of g d e x.same)) i, sym x.same.host i, sym x.same.slots i))
      (release_more (made d) (made e) k.call.queue k.call.first k.call.second (number_of d k.call)
      (block_of (area_of d) k.slot) (own_name d k.serial) x.one of.release)

  pub inside_there : (d e : Driver P g) (k : Releasing P) → IsReleasingOf d k → IsQuiet d e
      → k.slot < (area_of e).blocks
  inside_there d e k of x = subst (λ (r : Range). k.slot < r.blocks) (sym x.same.slots) of.inside

  pub releasing_polled : (d e : Driver P g) (k : Releasing P) → IsReleasingOf d k → Polls g d e → IsCallOf e k.call
      → IsReleasingOf e k
  releasing_polled d e k of x call_of =
      let quiet = quiet_polled g d e x in
      record {
        of = call_of;
        does = of.does;
        inside = inside_there d e k of quiet;
        release = release_there d e k of quiet;
      }

  -- the release's call comes back
  pub same_releasing : (k : Releasing P) (call : Call P) → call ≡ k.call
      → (let j : Releasing P = record { slot = k.slot; serial = k.serial; call = call } in j) ≡ k
  same_releasing k call h = ap (λ (c : Call P). record { slot = k.slot; serial = k.serial; call = c }) h

  pub differs_polled : (d e : Driver P g) (k : Releasing P) (reply : Reply) → IsReleasingOf d k → reply ≢ Reply.Swapped
      → answer_to e k.call ≡ Some (Ok reply) → reply ≡ Reply.Differs
  differs_polled d e k reply of other answer =
      pair_reply (made e) k.call.queue k.call.first k.call.second reply
      (subst (λ (o : Op). call_outcome (made e) k.call.queue o k.call.first k.call.second ≡ Some (Ok reply)) of.does
      answer) other

  pub failed_release : (e : Driver P g) (k : Releasing P) (f : Fault) → IsBack k.call (Poll.Failed f)
      → poll_answer {P = P} (Poll.Failed f) ≡ answer_to e k.call
      → SaysOfPort e k.call (poll_answer {P = P} (Poll.Failed f))
      → IsReleasePolled e k (Released.Failed f)
  failed_release e k (Fault.Status s) back answer says = inl (sym answer, says)
  failed_release e k Fault.Length back answer says = absurd back
  failed_release e k Fault.TooLong back answer says = absurd back
  failed_release e k Fault.RingFull back answer says = absurd back
  failed_release e k Fault.Busy back answer says = absurd back
  failed_release e k Fault.NoMemory back answer says = absurd back
  failed_release e k Fault.SlotArea back answer says = absurd back
  failed_release e k Fault.NoSerial back answer says = absurd back

  -- what is answered by success alone isn't told as failed
  pub never_failed : (e : Driver P g) (k : Releasing P) (f : Fault)
      → ((r : Result Reply Status) → answer_to e k.call ≡ Some r → r ≡ Ok Reply.Swapped)
      → IsReleasePolled e k (Released.Failed f) → ⊥
  never_failed e k (Fault.Status s) only h = elim h [
    | inl a ↦ let is : Err s ≡ Ok Reply.Swapped = only (Err s) a.0 in absurd (cc)
    | inr b ↦ let is : Ok Reply.Differs ≡ Ok Reply.Swapped = only (Ok Reply.Differs) b.1.0 in absurd (cc)
  ]
  never_failed e k Fault.Length only h = h
  never_failed e k Fault.TooLong only h = h
  never_failed e k Fault.RingFull only h = h
  never_failed e k Fault.Busy only h = h
  never_failed e k Fault.NoMemory only h = h
  never_failed e k Fault.SlotArea only h = h
  never_failed e k Fault.NoSerial only h = h
