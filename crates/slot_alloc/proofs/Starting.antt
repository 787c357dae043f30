-- A driver after a claim was begun, or wasn't.
use Rattle.std.proofs.Common.{List, None, Option, Some, arith, ap, false, length, refl, subst, sym, true, ℕ, ◌<◌, ◌∙◌}
use Rattle.std.proofs.Common.{◌∷◌, ◌≡◌, ◌≤◌}
use Rattle.std.specs.Prelude.{Ok}
use Rattle.std.specs.declared.snapshot.Snapshot.{Snapshot}
use Rattle.plain_lemmas.proofs.Options.{some_one}
use Rattle.nvme_model.specs.Array.{has_block}
use Rattle.nvme_model.specs.declared.operation.Op.{Op}
use Rattle.driver_calls.specs.Log.{newest, sent}
use Rattle.driver_calls.specs.Says.{IsCallIn}
use Rattle.driver_calls.specs.Views.{since}
use Rattle.driver_calls.specs.declared.event.PortEvent.{PortEvent}
use Rattle.driver_calls.specs.declared.request.CallData.{CallData}
use Rattle.driver_cas.proofs.Sending.{sent_call}
use Rattle.driver_cas.specs.Drivers.{HasSettings, IsSameDriver, area_of, host_of, made, number_of, serial_of}
use Rattle.driver_cas.specs.SlotStarts.{IsClaimStart, claim_data}
use Rattle.driver_cas.specs.Starts.{IsStarted}
use Rattle.driver_cas.specs.declared.call.Call.{Call}
use Rattle.driver_cas.specs.declared.driver.Driver.{Driver}
use Rattle.driver_cas.specs.declared.port.Port.{Ghosts}
use Rattle.slot_log_laws.proofs.SlotRules.{slot_rules_claim}
use Rattle.slot_log_laws.proofs.Staying.{released_claim}
use Rattle.slot_log_laws.proofs.Winning.{claim_in}
use Rattle.slot_log_laws.specs.Calls.{IsClaimIn, IsName}
use Rattle.slot_log_laws.specs.SlotRules.{keeps_slot_rules}
use Rattle.slot_log_laws.specs.Swaps.{log_released}
use Rattle.slot_alloc.specs.SlotRules.{DriverContinues, KeepsSlotRules, LogContinues, ReleasedName, ReleasesDrawn}
use Rattle.slot_alloc.specs.SlotRules.{own_name}
use Rattle.slot_alloc.specs.Claims.{IsAsking}
use Rattle.slot_alloc.proofs.Logs.{claim_on, same_on}

module _ {P : Type 0} (g : Ghosts P) where
  pub settings_of : (d e : Driver P g) → IsSameDriver d e → HasSettings d e
  settings_of d e s = record { began = s.began; host = s.host; acwu = s.acwu; slots = s.slots; queues = s.queues }

  -- a call's number stays
  pub number_same : (d e : Driver P g) (k : Call P) → HasSettings d e → number_of e k ≡ number_of d k
  number_same d e k s = ap (λ (b : Snapshot P). length (sent (since (g.log b.value) (g.log k.start.value)) k.queue))
      s.began

  -- the number of a pair that was published just now
  pub number_now : (d e : Driver P g) (k : Call P) (l : ℕ) (contents : CallData) → IsStarted d e k Op.Pair l 1 contents
      → number_of e k ≡ length (sent (made d) k.queue)
  number_now d e k l contents s =
      let there : newest (PortEvent.Sent k.queue s.batch ∷ made d) k.queue k.first
      ≡ Some (length (sent (made d) k.queue)) =
      (sent_call (made d) k.queue l 1 k.first k.second Op.Pair contents s.batch s.free.unlike s.is).1 in
      let of : newest (made e) k.queue k.first ≡ Some (number_of e k) =
      (subst (λ (o : Op). IsCallIn (made e) k.queue o k.first k.second (number_of e k)) s.does s.of.published).1 in
      some_one (number_of e k) (length (sent (made d) k.queue))
      (sym of ∙ (ap (λ (log : List PortEvent). newest log k.queue k.first) s.published ∙ there))

  -- ---- nothing was published

  pub slot_rules_same : (d e : Driver P g) → HasSettings d e → serial_of e ≡ serial_of d → made e ≡ made d
      → KeepsSlotRules d
      → KeepsSlotRules e
  slot_rules_same d e s drawn m h =
      let p : keeps_slot_rules (area_of e) (host_of e) (serial_of e) (made e)
      ≡ keeps_slot_rules (area_of d) (host_of d) (serial_of d) (made d) =
      λ i. keeps_slot_rules (s.slots i) (s.host i) (drawn i) (m i) in
      p ∙ h

  pub goes_on_same : (d e : Driver P g) → HasSettings d e → serial_of e ≡ serial_of d → g.follows d.port e.port
      → made e ≡ made d → DriverContinues d e None
  goes_on_same d e s drawn later m =
      record {
        settings = s;
        drawn = omega (arith, drawn);
        later = later;
        log = subst (λ (log : List PortEvent). LogContinues (area_of d) (made d) log None) (sym m)
            (same_on (area_of d) (made d));
      }

  -- what goes on with nothing released goes on whatever is released
  pub goes_on_any : (d e : Driver P g) (released : Option ReleasedName) → DriverContinues d e None
      → DriverContinues d e released
  goes_on_any d e released x =
      record {
        settings = x.settings;
        drawn = x.drawn;
        later = x.later;
        log = record {
          log = x.log.log;
          more = x.log.more;
          believed = λ l n v a h. x.log.believed l n v refl h;
          unreleased = λ l n v a h. x.log.unreleased l n v refl h;
        };
      }

  -- ---- a claim was begun

  pub record Claims (d e : Driver P g) (l : ℕ) (k : Call P) (serial : ℕ) : Type 0 where
    pub settings : HasSettings d e
    pub later : g.follows d.port e.port
    pub start : IsClaimStart d e l (Ok (k, serial))
    pub named : 1 ≤ host_of d
    pub narrow : host_of d < 4294967296
    pub fits : serial < 18446744073709551616
    pub inside : has_block (area_of d) l ≡ true

  pub name_is : (d e : Driver P g) (l : ℕ) (k : Call P) (serial : ℕ) → Claims d e l k serial
      → IsName (own_name d serial)
  name_is d e l k serial c =
      record { host = c.named; host_fits = c.narrow; serial = omega (arith, c.start.0); serial_fits = c.fits }

  above : (d e : Driver P g) (l : ℕ) (k : Call P) (serial : ℕ) → Claims d e l k serial → serial_of d < serial
  above d e l k serial c = omega (arith, c.start.0)

  pub slot_rules_claimed : (d e : Driver P g) (l : ℕ) (k : Call P) (serial : ℕ) → Claims d e l k serial
      → KeepsSlotRules d
      → KeepsSlotRules e
  slot_rules_claimed d e l k serial c slot_rules =
      let s = c.start.2 in
      let p : keeps_slot_rules (area_of e) (host_of e) (serial_of e) (made e)
      ≡ keeps_slot_rules (area_of d) (host_of d) serial (PortEvent.Sent k.queue s.batch ∷ made d) =
      λ i. keeps_slot_rules (c.settings.slots i) (c.settings.host i) (c.start.1 i) (s.published i) in
      p ∙ slot_rules_claim (area_of d) (serial_of d) (made d) k.queue l k.first k.second (own_name d serial) s.batch
      (name_is d e l k serial c) s.is c.inside (above d e l k serial c) slot_rules

  pub goes_on_claimed : (d e : Driver P g) (l : ℕ) (k : Call P) (serial : ℕ) → Claims d e l k serial
      → DriverContinues d e None
  goes_on_claimed d e l k serial c =
      let s = c.start.2 in
      record {
        settings = c.settings;
        drawn = omega (arith, c.start.0, c.start.1);
        later = c.later;
        log = subst (λ (log : List PortEvent). LogContinues (area_of d) (made d) log None) (sym s.published)
            (claim_on (area_of d) (made d) k.queue l k.first k.second (own_name d serial) s.batch
            (name_is d e l k serial c) s.is);
      }

  pub asking_claimed : (d e : Driver P g) (l : ℕ) (k : Call P) (serial : ℕ) → Claims d e l k serial
      → IsAsking e l k serial
  asking_claimed d e l k serial c =
      let s = c.start.2 in
      let n = own_name d serial in
      let x = name_is d e l k serial c in
      let number = number_now d e k l (claim_data (host_of d) serial) s in
      record {
        of = s.of;
        does = s.does;
        drawn = omega (arith, c.start.1);
        claim = subst (λ (z : List PortEvent × ℕ × ℕ).
            IsClaimIn z.0 k.queue k.first k.second z.1 l (record { host = z.2; serial = serial }))
            (λ i. (sym s.published i, sym number i, sym c.settings.host i))
            (claim_in (made d) k.queue l k.first k.second n s.batch x s.is
            (sent_call (made d) k.queue l 1 k.first k.second Op.Pair (claim_data (host_of d) serial) s.batch
            s.free.unlike s.is));
      }

  -- no name under its next serial was released
  pub unreleased_claimed : (d e : Driver P g) (l : ℕ) (k : Call P) (serial : ℕ) → Claims d e l k serial
      → ReleasesDrawn d
      → log_released (made e) l (own_name e serial) ≡ false
  unreleased_claimed d e l k serial c drawn =
      let s = c.start.2 in
      let n = own_name d serial in
      let x = name_is d e l k serial c in
      let p : log_released (made e) l (own_name e serial) ≡ log_released (PortEvent.Sent k.queue s.batch ∷ made d) l n =
      λ i. log_released (s.published i) l (record { host = c.settings.host i; serial = serial }) in
      p ∙ (released_claim (made d) k.queue l k.first k.second n s.batch l n x s.is
      ∙ drawn l serial c.inside (above d e l k serial c))
