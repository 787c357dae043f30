-- A takeover that was begun.
use Rattle.std.proofs.Common.{List, Ok, [], arith, refl, subst, sym, ℕ, ◌∷◌, ◌<◌, ◌≢◌, ◌≤◌}
use Rattle.plain_lemmas.proofs.Numbers.{unlike}
use Rattle.nvme_model.specs.Slots.{Name}
use Rattle.nvme_model.specs.declared.array.Range.{Range}
use Rattle.nvme_model.specs.declared.operation.Op.{Op}
use Rattle.driver_calls.specs.declared.event.PortEvent.{PortEvent}
use Rattle.driver_cas.proofs.Sending.{sent_call}
use Rattle.driver_cas.specs.Drivers.{HasSettings, area_of, host_of, made}
use Rattle.driver_cas.specs.TakeoverStarts.{IsTakeoverStart, takeover_data}
use Rattle.driver_cas.specs.declared.call.Call.{Call}
use Rattle.driver_cas.specs.declared.driver.Driver.{Driver}
use Rattle.driver_cas.specs.declared.port.Port.{Ghosts}
use Rattle.slot_log_laws.specs.Calls.{IsName}
use Rattle.slot_alloc.specs.Areas.{block_of}
use Rattle.slot_alloc.specs.SlotRules.{own_name}
use Rattle.slot_alloc.proofs.Starting.{number_now}
use Rattle.slot_takeover.specs.Takeovers.{IsTakeoverIn, IsTakingOverOf}

module _ {P : Type 0} (g : Ghosts P) where
  -- what is known of a takeover that was begun
  pub record Begun (d e : Driver P g) (i : ℕ) (dead : Name) (k : Call P) (serial : ℕ) : Type 0 where
    pub settings : HasSettings d e
    pub start : IsTakeoverStart d e (block_of (area_of d) i) dead.host dead.serial (Ok (k, serial))
    pub inside : i < (area_of d).blocks
    pub other : dead.host ≢ host_of d
    pub dead_name : IsName dead
    pub named : 1 ≤ host_of d
    pub narrow : host_of d < 4294967296
    pub fits : serial < 18446744073709551616

  pub taking_now : (d e : Driver P g) (i : ℕ) (dead : Name) (k : Call P) (serial : ℕ)
      → Begun d e i dead k serial
      → IsTakingOverOf e (record { slot = i; dead = dead; serial = serial; call = k })
  taking_now d e i dead k serial x =
      let s = x.start.2 in
      let l = block_of (area_of d) i in
      let contents = takeover_data dead.host dead.serial (host_of d) serial in
      let number = number_now g d e k l contents s in
      let name : IsName (own_name d serial) =
      record { host = x.named; host_fits = x.narrow; serial = omega (arith, x.start.0); serial_fits = x.fits } in
      let now : IsTakeoverIn (PortEvent.Sent k.queue s.batch ∷ made d) k.queue k.first k.second _ l
      dead (own_name d serial) =
      record {
        dead_name = x.dead_name;
        name = name;
        apart = unlike dead.host (host_of d) x.other;
        batch = s.batch;
        is = s.is;
        sent_as = record { later = []; before = made d; whole = refl; number = refl };
        call = sent_call (made d) k.queue l 1 k.first k.second Op.Pair contents s.batch s.free.unlike s.is;
      } in
      record {
        of = s.of;
        does = s.does;
        inside = subst (λ (r : Range). i < r.blocks) (sym x.settings.slots) x.inside;
        drawn = omega (arith, x.start.1);
        takeover = subst (λ (z : List PortEvent × ℕ × ℕ × Range).
            IsTakeoverIn z.0 k.queue k.first k.second z.1 (block_of z.3 i) dead
            (record { host = z.2; serial = serial }))
            (λ i. (sym s.published i, sym number i, sym x.settings.host i, sym x.settings.slots i)) now;
      }
