-- A takeover that is begun claims nothing and releases nothing.
use Rattle.std.proofs.Common.{List, None, Ok, [], ap, arith, length, refl, subst, sym}
use Rattle.std.proofs.Common.{ℕ, ◌++◌, ◌∙◌, ◌∷◌, ◌≡◌}
use Rattle.std.specs.List.{list_any}
use Rattle.nvme_model.specs.Slots.{Name, Swap, name_of, releases, swaps_in}
use Rattle.nvme_model.specs.declared.array.Range.{Range}
use Rattle.nvme_model.specs.declared.submission.Submission.{Submission}
use Rattle.host_laws.proofs.Publishing.{not_zeros}
use Rattle.driver_calls.specs.Log.{sent}
use Rattle.driver_calls.specs.declared.event.PortEvent.{PortEvent}
use Rattle.driver_cas.specs.Drivers.{HasSettings, area_of, host_of, made}
use Rattle.driver_cas.specs.TakeoverStarts.{IsTakeoverStart}
use Rattle.driver_cas.specs.declared.call.Call.{Call}
use Rattle.driver_cas.specs.declared.driver.Driver.{Driver}
use Rattle.driver_cas.specs.declared.port.Port.{Ghosts}
use Rattle.slot_log_laws.proofs.Batches.{pair_of, spelled}
use Rattle.slot_log_laws.proofs.Staying.{believed_sent}
use Rattle.slot_log_laws.specs.Calls.{IsName}
use Rattle.slot_log_laws.specs.Swaps.{log_released, log_swaps}
use Rattle.slot_alloc.specs.SlotRules.{DriverContinues, LogContinues}
use Rattle.slot_takeover.specs.Takeovers.{IsTakeoverBatch}

-- its batch has no claim and no release
no_swap : (q j l first second : ℕ) (dead n : Name) (batch : List Submission) → IsName dead → IsName n
    → IsTakeoverBatch l first second dead n batch → swaps_in q j batch ≡ []
no_swap q j l first second dead n batch x y k =
    let p = pair_of l first second _ _ batch k in
    let a = not_zeros p.first.payload dead (ap name_of p.old ∙ spelled dead x) in
    let b = not_zeros p.second.payload n (ap name_of p.new ∙ spelled n y) in
    let none : swaps_in q j (p.first ∷ p.second ∷ []) ≡ [] = rw (p.on_one, a, b) refl in
    ap (swaps_in q j) p.are ∙ none

taken_on : (slots : Range) (log : List PortEvent) (q l first second : ℕ) (dead n : Name) (batch : List Submission)
    → IsName dead → IsName n → IsTakeoverBatch l first second dead n batch
    → LogContinues slots log (PortEvent.Sent q batch ∷ log) None
taken_on slots log q l first second dead n batch x y k =
    let none = no_swap q (length (sent log q)) l first second dead n batch x y k in
    let same : (b : ℕ) (m : Name)
    → log_released (PortEvent.Sent q batch ∷ log) b m ≡ log_released log b m =
    λ b m. ap (λ (xs : List Swap). list_any (λ s. releases s b m) (xs ++ log_swaps log)) none in
    record {
      log = PortEvent.Sent q batch ∷ [];
      more = refl;
      believed = λ b m v a h. believed_sent log q batch b m (same b m) h;
      unreleased = λ b m v a h. same b m ∙ h;
    }

module _ {P : Type 0} (g : Ghosts P) where
  -- a driver goes on as it was, with its takeover begun
  pub takeover_on : (d e : Driver P g) (l : ℕ) (dead : Name) (k : Call P) (serial : ℕ) → HasSettings d e
      → g.follows d.port e.port → IsTakeoverStart d e l dead.host dead.serial (Ok (k, serial)) → IsName dead
      → IsName (record { host = host_of d; serial = serial }) → DriverContinues d e None
  takeover_on d e l dead k serial settings later s dead_name name =
      let t = s.2 in
      let drawn = s.0 in
      let now = s.1 in
      record {
        settings = settings;
        drawn = omega (arith, drawn, now);
        later = later;
        log = subst (λ (log : List PortEvent). LogContinues (area_of d) (made d) log None) (sym t.published)
            (taken_on (area_of d) (made d) k.queue l k.first k.second dead
            (record { host = host_of d; serial = serial }) t.batch dead_name name t.is);
      }
