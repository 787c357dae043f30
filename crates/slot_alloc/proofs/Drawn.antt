-- Of its own names a driver released none under a serial that it didn't draw.
use Rattle.std.proofs.Common.{Bool, List, None, Some, [], ap, arith, eqb, false, not, refl, sym, true, ℕ, ◌&&◌, ◌<◌}
use Rattle.std.proofs.Common.{◌∙◌, ◌≡◌, ◌≢◌, ◌≤◌}
use Rattle.plain_lemmas.proofs.Numbers.{unlike}
use Rattle.nvme_model.specs.Array.{has_block}
use Rattle.nvme_model.specs.declared.array.Range.{Range}
use Rattle.driver_calls.specs.declared.event.PortEvent.{PortEvent}
use Rattle.driver_cas.specs.Drivers.{area_of, host_of, made, serial_of}
use Rattle.driver_cas.specs.declared.driver.Driver.{Driver}
use Rattle.driver_cas.specs.declared.port.Port.{Ghosts}
use Rattle.slot_log_laws.proofs.Claiming.{unreleased}
use Rattle.slot_log_laws.specs.Swaps.{log_released}
use Rattle.slot_alloc.specs.SlotRules.{DriverContinues, KeepsSlotRules, ReleasesDrawn, is_another, own_name}

another : (x y z : Bool) → z ≡ false → not (x && (y && z)) ≡ true
another x y z e = ap (λ (b : Bool). not (x && (y && b))) e ∙ go x y
  where
    go : (x y : Bool) → not (x && (y && false)) ≡ true
    go true true = refl
    go true false = refl
    go false y = refl

module _ {P : Type 0} (g : Ghosts P) where
  pub drawn_fresh : (d : Driver P g) → made d ≡ [] → ReleasesDrawn d
  drawn_fresh d none = λ l serial inside above.
      ap (λ (log : List PortEvent). log_released log l (own_name d serial)) none

  pub drawn_ruled : (d : Driver P g) → KeepsSlotRules d → ReleasesDrawn d
  drawn_ruled d rules = λ l serial inside above.
      unreleased (area_of d) (host_of d) (serial_of d) (made d) l (own_name d serial) rules inside above

  -- of the driver's host at a later moment
  same_host : (d e : Driver P g) (l serial : ℕ) → host_of e ≡ host_of d
      → log_released (made e) l (own_name e serial) ≡ log_released (made e) l (own_name d serial)
  same_host d e l serial same = λ i. log_released (made e) l (record { host = same i; serial = serial })

  pub drawn_on : (d e : Driver P g) → DriverContinues d e None → ReleasesDrawn d → ReleasesDrawn e
  drawn_on d e x h = λ l serial inside above.
      let here : has_block (area_of d) l ≡ true = ap (λ (r : Range). has_block r l) (sym x.settings.slots) ∙ inside in
      same_host d e l serial x.settings.host
      ∙ x.log.unreleased l (own_name d serial) here refl (h l serial here (omega (arith, above, x.drawn)))

  -- over the release of one that it drew, too
  pub drawn_released : (d e : Driver P g) (m low : ℕ) → DriverContinues d e (Some (m, own_name d low))
      → low ≤ serial_of d → ReleasesDrawn d → ReleasesDrawn e
  drawn_released d e m low x within h = λ l serial inside above.
      let here : has_block (area_of d) l ≡ true = ap (λ (r : Range). has_block r l) (sym x.settings.slots) ∙ inside in
      let high : serial_of d < serial = omega (arith, above, x.drawn) in
      let apart : low ≢ serial = λ same. absurd (omega (arith, same, within, high)) in
      let other : is_another (Some (m, own_name d low)) l (own_name d serial) ≡ true =
      another (eqb m l) (eqb (host_of d) (host_of d)) (eqb low serial) (unlike low serial apart) in
      same_host d e l serial x.settings.host
      ∙ x.log.unreleased l (own_name d serial) here other (h l serial here high)
