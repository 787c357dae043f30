-- A port at a later time, whose pass made the steps of its log alone.
use Rattle.std.proofs.Common.{None, Option, Some, ap, arith, length, ℕ, ◌+◌, ◌∷◌, ◌≡◌}
use Rattle.meet_lock.specs.Lock.{ExtendsByPasses}
use Rattle.meet_lock.specs.Passes.{IsSame, mine, passes_of, seen}
use Rattle.driver_calls.specs.Views.{log_of}
use Rattle.driver_calls.specs.declared.event.PortEvent.{PortEvent}
use Rattle.driver_cas.specs.Made.{after_reap}
use Rattle.driver_cas.specs.Ports.{PortFollows, steps_of, view_of}
use Rattle.driver_cas.specs.Reaps.{steps_with}
use Rattle.driver_cas.specs.declared.port.Reaped.{Reaped}
use Rattle.driver_cas.specs.declared.shared_port.SharedPort.{SharedPort}

-- ---- what its pass does

module _ (a b : SharedPort) (queue : b.queue ≡ a.queue) (asks : a.counted ≡ None → b.counted ≡ None)
    (same : IsSame a.pass b.pass) (on : ExtendsByPasses (passes_of a.pass) (seen a.pass) (seen b.pass)) where
  -- as many steps as there are in its log
  moved : steps_of b + length (log_of (view_of a)) ≡ steps_of a + length (log_of (view_of b)) → PortFollows a b
  moved sole =
      record {
        same_lock = same.0;
        same_passes = same.2;
        view = record { same_config = same.3; same_queue = queue; same_pass = same.1; goes_on = on.0 };
        of_passes = on;
        sole = sole;
        asks = asks;
      }

  -- a step of its log
  pub port_stepped : (e : PortEvent) → mine b.pass ≡ length (seen b.pass) ∷ mine a.pass
      → log_of (view_of b) ≡ e ∷ log_of (view_of a) → PortFollows a b
  port_stepped e steps log = moved (omega (arith, ap length steps, ap length log))

  -- what a Reap found
  pub port_reaped : (o : Option Reaped) → length (mine b.pass) ≡ steps_with o (length (mine a.pass))
      → log_of (view_of b) ≡ after_reap o (log_of (view_of a)) → PortFollows a b
  port_reaped None steps log = moved (omega (arith, steps, ap length log))
  port_reaped (Some r) steps log = moved (omega (arith, steps, ap length log))

  -- none
  pub port_idle : mine b.pass ≡ mine a.pass → log_of (view_of b) ≡ log_of (view_of a) → PortFollows a b
  port_idle steps log = moved (omega (arith, ap length steps, ap length log))

-- ---- of a driver

-- a later port of it
pub sole_later : (began old new x y z : ℕ) → old + x ≡ began + y → new + y ≡ old + z → new + x ≡ began + z
sole_later began old new x y z h k = omega arith
