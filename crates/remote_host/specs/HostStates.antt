-- What a host with many calls is.
use Rattle.std.specs.Prelude.{List}
use Rattle.slab.specs.Slab.{Slab}
use Rattle.driver_cas.specs.declared.call.Call.{Call}
use Rattle.driver_cas.specs.declared.driver.Driver.{Driver}
use Rattle.driver_cas.specs.declared.port.Port.{Ghosts}
use Rattle.remote_host.specs.declared.call_host.CallHost.{CallHost}

-- a driver, its calls in flight by their numbers, and those that were given up, the one first that is polled next
pub record HostState (P : Type 0) (g : Ghosts P) : Type 0 where
  pub driver : Driver P g
  pub calls : Slab (Call P)
  pub given_up : List (Call P)

module _ {P : Type 0} {g : Ghosts P} where
  -- what the host is
  abbrev pub state_of : CallHost P g → HostState P g
  state_of h = record { driver = h.driver; calls = h.calls; given_up = h.given_up.items }
