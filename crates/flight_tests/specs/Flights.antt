-- The calls of one driver that are in flight.
use Rattle.std.specs.Prelude.{All, AllPairs, List}
use Rattle.driver_cas.specs.Drivers.{SharesNoCid, IsCallOf}
use Rattle.driver_cas.specs.declared.call.Call.{Call}
use Rattle.driver_cas.specs.declared.driver.Driver.{Driver}
use Rattle.driver_cas.specs.declared.port.Port.{Ghosts}
use Rattle.driver_cas.specs.declared.shared_port.SharedPort.{SharedPort}
use Rattle.driver_testing.specs.Hosts.{IsTestHost}
use Rattle.shared_system.specs.declared.plain.PlainSystem.{PlainSystem}
use Rattle.driver_testing.specs.declared.host.TestHost.{TestHost}

module _ {P : Type 0} {g : Ghosts P} where
  -- All are the driver's, and no two of them have a CID in common.
  pub record AreCallsOf (d : Driver P g) (ks : List (Call P)) : Type 0 where
    pub all : All (IsCallOf d) ks
    pub apart : AllPairs SharesNoCid ks

-- a host with its calls in flight
abbrev pub AreInFlight : PlainSystem → TestHost → List (Call SharedPort) → Type 0
AreInFlight b h ks = IsTestHost b h × AreCallsOf h.driver ks
