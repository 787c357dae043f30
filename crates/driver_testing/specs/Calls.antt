-- What becomes of a host's calls.
use Rattle.std.specs.Prelude.{IfOk, Result, ℕ, ◌≡◌, ◌⊎◌}
use Rattle.nvme_model.specs.declared.operation.Op.{Op}
use Rattle.driver_calls.specs.declared.request.CallData.{CallData}
use Rattle.driver_cas.specs.Drivers.{SharesNoCid, IsCallOf, area_of, port_of}
use Rattle.driver_cas.specs.Listening.{IsOfSameEngine}
use Rattle.driver_cas.specs.Requests.{IsStart, pair_request_of, request_of}
use Rattle.driver_cas.specs.declared.call.Call.{Call}
use Rattle.driver_cas.specs.declared.driver.Driver.{Driver}
use Rattle.driver_cas.specs.declared.fault.Fault.{Fault}
use Rattle.driver_cas.specs.declared.port.Port.{Ghosts}
use Rattle.driver_cas.specs.declared.shared_port.SharedPort.{SharedPort}
use Rattle.driver_testing.specs.declared.host.TestHost.{TestHost}

module _ {P : Type 0} {g : Ghosts P} where
  -- one of the start calls for data was made, and answered so
  abbrev pub IsCallAsked : Driver P g → Driver P g → Result (Call P) Fault → Type 0
  IsCallAsked d e r =
      ((acwu : ℕ) × (slba : ℕ) × (bytes : ℕ) × (o : Op) × (contents : CallData)
      × IsStart d e (request_of acwu (area_of d) o slba bytes) contents r)
      ⊎ ((acwu : ℕ) × (slba : ℕ) × (bytes : ℕ) × (others : ℕ) × (contents : CallData)
      × IsStart d e (pair_request_of acwu (area_of d) slba bytes others) contents r)

  -- all its calls stay its calls
  abbrev pub StayCalls : Driver P g → Driver P g → Type 0
  StayCalls d e = (k : Call P) → IsCallOf d k → IsCallOf e k

  -- the call is the driver's, and apart from all that it had
  abbrev pub IsNewCall : Driver P g → Driver P g → Call P → Type 0
  IsNewCall d e k = IsCallOf e k × ((j : Call P) → IsCallOf d j → SharesNoCid k j)

-- the host is of the same engine, with the same pass of the queue
abbrev pub IsSameHost : TestHost → TestHost → Type 0
IsSameHost h i = IsOfSameEngine (port_of h.driver) (port_of i.driver) × (i.place ≡ h.place)

-- all its calls stay its calls
abbrev pub KeepsCalls : TestHost → TestHost → Type 0
KeepsCalls h i = StayCalls h.driver i.driver

-- a call that was begun is the host's, and apart from all that it had, which stay
pub record Begins (h i : TestHost) (r : Result (Call SharedPort) Fault) : Type 0 where
  pub same : IsSameHost h i
  pub keeps : KeepsCalls h i
  pub call : IfOk r (IsNewCall h.driver i.driver)

-- after a poll those that are apart from the call stay
pub record Polls (h i : TestHost) (k : Call SharedPort) : Type 0 where
  pub same : IsSameHost h i
  pub others : (j : Call SharedPort) → IsCallOf h.driver j → SharesNoCid k j → IsCallOf i.driver j
