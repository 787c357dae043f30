-- What contracts say of a host of a disk.
use Rattle.std.specs.Prelude.{None, Result, [], ℕ, ◌≡◌}
use Rattle.nvme_model.specs.declared.array.Range.{Range}
use Rattle.nvme_model.specs.declared.config.ConfigNumbers.{ConfigNumbers}
use Rattle.slab.specs.Slab.{get}
use Rattle.work_queue.specs.declared.engine.Engine.{Engine}
use Rattle.driver_calls.specs.declared.request.CallData.{CallData}
use Rattle.driver_calls.specs.declared.request.Request.{Request}
use Rattle.driver_cas.specs.contracts.shared_port.SharedPortPort.TheImpl.{ghosts}
use Rattle.driver_cas.specs.declared.driver.Driver.{Driver}
use Rattle.driver_cas.specs.declared.fault.Fault.{Fault}
use Rattle.driver_cas.specs.declared.shared_port.SharedPort.{SharedPort}
use Rattle.remote_host.specs.Hosts as hosts
use Rattle.c_handles.specs.Making.{IsNewDriver}
use Rattle.vandrexu_c.specs.Calls.{NumberTold}
use Rattle.vandrexu_c.specs.HostStates.{HostState}

-- a host with this driver and no call, which has read nothing
pub record IsHostOver (d : Driver SharedPort ghosts) (h : HostState) : Type 0 where
  pub host : hosts.IsHostOver d h.host
  pub nothing_read : h.payload ≡ []

-- a host with a new driver, beside these slots, with no call and none given up, which has read nothing
pub record IsNewHost (eng : Engine) (c : ConfigNumbers) (number queue : ℕ) (slots : Range) (h : HostState)
    : Type 0 where
  pub driver : IsNewDriver eng c number queue slots h.host.driver
  pub no_call : (n : ℕ) → get h.host.calls n ≡ None
  pub none_given_up : h.host.given_up ≡ []
  pub nothing_read : h.payload ≡ []

-- a call was asked of the host, and this is told
pub record HostStarts (h i : HostState) (asked : Result Request Fault) (contents : CallData) (told old new : ℕ)
    : Type 0 where
  pub answer : Result ℕ Fault
  pub starts : hosts.StartTells h.host i.host asked contents answer
  pub told_is : NumberTold answer told old new
  pub payload : i.payload ≡ h.payload
