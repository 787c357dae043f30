-- What a host that ended is.
use Rattle.driver_cas.specs.contracts.shared_port.SharedPortPort.TheImpl.{ghosts}
use Rattle.driver_cas.specs.declared.shared_port.SharedPort.{SharedPort}
use Rattle.remote_host.specs.HostStates.{HostState}

-- its driver, and the calls that were given up
abbrev pub EndedState : Type 0
EndedState = HostState SharedPort ghosts
