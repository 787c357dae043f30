-- What a host of a controller that is somewhere else is.
use Rattle.remote_host.specs.HostStates.{HostState}
use Rattle.remote_host.specs.contracts.port.RemotePortPort.TheImpl.{ghosts}
use Rattle.remote_host.specs.declared.port.RemotePort.{RemotePort}

-- one whose driver is over two queues in memory
abbrev pub RemoteState : Type 0
RemoteState = HostState RemotePort ghosts
