-- What the handle of a remote host owns.
use Rattle.driver_cas.specs.Drivers.{port_of}
use Rattle.remote_host.specs.contracts.port.RemotePortPort.TheImpl.{ghosts}
use Rattle.remote_host.specs.declared.port.RemotePort.{RemotePort}
use Rattle.vandrexu_c.specs.HostStates.{Driven}

-- a host whose controller is somewhere else, and what was read last
abbrev pub RemoteState : Type 0
RemoteState = Driven RemotePort ghosts

-- its port, with what is to be carried and what was brought
abbrev pub remote_port : RemoteState → RemotePort
remote_port r = port_of r.host.driver
