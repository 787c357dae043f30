-- What a port did, as a driver's contracts see it.
use Rattle.std.specs.Prelude.{List, [], ◌∷◌}
use Rattle.driver_calls.specs.declared.event.PortEvent.{PortEvent}
use Rattle.remote_host.specs.declared.port.Done.{Done, Got', Nothing, Sent'}
use Rattle.remote_host.specs.declared.port.RemotePort.{RemotePort}

-- the events, the newest first
abbrev pub log_of : Done → List PortEvent
log_of Nothing = []
log_of (Sent' marker earlier queue batch) = PortEvent.Sent queue batch.value ∷ log_of earlier
log_of (Got' marker earlier cqe payload) = PortEvent.Got cqe payload.value ∷ log_of earlier

-- what the port published and reaped, the newest first
abbrev pub events_of : RemotePort → List PortEvent
events_of p = log_of p.done.value
