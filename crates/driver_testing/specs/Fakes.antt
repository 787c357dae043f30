-- What a port of the tests' own did.
use Rattle.std.specs.Prelude.{List, [], ◌∷◌}
use Rattle.driver_calls.specs.declared.event.PortEvent.{PortEvent}
use Rattle.driver_testing.specs.declared.fake.Did.{Did}

abbrev pub event_of : Did → PortEvent
event_of (Did.Sent queue batch) = PortEvent.Sent queue batch
event_of (Did.Got cqe payload) = PortEvent.Got cqe payload

-- the events of what was done after this log, the newest first
abbrev pub log_onto : List PortEvent → List Did → List PortEvent
log_onto log [] = log
log_onto log (d ∷ ds) = log_onto (event_of d ∷ log) ds
