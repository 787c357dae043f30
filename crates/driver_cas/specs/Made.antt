-- What a Reap adds to what a port did.
use Rattle.std.specs.Prelude.{Err, List, None, Ok, Option, Result, Some, ◌∷◌}
use Rattle.driver_calls.specs.declared.event.PortEvent.{PortEvent}
use Rattle.driver_cas.specs.declared.fault.PortFault.{PortFault}
use Rattle.driver_cas.specs.declared.port.Reaped.{Reaped}

-- the events after a Reap that found this
abbrev pub after_reap : Option Reaped → List PortEvent → List PortEvent
after_reap None log = log
after_reap (Some r) log = PortEvent.Got r.cqe r.payload ∷ log

-- the events after a Reap that was answered so
abbrev pub after_answer : Result (Option Reaped) PortFault → List PortEvent → List PortEvent
after_answer (Ok o) log = after_reap o log
after_answer (Err f) log = log
