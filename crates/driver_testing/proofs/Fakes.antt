-- What a port of the tests' own did, with one event more.
use Rattle.std.proofs.Common.{◌≡◌, List, [], ◌∷◌, ◌++◌, refl}
use Rattle.driver_calls.specs.declared.event.PortEvent.{PortEvent}
use Rattle.driver_testing.specs.Fakes.{event_of, log_onto}
use Rattle.driver_testing.specs.declared.fake.Did.{Did}

pub log_more : (log : List PortEvent) (ds : List Did) (d : Did)
    → log_onto log (ds ++ d ∷ []) ≡ event_of d ∷ log_onto log ds
log_more log [] d = refl
log_more log (x ∷ ds) d = log_more (event_of x ∷ log) ds d
