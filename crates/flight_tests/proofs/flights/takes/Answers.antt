use Rattle.std.proofs.Common.{◌∷◌, List, arith, subst, sym}
use Rattle.driver_cas.specs.declared.call.Call.{Call}
use Rattle.flight_tests.specs.Flights.{AreCallsOf}
use Rattle.flight_tests.proofs.InFlight.{one_taken}
use Rattle.flight_tests.proofs.flights.takes.Goals as goal

pub returns-then-place-len : goal.returns-then-place-len
returns-then-place-len g c =
    subst (λ (xs : List (Call g.row.P.Denot)). AreCallsOf c.args.driver.now (c.remove.result ∷ xs))
    (sym c.remove.ensures.items)
    (one_taken c.args.driver.now c.args.calls.now.items c.args.place c.remove.result (omega arith)
    c.remove.ensures.value c.requires)
