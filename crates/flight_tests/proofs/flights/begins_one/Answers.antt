use Rattle.std.proofs.Common.{List, subst, sym}
use Rattle.driver_cas.specs.declared.call.Call.{Call}
use Rattle.flight_tests.specs.Flights.{AreCallsOf}
use Rattle.flight_tests.proofs.InFlight.{one_more}
use Rattle.flight_tests.proofs.flights.begins_one.Goals as goal

pub returns-clause-calls : goal.returns-clause-calls
returns-clause-calls g c =
    let d = c.args.driver.now in
    subst (λ (xs : List (Call g.row.P.Denot)). AreCallsOf c.begins.new.driver xs) (sym c.push_reserved.ensures.items)
    (one_more d c.begins.new.driver c.reserve.new.self.items c.in_ok-call.call c.begins.ensures.keeps
    c.in_ok-call.ensures.call
    (subst (λ (xs : List (Call g.row.P.Denot)). AreCallsOf d xs) (sym c.reserve.ensures.items) c.requires))
