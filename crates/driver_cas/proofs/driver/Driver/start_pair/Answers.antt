use Rattle.std.proofs.Common.{refl}
use Rattle.driver_calls.specs.declared.request.CallData.{CallData}
use Rattle.driver_cas.proofs.Passing.{none_free}
use Rattle.driver_cas.proofs.driver.Driver.start_pair.Goals as goal

pub returns-then-not-has_free-clause-is : goal.returns-then-not-has_free-clause-is
returns-then-not-has_free-clause-is g c = (
  (refl, refl),
  none_free g.P.Port c.args.self.now c.args.request
      (CallData.Two c.args.expected.now c.args.desired.now) (c.has_free.ensures.none c.if-not-has_free.true),
)
