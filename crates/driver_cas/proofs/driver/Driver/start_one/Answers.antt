use Rattle.std.proofs.Common.{Err, refl, subst}
use Rattle.std.specs.Prelude.{Result}
use Rattle.driver_calls.specs.declared.request.CallData.{CallData}
use Rattle.driver_calls.specs.declared.request.Request.{Request}
use Rattle.driver_cas.specs.Requests.{IsStart}
use Rattle.driver_cas.specs.declared.fault.Fault.{Fault}
use Rattle.driver_cas.proofs.Passing.{none_free}
use Rattle.driver_cas.proofs.driver.Driver.start_one.Goals as goal

pub returns-then-not-has_free-clause-is : goal.returns-then-not-has_free-clause-is
returns-then-not-has_free-clause-is g c =
    let d = c.args.self.now in
    let given = CallData.One c.args.contents.now in
    subst (λ (x : Result Request Fault). IsStart d d x given (Err Fault.RingFull)) c.in_ok-request.ensures.value (
      (refl, refl),
      none_free g.P.Port d c.in_ok-request.request given
          (c.has_free.ensures.none c.if-not-has_free.true),
    )
