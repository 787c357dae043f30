use Rattle.driver_cas.proofs.Starting.{untouched_on}
use Rattle.driver_cas.proofs.laws.an_untouched_driver_stays_so.Goals as goal

pub returns : goal.returns
returns g c = λ x y.
    untouched_on g.P.Port g.met.P.Port.goes_on c.args.old.now.value c.args.mid.now.value c.args.new.now x y.same y.later
    y.as_before
