use Rattle.driver_cas.proofs.Starting.{claim_keeps, release_keeps, start_keeps}
use Rattle.driver_cas.proofs.laws.a_start_keeps_the_other_calls.Goals as goal

pub returns : goal.returns
returns g c =
    let d = c.args.old.now.value in
    let e = c.args.new.now in
    record {
      call = λ same later asked contents r s.
          start_keeps g.P.Port g.met.P.Port.goes_on d e asked contents r same later s;
      claim = λ settings later lba r s. claim_keeps g.P.Port g.met.P.Port.goes_on d e lba r settings later s;
      release = λ same later lba serial r s. release_keeps g.P.Port g.met.P.Port.goes_on d e lba serial r same later s;
    }
