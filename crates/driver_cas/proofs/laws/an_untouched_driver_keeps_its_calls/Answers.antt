use Rattle.std.proofs.Common.{ap, inl}
use Rattle.driver_cas.specs.Cids.{QueueCids, held}
use Rattle.driver_cas.specs.Tables.{is_free}
use Rattle.driver_cas.proofs.Drivers.{reaped_calls}
use Rattle.driver_cas.proofs.laws.an_untouched_driver_keeps_its_calls.Goals as goal

pub returns : goal.returns
returns g c = λ u k of.
    reaped_calls g.P.Port g.met.P.Port.goes_on c.args.old.now.value c.args.new.now k u.same u.later (inl u.as_before.0)
    (λ q i. ap (λ (x : QueueCids). is_free (held x q i)) u.as_before.1) of
