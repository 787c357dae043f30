use Rattle.slot_alloc.proofs.Untouched.{releasing_kept}
use Rattle.slot_takeover.proofs.Untouched.{held_kept, reading_kept, taking_kept}
use Rattle.slot_takeover.proofs.laws.an_untouched_driver_keeps_its_takeovers.Goals as goal

pub returns : goal.returns
returns g c =
    let d = c.args.old.now.value in
    let e = c.args.new.now in
    let on = g.met.P.Port.goes_on in
    record {
      taking = λ u k of. taking_kept g.P.Port on d e k u of;
      held = λ u h of. held_kept g.P.Port d e h u of;
      giving = λ u k of. releasing_kept g.P.Port on d e k u of;
      reading = λ u k of. reading_kept g.P.Port on d e k u of;
    }
