use Rattle.slot_alloc.proofs.Untouched.{slot_rules_kept, claiming_kept, goes_on_kept, held_kept, releasing_kept}
use Rattle.slot_alloc.proofs.Untouched.{unreleased_kept}
use Rattle.slot_alloc.proofs.Counting.{counts_same}
use Rattle.slot_alloc.proofs.laws.an_untouched_driver_keeps_its_slots.Goals as goal

pub returns : goal.returns
returns g c =
    let d = c.args.old.now.value in
    let e = c.args.new.now in
    let on = g.met.P.Port.goes_on in
    record {
      slot_rules = λ u slot_rules. slot_rules_kept g.P.Port d e u slot_rules;
      goes_on = λ u. goes_on_kept g.P.Port d e u;
      claims = λ u. counts_same g.P.Port d e u.same.slots u.as_before.0;
      held = λ u claim held. held_kept g.P.Port d e claim u held;
      claiming = λ u k of. claiming_kept g.P.Port on d e k u of;
      unreleased = λ u k of free. unreleased_kept g.P.Port d e k u of free;
      releasing = λ u k of. releasing_kept g.P.Port on d e k u of;
    }
