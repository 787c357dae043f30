use Rattle.slot_alloc.proofs.GivingBack.{slot_rules_start, goes_on_start}
use Rattle.slot_alloc.proofs.laws.a_release_by_itself.Goals as goal

pub returns : goal.returns
returns g c =
    let d = c.args.old.now.value in
    let e = c.args.new.now in
    record {
      slot_rules = λ same lba serial result s name inside believed slot_rules.
          slot_rules_start g.P.Port d e lba serial result same s name inside believed slot_rules;
      goes_on = λ same later lba serial result s name. goes_on_start g.P.Port d e lba serial result same later s name;
    }
