use Rattle.history_check.proofs.Standing.{keeps_none}
use Rattle.rings.proofs.Beginnings.{cq_is_size}
use Rattle.history_check.proofs.fields.Fields.new.Goals as goal

pub cq_rings-requires : goal.cq_rings-requires
cq_rings-requires c = record { size = cq_is_size c.numbers-numbers.result c.numbers-numbers.ensures.accepted }

pub returns : goal.returns
returns c = record {
  keeps = keeps_none c.args.config.now c.numbers-numbers.result _ _ _ _ _ _ c.numbers-numbers.ensures.value
      c.numbers-numbers.ensures.accepted c.in_ok-new.ensures.zeros c.in_ok-sq_rings.ensures.value
      c.in_ok-none_in_use.ensures.value c.in_ok-cq_rings.ensures.value c.new-2.ensures.items c.new-3.ensures.held;
}
