use Rattle.std.proofs.Common.{arith, refl}
use Rattle.step_core.proofs.Beginning.{begins}
use Rattle.rings.proofs.Beginnings.{cq_is_size}
use Rattle.step_core.proofs.controller.Core.new.Goals as goal

pub cq_rings-requires : goal.cq_rings-requires
cq_rings-requires c = record { size = cq_is_size c.numbers-numbers.result c.numbers-numbers.ensures.accepted }

pub invariant_of-result : goal.invariant_of-result
invariant_of-result c = (
  begins _ _ _ _ c.numbers-numbers.ensures.value c.numbers-numbers.ensures.accepted c.new-4.ensures.past
      c.in_ok-new.ensures.zeros c.in_ok-sq_rings.ensures.value c.in_ok-none_in_use.ensures.value
      c.in_ok-cq_rings.ensures.value c.in_ok-new-2.ensures.empty c.new-3.ensures.held refl,
  omega arith,
  omega arith,
  omega arith,
)
