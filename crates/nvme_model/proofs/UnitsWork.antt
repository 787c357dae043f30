-- Units of an operation.
use Rattle.std.proofs.Common.{None, Option, Some, is_some, refl, slice_get, true, ℕ, ◌≡◌}
use Rattle.nvme_model.specs.Operations.{units_by}
use Rattle.nvme_model.specs.declared.array.Range.{Range}
use Rattle.nvme_model.specs.declared.config.AtomicParameters.{AtomicParameters}
use Rattle.nvme_model.specs.declared.operation.Op.{Op}

-- one that has a unit works on blocks
pub units_of_op : (u : AtomicParameters) (o : Option Op) (s n i : ℕ) (r : Range)
    → slice_get (units_by u o s n) i ≡ Some r → is_some o ≡ true
units_of_op u None s n i r e = absurd (let f : None ≡ Some r = e in cc)
units_of_op u (Some o) s n i r e = refl
