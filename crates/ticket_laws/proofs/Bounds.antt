-- How many blocks the units of a ticket have.
use Rattle.std.proofs.Common.{None, Option, Some, arith, ℕ, ◌≤◌}
use Rattle.nvme_model.specs.declared.config.AtomicParameters.{AtomicParameters}
use Rattle.nvme_model.specs.declared.operation.Op.{Op}
use Rattle.nvme_model.specs.Operations.{units_by}
use Rattle.nvme_model.proofs.StepCounts.{cut_sum}
use Rattle.ticket_laws.proofs.Left.{blocks_of_all}

pub units_sum : (u : AtomicParameters) (o : Option Op) (s n : ℕ) → blocks_of_all (units_by u o s n) ≤ n
units_sum u None s n = omega arith
units_sum u (Some Op.Pair) s n = omega arith
units_sum u (Some Op.Read) s n = omega (arith, cut_sum u s n)
units_sum u (Some Op.Compare) s n = omega (arith, cut_sum u s n)
units_sum u (Some Op.Write) s n = omega (arith, cut_sum u s n)
units_sum u (Some Op.WriteZeroes) s n = omega (arith, cut_sum u s n)
