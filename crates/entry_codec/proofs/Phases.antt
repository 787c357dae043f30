-- Phase tags as bits.
use Rattle.std.proofs.Common.{Bool, arith, false, refl, true, ◌≡◌}
use Rattle.nvme_model.specs.Bits.{bit}

-- bits that are equal are of one phase tag
pub same_bit : (a b : Bool) → bit a ≡ bit b → a ≡ b
same_bit true true e = refl
same_bit false false e = refl
same_bit true false e = absurd (omega (arith, e))
same_bit false true e = absurd (omega (arith, e))
