-- Two values that are read of one line are equal.
use Rattle.std.proofs.Common.{◌≡◌, Some}
use Rattle.std.specs.Prelude.{Option}

-- both are what was read
pub one_of : {A : Type 0} (o : Option A) (a b : A) → o ≡ Some a → o ≡ Some b → a ≡ b
one_of o a b p q = cc (p, q)
