-- What tests say.
use Rattle.std.proofs.Common.{Bool, false, refl, true, ◌≡◌, ◌||◌}

pub or_false : (b : Bool) → (b || false) ≡ b
or_false true = refl
or_false false = refl
