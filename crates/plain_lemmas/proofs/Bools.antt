-- Of tests.
use Rattle.std.proofs.Common.{Bool, false, refl, sym, true, ◌&&◌, ◌||◌, ◌≡◌}

pub three : (a b d : Bool) → a ≡ true → b ≡ true → d ≡ true → (a && b && d) ≡ true
three a b d x y z = λ i. x i && y i && z i

-- each of two follows from the other
pub same_tests : (a b : Bool) → (a ≡ true → b ≡ true) → (b ≡ true → a ≡ true) → a ≡ b
same_tests true b f g = sym (f refl)
same_tests false true f g = g refl
same_tests false false f g = refl

pub or_turned : (a b : Bool) → (a || b) ≡ (b || a)
or_turned true true = refl
or_turned true false = refl
or_turned false true = refl
or_turned false false = refl
