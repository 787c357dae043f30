-- Of what may be there.
use Rattle.std.proofs.Common.{None, Option, Some, false, is_some, refl, ℕ, ◌≡◌}

-- none is there
pub none_of : {A : Type 0} (o : Option A) → is_some o ≡ false → o ≡ None
none_of None h = refl
none_of (Some a) h = absurd (let no : ⊥ = cc in no)

pub some_one : {A : Type 0} (x y : A) → Some x ≡ Some y → x ≡ y
some_one x y h = cc

pub no_some : (j : ℕ) (A : Type 0) → None ≡ Some j → A
no_some j A e = absurd cc
