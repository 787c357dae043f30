-- What a handle's mark says of what it owns.
use Rattle.std.proofs.Common.{◌≡◌, ◌<◌, arith, refl}
use Rattle.std.specs.Prelude.{None, Option, Some}
use Rattle.c_handles.specs.Owned.{mark}

module _ {A : Type 0} where
  pub none_of : (o : Option A) → mark o ≡ 0 → o ≡ None
  none_of None h = refl
  none_of (Some x) h = cc

  pub some_of : (o : Option A) → 0 < mark o → (x : A) × (o ≡ Some x)
  some_of None h = absurd (omega (arith, h))
  some_of (Some x) h = (x, refl)

  pub one_of : (o : Option A) → (mark o ≡ 0 → ⊥) → mark o ≡ 1
  one_of None h = absurd (h refl)
  one_of (Some x) h = refl
