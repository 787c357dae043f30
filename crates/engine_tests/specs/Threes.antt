-- What contracts say of the three passes of a lock.
use Rattle.std.specs.Prelude.{ℕ, ◌≡◌}
use Rattle.meet_lock.specs.Passes.{IsPassOfLock, number, passes_of}
use Rattle.meet_lock.specs.declared.pass.Pass.{Pass}
use Rattle.meet_lock.specs.declared.shared.Shared.{Shared}

module _ {M K : Type 0} where
  -- the one of this number, of three
  abbrev pub IsOfThree : Shared M K → ℕ → Pass M → Type 0
  IsOfThree s n p = IsPassOfLock s p × (number p ≡ n) × (passes_of p ≡ 3)

  -- all passes of the lock, the last first
  abbrev pub AreThree : Shared M K → Pass M × Pass M × Pass M → Type 0
  AreThree s t = IsOfThree s 3 t.0 × IsOfThree s 2 t.1 × IsOfThree s 1 t.2
