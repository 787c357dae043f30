-- What the pointer of a handle owns.
use Rattle.std.specs.Prelude.{None, Option, Some, ℕ}
use base.Fml.{Fml, ftrue}
use denote.RattleType.{RattleType}
use denote.RawPtr.{Ptr}
use Rattle.std.specs.Box.Ownership.{box_owns}
use Rattle.std.specs.contracts.impls.GlobalAllocator.TheImpl.{ghosts}

-- the box of a value, and the right to free it; or nothing
abbrev pub owned : (R : RattleType) → Ptr → Option R.Denot → Fml
owned R p None = ftrue
owned R p (Some x) = box_owns (ghosts.dealloc_token (record { memory = record { seal = tt } })) R p x

-- what stands in the mark of a handle that owns this
abbrev pub mark : {A : Type 0} → Option A → ℕ
mark None = 0
mark (Some x) = 1

-- a handle owns a value of which this holds
abbrev pub Keeps : {A : Type 0} → Option A → (A → Type 0) → Type 0
Keeps None P = ⊥
Keeps (Some x) P = P x
