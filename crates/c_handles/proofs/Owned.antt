-- What the pointer of a handle owns may go to another thread, where the value may.
use mir.Raw.{raw}
use base.Shift.{Keyless}
use base.Fraction.{full_share}
use denote.Memory.{lone}
use denote.Exit.{Exit, unchanged, leaves, hidden, under}
use denote.RattleType.{RattleType}
use denote.RawPtr.{Ptr, RawPtr, block_ptr, null_ptr, lies_at}
use denote.Param.Send.{AllSend, IsSend, Quiet, part_keyless, sendable}
use Rattle.std.proofs.Crossing as heap
use Rattle.std.specs.Prelude.{[], ◌∷◌, None, Option, Some}
use Rattle.c_handles.specs.Owned.{owned}

pub quiet : {D X : Type 0} (to : D → X) (e : Exit X) → Quiet e → Quiet (hidden (under to e))
quiet to unchanged q = λ x w. tt
quiet to (leaves L l S s r₀) q = λ d. q (to d)

pub pointer : AllSend (RawPtr ∷ [])
pointer = (search sendable, tt)

lies : (R : RattleType) → IsSend R → (p : Ptr) (x : R.Denot) → Keyless (lies_at R full_share p x)
lies R s (block_ptr b o) x = part_keyless R s full_share x b o
lies R s null_ptr x = tt

pub owned_keyless : (R : RattleType) → IsSend R → (p : Ptr) (o : Option R.Denot) → Keyless (owned R p o)
owned_keyless R s p None = tt
owned_keyless R s p (Some x) = (
  lies R s p x,
  heap.frees.frees (record { memory = record { seal = tt } }) (raw (lone R.mir)) p,
)
