-- What polling a takeover gives.
use Rattle.std.specs.Prelude.{Err, None, Ok, Option, Some, ◌≡◌, ◌⊎◌}
use Rattle.nvme_model.specs.declared.operation.Op.{Op}
use Rattle.driver_calls.specs.declared.reply.Reply.{Reply}
use Rattle.driver_cas.specs.Drivers.{answer_to}
use Rattle.driver_cas.specs.declared.driver.Driver.{Driver}
use Rattle.driver_cas.specs.declared.fault.Fault.{Fault}
use Rattle.driver_cas.specs.declared.port.Port.{Ghosts}
use Rattle.slot_alloc.specs.Releases.{IsCallAnswered}
use Rattle.slot_takeover.specs.Takeovers.{HoldsTaken, IsTakingOverOf, held_serial, slot_held}
use Rattle.slot_takeover.specs.declared.polling.TakeoverProgress.{TakeoverProgress}
use Rattle.slot_takeover.specs.declared.taking.TakingOver.{TakingOver}

module _ {P : Type 0} where
  -- the fault for which a poll of a takeover is put off, if for one
  abbrev pub later_taking : TakeoverProgress P → Option Fault
  later_taking (TakeoverProgress.Later f j) = Some f
  later_taking _ = None

module _ {P : Type 0} {g : Ghosts P} where
  -- What `poll_takeover` gives: the takeover goes on while its call isn't answered. Then the slot is held where the
  -- pair swapped, somebody else's or nobody's where it differed, and else the call failed with that status.
  abbrev pub IsTakeoverPolled : Driver P g → TakingOver P → TakeoverProgress P → Type 0
  IsTakeoverPolled e k (TakeoverProgress.Pending j) = (j ≡ k) × IsTakingOverOf e j × (answer_to e k.call ≡ None)
  IsTakeoverPolled e k (TakeoverProgress.Later f j) =
      (j ≡ k) × IsTakingOverOf e j × ((f ≡ Fault.Busy) ⊎ (f ≡ Fault.NoMemory)) × (answer_to e k.call ≡ None)
  IsTakeoverPolled e k (TakeoverProgress.Held h) =
      (slot_held h ≡ k.slot) × (held_serial h ≡ k.serial) × IsCallAnswered e k.call (Ok Reply.Swapped) × HoldsTaken e h
  IsTakeoverPolled e k TakeoverProgress.Taken = (k.call.op ≡ Op.Pair) × IsCallAnswered e k.call (Ok Reply.Differs)
  IsTakeoverPolled e k (TakeoverProgress.Failed (Fault.Status s)) = IsCallAnswered e k.call (Err s)
  IsTakeoverPolled e k (TakeoverProgress.Failed _) = ⊥
