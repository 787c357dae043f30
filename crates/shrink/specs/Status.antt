-- The status with which the program ends after a conversation.
use Rattle.std.specs.Prelude.{ℕ}
use Rattle.casdisk_texts.specs.Fault.{exit_status}
use Rattle.shrink.specs.declared.shrinking.Shrunk.{Shrunk}
use Rattle.shrink.specs.declared.shrinking.Shrunk.TheVariants.{Passes, Smallest}
use Rattle.shrink.specs.declared.fault.ShrinkFault.{ShrinkFault}
use Rattle.shrink.specs.declared.fault.ShrinkFault.TheVariants.{BadAnswer, Ended, Input, NoMemory, Output, Script}

-- the status after a conversation that ended early
abbrev pub shrink_status : ShrinkFault → ℕ
shrink_status (Script fault) = exit_status fault
shrink_status (BadAnswer n) = 2
shrink_status Ended = 3
shrink_status Input = 3
shrink_status Output = 3
shrink_status NoMemory = 4

-- the status after one that came to its end: 1 where the script passed
abbrev pub shrunk_status : Shrunk → ℕ
shrunk_status Smallest = 0
shrunk_status Passes = 1
