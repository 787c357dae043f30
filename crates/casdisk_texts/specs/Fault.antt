-- What a fault of reading or writing is to the run, and the status with which the program ends.
use Rattle.std.specs.Prelude.{ℕ}
use Rattle.line_text.specs.declared.lines.ReadFault.{ReadFault}
use Rattle.casdisk_texts.specs.declared.fault.RunFault.{RunFault}
use Rattle.casdisk_texts.specs.declared.meaning.WriteFault.{WriteFault}
use Rattle.casdisk_texts.specs.declared.fault.RunFault.TheVariants.{BadLine, BadConfig, Input, Output, NoMemory}

-- the same cause, where no line was read
abbrev pub fault_of_read : ReadFault → RunFault
fault_of_read ReadFault.Input = Input
fault_of_read ReadFault.NoMemory = NoMemory

-- the same cause, where a line wasn't done to its end
abbrev pub fault_of_write : WriteFault → RunFault
fault_of_write WriteFault.Output = Output
fault_of_write WriteFault.NoMemory = NoMemory

-- the same cause, where all that was written went into memory, which fails only for want of it
abbrev pub fault_in_memory : RunFault → RunFault
fault_in_memory Output = NoMemory
fault_in_memory f = f

-- the status after a run that ended early
abbrev pub exit_status : RunFault → ℕ
exit_status (BadLine n) = 2
exit_status (BadConfig c) = 2
exit_status Input = 3
exit_status Output = 3
exit_status NoMemory = 4
