-- What reading a line gives, and the numbers of its faults.
use Rattle.std.specs.Prelude.{◌≡◌, ℕ, Option, Some, None, Result, Ok, Err}
use Rattle.history.specs.declared.line_fault.LineFault.{LineFault}
use Rattle.history.specs.declared.line_fault.LineFault.TheVariants.{Malformed, NoMemory}

-- what was read, unless memory ran out
abbrev pub GivesRead : {A : Type 0} → Result A LineFault → Option A → Type 0
GivesRead (Ok x) read = read ≡ Some x
GivesRead (Err Malformed) read = read ≡ None
GivesRead (Err NoMemory) read = Unit {0}

-- the number of a fault
abbrev pub line_fault_number : LineFault → ℕ
line_fault_number Malformed = 51
line_fault_number NoMemory = 11
