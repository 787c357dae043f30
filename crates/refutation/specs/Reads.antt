-- What reading a text gives.
use Rattle.std.specs.Prelude.{Bool, Err, None, Ok, Option, Result, Some, false, true, ℕ, ◌≡◌}
use Rattle.refutation.specs.Refutations.{Refutation}
use Rattle.refutation.specs.declared.fault.RefutationFault.{RefutationFault}
use Rattle.refutation.specs.declared.fault.RefutationFault.TheVariants.{BadLine, NoMemory}

-- What was read, or the number of the first bad line, unless memory ran out.
abbrev pub GivesRefutation : Result Refutation RefutationFault → Result Refutation ℕ → Type 0
GivesRefutation (Ok r) read = read ≡ Ok r
GivesRefutation (Err (BadLine n)) read = read ≡ Err n
GivesRefutation (Err NoMemory) read = Unit {0}

-- A refutation grew by what a line says, or the line says nothing that may stand there and it stayed.
abbrev pub TakesLine : Bool → Refutation → Refutation → Option Refutation → Type 0
TakesLine true old new said = said ≡ Some new
TakesLine false old new said = said ≡ None
