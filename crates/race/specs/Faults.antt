-- The faults of a race.
use Rattle.std.specs.Prelude.{ℕ}
use Rattle.race.specs.declared.fault.RaceFault.{RaceFault}
use Rattle.race.specs.declared.fault.RaceFault.TheVariants.{BadAt, Forgotten, NoMemory, Output}

-- the status with which the program then ends
abbrev pub race_exit_status : RaceFault → ℕ
race_exit_status (BadAt k) = 1
race_exit_status Forgotten = 1
race_exit_status Output = 3
race_exit_status NoMemory = 4

-- it comes of writing or judging a history that is there
abbrev pub IsLate : RaceFault → Type 0
IsLate (BadAt k) = ⊥
IsLate Forgotten = Unit {0}
IsLate Output = Unit {0}
IsLate NoMemory = Unit {0}

-- it comes before anything is written
abbrev pub IsEarly : RaceFault → Type 0
IsEarly (BadAt k) = ⊥
IsEarly Forgotten = ⊥
IsEarly Output = ⊥
IsEarly NoMemory = Unit {0}
