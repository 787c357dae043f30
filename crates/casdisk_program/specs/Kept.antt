-- What can fail where all that is written is kept in memory: anything but writing, which then wants memory alone.
use Rattle.casdisk_texts.specs.declared.certify_fault.CertifyFault.{CertifyFault}
use Rattle.casdisk_texts.specs.declared.fault.RunFault.{RunFault}
use Rattle.race.specs.declared.crash_fault.CrashFault.{CrashFault}
use Rattle.race.specs.declared.fault.RaceFault.{RaceFault}
use Rattle.casdisk_program.specs.declared.seeding.RaceEnd.{RaceEnd}

-- a run fails so
abbrev pub FailsKept : RunFault → Type 0
FailsKept RunFault.Output = ⊥
FailsKept _ = Unit {0}

-- a comparison of a history with a trace fails so
abbrev pub ComparesKept : CertifyFault → Type 0
ComparesKept CertifyFault.Output = ⊥
ComparesKept _ = Unit {0}

-- a race gives no history for this reason
abbrev pub EndsKept : RaceEnd → Type 0
EndsKept (RaceEnd.Race RaceFault.Output) = ⊥
EndsKept (RaceEnd.Crash CrashFault.Output) = ⊥
EndsKept _ = Unit {0}
