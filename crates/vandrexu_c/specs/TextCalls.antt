-- What the calls about whole texts answer: a number, the line that it is about, and the text that the program prints.
use Rattle.std.specs.Prelude.{Bool, Err, List, Ok, Option, Result, Some, [], drop, false, length, true, ℕ, ◌++◌}
use Rattle.std.specs.Prelude.{◌<◌, ◌≡◌, ◌≤◌}
use Rattle.casdisk_texts.specs.Certified.{CertifiesText}
use Rattle.casdisk_texts.specs.declared.logged.Logged.TheVariants.{AsSeen}
use Rattle.casdisk_texts.specs.Files.{ChecksText}
use Rattle.casdisk_texts.specs.Running.{RunsScript}
use Rattle.casdisk_texts.specs.Said.{script_line}
use Rattle.casdisk_texts.specs.Script.{script_outcome}
use Rattle.casdisk_texts.specs.declared.certify_fault.CertifyFault.{CertifyFault}
use Rattle.casdisk_texts.specs.declared.certify_fault.CertifyFault.TheVariants.{History, OtherConfig, Trace}
use Rattle.casdisk_texts.specs.declared.certify_fault.CertifyFault.TheVariants as certify
use Rattle.casdisk_texts.specs.declared.fault.RunFault.{RunFault}
use Rattle.casdisk_texts.specs.declared.fault.RunFault.TheVariants.{BadConfig, BadLine, Input, NoMemory, Output}
use Rattle.file_commands.specs.Observing.{ObservesText}
use Rattle.file_commands.specs.Refuting.{RefutesText}
use Rattle.file_commands.specs.declared.answer.TraceAnswer.{TraceAnswer}
use Rattle.file_commands.specs.declared.answer.TraceAnswer.TheVariants.{Explained, GaveUp, NotFound, Refuted}
use Rattle.file_commands.specs.declared.refute_fault.RefuteFault.{RefuteFault}
use Rattle.file_commands.specs.declared.refute_fault.RefuteFault.TheVariants as refute
use Rattle.vandrexu_c.specs.declared.texts.TextAnswer.{TextAnswer}

-- a number, and the line that it is about, from 1; 0 for none
abbrev pub told : ℕ → ℕ → TextAnswer
told number line = record { number = number; line = line }

-- Why a text wasn't read to its end. It lies in memory, and so does what is written: only want of memory can fail.
abbrev pub told_fault : RunFault → TextAnswer
told_fault (BadLine n) = told 107 n
told_fault (BadConfig n) = told n 0
told_fault Input = told 11 0
told_fault Output = told 11 0
told_fault NoMemory = told 11 0

-- what a run answered
abbrev pub told_run : Result (Unit {0}) RunFault → TextAnswer
told_run (Ok done) = told 0 0
told_run (Err fault) = told_fault fault

-- what a check answered
abbrev pub told_check : Result Bool RunFault → TextAnswer
told_check (Ok true) = told 0 0
told_check (Ok false) = told 108 0
told_check (Err fault) = told_fault fault

-- why the text of a history or a refutation wasn't read, beside a trace's; of a configuration that is refused its first
-- line is told
abbrev pub told_history_fault : RunFault → TextAnswer
told_history_fault (BadLine n) = told 110 n
told_history_fault (BadConfig n) = told 110 1
told_history_fault Input = told 11 0
told_history_fault Output = told 11 0
told_history_fault NoMemory = told 11 0

-- why a trace and a history weren't compared
abbrev pub told_certify_fault : CertifyFault → TextAnswer
told_certify_fault (Trace fault) = told_fault fault
told_certify_fault (History fault) = told_history_fault fault
told_certify_fault OtherConfig = told 111 0
told_certify_fault certify.Output = told 11 0

-- what was answered about a trace and a history
abbrev pub told_certify : Result Bool CertifyFault → TextAnswer
told_certify (Ok true) = told 0 0
told_certify (Ok false) = told 109 0
told_certify (Err fault) = told_certify_fault fault

-- what was answered about a trace
abbrev pub told_observe : Result TraceAnswer RunFault → TextAnswer
told_observe (Ok Explained) = told 0 0
told_observe (Ok Refuted) = told 109 0
told_observe (Ok NotFound) = told 126 0
told_observe (Ok GaveUp) = told 112 0
told_observe (Err fault) = told_fault fault

-- what was answered about a trace and what is said to refute it
abbrev pub told_refute : Result Bool RefuteFault → TextAnswer
told_refute (Ok true) = told 0 0
told_refute (Ok false) = told 127 0
told_refute (Err (refute.Trace fault)) = told_fault fault
told_refute (Err (refute.Refutation fault)) = told_history_fault fault
told_refute (Err refute.Output) = told 11 0

-- A text is given: the room begins with it, and its rest is as before; or it is too short, and as before.
pub record GivesAll (text old new : List ℕ) (needed : ℕ) : Type 0 where
  pub needed_is : needed ≡ length text
  pub fits : length text ≤ length old → new ≡ text ++ drop (length text) old
  pub short : length old < length text → new ≡ old

-- a text is given with what is told; where the room is too short for it, that is told alone
pub record GivesText (what : TextAnswer) (text old new : List ℕ) (needed line result : ℕ) : Type 0 where
  pub gives : GivesAll text old new needed
  pub line_is : line ≡ what.line
  pub done : length text ≤ length old → result ≡ what.number
  pub too_small : length old < length text → result ≡ 103

-- Of a run of this script in memory, what it answers, and the text that it writes.
abbrev pub RunsInMemory : ℕ → (script old new : List ℕ) → (needed line result : ℕ) → Type 0
RunsInMemory kinds script old new needed line result =
    (r : Result (Unit {0}) RunFault) × (left : Option (List ℕ)) × (text : List ℕ)
    × RunsScript (script_outcome (λ c. script_line c kinds)) r (Some script) left (Some []) (Some text)
    × GivesText (told_run r) text old new needed line result

-- Of a check of this history in memory, what it answers, and its line.
abbrev pub ChecksInMemory : (history old new : List ℕ) → (needed line result : ℕ) → Type 0
ChecksInMemory history old new needed line result =
    (r : Result Bool RunFault) × (left : Option (List ℕ)) × (text : List ℕ)
    × ChecksText r (Some history) left (Some []) (Some text) × GivesText (told_check r) text old new needed line result

-- Of this trace and this history in memory, what is said of them, and its line.
abbrev pub CertifiesInMemory : (trace history old new : List ℕ) → (needed line result : ℕ) → Type 0
CertifiesInMemory trace history old new needed line result =
    (r : Result Bool CertifyFault) × (left rest : Option (List ℕ)) × (text : List ℕ)
    × CertifiesText AsSeen r (Some trace) left (Some history) rest (Some []) (Some text)
    × GivesText (told_certify r) text old new needed line result

-- Of this trace and this refutation in memory, what is said of them, and its line.
abbrev pub RefutesInMemory : (trace refutation old new : List ℕ) → (needed line result : ℕ) → Type 0
RefutesInMemory trace refutation old new needed line result =
    (r : Result Bool RefuteFault) × (left rest : Option (List ℕ)) × (text : List ℕ)
    × RefutesText r (Some trace) left (Some refutation) rest (Some []) (Some text)
    × GivesText (told_refute r) text old new needed line result

-- Of this trace in memory, what is said of it in so many steps, its line, and the history or the refutation that was
-- found.
abbrev pub ObservesInMemory : (trace room history : List ℕ) → (found : ℕ) → (old new : List ℕ) →
    (needed line result : ℕ) → Type 0
ObservesInMemory trace room history found old new needed line result =
    (r : Result TraceAnswer RunFault) × (left : Option (List ℕ)) × (witness text : List ℕ)
    × ObservesText r (Some trace) left (Some []) (Some witness) (Some []) (Some text)
    × GivesAll witness room history found
    × ((number : ℕ) × GivesText (told_observe r) text old new needed line number
    × (length witness ≤ length room → result ≡ number) × (length room < length witness → result ≡ 103))
