-- What is written of the text of a history whose trace is asked for.
use Rattle.std.specs.Prelude.{◌⊎◌, Bool, Err, IfSome, List, Ok, Option, Result, false, reverse, true, ℕ}
use Rattle.std.specs.Io.KnownBytes.{Appends, IsAtEnd, Keeps}
use Rattle.line_text.specs.Known.{AppendsFront}
use Rattle.nvme_model.specs.FirstBad.{IsFirstBad}
use Rattle.nvme_model.specs.History.{Past}
use Rattle.nvme_model.specs.Legal.{IsLegal}
use Rattle.nvme_model.specs.declared.config.ConfigNumbers.{ConfigNumbers}
use Rattle.witness_check.specs.TraceText.{trace_text}
use Rattle.casdisk_texts.specs.Files.{HasHistory, IsUnread}
use Rattle.casdisk_texts.specs.declared.fault.RunFault.{RunFault}
use Rattle.casdisk_texts.specs.declared.fault.RunFault.TheVariants.{NoMemory, Output}

-- By what was answered of a history: its trace was written where it is legal, nothing where it isn't, or a beginning.
abbrev pub WritesTrace : ConfigNumbers → Past → Result Bool RunFault → (old new : Option (List ℕ)) → Type 0
WritesTrace c past (Ok true) old new = IsLegal c past × Appends old new (trace_text c past)
WritesTrace c past (Ok false) old new = (place : ℕ) × IsFirstBad c (reverse past) place × Keeps old new
WritesTrace c past (Err Output) old new = IsLegal c past × AppendsFront old new (trace_text c past)
WritesTrace c past (Err NoMemory) old new = Keeps old new ⊎ AppendsFront old new (trace_text c past)
WritesTrace c past (Err f) old new = ⊥

-- the text has a history of which that was answered
abbrev pub WritesTraceOf : Result Bool RunFault → (input old new : Option (List ℕ)) → Type 0
WritesTraceOf told input old new = IfSome input (HasHistory (λ c past. WritesTrace c past told old new))

-- By what was answered of a text: that of its history, and the reader at its end where none failed; or nothing was
-- written, since not all its lines were read.
abbrev pub TracesText : Result Bool RunFault → (input left old new : Option (List ℕ)) → Type 0
TracesText (Ok answer) input left old new = IsAtEnd left × WritesTraceOf (Ok answer) input old new
TracesText (Err Output) input left old new = WritesTraceOf (Err Output) input old new
TracesText (Err NoMemory) input left old new = Keeps old new ⊎ WritesTraceOf (Err NoMemory) input old new
TracesText (Err f) input left old new = IsUnread f input left × Keeps old new
