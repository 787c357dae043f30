-- What is said of the texts of a trace and of a history that may explain it.
use Rattle.std.specs.Prelude.{◌≡◌, ◌≢◌, ◌++◌, ℕ, Bool, false, true, List, [], ◌∷◌, Option, Some, IfSome, Result, Ok}
use Rattle.std.specs.Prelude.{Err, codes, decimal}
use Rattle.std.specs.Io.KnownBytes.{Appends, IsAtEnd, Keeps}
use Rattle.std.specs.List.{join_with_byte}
use Rattle.line_text.specs.Known.{AppendsFront}
use Rattle.line_text.specs.Lines.{whole_lines}
use Rattle.nvme_model.specs.History.{Past}
use Rattle.nvme_model.specs.declared.config.ConfigNumbers.{ConfigNumbers}
use Rattle.trace.specs.Aside.{history_numbers}
use Rattle.trace.specs.declared.options.TraceOptions.{TraceOptions}
use Rattle.trace.specs.declared.seen.Seen.{Seen}
use Rattle.witness_check.specs.Compared.{IsVerdict}
use Rattle.witness_check.specs.Delays.{IsDelayedVerdict}
use Rattle.witness_check.specs.declared.comparison.TraceVerdict.{TraceVerdict}
use Rattle.witness_check.specs.declared.comparison.TraceVerdict.TheVariants.{Bad, Explained, Unlike}
use Rattle.witness_check.specs.declared.difference.Difference.{Difference}
use Rattle.witness_check.specs.declared.difference.Difference.TheVariants.{Batch, Completion, Contents, Data}
use Rattle.witness_check.specs.declared.difference.Difference.TheVariants.{HistoryEnds, Kind, Order, Queue, TraceEnds}
use Rattle.casdisk_texts.specs.Fault.{exit_status}
use Rattle.casdisk_texts.specs.Files.{HasHistory, IsUnread, bad_text}
use Rattle.casdisk_texts.specs.Script.{first_config}
use Rattle.casdisk_texts.specs.Traces.{HasTrace, IsTraceUnread, options_of}
use Rattle.casdisk_texts.specs.declared.certify_fault.CertifyFault.{CertifyFault}
use Rattle.casdisk_texts.specs.declared.certify_fault.CertifyFault.TheVariants.{History, OtherConfig, Output, Trace}
use Rattle.casdisk_texts.specs.declared.fault.RunFault.TheVariants.{NoMemory}
use Rattle.casdisk_texts.specs.declared.logged.Logged.{Logged}
use Rattle.casdisk_texts.specs.declared.logged.Logged.TheVariants.{AsSeen, WithDelays}

-- the status with which the program ends then
abbrev pub certify_status : CertifyFault → ℕ
certify_status (Trace f) = exit_status f
certify_status (History f) = exit_status f
certify_status OtherConfig = 2
certify_status Output = 3

-- what differs, in words, with the line feed
abbrev pub difference_text : Difference → List ℕ
difference_text TraceEnds = codes ": the trace ends before it" ++ 10 ∷ []
difference_text HistoryEnds = codes ": the history ends before it" ++ 10 ∷ []
difference_text Kind = codes ": one is a publish, the other a reap" ++ 10 ∷ []
difference_text Queue = codes ": the queue" ++ 10 ∷ []
difference_text Batch = codes ": the entries" ++ 10 ∷ []
difference_text Completion = codes ": the completion" ++ 10 ∷ []
difference_text Data = codes ": the data" ++ 10 ∷ []
difference_text Contents = codes ": what was there isn't written before it" ++ 10 ∷ []
difference_text Order = codes ": a publish that came before it is logged behind it" ++ 10 ∷ []

-- the line of a verdict
abbrev pub verdict_text : TraceVerdict → List ℕ
verdict_text Explained = codes "explained" ++ 10 ∷ []
verdict_text (Bad k) = bad_text k
verdict_text (Unlike k d) = join_with_byte 32 (codes "seen" ∷ decimal k ∷ []) ++ difference_text d

-- the trace is explained
abbrev pub explains : TraceVerdict → Bool
explains Explained = true
explains (Bad k) = false
explains (Unlike k d) = false

-- The verdict on a history, the newest first, and a trace, the oldest first, by how the trace was logged.
abbrev pub IsVerdictAs : Logged → TraceOptions → ConfigNumbers → Past → List Seen → TraceVerdict → Type 0
IsVerdictAs AsSeen o c past things v = IsVerdict o c past things v
IsVerdictAs WithDelays o c past things v = IsDelayedVerdict o c past things v

-- The verdict on the texts of a trace and of a history, whose configuration is the one that a history of the trace has.
abbrev pub IsVerdictOf : Logged → TraceVerdict → List ℕ → List ℕ → Type 0
IsVerdictOf logged v trace history =
    HasTrace (λ o c things.
    HasHistory (λ d past. (history_numbers o c ≡ d) × IsVerdictAs logged o d past things v) history) trace

-- two texts, where they are known, have a verdict, of which this holds
abbrev pub HasTextVerdict : Logged → (TraceVerdict → Type 0) → Option (List ℕ) → Option (List ℕ) → Type 0
HasTextVerdict logged Holds trace history =
    IfSome trace (λ t. IfSome history (λ h. (v : TraceVerdict) × IsVerdictOf logged v t h × Holds v))

-- the configuration of a history isn't the one that a history of the trace has
abbrev pub HaveOtherConfigs : List ℕ → List ℕ → Type 0
HaveOtherConfigs trace history =
    (c d : ConfigNumbers) × (first_config (whole_lines trace) ≡ Some c) × (first_config (whole_lines history) ≡ Some d)
    × (history_numbers (options_of trace) c ≢ d)

-- By why nothing is said: which of the texts wasn't read, or that they have two configurations.
abbrev pub IsUnsaid : CertifyFault → (trace trace_left history history_left : Option (List ℕ)) → Type 0
IsUnsaid (Trace f) trace trace_left history history_left = IsTraceUnread f trace trace_left
IsUnsaid (History f) trace trace_left history history_left = IsUnread f history history_left
IsUnsaid OtherConfig trace trace_left history history_left =
    IfSome trace (λ t. IfSome history (λ h. HaveOtherConfigs t h))
IsUnsaid Output trace trace_left history history_left = ⊥

-- By what was answered on two texts: their verdict, and both readers at their ends; or why there is none.
abbrev pub GivesVerdict : Logged → Result TraceVerdict CertifyFault →
    (trace trace_left history history_left : Option (List ℕ)) → Type 0
GivesVerdict logged (Ok v) trace trace_left history history_left =
    IsAtEnd trace_left × IsAtEnd history_left × HasTextVerdict logged (λ w. w ≡ v) trace history
GivesVerdict logged (Err f) trace trace_left history history_left = IsUnsaid f trace trace_left history history_left

-- By what was answered on two texts: the line of their verdict, and both readers at their ends; nothing; or a beginning
-- of that line.
abbrev pub CertifiesText : Logged → Result Bool CertifyFault →
    (trace trace_left history history_left old new : Option (List ℕ)) → Type 0
CertifiesText logged (Ok answer) trace trace_left history history_left old new =
    IsAtEnd trace_left × IsAtEnd history_left
    × HasTextVerdict logged (λ v. (answer ≡ explains v) × Appends old new (verdict_text v)) trace history
CertifiesText logged (Err Output) trace trace_left history history_left old new =
    HasTextVerdict logged (λ v. AppendsFront old new (verdict_text v)) trace history
CertifiesText logged (Err f) trace trace_left history history_left old new =
    IsUnsaid f trace trace_left history history_left × Keeps old new

-- ---- on the way there

-- it was written, or a beginning of it
abbrev pub TellsVerdict : TraceVerdict → Result Bool CertifyFault → Option (List ℕ) → Option (List ℕ) → Type 0
TellsVerdict v (Ok answer) old new = (answer ≡ explains v) × Appends old new (verdict_text v)
TellsVerdict v (Err Output) old new = AppendsFront old new (verdict_text v)
TellsVerdict v (Err f) old new = ⊥

-- By why a trace and a history of these configurations weren't compared.
abbrev pub IsUncompared : ConfigNumbers → ConfigNumbers → CertifyFault → Type 0
IsUncompared c d (Trace f) = ⊥
IsUncompared c d (History f) = f ≡ NoMemory
IsUncompared c d OtherConfig = c ≢ d
IsUncompared c d Output = ⊥
