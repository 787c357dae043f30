-- What is said of the texts of a trace and of what is said to refute it.
use Rattle.std.specs.Prelude.{◌++◌, ◌≡◌, ◌∷◌, ◌==◌, ◌&&◌, [], Bool, Err, IfSome, List, Ok, Option, Result, Some}
use Rattle.std.specs.Prelude.{codes, decimal, false}
use Rattle.std.specs.Prelude.{if◌then◌else◌, length, nat_lt, reverse, true, ℕ}
use Rattle.std.specs.Io.KnownBytes.{Appends, IsAtEnd, Keeps}
use Rattle.std.specs.List.{join_with_byte}
use Rattle.line_text.specs.Known.{AppendsFront}
use Rattle.nvme_model.specs.History.{Past}
use Rattle.nvme_model.specs.declared.config.ConfigNumbers.{ConfigNumbers}
use Rattle.trace.specs.Aside.{history_numbers}
use Rattle.trace.specs.Observed.{Explains}
use Rattle.trace.specs.declared.options.TraceOptions.{TraceOptions}
use Rattle.trace.specs.declared.seen.Seen.{Seen}
use Rattle.casdisk_texts.specs.Fault.{exit_status}
use Rattle.casdisk_texts.specs.Objects.{AnswerFields, object_text, plain_fields, with_rule}
use Rattle.casdisk_texts.specs.Traces.{HasTrace, IsTraceUnread}
use Rattle.casdisk_texts.specs.declared.fault.RunFault.{RunFault}
use Rattle.casdisk_texts.specs.declared.fault.RunFault.TheVariants.{BadConfig, BadLine, Input, NoMemory}
use Rattle.casdisk_texts.specs.declared.fault.RunFault.TheVariants as RunFaults
use Rattle.refutation.specs.Refutations.{Refutation as Certificate}
use Rattle.refutation.specs.Texts.{refutation_in}
use Rattle.refutation.specs.Refuted.{is_refuted}
use Rattle.file_commands.specs.declared.refute_fault.RefuteFault.{RefuteFault}
use Rattle.file_commands.specs.declared.refuting.RefuteVerdict.{RefuteVerdict}
use Rattle.file_commands.specs.declared.refuting.RefuteVerdict.TheVariants.{Fewer, Ordered, Refuted, Right}
use Rattle.file_commands.specs.declared.refute_fault.RefuteFault.TheVariants.{Output, Refutation, Trace}

-- the status with which the program ends then
abbrev pub refute_status : RefuteFault → ℕ
refute_status (Trace f) = exit_status f
refute_status (Refutation f) = exit_status f
refute_status Output = 3

-- it has a line, and no slice
abbrev pub is_of_lines : Certificate → Bool
is_of_lines r = (length r.blocks == 0) && (length r.commands == 0)

-- What is said of these things, the oldest first: that they are refuted; else what fails first: how many lines there
-- are, the rules of the last line, or that the effects have no order.
abbrev pub verdict_of : Bool → List Seen → Certificate → RefuteVerdict
verdict_of true things r = Refuted r.lines
verdict_of false things r =
    if nat_lt (length things) r.lines then Fewer (length things) else (if is_of_lines r then Right r.lines else Ordered)

-- a number behind these words, and these behind it
abbrev pub counted_text : List ℕ → ℕ → List ℕ → List ℕ
counted_text before n behind = join_with_byte 32 (before ∷ decimal n ∷ []) ++ behind

-- the line of a verdict
abbrev pub refute_text : RefuteVerdict → List ℕ
refute_text (Refuted lines) = counted_text (codes "refuted: the first") lines (codes " lines" ++ 10 ∷ [])
refute_text (Fewer lines) = counted_text (codes "not refuted: the trace has") lines (codes " lines" ++ 10 ∷ [])
refute_text (Right line) = counted_text (codes "not refuted: line") line (codes " may be right" ++ 10 ∷ [])
refute_text Ordered = codes "not refuted: the effects may have been in some order" ++ 10 ∷ []

-- The fields of a verdict: the place is the number of the last line that is refuted, or of the one that may be right.
abbrev pub refute_fields : RefuteVerdict → AnswerFields
refute_fields (Refuted lines) = record (plain_fields (codes "refuted")) { place = Some lines }
refute_fields (Fewer lines) = with_rule (plain_fields (codes "not refuted")) (Some (codes "lines")) (lines ∷ [])
refute_fields (Right line) =
    record (with_rule (plain_fields (codes "not refuted")) (Some (codes "right")) []) { place = Some line }
refute_fields Ordered = with_rule (plain_fields (codes "not refuted")) (Some (codes "order")) []

-- the line of a verdict, or where that is asked its object
abbrev pub refute_line : (json : Bool) → RefuteVerdict → List ℕ
refute_line false v = refute_text v
refute_line true v = object_text (refute_fields v) (refute_text v)

-- An answer on a trace of this configuration: it is true where the trace is refuted, and only there; and no legal
-- history explains it then.
pub record RefutesTrace (o : TraceOptions) (c : ConfigNumbers) (things : List Seen) (r : Certificate) (answer : Bool)
    : Type 0 where
  pub is : answer ≡ is_refuted o c (reverse things) r.lines r.commands r.blocks
  pub none : answer ≡ true → (past : Past) → Explains o c past (reverse things) → ⊥

-- The text says a refutation, and this holds of it.
abbrev pub HasRefutation : (Certificate → Type 0) → List ℕ → Type 0
HasRefutation Holds text = (r : Certificate) × (refutation_in text ≡ Ok r) × Holds r

-- By why a text wasn't read: it has a bad line, the first one; reading failed, or memory ran out.
abbrev pub IsRefutationUnread : RunFault → Option (List ℕ) → Type 0
IsRefutationUnread (BadLine n) text = IfSome text (λ t. refutation_in t ≡ Err n)
IsRefutationUnread (BadConfig n) text = ⊥
IsRefutationUnread Input text = Unit {0}
IsRefutationUnread RunFaults.Output text = ⊥
IsRefutationUnread NoMemory text = Unit {0}

-- By what was answered on two texts: the line, or the object, of an answer on what they say, and both readers at their
-- ends; why one of them wasn't read, and nothing; or a beginning of that line.
abbrev pub RefutesAs : (json : Bool) → Result Bool RefuteFault →
    (trace trace_left refutation refutation_left old new : Option (List ℕ)) → Type 0
RefutesAs json (Ok answer) trace trace_left refutation refutation_left old new =
    IsAtEnd trace_left × IsAtEnd refutation_left × IfSome trace (λ t. IfSome refutation (λ text.
    HasTrace (λ o c things. HasRefutation (λ r. RefutesTrace o (history_numbers o c) things r answer
    × Appends old new (refute_line json (verdict_of answer things r))) text) t))
RefutesAs json (Err Output) trace trace_left refutation refutation_left old new =
    IfSome trace (λ t. IfSome refutation (λ text. HasTrace (λ o c things. HasRefutation (λ r.
    (answer : Bool) × RefutesTrace o (history_numbers o c) things r answer
    × AppendsFront old new (refute_line json (verdict_of answer things r))) text) t))
RefutesAs json (Err (Trace f)) trace trace_left refutation refutation_left old new =
    IsTraceUnread f trace trace_left × Keeps old new
RefutesAs json (Err (Refutation f)) trace trace_left refutation refutation_left old new =
    IsRefutationUnread f refutation × Keeps old new

-- the same, by the line
abbrev pub RefutesText : Result Bool RefuteFault →
    (trace trace_left refutation refutation_left old new : Option (List ℕ)) → Type 0
RefutesText = RefutesAs false

-- ---- on the way there

-- its line was written, or a beginning of it; or memory wasn't there for its object
abbrev pub TellsRefuted : (json : Bool) → RefuteVerdict → Bool → Result Bool RefuteFault →
    Option (List ℕ) → Option (List ℕ) → Type 0
TellsRefuted json v answer (Ok told) old new = (told ≡ answer) × Appends old new (refute_line json v)
TellsRefuted json v answer (Err Output) old new = AppendsFront old new (refute_line json v)
TellsRefuted json v answer (Err (Trace f)) old new = (f ≡ NoMemory) × Keeps old new
TellsRefuted json v answer (Err (Refutation f)) old new = ⊥
