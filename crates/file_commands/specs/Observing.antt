-- What is said of the text of a trace, and what is written of the history that explains it, or of what refutes it.
use Rattle.std.specs.Prelude.{◌++◌, ◌==◌, ◌∷◌, ◌≡◌, [], codes, decimal, reverse, slice_get, ℕ, Err, IfSome, List, None}
use Rattle.std.specs.Prelude.{Ok, Option, Result, Some}
use Rattle.std.specs.List.{slice_split}
use Rattle.std.specs.Io.KnownBytes.{Appends, IsAtEnd, Keeps}
use Rattle.casdisk_texts.specs.Objects.{AnswerFields, plain_fields}
use Rattle.casdisk_texts.specs.Traces.{HasTrace, IsTraceUnread}
use Rattle.casdisk_texts.specs.declared.fault.RunFault.{RunFault}
use Rattle.casdisk_texts.specs.declared.fault.RunFault.TheVariants.{BadConfig, BadLine, Input, NoMemory, Output}
use Rattle.nvme_model.specs.History.{Past}
use Rattle.nvme_model.specs.declared.config.ConfigNumbers.{ConfigNumbers}
use Rattle.history.specs.Texts.{history_text}
use Rattle.refutation.specs.Refutations.{Refutation}
use Rattle.refutation.specs.Texts.{refutation_text}
use Rattle.trace_search.specs.Found.{Refutes}
use Rattle.trace.specs.Aside.{history_numbers}
use Rattle.trace.specs.Observed.{Explains}
use Rattle.trace.specs.declared.options.TraceOptions.{TraceOptions}
use Rattle.trace.specs.declared.seen.Seen.{Seen}
use Rattle.file_commands.specs.declared.answer.TraceAnswer.{TraceAnswer}
use Rattle.file_commands.specs.declared.answer.TraceAnswer.TheVariants.{Explained, GaveUp, NotFound, Refuted}

-- the status with which the program ends after an answer
abbrev pub answer_status : TraceAnswer → ℕ
answer_status Explained = 0
answer_status Refuted = 1
answer_status NotFound = 6
answer_status GaveUp = 5

-- what is answered, in a word
abbrev pub answer_word : TraceAnswer → List ℕ
answer_word Explained = codes "explained"
answer_word Refuted = codes "refuted"
answer_word NotFound = codes "not found"
answer_word GaveUp = codes "gave up"

-- the fields of an answer, with the line of the file up to which it says that there is no history
abbrev pub trace_fields : TraceAnswer → Option ℕ → AnswerFields
trace_fields answer line = record (plain_fields (answer_word answer)) { line = line }

-- the word of a text at this place, from 0, is this number with a colon behind it
abbrev pub HasNumberAt : List ℕ → ℕ → ℕ → Type 0
HasNumberAt text at n = slice_get (slice_split (λ b. b == 32) text) at ≡ Some (decimal n ++ 58 ∷ [])

-- The line that a text names: behind `refuted: up to line` or `not found: up to line`.
abbrev pub IsLineIn : List ℕ → TraceAnswer → Option ℕ → Type 0
IsLineIn text Refuted line = IfSome line (HasNumberAt text 4)
IsLineIn text NotFound line = IfSome line (HasNumberAt text 5)
IsLineIn text Explained line = line ≡ None
IsLineIn text GaveUp line = line ≡ None

-- the line where a history explains the trace
abbrev pub explained_text : List ℕ
explained_text = codes "explained" ++ 10 ∷ []

-- the line where the steps were used up
abbrev pub gave_up_text : List ℕ
gave_up_text = codes "gave up" ++ 10 ∷ []

-- A legal history of this configuration is seen as these things, the oldest first, as these options read them, and a
-- writer has its text behind what it had.
abbrev pub WritesWitness : TraceOptions → ConfigNumbers → List Seen → Option (List ℕ) → Option (List ℕ) → Type 0
WritesWitness o c things old new =
    (past : Past) × Explains o c past (reverse things) × Appends old new (history_text c (reverse past))

-- These things, the oldest first, are refuted, and a writer has the text of a refutation behind what it had; so no
-- legal history of this configuration is seen as them.
abbrev pub WritesRefutation : TraceOptions → ConfigNumbers → List Seen → Option (List ℕ) → Option (List ℕ) → Type 0
WritesRefutation o c things old new =
    (r : Refutation) × Refutes o c (reverse things) r × Appends old new (refutation_text r)

-- By what was answered on these things: a history that explains them was written as a witness, and then that it is so;
-- what refutes them was written; nothing was; or a beginning of what there is to write.
abbrev pub AnswersTrace : TraceOptions → ConfigNumbers → List Seen → Result TraceAnswer RunFault →
    (witness witnessed old new : Option (List ℕ)) → Type 0
AnswersTrace o c things (Ok Explained) witness witnessed old new =
    WritesWitness o c things witness witnessed × Appends old new explained_text
AnswersTrace o c things (Ok Refuted) witness witnessed old new = WritesRefutation o c things witness witnessed
AnswersTrace o c things (Ok NotFound) witness witnessed old new = Keeps witness witnessed
AnswersTrace o c things (Ok GaveUp) witness witnessed old new = Keeps witness witnessed × Appends old new gave_up_text
AnswersTrace o c things (Err Output) witness witnessed old new = Unit {0}
AnswersTrace o c things (Err NoMemory) witness witnessed old new = Keeps old new
AnswersTrace o c things (Err Input) witness witnessed old new = ⊥
AnswersTrace o c things (Err (BadLine n)) witness witnessed old new = ⊥
AnswersTrace o c things (Err (BadConfig n)) witness witnessed old new = ⊥

-- By what was answered on a text: the answer on the things that its lines say, and the reader at its end; or why they
-- weren't all read, and nothing was written; or a beginning of what there is to write.
abbrev pub ObservesText : Result TraceAnswer RunFault →
    (trace left witness witnessed old new : Option (List ℕ)) → Type 0
ObservesText (Ok answer) trace left witness witnessed old new =
    IsAtEnd left × IfSome trace (HasTrace (λ o c things.
    AnswersTrace o (history_numbers o c) things (Ok answer) witness witnessed old new))
ObservesText (Err Output) trace left witness witnessed old new = Unit {0}
ObservesText (Err NoMemory) trace left witness witnessed old new = Keeps old new
ObservesText (Err f) trace left witness witnessed old new =
    IsTraceUnread f trace left × Keeps witness witnessed × Keeps old new
