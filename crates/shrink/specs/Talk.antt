-- What is said about a candidate.
use Rattle.std.specs.Prelude.{ℕ, Bool, List, Option, false, true, ◌+◌, ◌≡◌, if◌then◌else◌}
use Rattle.std.specs.Io.KnownBytes.{Appends}
use Rattle.line_text.specs.Lines.{GivesLine}
use Rattle.line_text.specs.declared.lines.NextLine.{NextLine}
use Rattle.shrink.specs.declared.question.Unanswered.{Unanswered}
use Rattle.shrink.specs.declared.question.Unanswered.TheVariants.{BadAnswer, Ended, NoMemory, Output}
use Rattle.shrink.specs.Texts.{answer_word, try_text}
use Rattle.shrink.specs.declared.conversation.Conversation.{Conversation}

-- The candidate with the next number was written, and the next line of the answers is this answer; `contents` are the
-- bytes that a writer holds, and `remaining` those that a reader has left.
pub record SaysTry {R W : Type 0} (contents : W → Option (List ℕ)) (remaining : R → Option (List ℕ))
    (before : Conversation R W) (lines : List (List ℕ)) (fails : Bool) (after : Conversation R W) : Type 0 where
  pub written : Appends (contents before.writer) (contents after.writer)
      (try_text (before.tries + 1) before.first.items lines)
  pub answered : GivesLine NextLine.Whole (remaining before.answers) (remaining after.answers) before.ahead after.ahead
      (answer_word fails)
  pub first : after.first.items ≡ before.first.items
  pub tries : after.tries ≡ before.tries + 1
  pub failing : after.failing ≡ (if fails then before.tries + 1 else before.failing)

-- The candidate with the next number was written.
pub record WasAsked {R W : Type 0} (contents : W → Option (List ℕ)) (before : Conversation R W)
    (lines : List (List ℕ)) (after : Conversation R W) : Type 0 where
  pub written : Appends (contents before.writer) (contents after.writer)
      (try_text (before.tries + 1) before.first.items lines)
  pub tries : after.tries ≡ before.tries + 1

-- By why there is no answer: the next line of the answers is another word; they are at their end, with no whole line
-- left; or a line of them couldn't be read.
abbrev pub HasNoAnswer : (input left : Option (List ℕ)) → (before after : List ℕ) → Unanswered → Type 0
HasNoAnswer input left before after BadAnswer =
    (word : List ℕ) × GivesLine NextLine.Whole input left before after word × (word ≡ answer_word true → ⊥)
    × (word ≡ answer_word false → ⊥)
HasNoAnswer input left before after Ended =
    (rest : List ℕ) × GivesLine NextLine.Rest input left before after rest
HasNoAnswer input left before after Output = ⊥
HasNoAnswer input left before after why = Unit {0}

-- Where an answer was missing, or was none, the candidate was written; where it couldn't be, no answer was read.
abbrev pub StopsAt : {R W : Type 0} → (W → Option (List ℕ)) → (R → Option (List ℕ)) → (before : Conversation R W) →
    List (List ℕ) → Unanswered → (after : Conversation R W) → Type 0
StopsAt contents remaining before lines Output after = (after.answers ≡ before.answers) × (after.ahead ≡ before.ahead)
StopsAt contents remaining before lines NoMemory after = Unit {0}
StopsAt contents remaining before lines why after =
    WasAsked contents before lines after
    × HasNoAnswer (remaining before.answers) (remaining after.answers) before.ahead after.ahead why

-- There was no answer, for this reason; the first line of the script, and which candidate failed last, are as before.
pub record StopsTalk {R W : Type 0} (contents : W → Option (List ℕ)) (remaining : R → Option (List ℕ))
    (before : Conversation R W) (lines : List (List ℕ)) (why : Unanswered) (after : Conversation R W) : Type 0 where
  pub first : after.first.items ≡ before.first.items
  pub failing : after.failing ≡ before.failing
  pub at : StopsAt contents remaining before lines why after
