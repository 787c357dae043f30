-- What a conversation makes of a script.
use Rattle.std.specs.Prelude.{ℕ, List, Option, Result, Ok, Err, IfSome, false, ◌≡◌, ◌⊎◌}
use Rattle.std.specs.Io.KnownBytes.{Appends, IsAtEnd}
use Rattle.shrink.specs.Shrinking.{IsSmallest, StillFails, most_asked}
use Rattle.shrink.specs.Smaller.{HasSmallerPart}
use Rattle.shrink.specs.declared.question.Unanswered.{Unanswered}
use Rattle.shrink.specs.declared.shrinking.Shrunk.{Shrunk}
use Rattle.shrink.specs.declared.shrinking.Shrunk.TheVariants.{Passes, Smallest}
use Rattle.shrink.specs.Reading.{IsUnreadScript}
use Rattle.shrink.specs.Talk.{SaysTry, StopsTalk}
use Rattle.shrink.specs.Texts.{whole_script, smallest_text}
use Rattle.shrink.specs.declared.conversation.Conversation.{Conversation}
use Rattle.shrink.specs.declared.fault.ShrinkFault.{ShrinkFault}
use Rattle.shrink.specs.declared.fault.ShrinkFault.TheVariants.{BadAnswer, Ended, Script}

-- the conversation has this first line, and is else as it was
pub record BeginsTalk {R W : Type 0} (old : Conversation R W) (first : List ℕ) (begun : Conversation R W) : Type 0 where
  pub answers : begun.answers ≡ old.answers
  pub writer : begun.writer ≡ old.writer
  pub ahead : begun.ahead ≡ old.ahead
  pub first_is : begun.first.items ≡ first
  pub tries : begun.tries ≡ old.tries
  pub failing : begun.failing ≡ old.failing

-- Behind the candidates these lines were written as the smallest script, with the number of their candidate.
abbrev pub TellsSmallest : {R W : Type 0} → (W → Option (List ℕ)) → (mid after : Conversation R W) → List (List ℕ) →
    Type 0
TellsSmallest contents mid after lines =
    Appends (contents mid.writer) (contents after.writer) (smallest_text mid.failing mid.first.items lines)

-- The smallest lines so far: all of them, where there was no answer yet, or lines that were answered to fail.
abbrev pub AreSmallestSoFar : {R W : Type 0} → (W → Option (List ℕ)) → (R → Option (List ℕ)) →
    (begun mid : Conversation R W) → (whole lines : List (List ℕ)) → Type 0
AreSmallestSoFar contents remaining begun mid whole lines =
    ((mid ≡ begun) × (lines ≡ whole))
    ⊎ StillFails (SaysTry contents remaining) begun mid whole lines (most_asked whole 4000)

-- These were the smallest lines so far, when there was no answer about a candidate, for this reason. The candidate is a
-- part of all lines, with some words made smaller.
abbrev pub StoppedBehind : {R W : Type 0} → (W → Option (List ℕ)) → (R → Option (List ℕ)) →
    (begun after : Conversation R W) → (whole lines : List (List ℕ)) → Unanswered → Type 0
StoppedBehind {R} {W} contents remaining begun after whole lines why =
    (mid : Conversation R W) × AreSmallestSoFar contents remaining begun mid whole lines
    × ((candidate : List (List ℕ)) × HasSmallerPart whole candidate
    × StopsTalk contents remaining mid candidate why after)

-- By what was answered about the lines behind the first: the smallest lines, by the candidates and the answers about
-- them, were written; the one candidate, all lines, passed; the answers ended, and the smallest lines so far were
-- written; or an answer was none, and the number of its candidate is told.
abbrev pub Converses : {R W : Type 0} → (W → Option (List ℕ)) → (R → Option (List ℕ)) → Conversation R W →
    List (List ℕ) → Result Shrunk ShrinkFault → Conversation R W → Type 0
Converses {R} {W} contents remaining begun whole (Ok Smallest) after =
    (mid : Conversation R W) × (lines : List (List ℕ))
    × IsSmallest (SaysTry contents remaining) begun mid whole lines (most_asked whole 4000)
    × TellsSmallest contents mid after lines
Converses contents remaining begun whole (Ok Passes) after = SaysTry contents remaining begun whole false after
Converses {R} {W} contents remaining begun whole (Err Ended) after =
    (last : Conversation R W) × (lines : List (List ℕ))
    × StoppedBehind contents remaining begun last whole lines Unanswered.Ended
    × TellsSmallest contents last after lines
Converses contents remaining begun whole (Err (BadAnswer number)) after =
    (number ≡ after.tries)
    × ((lines : List (List ℕ)) × StoppedBehind contents remaining begun after whole lines Unanswered.BadAnswer)
Converses contents remaining begun whole (Err (Script fault)) after = ⊥
Converses contents remaining begun whole (Err fault) after = Unit {0}

-- By how it ended: the script wasn't read, for this reason, and nothing was written; or it is its first line and
-- others, and this is what was said about these.
abbrev pub ShrinksText : {R W : Type 0} → (W → Option (List ℕ)) → (R → Option (List ℕ)) →
    (input left : Option (List ℕ)) → Conversation R W → Result Shrunk ShrinkFault → Conversation R W → Type 0
ShrinksText contents remaining input left old (Err (Script fault)) after =
    (after ≡ old) × IsUnreadScript fault input left
ShrinksText {R} {W} contents remaining input left old result after =
    IsAtEnd left
    × IfSome input (λ bytes. (first : List ℕ) × (whole : List (List ℕ)) × (bytes ≡ whole_script first whole)
    × ((begun : Conversation R W) × BeginsTalk old first begun × Converses contents remaining begun whole result after))
