-- How a conversation ends.
use Rattle.std.proofs.Common.{◌≡◌, ◌∙◌, ◌∷◌, List, Option, None, Some, ℕ, Result, Ok, Err, ◌⊎◌, inl, inr, refl}
use Rattle.std.specs.Prelude.{IfSome}
use Rattle.std.specs.Io.KnownBytes.{IsAtEnd}
use Rattle.history.proofs.LinesOut.{feeds_next}
use Rattle.line_text.specs.Lines.{with_feeds}
use Rattle.shrink.specs.declared.shrinking.Shrunk.{Shrunk}
use Rattle.shrink.specs.declared.shrinking.Shrunk.TheVariants.{Passes, Smallest}
use Rattle.shrink.specs.TextShrinking.{BeginsTalk, Converses, ShrinksText, StoppedBehind}
use Rattle.shrink.specs.Talk.{SaysTry, StopsTalk}
use Rattle.shrink.specs.Texts.{whole_script}
use Rattle.shrink.specs.declared.conversation.Conversation.{Conversation}
use Rattle.shrink.specs.declared.fault.ShrinkFault.{ShrinkFault}
use Rattle.shrink.specs.declared.fault.ShrinkFault.TheVariants.{BadAnswer, Ended, Input, NoMemory, Output, Script}
use Rattle.shrink.specs.Shrinking.{ShrinksLines}
use Rattle.shrink.specs.Smaller.{HasSmallerPart}
use Rattle.shrink.specs.declared.question.Unanswered.{Unanswered}
use Rattle.shrink.specs.declared.question.Unanswered.TheVariants.{NoMemory as NoRoom}
use Rattle.shrink.proofs.Parts.{part_refl}

-- the candidate about which there was no answer, where memory wasn't wanting
candidate_of : {R W : Type 0} (contents : W → Option (List ℕ)) (remaining : R → Option (List ℕ))
    (mid after : Conversation R W) (whole : List (List ℕ)) (why : Unanswered) → (why ≡ NoRoom → ⊥)
    → ((mid ≡ after) × (why ≡ NoRoom))
    ⊎ ((candidate : List (List ℕ)) × HasSmallerPart whole candidate
    × StopsTalk contents remaining mid candidate why after)
    → (candidate : List (List ℕ)) × HasSmallerPart whole candidate
    × StopsTalk contents remaining mid candidate why after
candidate_of contents remaining mid after whole why other (inl h) = absurd (other h.1)
candidate_of contents remaining mid after whole why other (inr h) = h

-- the smallest lines so far, where there was no answer
pub stopped : {R W : Type 0} (contents : W → Option (List ℕ)) (remaining : R → Option (List ℕ))
    (begun after : Conversation R W) (whole lines : List (List ℕ)) (why : Unanswered) → (why ≡ NoRoom → ⊥)
    → ShrinksLines (SaysTry contents remaining) (StopsTalk contents remaining) begun after whole lines 4000 (Err why)
    → StoppedBehind contents remaining begun after whole lines why
stopped contents remaining begun after whole lines why other (inl h) =
    (begun, inl (refl, h.0), (whole, part_refl whole, h.1))
stopped contents remaining begun after whole lines why other (inr s) =
    (s.mid, inr s.before, candidate_of contents remaining s.mid after whole why other s.last)

module _ {R W : Type 0} (contents : W → Option (List ℕ)) (remaining : R → Option (List ℕ)) (old : Conversation R W)
    (first : List ℕ) (whole : List (List ℕ)) (begun after : Conversation R W) (b : BeginsTalk old first begun) where
  -- the script is known, where its bytes are
  known : (input : Option (List ℕ)) (r : Result Shrunk ShrinkFault)
      → IfSome input (λ bytes. bytes ≡ with_feeds (first ∷ whole))
      → Converses contents remaining begun whole r after
      → IfSome input (λ bytes. (f : List ℕ) × (w : List (List ℕ)) × (bytes ≡ whole_script f w)
      × ((d : Conversation R W) × BeginsTalk old f d × Converses contents remaining d w r after))
  known None r e k = tt
  known (Some xs) r e k = (first, whole, e ∙ feeds_next first whole, (begun, b, k))

  -- a conversation about the lines behind the first is one about the script
  pub told : (input left : Option (List ℕ)) (r : Result Shrunk ShrinkFault) → IsAtEnd left
      → IfSome input (λ bytes. bytes ≡ with_feeds (first ∷ whole)) → Converses contents remaining begun whole r after
      → ShrinksText contents remaining input left old r after
  told input left (Ok Smallest) end e k = (end, known input (Ok Smallest) e k)
  told input left (Ok Passes) end e k = (end, known input (Ok Passes) e k)
  told input left (Err (Script f)) end e k = absurd k
  told input left (Err (BadAnswer n)) end e k = (end, known input (Err (BadAnswer n)) e k)
  told input left (Err Ended) end e k = (end, known input (Err Ended) e k)
  told input left (Err Input) end e k = (end, known input (Err Input) e k)
  told input left (Err Output) end e k = (end, known input (Err Output) e k)
  told input left (Err NoMemory) end e k = (end, known input (Err NoMemory) e k)
