-- How far lines were made small.
use Rattle.std.specs.Prelude.{ℕ, Bool, List, [], ◌∷◌, remove, length, Result, Ok, Err, ◌≡◌, ◌≤◌, ◌<◌, ◌+◌, ◌*◌, ◌⊎◌}
use Rattle.shrink.specs.Asked.{AskedCandidate, AsksTo, WasFailing, WasPassing}
use Rattle.shrink.specs.Smaller.{HasSmallerPart}
use Rattle.shrink.specs.declared.question.Unanswered.{Unanswered}
use Rattle.shrink.specs.declared.question.Unanswered.TheVariants.{NoMemory}
use Rattle.shrink.specs.declared.shrinking.Shrunk.{Shrunk}
use Rattle.shrink.specs.declared.shrinking.Shrunk.TheVariants.{Passes, Smallest}

-- Nothing else was asked about than parts of the whole, with some words made smaller.
abbrev pub AreParts : List (List ℕ) → List AskedCandidate → Type 0
AreParts whole [] = Unit {0}
AreParts whole (a ∷ past) = HasSmallerPart whole a.lines × AreParts whole past

-- The lines are a part of the whole with some words made smaller, and were answered to fail; at most so many things
-- were asked since the first state of the question, each about such a part.
pub record StillFails {Q : Type 0} (asks : Q → List (List ℕ) → Bool → Q → Type 0) (first after : Q)
    (whole lines : List (List ℕ)) (count : ℕ) : Type 0 where
  pub asked : List AskedCandidate
  pub run : AsksTo asks first asked after
  pub parts : AreParts whole asked
  pub fails : WasFailing asked lines
  pub part : HasSmallerPart whole lines
  pub few : length asked ≤ count

-- Besides, none of the lines from one place to before another can be left out: without each of them the lines were
-- answered to pass.
pub record AreNeeded {Q : Type 0} (asks : Q → List (List ℕ) → Bool → Q → Type 0) (first after : Q)
    (whole lines : List (List ℕ)) (count from to : ℕ) : Type 0 where
  pub asked : List AskedCandidate
  pub run : AsksTo asks first asked after
  pub parts : AreParts whole asked
  pub fails : WasFailing asked lines
  pub part : HasSmallerPart whole lines
  pub few : length asked ≤ count
  pub needed : (k : ℕ) → from ≤ k → k < to → WasPassing asked (remove lines k)

-- The lines were answered to fail, are a part of the whole with some words made smaller, and no single line of them can
-- be left out; at most so many things were asked.
abbrev pub IsSmallest : {Q : Type 0} → (Q → List (List ℕ) → Bool → Q → Type 0) → (first after : Q) →
    (whole lines : List (List ℕ)) → ℕ → Type 0
IsSmallest asks first after whole lines count = AreNeeded asks first after whole lines count 0 (length lines)

-- Lines that fail were found so far, and then there was no answer about a part of the whole, for this reason; or there
-- was no memory to ask about one.
pub record Stopped {Q : Type 0} (asks : Q → List (List ℕ) → Bool → Q → Type 0)
    (stops : Q → List (List ℕ) → Unanswered → Q → Type 0) (first after : Q) (whole lines : List (List ℕ)) (count : ℕ)
    (why : Unanswered) : Type 0 where
  pub mid : Q
  pub before : StillFails asks first mid whole lines count
  pub last : ((mid ≡ after) × (why ≡ NoMemory))
      ⊎ ((candidate : List (List ℕ)) × HasSmallerPart whole candidate × stops mid candidate why after)

-- lines that fail were found, or there was no answer
abbrev pub GoesOn : {Q A : Type 0} → (Q → List (List ℕ) → Bool → Q → Type 0) →
    (Q → List (List ℕ) → Unanswered → Q → Type 0) → (first after : Q) → (whole lines : List (List ℕ)) → ℕ →
    Result A Unanswered → Type 0
GoesOn asks stops first after whole lines count (Ok x) = StillFails asks first after whole lines count
GoesOn asks stops first after whole lines count (Err why) = Stopped asks stops first after whole lines count why

-- The most questions about lines: one about all of them, so many about smaller ones, and for single lines as many as
-- the product of the number of lines and the next number.
abbrev pub most_asked : List (List ℕ) → ℕ → ℕ
most_asked whole tries = 1 + tries + length whole * (length whole + 1)

-- By what was answered: the smallest lines; or the lines as they were, which passed; or the lines as they were, with no
-- answer about them, or the smallest so far, with no answer about some others.
abbrev pub ShrinksLines : {Q : Type 0} → (Q → List (List ℕ) → Bool → Q → Type 0) →
    (Q → List (List ℕ) → Unanswered → Q → Type 0) → (first after : Q) → (whole lines : List (List ℕ)) → ℕ →
    Result Shrunk Unanswered → Type 0
ShrinksLines asks stops first after whole lines tries (Ok Smallest) =
    IsSmallest asks first after whole lines (most_asked whole tries)
ShrinksLines asks stops first after whole lines tries (Ok Passes) =
    (lines ≡ whole) × asks first whole Bool.false after
ShrinksLines asks stops first after whole lines tries (Err why) =
    ((lines ≡ whole) × stops first whole why after)
    ⊎ Stopped asks stops first after whole lines (most_asked whole tries) why
