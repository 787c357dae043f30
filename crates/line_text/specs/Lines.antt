-- Lines, each ended by one line feed, and what a call of a reader of lines does.
use Rattle.std.specs.Prelude.{◌≡◌, ◌≢◌, ℕ, List, [], ◌∷◌, ◌++◌, Option, Bool, true, false, ◌==◌, if◌then◌else◌}
use Rattle.std.specs.List.{AllByRecursion}
use Rattle.std.specs.Io.KnownBytes.{Consumes, IsAtEnd}
use Rattle.line_text.specs.declared.lines.NextLine.{NextLine}
use Rattle.line_text.specs.declared.lines.NextLine.TheVariants.{Whole, Rest}

-- no byte is a line feed
abbrev pub NoFeed : List ℕ → Type 0
NoFeed bytes = AllByRecursion (λ x. x ≢ 10) bytes

-- ---- the lines of an input

-- the lines of `front` and then the input that a line feed ends, without it
unfoldable pub lines_after : List ℕ → List ℕ → List (List ℕ)
lines_after front [] = []
lines_after front (b ∷ bs) = if b == 10 then front ∷ lines_after [] bs else lines_after (front ++ b ∷ []) bs

-- what stands behind the last line feed of `front` and then the input
unfoldable pub rest_after : List ℕ → List ℕ → List ℕ
rest_after front [] = front
rest_after front (b ∷ bs) = if b == 10 then rest_after [] bs else rest_after (front ++ b ∷ []) bs

-- the lines of an input that a line feed ends, without it
abbrev pub whole_lines : List ℕ → List (List ℕ)
whole_lines input = lines_after [] input

-- what stands behind the last line feed of an input
abbrev pub rest_line : List ℕ → List ℕ
rest_line input = rest_after [] input

-- the lines, each with a line feed behind it
unfoldable pub with_feeds : List (List ℕ) → List ℕ
with_feeds [] = []
with_feeds (line ∷ lines) = line ++ (10 ∷ with_feeds lines)

-- ---- what a call does

-- the bytes before the first line feed, or all of them where there is none
abbrev pub IsPiece : Bool → List ℕ → List ℕ → List ℕ → Type 0
IsPiece true before after piece = (before ≡ piece ++ 10 ∷ after) × NoFeed piece
IsPiece false before after piece = (before ≡ piece) × (after ≡ []) × NoFeed piece

-- a reader gave some bytes
abbrev pub Loses : Option (List ℕ) → Option (List ℕ) → Type 0
Loses old new = (bytes : List ℕ) × Consumes old new bytes

-- a reader gave some bytes: what was held before and these are what was given and what is held now
pub record GivesBytes (old new : Option (List ℕ)) (before after given : List ℕ) : Type 0 where
  pub bytes : List ℕ
  pub consumed : Consumes old new bytes
  pub moved : before ++ bytes ≡ given ++ after

-- a line, or what stands behind the last one
abbrev pub GivesLine : NextLine → Option (List ℕ) → Option (List ℕ) → List ℕ → List ℕ → List ℕ → Type 0
GivesLine Whole old new before after line = GivesBytes old new before after (line ++ 10 ∷ []) × NoFeed line
GivesLine Rest a b before after line = GivesBytes a b before after line × NoFeed line × (after ≡ []) × IsAtEnd b

-- a beginning of a line
abbrev pub GivesFront : Option (List ℕ) → Option (List ℕ) → List ℕ → List ℕ → List ℕ → Type 0
GivesFront old new before after line = GivesBytes old new before after line × NoFeed line
