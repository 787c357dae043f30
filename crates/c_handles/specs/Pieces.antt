-- Some lines of a text, from a place on.
use Rattle.std.specs.Prelude.{List, Some, [], cond, drop, length, reverse, slice_get, suc, take, zero, ℕ, ◌+◌, ◌++◌}
use Rattle.std.specs.Prelude.{◌<◌, ◌==◌, ◌∷◌, ◌≡◌, ◌≤◌, ◌⊎◌}
use Rattle.controller_interface.specs.State.{ControllerState}
use Rattle.history.specs.ConfigLine.{config_line}
use Rattle.history.specs.Texts.{history_lines}
use Rattle.line_text.specs.Lines.{with_feeds}
use Rattle.c_handles.specs.declared.pieces.Piece.{Piece}

-- the lines of a controller's history from this place on: place 0 is the configuration's, place k the k-th entry's
abbrev pub lines_from : ControllerState → ℕ → List (List ℕ)
lines_from s place = drop place (history_lines s.config (reverse s.past))

-- the line at this place was forgotten
abbrev pub IsForgotten : ControllerState → ℕ → Type 0
IsForgotten s place = (0 < place) × (place ≤ s.forgotten)

-- Those of them that are told: from the configuration's line on only that, where the entry behind it was forgotten.
abbrev pub lines_told : ControllerState → ℕ → List (List ℕ)
lines_told s zero = cond (s.forgotten == 0) (lines_from s 0) (config_line s.config ∷ [])
lines_told s (suc k) = lines_from s (suc k)

-- the line at this place was added to a text, with its line feed
pub record AddsLine (lines : List (List ℕ)) (place : ℕ) (old new : List ℕ) : Type 0 where
  pub line : List ℕ
  pub is : slice_get lines place ≡ Some line
  pub added : new ≡ old ++ (line ++ 10 ∷ [])

-- the text of the first so many of these lines, each with its line feed
abbrev pub text_of_first : ℕ → List (List ℕ) → List ℕ
text_of_first n lines = with_feeds (take n lines)

-- The first so many of these lines fit into this room, and the next one doesn't, where there is one. The piece has
-- their text, then the text of the next one, and the place of that: these lines begin at `from`.
pub record IsPiece (lines : List (List ℕ)) (from room : ℕ) (p : Piece) : Type 0 where
  pub count : ℕ
  pub there : count ≤ length lines
  pub next : p.next ≡ from + count
  pub fit : p.fit ≡ length (text_of_first count lines)
  pub fits : p.fit ≤ room
  pub within : p.fit ≤ length p.text.items
  pub begins : take p.fit p.text.items ≡ text_of_first count lines
  pub ends : ((count ≡ length lines) × (p.text.items ≡ text_of_first count lines))
      ⊎ ((count < length lines) × (p.text.items ≡ text_of_first (count + 1) lines) × (room < length p.text.items))
