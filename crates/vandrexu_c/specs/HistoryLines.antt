-- What a call that asks for lines of a history answers.
use Rattle.std.specs.Prelude.{List, [], drop, length, ℕ, ◌+◌, ◌++◌, ◌<◌, ◌≡◌, ◌≢◌, ◌≤◌}
use Rattle.c_handles.specs.Pieces.{text_of_first}

-- The first so many of these lines, which begin at `from`, are copied, and the rest of the room is as before: at least
-- one of them where there is one, and as many as fit.
pub record CopiesLines (lines : List (List ℕ)) (from : ℕ) (old new : List ℕ) (needed next : ℕ) : Type 0 where
  pub count : ℕ
  pub there : count ≤ length lines
  pub next_is : next ≡ from + count
  pub needed_is : needed ≡ length (text_of_first count lines)
  pub fits : needed ≤ length old
  pub copied : new ≡ text_of_first count lines ++ drop needed old
  pub some : lines ≢ [] → 0 < count
  pub most : count < length lines → length old < length (text_of_first (count + 1) lines)

-- not the first of these lines fits into this room, and how many bytes it has is told
pub record LacksRoomForLine (lines : List (List ℕ)) (room needed : ℕ) : Type 0 where
  pub there : lines ≢ []
  pub needed_is : needed ≡ length (text_of_first 1 lines)
  pub short : room < needed
