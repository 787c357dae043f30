-- A few effects of a trace, by numbers: what each has to find, and which come before it.
use Rattle.std.specs.Prelude.{Bool, List, ℕ}

-- A block that is looked at, by its number, and what it holds.
abbrev pub Held : Type 0
Held = ℕ × List ℕ

-- One effect of a slice.
pub record Piece : Type 0 where
  -- each history has it; else a history may be without it
  pub sure : Bool
  -- the numbers of the slice's pieces that come before it, where they are at all
  pub behind : List ℕ
  -- what the last piece before it that writes or finds a block leaves there, or what was there, where none does
  pub finds : List Held
  -- of each of these lists one block holds something else
  pub differs : List (List Held)
  -- what it leaves on blocks
  pub writes : List Held

-- A slice: its pieces by their numbers, from 0.
abbrev pub Slice : Type 0
Slice = List Piece
