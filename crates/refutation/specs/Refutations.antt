-- What is said to refute a trace: how many of its lines, and a slice of its commands.
use Rattle.std.specs.Prelude.{Bool, List, None, Option, Some, [], length, nat_lt, slice_get, true, ℕ, ◌&&◌, ◌++◌, ◌-◌}
use Rattle.std.specs.Prelude.{◌<◌, ◌==◌, ◌^◌, ◌||◌, ◌∷◌, ◌≡◌}
use Rattle.std.specs.List.{AllByRecursion}

-- A refutation: the first so many lines of a trace have no history, for what the last of them is, or for these
-- commands, each a submission queue and its entry there from 0, by what these blocks hold.
pub record Refutation : Type 0 where
  pub lines : ℕ
  pub blocks : List ℕ
  pub commands : List (ℕ × ℕ)

-- ---- their order

-- A command comes before another: by its queue, then by its entry.
abbrev pub is_before : ℕ × ℕ → ℕ × ℕ → Bool
is_before m n = nat_lt m.0 n.0 || ((m.0 == n.0) && nat_lt m.1 n.1)

-- x is behind the one that is there, if any is.
abbrev pub is_behind : {A : Type 0} → (A → A → Bool) → Option A → A → Bool
is_behind before None x = true
is_behind before (Some y) x = before y x

-- Each of these is behind the one before it, the first behind this one.
abbrev pub rises : {A : Type 0} → (A → A → Bool) → Option A → List A → Bool
rises before last [] = true
rises before last (x ∷ xs) = is_behind before last x && rises before (Some x) xs

-- the last one
abbrev pub last_of : {A : Type 0} → List A → Option A
last_of xs = slice_get xs (length xs - 1)

-- Blocks and commands rise, and all numbers have their bits: 16 for a queue, 64 for any other.
pub record IsRefutation (r : Refutation) : Type 0 where
  pub blocks_rise : rises nat_lt None r.blocks ≡ true
  pub commands_rise : rises is_before None r.commands ≡ true
  pub lines_fit : r.lines < 2 ^ 64
  pub blocks_fit : AllByRecursion (λ b. b < 2 ^ 64) r.blocks
  pub commands_fit : AllByRecursion (λ m. (m.0 < 2 ^ 16) × (m.1 < 2 ^ 64)) r.commands

-- ---- growing

-- The refutation by the last of so many lines.
abbrev pub of_lines : ℕ → Refutation
of_lines lines = record { lines = lines; blocks = []; commands = [] }

-- A block may stand behind those that are there: it is above them, and no command is there.
abbrev pub may_add_block : Refutation → ℕ → Bool
may_add_block r b = (length r.commands == 0) && is_behind nat_lt (last_of r.blocks) b

-- One block more.
abbrev pub with_block : Refutation → ℕ → Refutation
with_block r b = record { lines = r.lines; blocks = r.blocks ++ b ∷ []; commands = r.commands }

-- A command may stand behind those that are there.
abbrev pub may_add_command : Refutation → ℕ × ℕ → Bool
may_add_command r m = is_behind is_before (last_of r.commands) m

-- One command more.
abbrev pub with_command : Refutation → ℕ × ℕ → Refutation
with_command r m = record { lines = r.lines; blocks = r.blocks; commands = r.commands ++ m ∷ [] }
