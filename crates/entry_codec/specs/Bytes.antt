-- Bytes as numbers.
use Rattle.std.specs.Prelude.{All, List, ℕ, ◌<◌}

-- each of these numbers is a byte
abbrev pub IsBytes : List ℕ → Type 0
IsBytes bytes = All (λ b. b < 256) bytes
