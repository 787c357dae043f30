-- The kinds of lines that a text names.
use Rattle.std.specs.Prelude.{ℕ, List, [], ◌∷◌, Option, Some, ◌==◌, codes, option_and_then}
use Rattle.std.specs.Int.RustNames.{bit_or}
use Rattle.std.specs.List.{slice_split}
use Rattle.bitflags.specs.Sets.{find_name, Row}

-- each kind, by the name that its lines begin with, and its bit
abbrev pub kinds_table : List Row
kinds_table =
    (codes "publish", 1) ∷ (codes "fetch", 2) ∷ (codes "grant", 4) ∷ (codes "block", 8)
    ∷ (codes "post", 16) ∷ (codes "reap", 32) ∷ (codes "refused", 64) ∷ (codes "medium", 128) ∷ []

-- these kinds and those that the names say, where each name is that of a kind
unfoldable pub kinds_after : ℕ → List (List ℕ) → Option ℕ
kinds_after kinds [] = Some kinds
kinds_after kinds (name ∷ names) =
    option_and_then (λ kind. kinds_after (bit_or kinds kind) names) (find_name kinds_table name)

-- the kinds that a text names, joined by commas
abbrev pub kinds_in : List ℕ → Option ℕ
kinds_in text = kinds_after 0 (slice_split (λ b. b == 44) text)
