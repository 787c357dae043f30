-- What an effect may have found on a block.
use Rattle.std.specs.Prelude.{Bool, List, if◌then◌else◌, not, ℕ}
use Rattle.std.specs.Str.{bytes_eq}

-- these are the bytes, or, where it is asked so, others
abbrev pub fits : Bool → List ℕ → List ℕ → Bool
fits other bytes d = if other then not (bytes_eq d bytes) else bytes_eq d bytes
