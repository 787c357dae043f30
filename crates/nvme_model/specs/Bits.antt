-- Truth as a number, in entries and in what programs are told.
use Rattle.std.specs.Prelude.{Bool, if◌then◌else◌, ℕ}

-- 1 for yes, 0 for no
abbrev pub bit : Bool → ℕ
bit b = if b then 1 else 0
