-- The place, from 1, of the first entry with which a list of entries is no longer legal.
use Rattle.std.specs.Prelude.{ℕ, ◌≡◌, ◌+◌, ◌≤◌, ◌<◌, false, if◌then◌else◌, Option, Some, None, List, [], ◌∷◌, length}
use Rattle.std.specs.Prelude.{take, reverse}
use Rattle.nvme_model.specs.declared.config.ConfigNumbers.{ConfigNumbers}
use Rattle.nvme_model.specs.History.{Past}
use Rattle.nvme_model.specs.Legal.{may_follow, legal, IsLegalFile}
use Rattle.nvme_model.specs.declared.entry.Entry.{Entry}

-- The first `place` entries, the oldest first, aren't legal, and fewer are.
abbrev pub IsFirstBad : ConfigNumbers → List Entry → ℕ → Type 0
IsFirstBad c entries place =
    (1 ≤ place) × (place ≤ length entries) × (legal c (reverse (take place entries)) ≡ false)
    × ((k : ℕ) → k < place → IsLegalFile c (take k entries))

-- an earlier place, or this one
abbrev pub earlier_or : Option ℕ → Option ℕ → Option ℕ
earlier_or None later = later
earlier_or (Some place) later = Some place

-- the same of the entries, the newest first
abbrev pub first_bad_of : ConfigNumbers → Past → Option ℕ
first_bad_of c [] = None
first_bad_of c (e ∷ past) =
    earlier_or (first_bad_of c past) (if may_follow c past e then None else Some (length past + 1))

-- that place, for computing; None where the list is legal
abbrev pub first_bad : ConfigNumbers → List Entry → Option ℕ
first_bad c entries = first_bad_of c (reverse entries)
