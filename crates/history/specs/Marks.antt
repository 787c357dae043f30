-- The words for how blocks are held, what was found, and which entry is a unit's effect.
use Rattle.std.specs.Prelude.{ℕ, Bool, true, false, List, Option, Some, None, if◌then◌else◌, codes}
use Rattle.std.specs.Str.{bytes_eq}
use Rattle.nvme_model.specs.declared.array.Mode.{Mode}
use Rattle.nvme_model.specs.declared.operation.Found.{Found}

-- how a unit holds its blocks
abbrev pub mode_word : Mode → List ℕ
mode_word Mode.Shared = codes "r"
mode_word Mode.Exclusive = codes "w"

-- the mode of a word
abbrev pub mode_in : List ℕ → Option Mode
mode_in word =
    if bytes_eq word (codes "r") then Some Mode.Shared
    else if bytes_eq word (codes "w") then Some Mode.Exclusive
    else None

-- what a Block step found
abbrev pub found_word : Found → List ℕ
found_word Found.Read = codes "read"
found_word Found.Equal = codes "equal"
found_word Found.Differs = codes "differs"
found_word Found.Written = codes "written"

-- what was found, by its word
abbrev pub found_in : List ℕ → Option Found
found_in word =
    if bytes_eq word (codes "read") then Some Found.Read
    else if bytes_eq word (codes "equal") then Some Found.Equal
    else if bytes_eq word (codes "differs") then Some Found.Differs
    else if bytes_eq word (codes "written") then Some Found.Written
    else None

-- the mark of a unit's effect
abbrev pub mark_word : Bool → List ℕ
mark_word true = codes "*"
mark_word false = codes "-"

-- whether a word marks a unit's effect
abbrev pub mark_in : List ℕ → Option Bool
mark_in word =
    if bytes_eq word (codes "*") then Some true
    else if bytes_eq word (codes "-") then Some false
    else None
