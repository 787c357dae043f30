-- The columns of a picture, read off the entries alone.
use Rattle.std.specs.Prelude.{List, None, Option, Some, [], if◌then◌else◌, length, nat_lt, ℕ, ◌++◌, ◌+◌, ◌∷◌}
use Rattle.nvme_model.specs.FirstBad.{first_bad_of}
use Rattle.nvme_model.specs.History.{Past}
use Rattle.nvme_model.specs.declared.config.ConfigNumbers.{ConfigNumbers}
use Rattle.nvme_model.specs.declared.entry.Entry.{Entry}
use Rattle.picture_shapes.specs.Picture.{head_of}
use Rattle.picture_shapes.specs.declared.head.Head.{Head}

-- the head of the entry at a place, where it is from `from` to `to` and no bad one stands before it
abbrev pub column_of : (from to place : ℕ) → Entry → Option ℕ → List Head
column_of from to place e (Some k) = []
column_of from to place e None =
    if nat_lt to place then [] else if nat_lt place from then [] else head_of place e ∷ []

-- The heads of the entries from one place to another, none behind the first bad one, in their order.
abbrev pub columns_of : ConfigNumbers → (from to : ℕ) → Past → List Head
columns_of c from to [] = []
columns_of c from to (e ∷ past) =
    columns_of c from to past ++ column_of from to (length past + 1) e (first_bad_of c past)
