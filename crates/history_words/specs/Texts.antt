-- Parts of what is told.
use Rattle.std.specs.Prelude.{List, [], codes, decimal, if◌then◌else◌, ℕ, ◌==◌, ◌∷◌}
use Rattle.std.specs.List.{concat}

-- these blocks: `block 3`, or `4 blocks from 3`
abbrev pub blocks_told : (slba blocks : ℕ) → List ℕ
blocks_told slba blocks =
    if blocks == 1 then concat (codes "block " ∷ decimal slba ∷ [])
    else concat (decimal blocks ∷ codes " blocks from " ∷ decimal slba ∷ [])

-- a field with its name, where it isn't zero
abbrev pub where_set : List ℕ → ℕ → List ℕ
where_set name field = if field == 0 then [] else concat (codes ", " ∷ name ∷ codes " " ∷ decimal field ∷ [])
