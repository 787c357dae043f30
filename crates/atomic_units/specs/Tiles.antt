-- What a list of ranges covers.
use Rattle.std.specs.List.{list_all}
use Rattle.std.specs.Prelude.{Bool, List, [], ℕ, ◌+◌, ◌-◌, ◌∷◌, ◌≡◌, ◌≤◌}
use Rattle.nvme_model.specs.Cells.{is_atomic}
use Rattle.nvme_model.specs.declared.array.Range.{Range}
use Rattle.nvme_model.specs.declared.config.AtomicParameters.{AtomicParameters}

-- The ranges adjoin in order, none is empty, and together they are the n blocks from s.
abbrev pub Adjoin : ℕ → ℕ → List Range → Type 0
Adjoin s n [] = n ≡ 0
Adjoin s n (r ∷ rs) = (r.slba ≡ s) × (1 ≤ r.blocks) × (r.blocks ≤ n) × Adjoin (s + r.blocks) (n - r.blocks) rs

-- each range can be one unit
abbrev pub all_atomic : AtomicParameters → List Range → Bool
all_atomic u rs = list_all (λ r. is_atomic u r.slba r.blocks) rs
