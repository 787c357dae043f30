-- How a command is cut into units. The cut is this profile's own.
use Rattle.std.specs.Prelude.{IsFalse, IsTrue, List, [], if◌then◌else◌, suc, zero, ℕ, ◌+◌, ◌-◌, ◌<◌, ◌∷◌, ◌≡◌, ◌≤◌}
use Rattle.nvme_model.specs.Cells.{is_atomic}
use Rattle.nvme_model.specs.declared.array.Range.{Range}
use Rattle.nvme_model.specs.declared.config.AtomicParameters.{AtomicParameters}

-- The ranges adjoin, are the n blocks from s, are atomic, and none stays atomic with the next one's first block.
abbrev pub IsCut : AtomicParameters → ℕ → ℕ → List Range → Type 0
IsCut u s n [] = n ≡ 0
IsCut u s n (r ∷ rs) =
    (r.slba ≡ s) × (r.blocks ≤ n) × IsTrue (is_atomic u s r.blocks)
    × (r.blocks < n → IsFalse (is_atomic u s (suc r.blocks)))
    × IsCut u (s + r.blocks) (n - r.blocks) rs

-- the most blocks from s that are atomic, at most n
abbrev pub longest : AtomicParameters → ℕ → ℕ → ℕ
longest u s zero = 0
longest u s (suc n) = if is_atomic u s (suc n) then suc n else longest u s n

-- at most k ranges, each the longest
abbrev pub cut_within : ℕ → AtomicParameters → ℕ → ℕ → List Range
cut_within k u s zero = []
cut_within zero u s (suc n) = []
cut_within (suc k) u s (suc n) =
    record { slba = s; blocks = longest u s (suc n) }
    ∷ cut_within k u (s + longest u s (suc n)) (suc n - longest u s (suc n))

-- the one list that is a cut, for computing (`one_cut` of the laws says so)
abbrev pub cut : AtomicParameters → ℕ → ℕ → List Range
cut u s n = cut_within n u s n
