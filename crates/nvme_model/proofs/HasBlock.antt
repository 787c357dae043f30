-- The blocks of a range.
use Rattle.std.proofs.Common.{le-leb, lt-ltb, true, ℕ, ◌+◌, ◌<◌, ◌≡◌, ◌≤◌}
use Rattle.std.proofs.lemmas.Bool.{and_from}
use Rattle.nvme_model.specs.Array.{has_block}
use Rattle.nvme_model.specs.declared.array.Range.{Range}

pub has_inside : (r : Range) (l : ℕ) → r.slba ≤ l → l < r.slba + r.blocks → has_block r l ≡ true
has_inside r l a b = and_from _ _ (le-leb r.slba l a) (lt-ltb l (r.slba + r.blocks) b)
