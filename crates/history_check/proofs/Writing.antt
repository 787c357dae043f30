-- The blocks after an effect that writes.
use Rattle.std.proofs.Common.{◌≡◌, ℕ, ◌+◌, ◌<◌, true, ◌&&◌, arith, nat_le, nat_lt, le-leb, lt-ltb}
use Rattle.std.proofs.lemmas.Bool.{and_from}

-- what a block of the range lies in
pub lies_in : (s n p lba : ℕ) → lba ≡ s + p → p < n → (nat_le s lba && nat_lt lba (s + n)) ≡ true
lies_in s n p lba e l = and_from _ _ (le-leb s lba (omega (arith, e))) (lt-ltb lba (s + n) (omega (arith, e, l)))
