-- Tables by place.
use Rattle.std.specs.Prelude.{List, get_or, length, ℕ, ◌<◌, ◌≡◌}

-- the list is what f says of each place below n
pub record IsTable {X : Type 0} (f : ℕ → X) (n : ℕ) (xs : List X) : Type 0 where
  pub size : length xs ≡ n
  pub at : (k : ℕ) (d : X) → k < n → get_or xs k d ≡ f k
