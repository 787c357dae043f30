-- What a turn does to those at other places.
use Rattle.std.specs.Prelude.{IfSome, List, slice_get, ℕ, ◌≡◌, ◌≢◌}

module _ {A : Type 0} where
  -- The one at this place moved on so, and each other is what it was.
  pub record MovesAt (moves : A → A → Type 0) (place : ℕ) (old new : List A) : Type 0 where
    pub turn : IfSome (slice_get old place) (λ a. IfSome (slice_get new place) (moves a))
    pub others : (k : ℕ) → k ≢ place → slice_get new k ≡ slice_get old k
