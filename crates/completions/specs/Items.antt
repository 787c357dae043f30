-- At most two values, as a list.
use Rattle.std.specs.Prelude.{List, [], ◌∷◌, ◌≡◌, refl}
use Rattle.completions.specs.declared.list.Left.{Left}
use Rattle.completions.specs.declared.list.Left.TheVariants.{Nothing, One, Two}
use Rattle.completions.specs.declared.list.AtMostTwo.TheInside.{Inside}

module _ {X : Type 0} where
  -- the values, first to last
  abbrev pub items_of : Left X → List X
  items_of Nothing = []
  items_of (One x) = x ∷ []
  items_of (Two x y) = x ∷ y ∷ []

  -- the values as they are kept, where they are two at most
  abbrev pub left_of : List X → Left X
  left_of [] = Nothing
  left_of (x ∷ []) = One x
  left_of (x ∷ (y ∷ _)) = Two x y

  -- what is kept is found from its list
  pub left_of-items_of : (o : Inside X) → record { left = left_of (items_of o.left) } ≡ o
  left_of-items_of o = elim o.left as (λ (k : Left X). record { left = left_of (items_of k) } ≡ record { left = k })
      [ Nothing ↦ refl | One x ↦ refl | Two x y ↦ refl ]
