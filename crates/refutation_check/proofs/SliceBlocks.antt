-- Lists of blocks, and what is made of them block by block.
use Rattle.std.proofs.Common.{Bool, List, [], ap, arith, get_or, length, map, suc, take, zero, ℕ, ◌++◌, ◌+◌, ◌<◌, ◌∙◌}
use Rattle.std.proofs.Common.{◌∷◌, ◌≡◌}
use Rattle.std.specs.List.{filter}
use Rattle.std.proofs.lemmas.List.{map_more}
use Rattle.std.proofs.lemmas.List.Elements.{filter-append}
use Rattle.nvme_model.specs.Array.{blocks_from}

-- one more block of a range
pub from_more : (s n : ℕ) → blocks_from s (n + 1) ≡ blocks_from s n ++ (s + n) ∷ []
from_more s n = ap (blocks_from s) (plus n) ∙ go s n
  where
    plus : (n : ℕ) → n + 1 ≡ suc n
    plus n = omega arith

    go : (s n : ℕ) → blocks_from s (suc n) ≡ blocks_from s n ++ (s + n) ∷ []
    go s zero = ap (λ (k : ℕ). k ∷ []) same
      where
        same : s ≡ s + 0
        same = omega arith
    go s (suc n) =
        ap (λ (ls : List ℕ). s ∷ ls) (go (suc s) n ∙ ap (λ (k : ℕ). blocks_from (suc s) n ++ k ∷ []) same)
      where
        same : suc s + n ≡ s + suc n
        same = omega arith

-- what is kept of what is made of one more
pub kept_more : {X Y : Type 0} (p : Y → Bool) (f : X → Y) (xs : List X) (i : ℕ) (d : X) → i < length xs
    → filter p (map f (take (i + 1) xs)) ≡ filter p (map f (take i xs)) ++ filter p (f (get_or xs i d) ∷ [])
kept_more p f xs i d l =
    ap (filter p) (map_more f xs i d l) ∙ filter-append p (map f (take i xs)) (f (get_or xs i d) ∷ [])
