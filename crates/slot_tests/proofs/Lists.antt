-- A list without one of its elements, and with one more.
use Rattle.std.proofs.Common.{◌≡◌, ◌<◌, ℕ, Bool, true, false, List, [], ◌∷◌, All, arith, length, ◌-◌, slice_index_or}
use Rattle.std.proofs.Common.{slice_set}
use Rattle.std.specs.Prelude.{if◌then◌else◌, ◌++◌}
use Rattle.std.specs.List.{swap_remove}
use Rattle.std.proofs.lemmas.List.Elements.{All-get_or, All-push, All-same, All-set, All-take}

pub all_but : {X : Type 0} (P : X → Type 0) (xs : List X) (i : ℕ) (d : X) → i < length xs → All P xs
    → All P (swap_remove xs i d)
all_but P xs i d less all =
    All-take P (length xs - 1) (slice_set xs i (slice_index_or xs (length xs - 1) d))
    (All-set P xs i (slice_index_or xs (length xs - 1) d)
    (All-get_or P xs (length xs - 1) d (omega (arith, less)) all) all)

-- and with one more, if it was put there
pub all_more : {X : Type 0} (P : X → Type 0) (b : Bool) (xs ys : List X) (x : X) → ys ≡ (if b then xs ++ x ∷ [] else xs)
    → All P xs → P x → All P ys
all_more P true xs ys x e all one = All-same P ys (xs ++ x ∷ []) e (All-push P xs x all one)
all_more P false xs ys x e all one = All-same P ys xs e all
