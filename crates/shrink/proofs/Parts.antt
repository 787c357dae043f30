-- Lines of which some are left out, and some have words made smaller.
use Rattle.std.proofs.Common.{ℕ, zero, suc, ◌≤◌, List, [], ◌∷◌, ◌++◌, length, inl, inr}
use Rattle.std.proofs.Common.{arith}
use Rattle.std.specs.Prelude.{remove}
use Rattle.shrink.specs.Smaller.{HasSmallerPart, IsSmallerLine}
use Rattle.shrink.proofs.Orders.{line_refl, line_trans}

-- no lines are a part
pub part_none : (ys : List (List ℕ)) → HasSmallerPart ys []
unfolding HasSmallerPart
part_none [] = tt
part_none (y ∷ ys) = tt

-- the whole is a part
pub part_refl : (xs : List (List ℕ)) → HasSmallerPart xs xs
unfolding HasSmallerPart
part_refl [] = tt
part_refl (x ∷ xs) = inr (line_refl x, part_refl xs)

-- one more line in front
part_skip : (y : List ℕ) (ys xs : List (List ℕ)) → HasSmallerPart ys xs → HasSmallerPart (y ∷ ys) xs
unfolding HasSmallerPart
part_skip y ys [] h = tt
part_skip y ys (x ∷ xs) h = inl h

-- a part of a part is one
pub part_trans : (zs ys xs : List (List ℕ)) → HasSmallerPart zs ys → HasSmallerPart ys xs → HasSmallerPart zs xs
unfolding HasSmallerPart
part_trans [] [] xs h k = k
part_trans [] (y ∷ ys) xs h k = absurd h
part_trans (z ∷ zs) [] [] h k = tt
part_trans (z ∷ zs) [] (x ∷ xs) h k = absurd k
part_trans (z ∷ zs) (y ∷ ys) [] h k = tt
part_trans (z ∷ zs) (y ∷ ys) (x ∷ xs) (inl h) k = inl (part_trans zs (y ∷ ys) (x ∷ xs) h k)
part_trans (z ∷ zs) (y ∷ ys) (x ∷ xs) (inr h) (inl k) = inl (part_trans zs ys (x ∷ xs) h.1 k)
part_trans (z ∷ zs) (y ∷ ys) (x ∷ xs) (inr h) (inr k) = inr (line_trans x y z k.0 h.0, part_trans zs ys xs h.1 k.1)

-- a line more that is left out
pub part_more : (ys xs : List (List ℕ)) (y : List ℕ) → HasSmallerPart ys xs → HasSmallerPart (ys ++ y ∷ []) xs
unfolding HasSmallerPart
part_more [] [] y h = tt
part_more [] (x ∷ xs) y h = absurd h
part_more (z ∷ zs) [] y h = tt
part_more (z ∷ zs) (x ∷ xs) y (inl h) = inl (part_more zs (x ∷ xs) y h)
part_more (z ∷ zs) (x ∷ xs) y (inr h) = inr (h.0, part_more zs xs y h.1)

-- a line more, the same or smaller
pub part_both : (ys xs : List (List ℕ)) (x y : List ℕ) → HasSmallerPart ys xs → IsSmallerLine x y
    → HasSmallerPart (ys ++ y ∷ []) (xs ++ x ∷ [])
unfolding HasSmallerPart
part_both [] [] x y h s = inr (s, tt)
part_both [] (w ∷ ws) x y h s = absurd h
part_both (z ∷ zs) [] x y h s = inl (part_both zs [] x y (part_none zs) s)
part_both (z ∷ zs) (w ∷ ws) x y (inl h) s = inl (part_both zs (w ∷ ws) x y h s)
part_both (z ∷ zs) (w ∷ ws) x y (inr h) s = inr (h.0, part_both zs ws x y h.1 s)

-- the same line more
pub part_same : (ys xs : List (List ℕ)) (y : List ℕ) → HasSmallerPart ys xs
    → HasSmallerPart (ys ++ y ∷ []) (xs ++ y ∷ [])
part_same ys xs y h = part_both ys xs y y h (line_refl y)

-- all lines but one
pub part_without : (xs : List (List ℕ)) (k : ℕ) → HasSmallerPart xs (remove xs k)
unfolding HasSmallerPart
part_without [] zero = tt
part_without [] (suc k) = tt
part_without (x ∷ xs) zero = part_skip x xs xs (part_refl xs)
part_without (x ∷ xs) (suc k) = inr (line_refl x, part_without xs k)

-- a part isn't longer
pub part_length : (ys xs : List (List ℕ)) → HasSmallerPart ys xs → length xs ≤ length ys
unfolding HasSmallerPart
part_length [] [] h = omega arith
part_length [] (x ∷ xs) h = absurd h
part_length (y ∷ ys) [] h = omega arith
part_length (y ∷ ys) (x ∷ xs) (inl h) = omega (arith, part_length ys (x ∷ xs) h)
part_length (y ∷ ys) (x ∷ xs) (inr h) = omega (arith, part_length ys xs h.1)
