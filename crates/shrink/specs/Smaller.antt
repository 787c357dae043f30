-- Lines that are a part of others, with words made smaller.
use Rattle.std.specs.Prelude.{ℕ, Bool, true, false, nat_lt, ◌==◌, ◌&&◌, ◌||◌, List, [], ◌∷◌, length, ◌≡◌, ◌<◌, ◌⊎◌}
use Rattle.std.specs.List.{slice_split}

-- whether a word stands before another of its length, or is the same: byte by byte, as numbers of one length do
unfoldable pub in_order : List ℕ → List ℕ → Bool
in_order [] other = true
in_order (b ∷ bs) [] = false
in_order (b ∷ bs) (c ∷ cs) = nat_lt b c || ((b == c) && in_order bs cs)

-- The word is the other, or a smaller one: shorter, or as long and before it in the order of bytes. So a number is
-- smaller than another as numbers are.
abbrev pub IsAtMost : List ℕ → List ℕ → Type 0
IsAtMost word other = (length word < length other) ⊎ ((length word ≡ length other) × (in_order word other ≡ true))

-- as many words, each at most the other
unfoldable pub AreAtMost : List (List ℕ) → List (List ℕ) → Type 0
AreAtMost [] [] = Unit {0}
AreAtMost [] (v ∷ vs) = ⊥
AreAtMost (w ∷ ws) [] = ⊥
AreAtMost (w ∷ ws) (v ∷ vs) = IsAtMost w v × AreAtMost ws vs

-- The line is the other with some words made smaller, or none: it has as many words, with one space between each two,
-- each the same or smaller.
abbrev pub IsSmallerLine : List ℕ → List ℕ → Type 0
IsSmallerLine line other = AreAtMost (slice_split (λ b. b == 32) line) (slice_split (λ b. b == 32) other)

-- Of the whole, some lines in their order, with some words of theirs made smaller.
unfoldable pub HasSmallerPart : (whole part : List (List ℕ)) → Type 0
HasSmallerPart whole [] = Unit {0}
HasSmallerPart [] (x ∷ xs) = ⊥
HasSmallerPart (y ∷ ys) (x ∷ xs) = HasSmallerPart ys (x ∷ xs) ⊎ (IsSmallerLine x y × HasSmallerPart ys xs)
