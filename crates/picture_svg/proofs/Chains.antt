-- Texts that grow piece by piece.
use Rattle.std.proofs.Common.{List, [], ap, append-nil, append_assoc, sym, ℕ, ◌++◌, ◌∙◌, ◌∷◌, ◌≡◌}
use Rattle.std.specs.List.{concat}

-- a text grew by a last piece
pub last : (o a t : List ℕ) → t ≡ o ++ a → t ≡ o ++ concat (a ∷ [])
last o a t p = p ∙ ap (λ l. o ++ l) (sym (append-nil a))

-- it grew by a piece and then by others
pub next : (o a t u : List ℕ) (others : List (List ℕ)) → t ≡ o ++ a → u ≡ t ++ concat others
    → u ≡ o ++ concat (a ∷ others)
next o a t u others p q = q ∙ ap (λ l. l ++ concat others) p ∙ append_assoc o a (concat others)
