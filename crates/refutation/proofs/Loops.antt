-- What the loops over pieces and layers keep.
use Rattle.std.proofs.Common.{List, [], ap, arith, false, if◌then◌else◌, length, not, refl, suc, sym}
use Rattle.std.proofs.Common.{ℕ, ◌+◌, ◌-◌, ◌<◌, ◌==◌, ◌&&◌, ◌∙◌, ◌∷◌, ◌≡◌}
use Rattle.std.proofs.lemmas.Bool.{eqb-false}
use Rattle.std.specs.List.{list_any, range_with_len}
use Rattle.refutation.specs.Layers.{ends, is_next, next_layer, with_nexts, with_order}
use Rattle.refutation.specs.Orders.{is_whole}
use Rattle.refutation.specs.Pieces.{Slice}

-- one number more
pub nexts_step : (blank : List ℕ) (slice : Slice) (made new : List (List ℕ)) (order : List ℕ) (i n : ℕ) → i < n
    → new ≡ (if is_next blank slice order i then with_order blank slice made (i ∷ order) else made)
    → with_nexts blank slice new order (range_with_len (i + 1) (n - (i + 1)))
    ≡ with_nexts blank slice made order (range_with_len i (n - i))
nexts_step blank slice made new order i n l e =
    let more : suc (n - (i + 1)) ≡ n - i = omega arith in
    ap (λ m. with_nexts blank slice m order (range_with_len (i + 1) (n - (i + 1)))) e
    ∙ ap (λ k. with_nexts blank slice made order (range_with_len i k)) more

-- one layer more
pub ends_step : (blank : List ℕ) (slice : Slice) (layer new : List (List ℕ)) (i n : ℕ) → i < n
    → (length layer == 0) ≡ false → list_any (is_whole slice) layer ≡ false → new ≡ next_layer blank slice layer
    → ends blank slice (n - (i + 1)) new ≡ ends blank slice (n - i) layer
ends_step blank slice [] new i n l e none f = absurd (eqb-false 0 0 e refl)
ends_step blank slice (x ∷ layer) new i n l e none f =
    let more : suc (n - (i + 1)) ≡ n - i = omega arith in
    ap (ends blank slice (n - (i + 1))) f
    ∙ ap (λ b. not b && ends blank slice (n - (i + 1)) (next_layer blank slice (x ∷ layer))) (sym none)
    ∙ ap (λ k. ends blank slice k (x ∷ layer)) more
