-- Whether a slice has an order, by layers: all states behind one piece, behind two, each state once.
use Rattle.std.specs.List.{list_all, list_any, range_with_len}
use Rattle.std.specs.Prelude.{Bool, List, [], false, if◌then◌else◌, length, not, slice_get, suc, true, zero, ℕ}
use Rattle.std.specs.Prelude.{◌&&◌, ◌++◌, ◌||◌, ◌∷◌}
use Rattle.std.specs.Str.{bytes_eq}
use Rattle.refutation.specs.Orders.{behind_by, has, held_by, is_sure, is_whole, may_follow}
use Rattle.refutation.specs.Pieces.{Held, Piece, Slice}

-- Each sure piece that comes before piece n is among these; else no list with n behind them could be whole.
abbrev pub lacks_none : Slice → List ℕ → ℕ → Bool
lacks_none slice order n =
    list_all (λ m. not (is_sure slice m) || has (n ∷ order) m) (behind_by (slice_get slice n))

-- Piece n may stand next, and lets each sure piece have its place.
abbrev pub is_next : List ℕ → Slice → List ℕ → ℕ → Bool
is_next blank slice order n = may_follow blank slice order n && lacks_none slice order n

-- ---- states: what was made, as a set, and what each block that a piece looks at holds

-- The same pieces are in both.
abbrev pub same_made : List ℕ → List ℕ → Bool
same_made a b = list_all (has b) a && list_all (has a) b

-- a block holds the same behind both
abbrev pub same_at : List ℕ → Slice → List ℕ → List ℕ → Held → Bool
same_at blank slice a b h = bytes_eq (held_by blank slice a h.0) (held_by blank slice b h.0)

-- Each block that this piece looks at holds the same behind both.
abbrev pub same_for : List ℕ → Slice → List ℕ → List ℕ → Piece → Bool
same_for blank slice a b p =
    list_all (same_at blank slice a b) p.finds && list_all (λ hs. list_all (same_at blank slice a b) hs) p.differs

-- Both lead to one state.
abbrev pub is_same : List ℕ → Slice → List ℕ → List ℕ → Bool
is_same blank slice a b = same_made a b && list_all (same_for blank slice a b) slice

-- ---- layers: of each state that as many pieces lead to one order of them

-- these orders and one more, where none of them leads to its state
abbrev pub with_order : List ℕ → Slice → List (List ℕ) → List ℕ → List (List ℕ)
with_order blank slice made order =
    if list_any (is_same blank slice order) made then made else made ++ order ∷ []

-- these orders, and this one with each of these pieces that may be next
abbrev pub with_nexts : List ℕ → Slice → List (List ℕ) → List ℕ → List ℕ → List (List ℕ)
with_nexts blank slice made order [] = made
with_nexts blank slice made order (n ∷ ns) =
    with_nexts blank slice (if is_next blank slice order n then with_order blank slice made (n ∷ order) else made) order
    ns

-- these orders, and those of a layer with each piece that may be next
abbrev pub layer_from : List ℕ → Slice → List (List ℕ) → List (List ℕ) → List (List ℕ)
layer_from blank slice made [] = made
layer_from blank slice made (order ∷ layer) =
    layer_from blank slice (with_nexts blank slice made order (range_with_len 0 (length slice))) layer

-- the layer behind this one
abbrev pub next_layer : List ℕ → Slice → List (List ℕ) → List (List ℕ)
next_layer blank slice layer = layer_from blank slice [] layer

-- No order of this layer is whole, nor of those behind it, of which one of the next so many is empty.
abbrev pub ends : List ℕ → Slice → ℕ → List (List ℕ) → Bool
ends blank slice steps [] = true
ends blank slice zero (order ∷ layer) = false
ends blank slice (suc steps) (order ∷ layer) =
    not (list_any (is_whole slice) (order ∷ layer)) && ends blank slice steps (next_layer blank slice (order ∷ layer))

-- No order of the slice's pieces is possible: layers of states, from that behind none on, end before one is whole.
-- There are at most as many as pieces.
abbrev pub has_no_order : List ℕ → Slice → Bool
has_no_order blank slice = ends blank slice (length slice) ([] ∷ [])
