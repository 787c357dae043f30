-- The orders that the effects of a slice may have had. A list has the newest first.
use Rattle.std.specs.List.{list_all, list_any}
use Rattle.std.specs.Prelude.{Bool, List, None, Option, Some, [], false, if◌then◌else◌, length, not, slice_get, ℕ}
use Rattle.std.specs.Prelude.{true, ◌&&◌, ◌==◌, ◌||◌, ◌∷◌, ◌≡◌}
use Rattle.std.specs.List.{range_with_len}
use Rattle.std.specs.Str.{bytes_eq}
use Rattle.refutation.specs.Pieces.{Held, Piece, Slice}

-- The number is one of these.
abbrev pub has : List ℕ → ℕ → Bool
has numbers n = list_any (λ m. m == n) numbers

-- ---- the pieces by their numbers

-- each history has it, where it is there
abbrev pub sure_by : Option Piece → Bool
sure_by None = false
sure_by (Some p) = p.sure

-- the numbers of those that come before it, where it is there
abbrev pub behind_by : Option Piece → List ℕ
behind_by None = []
behind_by (Some p) = p.behind

-- what it leaves on blocks, where it is there
abbrev pub writes_by : Option Piece → List Held
writes_by None = []
writes_by (Some p) = p.writes

-- what it finds on blocks, where it is there
abbrev pub finds_by : Option Piece → List Held
finds_by None = []
finds_by (Some p) = p.finds

-- Each history has this piece.
abbrev pub is_sure : Slice → ℕ → Bool
is_sure slice n = sure_by (slice_get slice n)

-- Piece m comes before piece n.
abbrev pub comes_before : Slice → ℕ → ℕ → Bool
comes_before slice m n = has (behind_by (slice_get slice n)) m

-- ---- what blocks hold

-- What block b holds where these blocks were written, and it held this before.
abbrev pub written : List Held → ℕ → List ℕ → List ℕ
written [] b before = before
written (h ∷ hs) b before = if h.0 == b then h.1 else written hs b before

-- What block b holds behind these pieces, by these alone: what the newest that writes or finds it leaves there, or
-- `blank`. No bytes say that it isn't known.
abbrev pub held_by : List ℕ → Slice → List ℕ → ℕ → List ℕ
held_by blank slice [] b = blank
held_by blank slice (n ∷ order) b =
    let p = slice_get slice n in
    written (writes_by p) b (written (finds_by p) b (held_by blank slice order b))

-- A block may hold this: it does, or it isn't known what it holds.
abbrev pub may_hold : (ℕ → List ℕ) → Held → Bool
may_hold holds h = (length (holds h.0) == 0) || bytes_eq (holds h.0) h.1

-- A block may hold something else.
abbrev pub may_differ : (ℕ → List ℕ) → Held → Bool
may_differ holds h = (length (holds h.0) == 0) || not (bytes_eq (holds h.0) h.1)

-- A piece finds what it has to find, where blocks hold this.
abbrev pub is_met : (ℕ → List ℕ) → Piece → Bool
is_met holds p = list_all (may_hold holds) p.finds && list_all (λ hs. list_any (may_differ holds) hs) p.differs

-- ---- orders

-- the same of a piece that is there
abbrev pub follows_by : List ℕ → Slice → List ℕ → ℕ → Option Piece → Bool
follows_by blank slice order n None = false
follows_by blank slice order n (Some p) =
    not (has order n) && not (list_any (λ m. comes_before slice n m) order) && is_met (held_by blank slice order) p

-- Piece n may stand next behind these: it isn't among them, none of them is one that it comes before, and it finds what
-- it has to find.
abbrev pub may_follow : List ℕ → Slice → List ℕ → ℕ → Bool
may_follow blank slice order n = follows_by blank slice order n (slice_get slice n)

-- Each of these may follow those before it.
abbrev pub IsWay : List ℕ → Slice → List ℕ → Type 0
IsWay blank slice [] = Unit {0}
IsWay blank slice (n ∷ order) = (may_follow blank slice order n ≡ true) × IsWay blank slice order

-- Each sure piece is among these.
abbrev pub is_whole : Slice → List ℕ → Bool
is_whole slice order = list_all (λ n. not (is_sure slice n) || has order n) (range_with_len 0 (length slice))

-- The pieces of a slice may have had their effects in this order, the newest first: each may follow those before it,
-- and each sure piece is there.
abbrev pub IsOrder : List ℕ → Slice → List ℕ → Type 0
IsOrder blank slice order = IsWay blank slice order × (is_whole slice order ≡ true)
