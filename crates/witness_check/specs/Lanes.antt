-- The places of a trace's lines by lane.
use Rattle.std.specs.Prelude.{List, None, Option, Some, [], drop, if◌then◌else◌, length, nat_lt, reverse, slice_get}
use Rattle.std.specs.Prelude.{take, ℕ, ◌++◌, ◌<◌, ◌==◌, ◌≡◌, ◌≤◌, ◌∷◌}
use Rattle.rings.specs.Tables.{IsTable}
use Rattle.trace.specs.declared.seen.Seen.{Seen}
use Rattle.witness_check.specs.Delayed.{lane}

-- the place of a lane in a table of so many: the first is that of all lanes that have none
abbrev pub slot : ℕ → ℕ → ℕ
slot size l = if nat_lt l size then l else 0

-- the places, from 0, of the lines with this slot among these, the newest first: the first place first
abbrev pub places : (size k : ℕ) → List Seen → List ℕ
places size k [] = []
places size k (s ∷ before) =
    if slot size (lane s) == k then places size k before ++ length before ∷ [] else places size k before

-- by slot the places that wait, and how many lines of the trace were read
pub record LanesRun : Type 0 where
  pub waiting : List (List ℕ)
  pub read : ℕ

-- It is what is kept of a trace, the oldest line first, of which these lines came, the newest first.
pub record AreLanes (size : ℕ) (trace came : List Seen) (x : LanesRun) : Type 0 where
  pub within : x.read ≤ length trace
  pub waits : IsTable (λ k. drop (length (places size k came)) (places size k (reverse (take x.read trace)))) size
      x.waiting
  pub few : (k : ℕ) → k < size → length (places size k came) ≤ length (places size k (reverse (take x.read trace)))

-- This is the place of the line with this slot that comes next: there, as many with its slot stand before it as came.
abbrev pub IsNextPlace : ℕ → (trace came : List Seen) → ℕ → Option ℕ → Type 0
IsNextPlace size trace came k None = length (places size k (reverse trace)) ≡ length (places size k came)
IsNextPlace size trace came k (Some p) =
    (t : Seen) × (slice_get trace p ≡ Some t) × (slot size (lane t) ≡ k)
    × (length (places size k (reverse (take p trace))) ≡ length (places size k came))

-- The same of a lane that may be none. A line of it that came then is no more kept.
abbrev pub IsSought : ℕ → (trace came : List Seen) → Option ℕ → Option ℕ → LanesRun → Type 0
IsSought size trace came None place x = (place ≡ None) × AreLanes size trace came x
IsSought size trace came (Some l) place x =
    IsNextPlace size trace came (slot size l) place
    × ((t : Seen) → (place ≡ None → ⊥) → slot size (lane t) ≡ slot size l → AreLanes size trace (t ∷ came) x)

-- the earlier of two places, where there is one
abbrev pub earlier_of : Option ℕ → Option ℕ → Option ℕ
earlier_of None other = other
earlier_of (Some a) None = Some a
earlier_of (Some a) (Some b) = if nat_lt b a then Some b else Some a

-- This line of the trace didn't come.
abbrev pub IsLeftOver : ℕ → (trace came : List Seen) → ℕ → Type 0
IsLeftOver size trace came p =
    (t : Seen) × (slice_get trace p ≡ Some t)
    × (length (places size (slot size (lane t)) came)
    ≤ length (places size (slot size (lane t)) (reverse (take p trace))))

-- the first that didn't come, if there is one
abbrev pub IsFirstLeft : ℕ → (trace came : List Seen) → Option ℕ → Type 0
IsFirstLeft size trace came None = (p : ℕ) → IsLeftOver size trace came p → ⊥
IsFirstLeft size trace came (Some p) =
    IsLeftOver size trace came p × ((m : ℕ) → m < p → IsLeftOver size trace came m → ⊥)
