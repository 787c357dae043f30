-- What is kept of a history that is compared with a trace that was logged with delays, and what is said of them.
use Rattle.std.specs.Prelude.{Bool, List, None, Option, Some, [], false, if◌then◌else◌, length, nat_lt, reverse}
use Rattle.std.specs.Prelude.{slice_get, take, true, ℕ, ◌&&◌, ◌*◌, ◌+◌, ◌++◌, ◌<◌, ◌≡◌, ◌≤◌, ◌∷◌, ◌⊎◌}
use Rattle.nvme_model.specs.FirstBad.{IsFirstBad}
use Rattle.nvme_model.specs.History.{Past}
use Rattle.nvme_model.specs.Legal.{IsLegal}
use Rattle.nvme_model.specs.declared.config.ConfigNumbers.{ConfigNumbers}
use Rattle.nvme_model.specs.declared.entry.Entry.{Entry}
use Rattle.trace.specs.Aside.{ReadsTrace, aside_pair, in_turn, is_aside}
use Rattle.trace.specs.Observed.{observed}
use Rattle.trace.specs.declared.options.TraceOptions.{TraceOptions}
use Rattle.trace.specs.declared.seen.Seen.{Seen}
use Rattle.witness_check.specs.Compared.{Compared, IsComparedTo}
use Rattle.witness_check.specs.Delayed.{EachStandsIn, ExplainsDelayed, count, is_reap, lane}
use Rattle.witness_check.specs.Differing.{Differ}
use Rattle.witness_check.specs.Lanes.{AreLanes, LanesRun}
use Rattle.witness_check.specs.Turns.{is_aside_entry}
use Rattle.witness_check.specs.declared.comparison.TraceVerdict.{TraceVerdict}
use Rattle.witness_check.specs.declared.comparison.TraceVerdict.TheVariants.{Bad, Explained, Unlike}
use Rattle.witness_check.specs.declared.difference.Difference.{Difference}
use Rattle.witness_check.specs.declared.difference.Difference.TheVariants.{Contents, HistoryEnds, Order, TraceEnds}

-- ---- what is said

-- Of a trace, the oldest line first: place n, from 0, has the line of a lane that comes next behind these, or there is
-- none, and n is how many lines there are.
abbrev pub IsNext : (trace came : List Seen) → (l n : ℕ) → Option Seen → Type 0
IsNext trace came l n None = (n ≡ length trace) × (count l (reverse trace) ≡ count l came)
IsNext trace came l n (Some t) =
    (slice_get trace n ≡ Some t) × (lane t ≡ l) × (count l (reverse (take n trace)) ≡ count l came)

-- place n stands before a Publish that came
abbrev pub IsTurned : (trace came : List Seen) → ℕ → Type 0
IsTurned trace came n = (q : ℕ) × (count (2 * q) (reverse (take n trace)) < count (2 * q) came)

-- This differs at something of the trace's own queues: the trace has no such line, or it is a Reap that stands before
-- a Publish that came, or else the two differ.
abbrev pub DiffersAt : TraceOptions → (trace came : List Seen) → Seen → ℕ → Option Seen → Difference → Type 0
DiffersAt o trace came s n None d = d ≡ TraceEnds
DiffersAt o trace came s n (Some t) d =
    ((is_reap s ≡ true) × IsTurned trace came n × (d ≡ Order))
    ⊎ ((is_reap s ≡ true → IsTurned trace came n → ⊥) × Differ o (Some s) (Some t) d)

-- Behind what was seen, the newest first, of which these lines came, this differs first at something, for which place n
-- stands: it isn't its turn, or it is of the trace's own queues and differs.
abbrev pub DiffersNext : TraceOptions → Option ℕ → (trace before came : List Seen) → Seen → ℕ → Difference → Type 0
DiffersNext o a trace before came s n d =
    (next : Option Seen)
    × (is_aside a s ≡ true → n ≡ length trace) × (is_aside a s ≡ false → IsNext trace came (lane s) n next)
    × (((in_turn a before s ≡ false) × (d ≡ Contents))
    ⊎ ((in_turn a before s ≡ true) × (is_aside a s ≡ false) × DiffersAt o trace came s n next d))

-- line n of the trace didn't come
abbrev pub IsLeft : (trace came : List Seen) → ℕ → Type 0
IsLeft trace came n =
    (t : Seen) × (slice_get trace n ≡ Some t) × (count (lane t) came ≤ count (lane t) (reverse (take n trace)))

-- The lines that came of what was seen, the newest first, stand in the trace, and then this differs first, at something
-- more that was seen.
abbrev pub SeenDiffers : TraceOptions → Option ℕ → (trace seen : List Seen) → ℕ → Difference → Type 0
SeenDiffers o a trace seen n d =
    (later before came : List Seen) × (s : Seen) × (seen ≡ later ++ (s ∷ before)) × ReadsTrace o a before came
    × EachStandsIn (reverse trace) came × DiffersNext o a trace before came s n d

-- The lines that came of all that was seen stand in the trace, and this line of it is the first that didn't come.
abbrev pub LineIsLeft : TraceOptions → Option ℕ → (trace seen : List Seen) → ℕ → Type 0
LineIsLeft o a trace seen n =
    (came : List Seen) × ReadsTrace o a seen came × EachStandsIn (reverse trace) came × IsLeft trace came n
    × ((m : ℕ) → m < n → IsLeft trace came m → ⊥)

-- this differs first
abbrev pub DelaysDiffer : TraceOptions → Option ℕ → (trace seen : List Seen) → ℕ → Difference → Type 0
DelaysDiffer o a trace seen n d =
    SeenDiffers o a trace seen n d ⊎ (LineIsLeft o a trace seen n × (d ≡ HistoryEnds))

-- Of a history, the newest first, and a trace, the oldest first: it explains the trace but for delays; or its first so
-- many entries are the fewest that aren't legal; or it is legal, and the line with this number, from 1, is the first at
-- which they differ.
abbrev pub IsDelayedVerdict : TraceOptions → ConfigNumbers → Past → List Seen → TraceVerdict → Type 0
IsDelayedVerdict o c past trace Explained = ExplainsDelayed o c past (reverse trace)
IsDelayedVerdict o c past trace (Bad k) = IsFirstBad c (reverse past) k
IsDelayedVerdict o c past trace (Unlike k d) =
    IsLegal c past × (n : ℕ) × (k ≡ n + 1) × DelaysDiffer o (aside_pair o c) trace (observed c past) n d

-- ---- what is kept

-- the comparison, the queue pair that the trace doesn't have, the places of its lines, how many of its first lines have
-- all Publishes that came, and at the line of which number, from 1, what differs
pub record DelaysRun : Type 0 where
  pub compared : Compared
  pub aside : Option ℕ
  pub lanes : LanesRun
  pub reach : ℕ
  pub number : ℕ
  pub unlike : Option Difference

-- how many lanes the queues of a configuration have
abbrev pub lanes_of : ConfigNumbers → ℕ
lanes_of c = (if nat_lt c.pairs c.cqs then 2 * c.cqs else 2 * c.pairs) + 2

-- these lines are of lanes that have a place of their own in a table of so many
abbrev pub AreIn : ℕ → List Seen → Type 0
AreIn size [] = Unit {0}
AreIn size (s ∷ came) = (2 ≤ lane s) × (lane s < size) × AreIn size came

-- The first so many lines of the trace, and no fewer, have all Publishes that came.
pub record IsReach (trace came : List Seen) (reach : ℕ) : Type 0 where
  pub low : reach ≤ length trace
  pub has : (q : ℕ) → count (2 * q) came ≤ count (2 * q) (reverse (take reach trace))
  pub least : (reach ≡ 0) ⊎ ((q : ℕ) × ((m : ℕ) → m < reach
      → count (2 * q) (reverse (take m trace)) < count (2 * q) came))

-- nothing differs so far
pub record IsInStep (c : ConfigNumbers) (trace came : List Seen) (x : DelaysRun) : Type 0 where
  pub alike : x.compared.unlike ≡ None
  pub next : x.compared.next ≡ length came + 1
  pub each : EachStandsIn (reverse trace) came
  pub own : AreIn (lanes_of c) came
  pub places : AreLanes (lanes_of c) trace came x.lanes
  pub reached : IsReach trace came x.reach

-- nothing differs of what was seen, or something does
abbrev pub IsSoFar : TraceOptions → ConfigNumbers → (trace seen came : List Seen) → DelaysRun → Option Difference → Type
    0
IsSoFar o c trace seen came x None = IsInStep c trace came x
IsSoFar o c trace seen came x (Some d) =
    (x.compared.unlike ≡ None → ⊥) × (n : ℕ) × (x.number ≡ n + 1) × SeenDiffers o (aside_pair o c) trace seen n d

-- it is what is kept of this history and this trace
pub record IsDelayedTo (o : TraceOptions) (c : ConfigNumbers) (trace : List Seen) (past : Past) (x : DelaysRun) : Type
    0 where
  pub came : List Seen
  pub compared : IsComparedTo o c (reverse came) past x.compared
  pub apart : x.aside ≡ aside_pair o c
  pub so_far : x.compared.bad ≡ None → IsSoFar o c trace (observed c past) came x x.unlike

-- ---- one more entry

-- the lane of an entry, where hosts see it
abbrev pub lane_of_entry : Entry → Option ℕ
lane_of_entry (Entry.Publish p) = Some (2 * p.queue)
lane_of_entry (Entry.Reap r) = Some (2 * r.queue + 1)
lane_of_entry (Entry.Fetch f) = None
lane_of_entry (Entry.Grant g) = None
lane_of_entry (Entry.Block b) = None
lane_of_entry (Entry.Post p) = None

-- the lane in which the trace has it: none where it is of the queue pair that the trace doesn't have
abbrev pub lane_sought : Option ℕ → Entry → Option ℕ
lane_sought a e = if is_aside_entry a e then None else lane_of_entry e

abbrev pub is_reap_entry : Entry → Bool
is_reap_entry (Entry.Reap r) = true
is_reap_entry (Entry.Publish p) = false
is_reap_entry (Entry.Fetch f) = false
is_reap_entry (Entry.Grant g) = false
is_reap_entry (Entry.Block b) = false
is_reap_entry (Entry.Post p) = false

-- the place of what the trace has for it is that of a Reap before a Publish that came
abbrev pub is_turned : Entry → Option ℕ → ℕ → Bool
is_turned e None reach = false
is_turned e (Some p) reach = is_reap_entry e && nat_lt p reach

-- that place, or how many lines there are
abbrev pub place_or : Option ℕ → ℕ → ℕ
place_or None size = size
place_or (Some p) size = p

-- what the trace has there, unless it is turned
abbrev pub thing_there : List Seen → Option ℕ → Bool → Option Seen
thing_there trace None turned = None
thing_there trace (Some p) true = None
thing_there trace (Some p) false = slice_get trace p

-- what differs, where this differs from nothing or from what the trace has
abbrev pub turned_or : Bool → Option Difference → Option Difference
turned_or turned (Some TraceEnds) = if turned then Some Order else Some TraceEnds
turned_or turned other = other

-- how many of the first lines have all Publishes that came then
abbrev pub reach_after : Entry → Option ℕ → ℕ → ℕ
reach_after e None reach = reach
reach_after e (Some p) reach = if is_reap_entry e then reach else (if nat_lt p reach then reach else p + 1)
