-- A trace that was logged with delays: hosts write a Publish down before it comes, and a Reap after it came.
use Rattle.std.specs.Prelude.{Bool, List, [], false, if◌then◌else◌, true, ℕ, ◌*◌, ◌+◌, ◌++◌, ◌<◌, ◌==◌, ◌≡◌, ◌≤◌, ◌∷◌}
use Rattle.nvme_model.specs.History.{Past}
use Rattle.nvme_model.specs.declared.config.ConfigNumbers.{ConfigNumbers}
use Rattle.trace.specs.Observed.{Explains}
use Rattle.trace.specs.declared.options.TraceOptions.{TraceOptions}
use Rattle.trace.specs.declared.seen.Seen.{Seen}

-- The lane of a line, by its kind and its queue: the Publishes of one submission queue have one lane, and the Reaps of
-- one completion queue. Those of a lane are logged in the order in which they come.
abbrev pub lane : Seen → ℕ
lane (Seen.Published p) = 2 * p.queue
lane (Seen.Reaped r) = 2 * r.queue + 1

-- how many of these lines are of a lane
abbrev pub count : ℕ → List Seen → ℕ
count l [] = 0
count l (s ∷ lines) = if lane s == l then count l lines + 1 else count l lines

-- it is a Reap
abbrev pub is_reap : Seen → Bool
is_reap (Seen.Published p) = false
is_reap (Seen.Reaped r) = true

-- A line that came behind these, the newest first, stands in a trace, the newest first: in its lane it has the number
-- there with which it came. And where it is a Reap, each Publish that came before it stands before it.
abbrev pub StandsIn : List Seen → List Seen → Seen → Type 0
StandsIn trace came s =
    (later before : List Seen) × (trace ≡ later ++ (s ∷ before)) × (count (lane s) before ≡ count (lane s) came)
    × (is_reap s ≡ true → (q : ℕ) → count (2 * q) came ≤ count (2 * q) before)

-- each of these lines does
abbrev pub EachStandsIn : List Seen → List Seen → Type 0
EachStandsIn trace [] = Unit {0}
EachStandsIn trace (s ∷ came) = StandsIn trace came s × EachStandsIn trace came

-- each line of a trace, the newest first, came
abbrev pub EachCame : List Seen → List Seen → Type 0
EachCame trace came =
    (later before : List Seen) (s : Seen) → trace ≡ later ++ (s ∷ before)
    → count (lane s) before < count (lane s) came

-- What came, the newest first, is logged as this trace, the newest first, with Publishes logged before they came and
-- Reaps logged after they came: both have the same lines, those of each lane in one order, and no Reap is logged before
-- a Publish that came before it.
abbrev pub IsDelayed : List Seen → List Seen → Type 0
IsDelayed came trace = EachStandsIn trace came × EachCame trace came

-- The history is legal, and what hosts saw of it is this trace, the newest first, but for such delays.
abbrev pub ExplainsDelayed : TraceOptions → ConfigNumbers → Past → List Seen → Type 0
ExplainsDelayed o c past trace = (came : List Seen) × Explains o c past came × IsDelayed came trace
