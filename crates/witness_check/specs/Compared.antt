-- What is kept of a history that is compared with a trace up to where they differ, and what is said of them.
use Rattle.std.specs.Prelude.{List, None, Option, Some, length, reverse, slice_get, ℕ, ◌+◌, ◌++◌, ◌-◌, ◌≡◌, ◌∷◌}
use Rattle.nvme_model.specs.FirstBad.{IsFirstBad, first_bad_of}
use Rattle.nvme_model.specs.History.{Past}
use Rattle.nvme_model.specs.Legal.{IsLegal}
use Rattle.nvme_model.specs.declared.config.ConfigNumbers.{ConfigNumbers}
use Rattle.trace.specs.Aside.{aside_pair, out_aside}
use Rattle.trace.specs.Observed.{Explains, observed}
use Rattle.trace.specs.declared.options.TraceOptions.{TraceOptions}
use Rattle.trace.specs.declared.seen.Seen.{Seen}
use Rattle.witness_check.specs.Differing.{DifferFirst, DiffersBehind, StandsFor}
use Rattle.witness_check.specs.Followed.{Followed, FollowsHistory}
use Rattle.witness_check.specs.Turns.{new_difference, new_next, new_out}
use Rattle.witness_check.specs.declared.comparison.TraceVerdict.{TraceVerdict}
use Rattle.witness_check.specs.declared.comparison.TraceVerdict.TheVariants.{Bad, Explained, Unlike}
use Rattle.witness_check.specs.declared.difference.Difference.{Difference}
use Rattle.witness_check.specs.declared.turn.Turn.{Turn}
use Rattle.witness_check.specs.declared.witness.Told.{Told}

-- ---- what is said

-- Of a history, the newest first, and a trace, the oldest first: it explains the trace; or its first so many entries
-- are the fewest that aren't legal; or it is legal, and this is the number, from 1, of the first thing that differs.
abbrev pub IsVerdict : TraceOptions → ConfigNumbers → Past → List Seen → TraceVerdict → Type 0
IsVerdict o c past trace Explained = Explains o c past (reverse trace)
IsVerdict o c past trace (Bad k) = IsFirstBad c (reverse past) k
IsVerdict o c past trace (Unlike k d) =
    IsLegal c past × (n : ℕ) × (k ≡ n + 1) × DifferFirst o (aside_pair o c) (observed c past) trace n d

-- ---- what is kept

-- how the trace is read, the queue pair that it doesn't have, a witness, how many entries it took, the place of the
-- first bad one, the number of what the trace says next, how many commands of that queue pair are out, and what differs
-- there
pub record Compared : Type 0 where
  pub options : TraceOptions
  pub aside : Option ℕ
  pub followed : Followed
  pub count : ℕ
  pub bad : Option ℕ
  pub next : ℕ
  pub out : ℕ
  pub unlike : Option Difference

-- what was seen, the newest first, stands for the trace up to the next thing, or differs so at it
abbrev pub IsSeenTo : TraceOptions → Option ℕ → List Seen → List Seen → ℕ → ℕ → Option Difference → Type 0
IsSeenTo o a trace seen next out None =
    (n : ℕ) × (next ≡ n + 1) × (out ≡ out_aside a seen) × StandsFor o a seen trace n
IsSeenTo o a trace seen next out (Some d) =
    (n : ℕ) × (next ≡ n + 1) × (later before : List Seen) × (s : Seen) × (seen ≡ later ++ (s ∷ before))
    × StandsFor o a before trace n × DiffersBehind o a before s (slice_get trace n) d

-- it is what is kept of this history and this trace
pub record IsComparedTo (o : TraceOptions) (c : ConfigNumbers) (trace : List Seen) (past : Past) (x : Compared) : Type
    0 where
  pub reads : x.options ≡ o
  pub apart : x.aside ≡ aside_pair o c
  pub counted : x.count ≡ length past
  pub first : x.bad ≡ first_bad_of c past
  pub follows : x.bad ≡ None → FollowsHistory c past x.followed
  pub seen : x.bad ≡ None → IsSeenTo o (aside_pair o c) trace (observed c past) x.next x.out x.unlike

-- Where neither an entry is bad nor something differs, the trace says this next.
abbrev pub SaysNext : List Seen → Compared → Option Seen → Type 0
SaysNext trace x next = x.bad ≡ None → x.unlike ≡ None → slice_get trace (x.next - 1) ≡ next

-- ---- one more entry, by what is told of it

-- the place of the first bad entry, where none before was bad
abbrev pub bad_after : Told → ℕ → Option ℕ
bad_after Told.Bad count = Some count
bad_after Told.Hidden count = None
bad_after Told.Same count = None
bad_after (Told.Unlike d) count = None

-- the number of what the trace says next, where `after` is one more
abbrev pub next_after : Told → Turn → Option Difference → ℕ → ℕ → ℕ
next_after told turn None next after = new_next told turn next after
next_after told turn (Some d) next after = next

-- how many commands are out of the queue pair that the trace doesn't have, where with this entry there are `more`
abbrev pub out_after : Told → Turn → Option Difference → ℕ → ℕ → ℕ
out_after told turn None out more = new_out told turn out more
out_after told turn (Some d) out more = out

-- what differs there
abbrev pub unlike_after : Told → Turn → Option Difference → Option Difference
unlike_after told turn None = new_difference told turn
unlike_after told turn (Some d) = Some d
