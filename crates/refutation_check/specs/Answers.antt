-- What tables tell of a trace: its entries, those that wait, and the lines that answer them.
use Rattle.std.specs.Prelude.{Bool, List, None, Option, Some, [], false, if◌then◌else◌, is_none, length, nat_eq}
use Rattle.std.specs.Prelude.{nat_le, nat_lt}
use Rattle.std.specs.Prelude.{slice_get, unwrap_or, ℕ, ◌&&◌, ◌+◌, ◌-◌, ◌<◌, ◌==◌, ◌^◌, ◌∷◌, ◌≡◌}
use Rattle.std.specs.HashMap.{get, get_by}
use Rattle.nvme_model.specs.EntryBytes.{cqe_fields}
use Rattle.nvme_model.specs.declared.submission.Submission.{Submission}
use Rattle.host_laws.specs.Book.{Book}
use Rattle.trace.specs.declared.seen.ReapedLine.{ReapedLine}
use Rattle.trace.specs.declared.seen.Seen.{Seen}
use Rattle.refutation.specs.Lines.{answered, is_number, is_tidy, published_in, waiting_in}
use Rattle.refutation_check.specs.declared.tables.EntryCid.{EntryCid}
use Rattle.refutation_check.specs.declared.tables.EntryNumber.{EntryNumber}
use Rattle.refutation_check.specs.declared.tables.EntryPlace.{EntryPlace}
use Rattle.refutation_check.specs.declared.tables.TraceAnswers.{TraceAnswers}

-- How many entries were published, by submission queue; where each was, by queue and number; the entries that wait, by
-- queue and CID; the lines that answer entries, by queue and number; and whether no CID was published again while it
-- waited.
pub record KeptAnswers : Type 0 where
  pub published : ℕ → ℕ
  pub entries : ℕ → ℕ → Option EntryPlace
  pub waiting : Book
  pub answers : ℕ → ℕ → Option ℕ
  pub tidy : Bool

-- in these tables
abbrev pub answers_in : TraceAnswers → KeptAnswers
answers_in x =
    record {
      published = λ q. unwrap_or (get nat_eq x.published q) 0;
      entries = λ q j. get_by (λ (e : EntryNumber). (q == e.queue) && (j == e.number)) x.entries;
      waiting = λ q cid. get_by (λ (e : EntryCid). (q == e.queue) && (cid == e.cid)) x.waiting;
      answers = λ q j. get_by (λ (e : EntryNumber). (q == e.queue) && (j == e.number)) x.answers;
      tidy = x.tidy;
    }

-- where entry j of submission queue q is, if it is one of m at line `line`, of which the first has number n; else that
abbrev pub placed : (line q n m : ℕ) → Option EntryPlace → (r j : ℕ) → Option EntryPlace
placed line q n m other r j =
    if (q == r) && (nat_le n j && nat_lt j (n + m)) then Some (record { line = line; place = j - n }) else other

-- Where a trace, the newest line first, publishes entry j of submission queue q: the number of the line, from 0, and
-- the place there.
abbrev pub entry_place : List Seen → ℕ → ℕ → Option EntryPlace
entry_place [] q j = None
entry_place (Seen.Published p ∷ trace) q j =
    placed (length trace) p.queue (length (published_in trace p.queue)) (length p.batch) (entry_place trace q j) q j
entry_place (Seen.Reaped r ∷ trace) q j = entry_place trace q j

-- One line publishes entries at these places; where the second isn't published, neither is the first.
abbrev pub are_at_one_line : (first second : Option EntryPlace) → Bool
are_at_one_line first None = is_none first
are_at_one_line None (Some b) = false
are_at_one_line (Some a) (Some b) = a.line == b.line

-- the entry at this place of a line
abbrev pub entry_of : Option Seen → ℕ → Option Submission
entry_of None place = None
entry_of (Some (Seen.Published p)) place = slice_get p.batch place
entry_of (Some (Seen.Reaped r)) place = None

-- The entry at this place of a trace, the oldest line first.
abbrev pub entry_at : List Seen → Option EntryPlace → Option Submission
entry_at lines None = None
entry_at lines (Some p) = entry_of (slice_get lines p.line) p.place

-- the completion of this line
abbrev pub reaped_of : Option Seen → Option ReapedLine
reaped_of None = None
reaped_of (Some (Seen.Published p)) = None
reaped_of (Some (Seen.Reaped r)) = Some r

-- The completion at this line of a trace, the oldest line first.
abbrev pub reaped_at : List Seen → Option ℕ → Option ReapedLine
reaped_at lines None = None
reaped_at lines (Some n) = reaped_of (slice_get lines n)

-- The number of the line, from 0, that answers entry j of submission queue q in a trace, the newest line first.
abbrev pub answer_place : List Seen → ℕ → ℕ → Option ℕ
answer_place [] q j = None
answer_place (Seen.Published p ∷ trace) q j = answer_place trace q j
answer_place (Seen.Reaped r ∷ trace) q j =
    if ((cqe_fields r.cqe).sqid == q) && is_number j (answered trace r.cqe) then Some (length trace)
    else answer_place trace q j

-- It is what a trace, the newest line first, tells of them.
pub record KnowsAnswers (trace : List Seen) (k : KeptAnswers) : Type 0 where
  pub published : (q : ℕ) → k.published q ≡ length (published_in trace q)
  pub few : (q : ℕ) → length (published_in trace q) < 2 ^ 64
  pub entries : (q j : ℕ) → k.entries q j ≡ entry_place trace q j
  pub waiting : (q cid : ℕ) → k.waiting q cid ≡ waiting_in trace q cid
  pub answers : (q j : ℕ) → k.answers q j ≡ answer_place trace q j
  pub tidy : k.tidy ≡ is_tidy trace
