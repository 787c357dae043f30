-- The rule of the lock. There is one history. Word 0 is 0 where the lock is free, and then the machine is at home and
-- its history is this one. Where it isn't 0, one seat holds the lock.
use Rattle.std.specs.Prelude.{Bool, Box, List, Option, Some, [], false, if◌then◌else◌, length, map, nat_le, slice_index}
use Rattle.std.specs.Prelude.{true, ℕ}
use Rattle.std.specs.Box.{box_value}
use Rattle.std.specs.Prelude.{◌+◌, ◌<◌, ◌≡◌, ◌≢◌, ◌≤◌, ◌⊎◌, ◌∷◌}
use mathlib.Core.Option.{some}
use lib.ListN.{get_elem?}
use Rattle.atomic_table.specs.Table.{State}
use Rattle.nvme_model.specs.History.{Past}
use Rattle.nvme_model.specs.Passes.{IsBeginning, SharedPast, entries, places}
use Rattle.nvme_model.specs.declared.config.ConfigNumbers.{ConfigNumbers}
use Rattle.nvme_model.specs.declared.entry.Entry.{Entry}
use Rattle.ticket_laws.specs.Entries.{of_ticket, ticket_in}
use Rattle.meet_lock.specs.declared.view.Gathered.{Gathered}
use Rattle.meet_lock.specs.declared.view.View.{View}

-- an entry beside the number of the pass that made it
abbrev pub noted : ℕ → Entry → ℕ × Entry
noted by e = (by, e)

-- a history of entries that no pass made
abbrev pub unmade : Past → SharedPast
unmade past = map (noted 0) past

-- each of the entries was made by a pass, one of so many
abbrev pub AreOfPasses : ℕ → SharedPast → Type 0
AreOfPasses passes [] = Unit {0}
AreOfPasses passes (m ∷ shared) = ((0 < m.0) × (m.0 ≤ passes)) × AreOfPasses passes shared

-- what is said of a machine, said of a box that holds it
abbrev pub boxed : {M Z R : Type 0} → (M → R) → Box M Z → R
boxed said b = said (box_value b)

-- the history goes on from what was seen, by entries of passes alone
abbrev pub ExtendsByPasses : ℕ → SharedPast → SharedPast → Type 0
ExtendsByPasses passes seen shared = (b : IsBeginning seen shared) × AreOfPasses passes b.0

-- the view of the first seat
abbrev pub first_view : ConfigNumbers → ℕ → Past → View
first_view c passes past =
    record {
      number = passes;
      passes = passes;
      top = 0;
      config = c;
      holds = false;
      held = [];
      seen = unmade past;
      ticket = 0;
      its = [];
      message = false;
      hears = false;
      told = [];
      told_config = c;
      gathered = [];
    }

-- it is the seat of a pass, or of a message that wasn't taken in yet
abbrev pub IsLive : View → Type 0
IsLive v = (0 < v.number) ⊎ (v.message ≡ true)

-- what a view says of the history, which goes on from what the machine had before
pub record Fits (legal : ConfigNumbers → Past → Type 0) (c : ConfigNumbers) (passes : ℕ) (before : Past)
    (log : SharedPast) (v : View) : Type 0 where
  pub of : 0 < v.number → v.passes ≡ passes
  pub sees : IsLive v → ExtendsByPasses passes v.seen log
  pub right : IsLive v → (v.config ≡ c) × legal c (entries v.seen)
  pub mine : 0 < v.number → places v.number log ≡ places v.number v.seen
  pub heard : v.hears ≡ true → ExtendsByPasses passes v.told log × legal c (entries v.told) × (v.told_config ≡ c)
  pub opens : IsLive v → ExtendsByPasses passes (unmade before) v.seen

-- what a seat at place j, whose number is `own`, has of a pass that was joined to it: that number is the number of no
-- seat, and what the pass had seen is a beginning of the history, with all its entries
pub record IsGathered (c : ConfigNumbers) (passes top : ℕ) (seat_of : ℕ → ℕ) (log : SharedPast) (j own : ℕ)
    (g : Gathered) : Type 0 where
  pub seat : seat_of g.number ≡ j
  pub other : g.number ≢ own
  pub given : (g.number ≤ top) ⊎ (g.number ≡ passes)
  pub configured : g.config ≡ c
  pub sees : ExtendsByPasses passes g.seen log
  pub mine : places g.number log ≡ places g.number g.seen

abbrev pub AreGathered : ConfigNumbers → ℕ → ℕ → (ℕ → ℕ) → SharedPast → ℕ → ℕ → List Gathered → Type 0
AreGathered c passes top seat_of log j own [] = Unit {0}
AreGathered c passes top seat_of log j own (g ∷ gs) =
    IsGathered c passes top seat_of log j own g × AreGathered c passes top seat_of log j own gs

-- Where tickets have owners, a seat with a ticket is its only owner, and has all its entries, of which there is one.
-- Where they have none, no seat has a ticket.
abbrev pub OwnsTicket : Bool → (ℕ → ℕ) → SharedPast → ℕ → View → Type 0
OwnsTicket owned owner log j v =
    (owned ≡ false → v.ticket ≡ 0)
    × (0 < v.ticket → (owner v.ticket ≡ j) × (of_ticket v.ticket (entries log) ≡ v.its) × (v.its ≢ []))

module _ {M : Type 0} (config : M → ConfigNumbers) (history : M → Past) where
  -- the machine is this one's, with this history
  abbrev pub IsMachineAt : ConfigNumbers → Past → M → Type 0
  IsMachineAt c past m = (config m ≡ c) × (history m ≡ past)

  abbrev pub AtHome : ConfigNumbers → SharedPast → State (Option M) View → Type 0
  AtHome c log s = (m : M) × (get_elem? s.homes 0 ≡ some (some (Some m))) × IsMachineAt c (entries log) m

-- between any two steps
pub record IsOneHistory {M : Type 0} (config : M → ConfigNumbers) (history : M → Past)
    (legal : ConfigNumbers → Past → Type 0) (owned : Bool) (c : ConfigNumbers) (passes : ℕ) (before : Past)
    (s : State (Option M) View) : Type 0 where
  pub log : SharedPast
  pub holder : ℕ
  -- the numbers from 1 to it were given out, and the last
  pub top : ℕ
  -- the seat that has a number, and the one that has a ticket
  pub seat_of : ℕ → ℕ
  pub owner : ℕ → ℕ
  pub narrow : length s.words ≡ 1
  pub right : legal c (entries log)
  pub free : slice_index s.words 0 ≡ 0 → AtHome config history c log s
  pub taken : slice_index s.words 0 ≢ 0 → (v : View) × (get_elem? s.views holder ≡ some v) × (v.holds ≡ true)
  pub each : (j : ℕ) (v : View) → get_elem? s.views j ≡ some v → Fits legal c passes before log v
  pub holding : (j : ℕ) (v : View) → get_elem? s.views j ≡ some v → v.holds ≡ true
      → (j ≡ holder) × (slice_index s.words 0 ≢ 0) × (v.held ≡ log) × (0 < v.number)
  pub numbered : (j : ℕ) (v : View) → get_elem? s.views j ≡ some v → 0 < v.number
      → (seat_of v.number ≡ j) × ((v.number ≤ top) ⊎ (v.number ≡ passes))
  pub first : (v : View) → get_elem? s.views 0 ≡ some v → (v.top ≡ top) × (v.number ≡ passes)
  pub below : top < passes
  pub owners : (j : ℕ) (v : View) → get_elem? s.views j ≡ some v → OwnsTicket owned owner log j v
  pub ungiven : (by : ℕ) → top < by → by ≢ passes → places by log ≡ []
  pub gathers : (j : ℕ) (v : View) → get_elem? s.views j ≡ some v
      → AreGathered c passes top seat_of log j v.number v.gathered

-- ---- what each step and each note make of a view

-- it holds the lock
abbrev pub holding : View → SharedPast → View
holding v log = record v { holds = true; held = log }

-- it gave the lock back, with one entry more; and where tickets have owners it has the ticket of that entry
abbrev pub grown : Bool → View → Entry → View
grown owned v e =
    record v {
      holds = false;
      held = [];
      hears = false;
      told = [];
      ticket = if owned then ticket_in e else 0;
      its = if owned then e ∷ v.its else [];
      seen = noted v.number e ∷ v.held;
    }

-- it gave the lock back
abbrev pub view_given_back : View → View
view_given_back v = record v { holds = false; held = []; hears = false; told = []; seen = v.held }

-- the first seat gives out the next number
abbrev pub gives_left : View → View
gives_left v = record v { top = v.top + 1 }

abbrev pub gives_right : View → View
gives_right v = record v { number = v.top + 1; top = 0; ticket = 0; its = []; gathered = [] }

-- a message, which has seen what the seat has
abbrev pub message : View → View
message v =
    record v {
      number = 0;
      top = 0;
      holds = false;
      held = [];
      message = true;
      hears = false;
      told = [];
      ticket = 0;
      its = [];
      gathered = [];
    }

-- a message, which has seen the history of the seat that holds the lock
abbrev pub message_held : View → View
message_held v =
    record v {
      number = 0;
      top = 0;
      holds = false;
      held = [];
      seen = v.held;
      message = true;
      hears = false;
      told = [];
      ticket = 0;
      its = [];
      gathered = [];
    }

-- a message with the ticket of the seat, and the seat without it
abbrev pub laden : View → View
laden v =
    record v {
      number = 0;
      top = 0;
      holds = false;
      held = [];
      message = true;
      hears = false;
      told = [];
      gathered = [];
    }

abbrev pub unladen : View → View
unladen v = record v { ticket = 0; its = [] }

-- the seat took in a message
abbrev pub hearing : View → View → View
hearing v m = record v { hears = true; told = m.seen; told_config = m.config }

-- the seat took in a message, with its ticket
abbrev pub lading : View → View → View
lading v m = record v { hears = true; told = m.seen; told_config = m.config; ticket = m.ticket; its = m.its }

abbrev pub no_config : ConfigNumbers
no_config =
    record {
      blocks = 0;
      atomic = record { awun = 0; acwu = 0; nabsn = 0; nabo = 0 };
      pairs = 0;
      sq_size = 0;
      cq_size = 0;
      jobs = 0;
      cqs = 0;
    }

-- a message that was taken in
abbrev pub spent : View
spent =
    record {
      number = 0;
      passes = 0;
      top = 0;
      config = no_config;
      holds = false;
      held = [];
      seen = [];
      ticket = 0;
      its = [];
      message = false;
      hears = false;
      told = [];
      told_config = no_config;
      gathered = [];
    }

-- what stays of a pass that is joined to a seat
abbrev pub gathered_of : View → Gathered
gathered_of m = record { number = m.number; config = m.config; seen = m.seen }

-- the seat took in a pass
abbrev pub gathering : View → View → View
gathering v m = record v { gathered = gathered_of m ∷ v.gathered }

-- the longer of two beginnings
abbrev pub longer : SharedPast → SharedPast → SharedPast
longer xs ys = if nat_le (length xs) (length ys) then ys else xs

-- it saw what it was told
abbrev pub informed : View → View
informed v = record v { hears = false; told = []; seen = longer v.seen v.told }
