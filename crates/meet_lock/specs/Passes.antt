-- What contracts say of passes and of the seats that messages carry.
use Rattle.std.specs.Prelude.{List, Ok, Option, Err, Result, Some, [], false, length, max, min, slice_get, ℕ, ◌+◌}
use Rattle.std.specs.Prelude.{◌≡◌, ◌∷◌}
use Rattle.atomic_table.specs.Seated.{TableId}
use Rattle.atomic_table.specs.Table.{Me}
use Rattle.nvme_model.specs.History.{Past}
use Rattle.nvme_model.specs.Passes.{IsBeginning, SharedPast, entries, places}
use Rattle.nvme_model.specs.declared.config.ConfigNumbers.{ConfigNumbers}
use Rattle.nvme_model.specs.declared.entry.Entry.{Entry}
use Rattle.nvme_model.specs.declared.step.Step.{Step}
use Rattle.controller_interface.specs.declared.answer.Answer.{Answer}
use Rattle.controller_interface.specs.declared.answer.Refused.{Refused}
use Rattle.meet_lock.specs.Lock.{AreOfPasses, ExtendsByPasses, noted, unmade}
use Rattle.ticket_laws.specs.Entries.{ticket_in}
use Rattle.meet_lock.specs.declared.pass.Declined.{Declined}
use Rattle.meet_lock.specs.declared.pass.Pass.{Pass}
use Rattle.meet_lock.specs.declared.pass.Unmade.{Unmade}
use Rattle.meet_lock.specs.declared.seats.NoteSeat.{NoteSeat}
use Rattle.meet_lock.specs.declared.seats.TicketSeat.{TicketSeat}
use Rattle.meet_lock.specs.declared.shared.Shared.{Shared}
use Rattle.meet_lock.specs.declared.view.View.{View}

-- the lock was got
abbrev pub IsNotBusy : {A : Type 0} → Result A Declined → Type 0
IsNotBusy (Ok a) = Unit {0}
IsNotBusy (Err (Declined.Busy s)) = ⊥
IsNotBusy (Err (Declined.Refused r)) = Unit {0}

-- the same of a call of one kind of steps
abbrev pub IsCallMade : {A C R : Type 0} → Result A (Unmade C R) → Type 0
IsCallMade (Ok a) = Unit {0}
IsCallMade (Err (Unmade.Busy c)) = ⊥
IsCallMade (Err (Unmade.Refused r)) = Unit {0}

-- where it comes back, it is this one
abbrev pub IsBack : {C R : Type 0} → C → Unmade C R → Type 0
IsBack call (Unmade.Busy c) = c ≡ call
IsBack call (Unmade.Refused r) = Unit {0}

-- why such a call isn't made, as it is said of all steps
abbrev pub declined_by : {C R : Type 0} → (C → Step) → (R → Refused) → Unmade C R → Declined
declined_by asks refuses (Unmade.Busy c) = Declined.Busy (asks c)
declined_by asks refuses (Unmade.Refused r) = Declined.Refused (refuses r)

-- the view of the first seat before any number was given out
abbrev pub IsFirstView : ℕ → View → Type 0
IsFirstView passes v =
    (v.number ≡ passes) × (v.passes ≡ passes) × (v.top ≡ 0) × (v.holds ≡ false) × (v.ticket ≡ 0) × (v.its ≡ [])

module _ {M : Type 0} where
  -- the beginning of the history that the pass has seen, the newest entry first
  abbrev pub seen : Pass M → SharedPast
  seen p = p.seat.me.0.seen

  -- its number, from 1, and how many passes there are
  abbrev pub number : Pass M → ℕ
  number p = p.seat.me.0.number

  -- how many passes the lock has
  abbrev pub passes_of : Pass M → ℕ
  passes_of p = p.seat.me.0.passes

  -- the places of its own entries, the last first
  abbrev pub mine : Pass M → List ℕ
  mine p = places (number p) (seen p)

  -- how the machine is configured
  abbrev pub config_of : Pass M → ConfigNumbers
  config_of p = p.seat.me.0.config

  -- it is the same pass, of the same machine
  abbrev pub IsSame : Pass M → Pass M → Type 0
  IsSame p q =
      (q.seat.table_id ≡ p.seat.table_id)
      × (number q ≡ number p)
      × (passes_of q ≡ passes_of p)
      × (config_of q ≡ config_of p)

  -- what q has seen is legal, and goes on from what p had seen, by entries of passes alone
  abbrev pub Knows : (ConfigNumbers → Past → Type 0) → Pass M → Pass M → Type 0
  Knows legal p q =
      legal (config_of q) (entries (seen q)) × (b : IsBeginning (seen p) (seen q)) × AreOfPasses (passes_of p) b.0

  -- After an accepted step what was seen ends with this step's entry, whose place is the one addition to `mine`. What
  -- was there before goes on from what the pass had seen, by entries of passes alone; where there is one pass, by none.
  pub record Accepted (accepts : ConfigNumbers → Past → Step → Entry → Answer → Type 0) (p q : Pass M) (step : Step)
      (a : Answer) : Type 0 where
    pub before : SharedPast
    pub entry : Entry
    pub ends : seen q ≡ noted (number p) entry ∷ before
    pub adds : mine q ≡ length (seen q) ∷ mine p
    pub says : accepts (config_of p) (entries before) step entry a
    pub goes : ExtendsByPasses (passes_of p) (seen p) before
    pub alone : passes_of p ≡ 1 → before ≡ seen p

  -- Where another caller held the lock nothing has changed, and the step comes back. A refusal is the machine's at what
  -- was seen.
  abbrev pub Declines : (ConfigNumbers → Past → Step → Refused → Type 0) → Pass M → Pass M → Step → Declined → Type 0
  Declines refuses p q step (Declined.Busy s) = (s ≡ step) × (seen q ≡ seen p) × (mine q ≡ mine p)
  Declines refuses p q step (Declined.Refused r) = (mine q ≡ mine p) × refuses (config_of p) (entries (seen q)) step r

  -- What was told is of a machine that is configured as the pass knows, and whose history is what the pass has seen.
  pub record Glanced {T : Type 0} (config : M → ConfigNumbers) (history : M → Past) (tells : M → T → Type 0)
      (q : Pass M) (t : T) : Type 0 where
    pub machine : M
    pub config_is : config machine ≡ config_of q
    pub history_is : history machine ≡ entries (seen q)
    pub told : tells machine t

  -- A machine that is configured as the pass knows, and whose history is what the pass has seen, forgot its entries
  -- before this place: before it did so it was the same, but for how many were forgotten.
  pub record Forgot (config : M → ConfigNumbers) (history : M → Past) (forgotten : M → ℕ) (place : ℕ) (q : Pass M)
      : Type 0 where
    pub before : M
    pub machine : M
    pub config_is : config machine ≡ config_of q
    pub history_is : history machine ≡ entries (seen q)
    pub config_was : config before ≡ config machine
    pub history_was : history before ≡ history machine
    pub count : forgotten machine ≡ max (forgotten before) (min place (length (history machine)))

  -- Both have seen the same legal history. It begins with what each had seen, and `mine` stays.
  pub record Met (legal : ConfigNumbers → Past → Type 0) (p1 p2 q1 q2 : Pass M) : Type 0 where
    pub same : seen q1 ≡ seen q2
    pub right : legal (config_of q1) (entries (seen q1))
    pub both : legal (config_of q2) (entries (seen q2))
    pub first : ExtendsByPasses (passes_of p1) (seen p1) (seen q1)
    pub second : ExtendsByPasses (passes_of p2) (seen p2) (seen q2)

  -- what the passes had seen goes on to the history held, which has no entries of theirs that they haven't seen
  abbrev pub AllSaw : ℕ → SharedPast → List (Pass M) → Type 0
  AllSaw passes held [] = Unit {0}
  AllSaw passes held (p ∷ ps) =
      (ExtendsByPasses passes (seen p) held × (places (number p) held ≡ mine p)) × AllSaw passes held ps

  -- the history is what one of the passes has seen, and each has seen a beginning of it, with all its own entries
  pub record IsSeenWhole (ps : List (Pass M)) (past : Past) : Type 0 where
    pub place : ℕ
    pub pass : Pass M
    pub there : slice_get ps place ≡ Some pass
    pub whole : past ≡ entries (seen pass)
    pub all : (k : ℕ) (p : Pass M) → slice_get ps k ≡ Some p
        → ExtendsByPasses (length ps) (seen p) (seen pass) × (places (number p) (seen pass) ≡ mine p)

  -- ---- passes that are given out

  -- of the n-th pass: it has seen the machine's history, and has made none of it
  abbrev pub IsNew : ℕ → ConfigNumbers → Past → ℕ → Pass M → Type 0
  IsNew passes c past n p =
      (number p ≡ n) × (passes_of p ≡ passes) × (config_of p ≡ c) × (seen p ≡ unmade past) × (mine p ≡ [])

  -- and while they are given out
  abbrev pub Deals : ℕ → View → Me (Option M) View → Type 0
  Deals passes v m =
      (m.1 ≡ [])
      × (m.0.number ≡ passes)
      × (m.0.passes ≡ passes)
      × (m.0.holds ≡ false)
      × (m.0.seen ≡ v.seen)
      × (m.0.config ≡ v.config)
      × (m.0.ticket ≡ 0)
      × (m.0.its ≡ [])

  -- the k-th pass has the number k + 1, and the view of the first seat else
  abbrev pub AreNewPasses : TableId → View → List (Pass M) → Type 0
  AreNewPasses z v ps = (k : ℕ) (p : Pass M) → slice_get ps k ≡ Some p
      → (p.seat.table_id ≡ z)
      × (number p ≡ k + 1)
      × (passes_of p ≡ v.passes)
      × (config_of p ≡ v.config)
      × (seen p ≡ v.seen)

  -- ---- the seats of messages

  -- what a message has seen
  abbrev pub message_seen : NoteSeat M → SharedPast
  message_seen m = m.seat.me.0.seen

  -- the configuration that the maker of a message knew
  abbrev pub message_config : NoteSeat M → ConfigNumbers
  message_config m = m.seat.me.0.config

  -- the ticket that it owns, or 0, that ticket's entries, and what it has seen
  abbrev pub owned_ticket : TicketSeat M → ℕ
  owned_ticket w = w.seat.me.0.ticket

  -- the entries of the ticket that it owns, the newest first
  abbrev pub its : TicketSeat M → Past
  its w = w.seat.me.0.its

  -- what a ticket's owner has seen
  abbrev pub ticket_seen : TicketSeat M → SharedPast
  ticket_seen w = w.seat.me.0.seen

  -- the configuration that a ticket's owner knows
  abbrev pub ticket_config : TicketSeat M → ConfigNumbers
  ticket_config w = w.seat.me.0.config

  -- After an accepted step of an owned ticket: its entry is one more of the ticket's.
  pub record Worked (accepts : ConfigNumbers → Past → Step → Entry → Answer → Type 0) (p q : Pass M)
      (w v : TicketSeat M) (step : Step) (a : Answer) : Type 0 where
    pub by : Accepted accepts p q step a
    pub more : its v ≡ by.entry ∷ its w

  -- After a step the pass has also seen what the seat had, and the seat what the pass has; where another caller held
  -- the lock the seat is as it was.
  abbrev pub Learned : Pass M → TicketSeat M → TicketSeat M → Type 0
  Learned q w v =
      IsBeginning (ticket_seen w) (seen q)
      × (ticket_seen v ≡ seen q)
      × (ticket_config w ≡ config_of q)
      × (ticket_config v ≡ config_of q)

  -- what a seat has learnt of a step, by how that ended
  abbrev pub Saw : {A : Type 0} → Pass M → TicketSeat M → TicketSeat M → Result A Declined → Type 0
  Saw q w v (Ok a) = Learned q w v
  Saw q w v (Err (Declined.Busy s)) = (ticket_seen v ≡ ticket_seen w) × (ticket_config v ≡ ticket_config w)
  Saw q w v (Err (Declined.Refused r)) = Learned q w v

module _ {M K : Type 0} where
  -- the pass is one of this lock
  abbrev pub IsPassOfLock : Shared M K → Pass M → Type 0
  IsPassOfLock s p = p.seat.table_id ≡ s.table.shared.table_id

  -- what the machine had when the lock was made
  abbrev pub opening_of : (M → Past) → Shared M K → Past
  opening_of history s = history s.table.shared.key.machine.value

  -- the message is one of this lock
  abbrev pub IsNoteOf : Shared M K → NoteSeat M → Type 0
  IsNoteOf s m = m.seat.table_id ≡ s.table.shared.table_id

  -- the ticket's seat is one of this lock
  abbrev pub IsTicketOf : Shared M K → TicketSeat M → Type 0
  IsTicketOf s w = w.seat.table_id ≡ s.table.shared.table_id

  -- After an accepted step that names a queue: beside what `Accepted` says, the seat owns the ticket of that entry,
  -- whose one entry it is, and has seen what the pass has.
  pub record OpensTicket (accepts : ConfigNumbers → Past → Step → Entry → Answer → Type 0)
      (s : Shared M K) (p q : Pass M)
      (step : Step) (a : Answer) (w : TicketSeat M) : Type 0 where
    pub by : Accepted accepts p q step a
    pub of : IsTicketOf s w
    pub config : ticket_config w ≡ config_of p
    pub saw : ticket_seen w ≡ seen q
    pub owns : owned_ticket w ≡ ticket_in by.entry
    pub one : its w ≡ by.entry ∷ []
