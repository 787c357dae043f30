-- What a step of a seat tells, and a seat with and without the machine.
use Rattle.std.specs.Prelude.{Bool, List, None, Option, Some, [], false, true, ℕ, ◌<◌, ◌≤◌, ◌≡◌, ◌≢◌, ◌⊎◌, ◌∷◌}
use Rattle.atomic_table.specs.Table.{Me, Step}
use Rattle.atomic_table.specs.declared.shared.Seat.{Seat}
use Rattle.nvme_model.specs.History.{Past}
use Rattle.nvme_model.specs.Passes.{SharedPast, entries, places}
use Rattle.nvme_model.specs.declared.config.ConfigNumbers.{ConfigNumbers}
use Rattle.nvme_model.specs.declared.entry.Entry.{Entry}
use Rattle.meet_lock.specs.Lock.{ExtendsByPasses, IsMachineAt, grown, holding, informed, view_given_back, unmade}
use Rattle.ticket_laws.specs.Entries.{of_ticket, ticket_in}
use Rattle.meet_lock.specs.declared.view.Gathered.{Gathered}
use Rattle.meet_lock.specs.declared.view.View.{View}

-- all entries of its ticket, in what it has seen, are those that it has
abbrev pub KnowsTicket : View → Type 0
KnowsTicket v = 0 < v.ticket → of_ticket v.ticket (entries v.seen) ≡ v.its

-- the entry e may follow: it is of the seat's ticket, or the seat has none and e is of a new ticket or of none
abbrev pub MayTell : Bool → View → Past → Entry → Type 0
MayTell owned v past e = owned ≡ true
    → ((v.ticket ≡ 0) × (v.its ≡ []) × ((ticket_in e ≡ 0) ⊎ (of_ticket (ticket_in e) past ≡ [])))
    ⊎ ((0 < v.ticket) × (ticket_in e ≡ v.ticket))

-- one of these has this number
abbrev pub HasNumber : ℕ → List Gathered → Type 0
HasNumber n [] = ⊥
HasNumber n (g ∷ gs) = (g.number ≡ n) ⊎ HasNumber n gs

-- each pass but itself was joined to it
abbrev pub HasAllPasses : View → Type 0
HasAllPasses v = (n : ℕ) → 0 < n → n ≤ v.passes → n ≢ v.number → HasNumber n v.gathered

-- what each pass that was joined had seen is a beginning of the history, with all its entries
abbrev pub AllBegin : ConfigNumbers → ℕ → SharedPast → List Gathered → Type 0
AllBegin c passes log [] = Unit {0}
AllBegin c passes log (g ∷ gs) =
    ((g.config ≡ c) × ExtendsByPasses passes g.seen log × (places g.number log ≡ places g.number g.seen))
    × AllBegin c passes log gs

-- what was told and seen doesn't go beyond what it saw under the lock
abbrev pub SawAll : View → Type 0
SawAll v = v.hears ≡ true → ExtendsByPasses v.passes v.told v.held × (v.told_config ≡ v.config)

module _ {M : Type 0} (config : M → ConfigNumbers) (history : M → Past) (legal : ConfigNumbers → Past → Type 0) where
  -- the seat has the lock, and the machine
  pub record HoldsLock (v : View) (n : Me (Option M) View) : Type 0 where
    pub log : SharedPast
    pub machine : M
    pub is : n ≡ (holding v log, (0, Some machine) ∷ [])
    pub at : IsMachineAt config history v.config (entries log) machine
    pub right : legal v.config (entries log)
    pub begins : ExtendsByPasses v.passes v.seen log
    pub counted : (0 < v.number) × (v.number ≤ v.passes)
    pub mine : places v.number log ≡ places v.number v.seen
    pub gathered : AllBegin v.config v.passes log v.gathered

  -- the seat has the lock, and the machine is out of its slot
  pub record Out (v : View) (machine : M) (n : Me (Option M) View) : Type 0 where
    pub log : SharedPast
    pub is : n ≡ (holding v log, (0, None) ∷ [])
    pub at : IsMachineAt config history v.config (entries log) machine
    pub right : legal v.config (entries log)
    pub begins : ExtendsByPasses v.passes v.seen log
    pub counted : (0 < v.number) × (v.number ≤ v.passes)
    pub mine : places v.number log ≡ places v.number v.seen
    pub gathered : AllBegin v.config v.passes log v.gathered

  -- and it has one entry more than the lock's history
  pub record OutMore (owned : Bool) (machine : M) (m : Me (Option M) View) : Type 0 where
    pub entry : Entry
    pub out : m.1 ≡ (0, None) ∷ []
    pub holds : m.0.holds ≡ true
    pub at : IsMachineAt config history m.0.config (entry ∷ entries m.0.held) machine
    pub right : legal m.0.config (entry ∷ entries m.0.held)
    pub may : MayTell owned m.0 (entries m.0.held) entry

  -- and it has the lock's history
  pub record OutSame (machine : M) (m : Me (Option M) View) : Type 0 where
    pub out : m.1 ≡ (0, None) ∷ []
    pub holds : m.0.holds ≡ true
    pub at : IsMachineAt config history m.0.config (entries m.0.held) machine
    pub right : legal m.0.config (entries m.0.held)

  -- the lock was not free
  pub record Missed (m n : Me (Option M) View) : Type 0 where
    pub same : n ≡ m
    pub several : m.0.passes ≢ 1
    pub missing : HasAllPasses m.0 → ⊥
    pub right : legal m.0.config (entries m.0.seen)

  -- a compare-exchange of the lock word found r
  abbrev pub took : Step (Option M) → Me (Option M) View → ℕ → Me (Option M) View → Type 0
  took st m r n = (r ≡ 0 → HoldsLock m.0 n) × (r ≢ 0 → Missed m n)

-- the lock was given back with a machine that has one entry more
abbrev pub wrote : {M : Type 0} → (M → Past) → Bool → Step (Option M) → Me (Option M) View → ℕ → Me (Option M) View
    → Type 0
wrote {M} history owned st m r n =
    ((machine : M) (e : Entry) → m.1 ≡ (0, Some machine) ∷ [] → history machine ≡ e ∷ entries m.0.held
    → n ≡ (grown owned m.0 e, []))
    × SawAll m.0
    × KnowsTicket n.0

module _ {M : Type 0} where
  -- it was given back with the same history
  abbrev pub gives_lock_back : Step (Option M) → Me (Option M) View → ℕ → Me (Option M) View → Type 0
  gives_lock_back st m r n = (n ≡ (view_given_back m.0, [])) × SawAll m.0 × KnowsTicket n.0

  -- a load, after which the seat has seen what it was told
  abbrev pub looked : (ConfigNumbers → Past → Type 0) → Step (Option M) → Me (Option M) View → ℕ → Me (Option M) View
      → Type 0
  looked legal st m r n =
      (n ≡ (informed m.0, m.1))
      × (places n.0.number n.0.seen ≡ places m.0.number m.0.seen)
      × ExtendsByPasses m.0.passes m.0.seen n.0.seen
      × ExtendsByPasses m.0.passes m.0.told n.0.seen
      × legal n.0.config (entries n.0.seen)
      × (m.0.told_config ≡ m.0.config)

  -- a load, by which the seat learns what holds of what it has seen
  abbrev pub recalled : (ConfigNumbers → Past → Type 0) → Past → Step (Option M) → Me (Option M) View → ℕ
      → Me (Option M) View → Type 0
  recalled legal before st m r n =
      (n ≡ m) × legal m.0.config (entries m.0.seen) × ExtendsByPasses m.0.passes (unmade before) m.0.seen

  abbrev pub IsIdle : Me (Option M) View → Type 0
  IsIdle m = (m.1 ≡ []) × (m.0.holds ≡ false) × (0 < m.0.number)

  abbrev pub IsMessage : Me (Option M) View → Type 0
  IsMessage m = (m.1 ≡ []) × (m.0.number ≡ 0) × (m.0.holds ≡ false) × (m.0.message ≡ true)

  abbrev pub IsSameSeat : Seat (Option M) View → Seat (Option M) View → Type 0
  IsSameSeat p q = (q.table_id ≡ p.table_id) × (q.id ≡ p.id)
