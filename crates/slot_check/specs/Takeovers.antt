-- What a check of the slots keeps of the takeovers of its area.
use Rattle.std.specs.Prelude.{Bool, List, None, Option, Some, [], false, if◌then◌else◌, true, ℕ, ◌&&◌, ◌==◌, ◌∷◌}
use Rattle.std.specs.Prelude.{nat_eq, ◌≡◌}
use Rattle.std.specs.HashMap.{get, get_by}
use Rattle.std.specs.HashSet.{contains_by}
use Rattle.std.specs.List.{find}
use Rattle.nvme_model.specs.Array.{has_block}
use Rattle.nvme_model.specs.Config.{completion_queue}
use Rattle.nvme_model.specs.History.{Past}
use Rattle.nvme_model.specs.Slots.{Name, same_name}
use Rattle.nvme_model.specs.declared.array.Range.{Range}
use Rattle.nvme_model.specs.declared.config.ConfigNumbers.{ConfigNumbers}
use Rattle.host_laws.specs.Rules.{takeovers_within}
use Rattle.host_laws.specs.Takeovers.{Takeover, is_taken, takeovers}
use Rattle.slot_check.specs.Broken.{cut_off_at}
use Rattle.slot_check.specs.Names.{KeptNames, gives}
use Rattle.slot_check.specs.declared.names.EntryNumber.{EntryNumber}
use Rattle.slot_check.specs.declared.names.SlotName.{SlotName}
use Rattle.slot_check.specs.declared.takeovers.Takeovers.{Takeovers}

-- the takeovers that were published, by queue and number of their first entry; which names were taken over, by block;
-- and for a completion queue that was cut off the block of the slot whose takeover did so
pub record KeptTakeovers : Type 0 where
  pub begun : ℕ → ℕ → Option Takeover
  pub taken : ℕ → Name → Bool
  pub cut : ℕ → Option ℕ

-- in these tables
abbrev pub takeovers_kept : Takeovers → KeptTakeovers
takeovers_kept x =
    record {
      begun = λ q j. get_by (λ (e : EntryNumber). (q == e.queue) && (j == e.number)) x.begun;
      taken = λ l n. contains_by (λ (s : SlotName). (l == s.lba) && same_name n s.name) x.taken;
      cut = λ q. get nat_eq x.cut q;
    }

-- a takeover whose first entry is entry j of queue q
abbrev pub begins_at : ℕ → ℕ → Takeover → Bool
begins_at q j w = (w.queue == q) && (w.number == j)

-- It is what is kept of the takeovers of this history.
pub record KnowsTakeovers (c : ConfigNumbers) (area : Range) (past : Past) (k : KeptTakeovers) : Type 0 where
  pub begun : (q j : ℕ) → k.begun q j ≡ find (begins_at q j) (takeovers_within area (takeovers past))
  pub taken : (l : ℕ) (n : Name) → has_block area l ≡ true → k.taken l n ≡ is_taken past l n
  pub cut : (q : ℕ) → k.cut q ≡ cut_off_at c area past q

-- the takeover's dead name was given the slot on completion queue q, as these names are kept
abbrev pub cuts_in : ConfigNumbers → KeptNames → ℕ → Takeover → Bool
cuts_in c k q w = gives w.lba (λ s. completion_queue c s.queue == q) (k.claim w.dead)

-- The block of the first of these takeovers that cuts completion queue q off, or else what was kept of it.
abbrev pub cut_by : ConfigNumbers → KeptNames → List Takeover → (ℕ → Option ℕ) → ℕ → Option ℕ
cut_by c k [] cut q = cut q
cut_by c k (w ∷ later) cut q = if cuts_in c k q w then Some w.lba else cut_by c k later cut q

-- The first of these takeovers whose first entry is entry j of queue q, or else what was kept of it.
abbrev pub begun_by : List Takeover → (ℕ → ℕ → Option Takeover) → ℕ → ℕ → Option Takeover
begun_by [] begun q j = begun q j
begun_by (w ∷ later) begun q j = if begins_at q j w then Some w else begun_by later begun q j

-- the takeover is of this name from the slot at block l
abbrev pub takes_name : ℕ → Name → Option Takeover → Bool
takes_name l n None = false
takes_name l n (Some w) = (w.lba == l) && same_name w.dead n
