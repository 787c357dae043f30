-- What a check of the slots keeps of the names of its area. What gives a slot is called a claim here, be it a claim or
-- a takeover.
use Rattle.std.specs.Prelude.{Bool, List, None, Option, Some, [], if◌then◌else◌, false, not, suc, unwrap_or, ℕ, ◌&&◌}
use Rattle.std.specs.Prelude.{◌==◌, ◌∷◌, ◌≡◌}
use Rattle.std.specs.HashMap.{get_by}
use Rattle.std.specs.HashSet.{contains_by}
use Rattle.std.specs.List.{filter, list_any}
use Rattle.std.specs.Option.{option_to_list}
use Rattle.nvme_model.specs.Config.{completion_queue}
use Rattle.nvme_model.specs.Slots.{Name, Swap, releases, same_name}
use Rattle.nvme_model.specs.declared.config.ConfigNumbers.{ConfigNumbers}
use Rattle.slot_check.specs.declared.names.EntryNumber.{EntryNumber}
use Rattle.slot_check.specs.declared.names.Names.{Names}
use Rattle.slot_check.specs.declared.names.SlotName.{SlotName}

-- for each name its claim, whether the success of a claim's second entry was reaped, by queue and number of that
-- entry,
-- and which names were released, by block
pub record KeptNames : Type 0 where
  pub claim : Name → Option Swap
  pub won : ℕ → ℕ → Option Bool
  pub released : ℕ → Name → Bool

-- in these tables
abbrev pub names_in : Names → KeptNames
names_in x =
    record {
      claim = λ n. get_by (same_name n) x.claims;
      won = λ q j. get_by (λ (e : EntryNumber). (q == e.queue) && (j == e.number)) x.won;
      released = λ l n. contains_by (λ (s : SlotName). (l == s.lba) && same_name n s.name) x.released;
    }

-- a claim of this name
abbrev pub claims_name : Name → Swap → Bool
claims_name n s = s.claims && same_name s.name n

-- a claim whose second entry is entry j of queue q
abbrev pub claims_by : ℕ → ℕ → Swap → Bool
claims_by q j s = s.claims && ((s.queue == q) && (suc s.number == j))

-- the claim is of the slot at block l, and passes the test
abbrev pub gives : ℕ → (Swap → Bool) → Option Swap → Bool
gives l test None = false
gives l test (Some w) = (w.lba == l) && test w

-- It is what is kept of these claims and releases, where r says of which entries success was reaped.
pub record KnowsNames (r : ℕ → ℕ → Bool) (of : List Swap) (k : KeptNames) : Type 0 where
  pub claim : (n : Name) → filter (claims_name n) of ≡ option_to_list (k.claim n)
  pub won : (q j : ℕ) → k.won q j ≡ (if list_any (claims_by q j) of then Some (r q j) else None)
  pub released : (l : ℕ) (n : Name) → k.released l n ≡ list_any (λ s. releases s l n) of

-- its own host believes the name of the slot at block l, as this is kept
abbrev pub believes : KeptNames → ℕ → Name → Bool
believes k l n = gives l (λ w. unwrap_or (k.won w.queue (suc w.number)) false) (k.claim n) && not (k.released l n)

-- the claim of the release's name is of its slot, on a queue that has the same completion queue
abbrev pub keeps_queue : ConfigNumbers → KeptNames → Swap → Bool
keeps_queue c k s =
    gives s.lba (λ w. completion_queue c w.queue == completion_queue c s.queue) (k.claim s.name)

-- success wasn't reaped of the second entry of a claim
abbrev pub AreUnwon : (ℕ → ℕ → Bool) → List Swap → Type 0
AreUnwon r [] = Unit {0}
AreUnwon r (s ∷ later) = (r s.queue (suc s.number) ≡ false) × AreUnwon r later
