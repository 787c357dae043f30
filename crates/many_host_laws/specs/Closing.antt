-- All passes of an engine: some that only served, and one of each host.
use Rattle.std.specs.Prelude.{List, Some, slice_get, true, ℕ, ◌+◌, ◌-◌, ◌++◌, ◌<◌, ◌≡◌, ◌≤◌}
use Rattle.std.specs.List.{Contains}
use Rattle.nvme_model.specs.Array.{has_block}
use Rattle.nvme_model.specs.Config.{completion_queue}
use Rattle.nvme_model.specs.History.{Past}
use Rattle.nvme_model.specs.Slots.{Name, Swap, believed, disciplined, holder, swaps}
use Rattle.nvme_model.specs.declared.array.Range.{Range}
use Rattle.nvme_model.specs.declared.config.ConfigNumbers.{ConfigNumbers}
use Rattle.host_laws.specs.Claims.{claims_only_on}
use Rattle.driver_calls.specs.Events.{events}
use Rattle.driver_calls.specs.Log.{is_tidy}
use Rattle.meet_lock.specs.Passes.{number, passes_of, seen}
use Rattle.slot_log_laws.specs.Counts.{claims_on, log_claims}
use Rattle.slot_log_laws.specs.SlotRules.{keeps_slot_rules}
use Rattle.many_host_laws.specs.Rosters.{keeps_to}
use Rattle.shared_system.specs.Servers.{IsServing}
use Rattle.work_queue.specs.Engines.{EnginePass}

-- All that this pass did was on the queues of this completion queue, under free CIDs, and by the rules of slots, for a
-- host of this number with serials up to `last`.
pub record HasDone (c : ConfigNumbers) (slots : Range) (host queue : ℕ) (p : EnginePass) : Type 0 where
  pub last : ℕ
  pub own : keeps_to c queue (number p) (seen p) ≡ true
  pub tidy : is_tidy (events c queue (number p) (seen p)) ≡ true
  pub slot_rules : keeps_slot_rules slots host last (events c queue (number p) (seen p)) ≡ true

-- One of the passes of an engine. The first ones, so many, only served; behind them is one of the host of each
-- completion queue, whose number is the host's.
pub record IsClosing (c : ConfigNumbers) (slots : Range) (servers : ℕ) (p : EnginePass) : Type 0 where
  pub all : passes_of p ≡ servers + c.cqs
  pub served : number p ≤ servers → IsServing p
  pub hosted : servers < number p → HasDone c slots (number p - servers) (number p - servers) p

-- they are numbered from 1 in order
abbrev pub AreClosing : ConfigNumbers → Range → ℕ → List EnginePass → Type 0
AreClosing c slots servers ps = (k : ℕ) (p : EnginePass) → slice_get ps k ≡ Some p
    → (number p ≡ k + 1) × IsClosing c slots servers p

-- A history keeps the discipline of its slots. At each beginning of it whoever is believed of a slot is its holder by
-- its block, and no slot has two believed names. Host h claims on submission queues of completion queue h alone, and
-- nobody else claims there.
pub record KeepsSlots (c : ConfigNumbers) (slots : Range) (past : Past) : Type 0 where
  pub disciplined : disciplined c slots past ≡ true
  pub holds : (later before : Past) (l : ℕ) (n : Name) → later ++ before ≡ past → has_block slots l ≡ true
      → believed c before l n ≡ true → holder before l ≡ Some n
  pub one : (later before : Past) (l : ℕ) (n m : Name) → later ++ before ≡ past → has_block slots l ≡ true
      → believed c before l n ≡ true → believed c before l m ≡ true → n ≡ m
  pub numbers : (h : ℕ) → 1 ≤ h → h ≤ c.cqs → claims_only_on c slots past h h ≡ true
  pub own : (h : ℕ) (s : Swap) → 1 ≤ h → h ≤ c.cqs → Contains (swaps past) s → has_block slots s.lba ≡ true
      → s.claims ≡ true → completion_queue c s.queue ≡ h → s.name.host ≡ h

-- On the submission queues of this completion queue the pass published so many claims of the area's first slot.
abbrev pub HasClaimed : ConfigNumbers → Range → ℕ → ℕ → EnginePass → Type 0
HasClaimed c slots queue rounds p = log_claims (events c queue (number p) (seen p)) slots.slba ≡ rounds

-- each pass behind the servers' did, on the queues of its own host
abbrev pub HaveClaimed : ConfigNumbers → Range → ℕ → ℕ → List EnginePass → Type 0
HaveClaimed c slots servers rounds ps = (k : ℕ) (p : EnginePass) → slice_get ps k ≡ Some p → servers < number p
    → HasClaimed c slots (number p - servers) rounds p

-- In the history each host claimed the area's first slot so often. A round of a host begins with such a claim.
abbrev pub HasRounds : ConfigNumbers → Range → ℕ → Past → Type 0
HasRounds c slots rounds past = (h : ℕ) → 1 ≤ h → h ≤ c.cqs → claims_on c past h slots.slba ≡ rounds
