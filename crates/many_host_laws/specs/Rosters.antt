-- Several drivers and servers that share one history: whose each entry is.
use Rattle.std.specs.Prelude.{Bool, if◌then◌else◌, not, true, ℕ, ◌==◌, ◌||◌, ◌≡◌}
use Rattle.std.specs.List.{list_all}
use Rattle.nvme_model.specs.Legal.{IsLegal}
use Rattle.nvme_model.specs.Passes.{SharedPast, entries}
use Rattle.nvme_model.specs.declared.array.Range.{Range}
use Rattle.nvme_model.specs.declared.config.ConfigNumbers.{ConfigNumbers}
use Rattle.nvme_model.specs.declared.entry.Entry.{Entry}
use Rattle.host_laws.specs.Beside.{is_beside}
use Rattle.driver_calls.specs.Events.{events}
use Rattle.driver_calls.specs.Log.{is_tidy}
use Rattle.driver_calls.specs.Views.{PortView}
use Rattle.slot_log_laws.specs.SlotRules.{keeps_slot_rules}
use Rattle.shared_system.specs.Servers.{is_serving}

-- By the number of a pass: whether it is the pass of a driver's port; and if so the completion queue of that port, the
-- driver's host number, and the last serial that it drew.
pub record Roster : Type 0 where
  pub drives : ℕ → Bool
  pub queue : ℕ → ℕ
  pub host : ℕ → ℕ
  pub last : ℕ → ℕ

-- made by pass p, it is a driver's own, for its queues; or, where the pass is no driver's, it serves
abbrev pub is_in_place : ConfigNumbers → Roster → ℕ → Entry → Bool
is_in_place c r p e = if r.drives p then not (is_beside c (r.queue p) e) else is_serving e

-- each entry that pass p made is a Publish to a submission queue of completion queue n, or a Reap of it
abbrev pub keeps_to : ConfigNumbers → ℕ → ℕ → SharedPast → Bool
keeps_to c n p shared = list_all (λ m. not (m.0 == p) || not (is_beside c n m.1)) shared

-- each entry is so
abbrev pub all_in_place : ConfigNumbers → Roster → SharedPast → Bool
all_in_place c r shared = list_all (λ m. is_in_place c r m.0 m.1) shared

-- What pass p did for its driver: each of its batches was under free CIDs, and kept the rules of slots.
pub record PassKeepsSlotRules (c : ConfigNumbers) (slots : Range) (r : Roster) (p : ℕ)
    (shared : SharedPast) : Type 0 where
  pub tidy : is_tidy (events c (r.queue p) p shared) ≡ true
  pub slot_rules : keeps_slot_rules slots (r.host p) (r.last p) (events c (r.queue p) p shared) ≡ true

-- The history is that of these drivers, each of which keeps the rules of slots by what it did itself, and of servers.
-- No two drivers have one completion queue, nor one host number.
pub record IsRosterOf (c : ConfigNumbers) (slots : Range) (r : Roster) (shared : SharedPast) : Type 0 where
  pub legal : IsLegal c (entries shared)
  pub in_place : all_in_place c r shared ≡ true
  pub drivers : (p : ℕ) → r.drives p ≡ true → PassKeepsSlotRules c slots r p shared
  pub queues : (p q : ℕ) → r.drives p ≡ true → r.drives q ≡ true → r.queue p ≡ r.queue q → p ≡ q
  pub hosts : (p q : ℕ) → r.drives p ≡ true → r.drives q ≡ true → r.host p ≡ r.host q → p ≡ q

-- what is known of the port of pass p
abbrev pub view_of_pass : ConfigNumbers → Roster → SharedPast → ℕ → PortView
view_of_pass c r shared p = record { config = c; queue = r.queue p; pass = p; seen = shared }
