-- The premises under which a driver's log tells who holds a slot in a shared history.
use Rattle.std.specs.Prelude.{Bool, List, [], not, true, ℕ, ◌&&◌, ◌||◌, ◌∷◌, ◌≡◌}
use Rattle.nvme_model.specs.History.{Past}
use Rattle.nvme_model.specs.Legal.{IsLegal}
use Rattle.nvme_model.specs.Passes.{entries}
use Rattle.nvme_model.specs.declared.array.Range.{Range}
use Rattle.nvme_model.specs.declared.config.ConfigNumbers.{ConfigNumbers}
use Rattle.host_laws.specs.Beside.{is_beside}
use Rattle.host_laws.specs.Claims.{claims_only_on}
use Rattle.host_laws.specs.Discipline.{keeps_at}
use Rattle.driver_calls.specs.Log.{is_tidy}
use Rattle.driver_calls.specs.Views.{IsAlone, PortView, log_of, since}
use Rattle.driver_calls.specs.declared.event.PortEvent.{PortEvent}
use Rattle.slot_log_laws.specs.SlotRules.{keeps_slot_rules}

-- each Publish to a submission queue of another completion queue than n keeps the discipline at its own place
abbrev pub elsewhere_keeps : ConfigNumbers → Range → ℕ → Past → Bool
elsewhere_keeps c slots n [] = true
elsewhere_keeps c slots n (e ∷ past) =
    elsewhere_keeps c slots n past && (not (is_beside c n e) || keeps_at c slots past e)

-- The premises, of what was seen: only this driver uses its queues, which nobody used before; whoever uses others keeps
-- the discipline of the slot area; and nobody else claims under this host's number.
pub record IsSlotHost (before : List PortEvent) (slots : Range) (host : ℕ) (now : PortView) : Type 0 where
  pub alone : IsAlone before now
  pub elsewhere : elsewhere_keeps now.config slots now.queue (entries now.seen) ≡ true
  pub own_number : claims_only_on now.config slots (entries now.seen) host now.queue ≡ true

-- what the port did for a driver that was made when the port had done `before`
abbrev pub log_since : List PortEvent → PortView → List PortEvent
log_since before v = since before (log_of v)

-- The premises hold of what a controller showed, and by its log the driver kept the rules of slots, with serials up to
-- `last`.
pub record IsSlotView (before : List PortEvent) (slots : Range) (host last : ℕ) (v : PortView) : Type 0 where
  pub legal : IsLegal v.config (entries v.seen)
  pub premises : IsSlotHost before slots host v
  pub tidy : is_tidy (log_since before v) ≡ true
  pub slot_rules : keeps_slot_rules slots host last (log_since before v) ≡ true
