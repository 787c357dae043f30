-- How many claims of a slot were published.
use Rattle.std.specs.Prelude.{List, length, ℕ, ◌&&◌, ◌==◌}
use Rattle.std.specs.List.{filter}
use Rattle.nvme_model.specs.Config.{completion_queue}
use Rattle.nvme_model.specs.History.{Past}
use Rattle.nvme_model.specs.Slots.{Swap, swaps}
use Rattle.nvme_model.specs.declared.config.ConfigNumbers.{ConfigNumbers}
use Rattle.driver_calls.specs.declared.event.PortEvent.{PortEvent}
use Rattle.slot_log_laws.specs.Swaps.{log_swaps}

-- how many of these are claims of the slot at block l
abbrev pub claim_count : ℕ → List Swap → ℕ
claim_count l of = length (filter (λ s. s.claims && (s.lba == l)) of)

-- how many claims of the slot at block l a driver published
abbrev pub log_claims : List PortEvent → ℕ → ℕ
log_claims log l = claim_count l (log_swaps log)

-- how many claims of the slot at block l were published to submission queues of completion queue q
abbrev pub claims_on : ConfigNumbers → Past → ℕ → ℕ → ℕ
claims_on c past q l = claim_count l (filter (λ s. completion_queue c s.queue == q) (swaps past))
