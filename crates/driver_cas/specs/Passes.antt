-- The events of a pass.
use Rattle.std.specs.Prelude.{List, ℕ, ◌≡◌}
use Rattle.meet_lock.specs.Lock.{ExtendsByPasses}
use Rattle.meet_lock.specs.Passes.{IsSame, config_of, mine, number, passes_of, seen}
use Rattle.work_queue.specs.Engines.{EnginePass}
use Rattle.driver_calls.specs.Events.{events}
use Rattle.driver_calls.specs.Views.{PortView}
use Rattle.driver_calls.specs.declared.event.PortEvent.{PortEvent}

-- what is known of the port of this completion queue with this pass
abbrev pub view_at : ℕ → EnginePass → PortView
view_at n p = record { config = config_of p; queue = n; pass = number p; seen = seen p }

-- what the pass published to the submission queues of completion queue n and reaped there, the newest first
abbrev pub log_at : ℕ → EnginePass → List PortEvent
log_at n p = events (config_of p) n (number p) (seen p)

-- the second is the first, which has seen what it had seen, and maybe more, of passes alone, and added no entry
pub record SawOn (p q : EnginePass) : Type 0 where
  pub same : IsSame p q
  pub mine_stay : mine q ≡ mine p
  pub goes_on : ExtendsByPasses (passes_of p) (seen p) (seen q)
