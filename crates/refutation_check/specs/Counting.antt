-- Lines that are counted.
use Rattle.std.specs.Prelude.{Bool, false, ℕ, ◌==◌}
use Rattle.trace.specs.declared.seen.Seen.{Seen}

-- A line reaps a completion from this completion queue.
abbrev pub is_reaped_from : Seen → ℕ → Bool
is_reaped_from (Seen.Published p) n = false
is_reaped_from (Seen.Reaped r) n = r.queue == n
