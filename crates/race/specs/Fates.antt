-- Which hosts of a race die, and which are dead.
use Rattle.std.specs.Prelude.{Bool, List, None, Option, Some, false, slice_get, ℕ, ◌*◌, ◌-◌, ◌==◌, ◌≤◌}
use Rattle.driver_cas.specs.declared.fault.Fault.{Fault}
use Rattle.race.specs.declared.drawing.Actor.{Actor}
use Rattle.race.specs.declared.fate.Fate.{Fate}
use Rattle.race_numbers.specs.declared.race.Race.{Race}

-- A host that dies makes a turn before, and at most eight for each round of the race.
abbrev pub IsFateIn : Race → Fate → Type 0
IsFateIn r Fate.Lives = Unit {0}
IsFateIn r (Fate.Dies n) = (1 ≤ n) × (n ≤ 8 * r.rounds)

-- where this is why a call wasn't begun, or nothing was reaped, a survivor asks again: another caller had the lock, or
-- a ring was full
abbrev pub AsksAgain : Fault → Type 0
AsksAgain Fault.Busy = Unit {0}
AsksAgain Fault.RingFull = Unit {0}
AsksAgain _ = ⊥

-- the host makes no further turn
abbrev pub is_dead : Fate → Bool
is_dead Fate.Lives = false
is_dead (Fate.Dies n) = n == 0

-- that of a place is there and is dead
abbrev pub is_dead_fate : Option Fate → Bool
is_dead_fate None = false
is_dead_fate (Some f) = is_dead f

-- the caller is a host that is dead
abbrev pub is_dead_actor : List Fate → Actor → Bool
is_dead_actor fates (Actor.Host k) = is_dead_fate (slice_get fates k)
is_dead_actor fates _ = false

-- the host of this number, from 1, is dead
abbrev pub is_dead_host : List Fate → ℕ → Bool
is_dead_host fates h = is_dead_fate (slice_get fates (h - 1))
