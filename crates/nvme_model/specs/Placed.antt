-- The effect of a unit, and where it may stand.
use Rattle.std.specs.Prelude.{Bool, None, Option, Some, [], if◌then◌else◌, is_some, not, ℕ, ◌&&◌, ◌+◌, ◌-◌, ◌==◌, ◌||◌}
use Rattle.std.specs.Prelude.{◌∷◌}
use Rattle.nvme_model.specs.History.{Past}
use Rattle.nvme_model.specs.declared.entry.Entry.{Entry}

-- what was before the effect of unit u of ticket t
abbrev pub effect : Past → ℕ → ℕ → Option Past
effect [] t u = None
effect (Entry.Block b ∷ past) t u = if b.effect && (b.ticket == t) && (b.unit == u) then Some past else effect past t u
effect (_ ∷ past) t u = effect past t u

-- how many effects unit u of ticket t has
abbrev pub effects_of : Past → ℕ → ℕ → ℕ
effects_of [] t u = 0
effects_of (Entry.Block b ∷ past) t u =
    effects_of past t u + (if b.effect && (b.ticket == t) && (b.unit == u) then 1 else 0)
effects_of (_ ∷ past) t u = effects_of past t u

-- a unit has one effect, after that of the unit before it
abbrev pub may_be_effect : Past → ℕ → ℕ → Bool
may_be_effect past t u = not (is_some (effect past t u)) && ((u == 0) || is_some (effect past t (u - 1)))
