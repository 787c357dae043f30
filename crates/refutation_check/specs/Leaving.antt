-- Which writers of a block may have left there what an effect found.
use Rattle.std.specs.Prelude.{Bool, List, not, ℕ, ◌&&◌}
use Rattle.nvme_model.specs.Operations.{write_data}
use Rattle.nvme_model.specs.declared.config.ConfigNumbers.{ConfigNumbers}
use Rattle.trace.specs.declared.options.TraceOptions.{TraceOptions}
use Rattle.trace.specs.declared.seen.Seen.{Seen}
use Rattle.refutation.specs.EffectOrders.{EffectName, comes_before}
use Rattle.refutation.specs.Slices.{answer_of, is_named, ticket_of}
use Rattle.refutation.specs.Told.{says_done}

-- Writer y of block l, none of the named ones, leaves there what `fits` says of, and r doesn't come before it.
abbrev pub may_leave : TraceOptions → ConfigNumbers → List Seen → List EffectName → EffectName → ℕ → (List ℕ → Bool)
    → EffectName → Bool
may_leave o c trace names r l fits y =
    fits (write_data (ticket_of trace y) l) && not (is_named names y) && not (comes_before o c trace r y)

-- Writer x stands before r for sure.
abbrev pub was_before : TraceOptions → ConfigNumbers → List Seen → EffectName → EffectName → Bool
was_before o c trace r x = says_done (answer_of trace x) && comes_before o c trace x r
