use Rattle.std.proofs.Common.{filter, length, map, ◌+◌, ◌++◌, ◌-◌, ◌≡◌}
use Rattle.std.specs.List.{flat_map, range_with_len}
use Rattle.refutation.specs.Lines.{published_in}
use Rattle.refutation.specs.Slices.{effects_of_command, may_write}
use Rattle.refutation.specs.Writers.{writers_in}
use Rattle.refutation_check.specs.Commands.{name_of}
use Rattle.refutation_check.specs.Known.{IsKnown, config_of, trace_of}
use Rattle.refutation_check.proofs.writers.writers_in.Given as goal

abbrev pub invariant-loop-queue : goal.invariant-loop-queue
invariant-loop-queue l =
    (l.queue-end ≡ (config_of l.known).pairs)
    × (IsKnown l.known
    → map name_of l.found.items
    ++ filter (λ y. may_write (config_of l.known) (trace_of l.known) y l.block)
    (flat_map (λ q. flat_map (effects_of_command (config_of l.known) (trace_of l.known) q)
    (range_with_len 0 (length (published_in (trace_of l.known) q))))
    (range_with_len (l.queue + 1) (l.queue-end - l.queue)))
    ≡ writers_in (config_of l.known) (trace_of l.known) l.block)
