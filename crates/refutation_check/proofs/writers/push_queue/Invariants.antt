use Rattle.std.proofs.Common.{filter, map, ◌++◌, ◌-◌, ◌≡◌}
use Rattle.std.specs.List.{flat_map, range_with_len}
use Rattle.refutation.specs.Slices.{effects_of_command, may_write}
use Rattle.refutation_check.specs.Answers.{answers_in}
use Rattle.refutation_check.specs.Commands.{name_of}
use Rattle.refutation_check.specs.Known.{IsKnown, config_of, trace_of}
use Rattle.refutation_check.proofs.writers.push_queue.Given as goal

abbrev pub invariant-loop-number : goal.invariant-loop-number
invariant-loop-number l =
    (l.number-end ≡ (answers_in l.known.tables.now).published l.queue)
    × (IsKnown l.known
    → map name_of l.found.items
    ++ filter (λ y. may_write (config_of l.known) (trace_of l.known) y l.block)
    (flat_map (effects_of_command (config_of l.known) (trace_of l.known) l.queue)
    (range_with_len l.number (l.number-end - l.number)))
    ≡ map name_of l.initial.found.items
    ++ filter (λ y. may_write (config_of l.known) (trace_of l.known) y l.block)
    (flat_map (effects_of_command (config_of l.known) (trace_of l.known) l.queue) (range_with_len 0 l.number-end)))
