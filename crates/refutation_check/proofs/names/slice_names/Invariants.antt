use Rattle.std.proofs.Common.{drop, filter, map, ◌++◌, ◌≡◌}
use Rattle.std.specs.List.{flat_map}
use Rattle.refutation.specs.Slices.{effects_of_command, is_piece}
use Rattle.refutation_check.specs.Commands.{name_of}
use Rattle.refutation_check.specs.Known.{IsKnown, config_of, trace_of}
use Rattle.refutation_check.proofs.names.slice_names.Given as goal

abbrev pub invariant-loop-queue : goal.invariant-loop-queue
invariant-loop-queue l =
    IsKnown l.known
    → map name_of l.found.items
    ++ filter (is_piece (config_of l.known) (trace_of l.known))
    (flat_map (λ m. effects_of_command (config_of l.known) (trace_of l.known) m.0 m.1) (drop l.queue-index l.commands))
    ≡ filter (is_piece (config_of l.known) (trace_of l.known))
    (flat_map (λ m. effects_of_command (config_of l.known) (trace_of l.known) m.0 m.1) l.commands)
