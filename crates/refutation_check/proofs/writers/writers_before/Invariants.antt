use Rattle.std.proofs.Common.{drop, filter, map, ◌++◌, ◌≡◌}
use Rattle.refutation_check.specs.Commands.{name_of}
use Rattle.refutation_check.specs.Known.{IsKnown, config_of, options_of, trace_of}
use Rattle.refutation_check.specs.Leaving.{was_before}
use Rattle.refutation_check.proofs.writers.writers_before.Given as goal

abbrev pub invariant-loop-writer : goal.invariant-loop-writer
invariant-loop-writer l =
    let before = was_before (options_of l.known) (config_of l.known) (trace_of l.known) (name_of l.effect) in
    IsKnown l.known
    → map name_of l.found.items ++ filter before (map name_of (drop l.writer-index l.writers))
    ≡ filter before (map name_of l.writers)
