use Rattle.std.proofs.Common.{drop, filter, map, ◌++◌, ◌≡◌}
use Rattle.refutation_check.specs.Commands.{name_of}
use Rattle.refutation_check.specs.Fits.{fits}
use Rattle.refutation_check.specs.Known.{IsKnown, config_of, options_of, trace_of}
use Rattle.refutation_check.specs.Leaving.{may_leave}
use Rattle.refutation_check.proofs.writers.leavers.Given as goal

abbrev pub invariant-loop-writer : goal.invariant-loop-writer
invariant-loop-writer l =
    let leaves =
    may_leave (options_of l.chosen.known) (config_of l.chosen.known) (trace_of l.chosen.known)
    (map name_of l.chosen.names.now) (name_of l.effect) l.asked.block (fits l.asked.other l.asked.bytes.now) in
    IsKnown l.chosen.known
    → map name_of l.found.items ++ filter leaves (map name_of (drop l.writer-index l.writers))
    ≡ filter leaves (map name_of l.writers)
