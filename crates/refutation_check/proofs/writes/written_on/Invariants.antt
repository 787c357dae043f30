use Rattle.std.proofs.Common.{map, take, ◌≡◌}
use Rattle.nvme_model.specs.Operations.{write_data}
use Rattle.refutation.specs.Slices.{ticket_of}
use Rattle.refutation_check.specs.Commands.{name_of}
use Rattle.refutation_check.specs.Known.{IsKnown, trace_of}
use Rattle.refutation_check.proofs.writes.written_on.Given as goal

abbrev pub invariant-loop-block : goal.invariant-loop-block
invariant-loop-block l =
    IsKnown l.known → l.writes.items
    ≡ map (λ n. (n, write_data (ticket_of (trace_of l.known) (name_of l.effect)) n)) (take l.block-index l.blocks)
