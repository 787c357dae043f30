use Rattle.std.proofs.Common.{drop, ◌≡◌}
use Rattle.refutation_check.specs.Commands.{name_of}
use Rattle.refutation_check.specs.ToldHeads.{place_of}
use Rattle.refutation_check.proofs.told_heads.place_of.Given as goal

abbrev pub invariant-loop-head : goal.invariant-loop-head
invariant-loop-head l =
    place_of (drop l.head-index l.heads) l.queue (name_of l.effect) l.place
    ≡ place_of l.heads l.queue (name_of l.effect) l.lines
