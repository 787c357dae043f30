use Rattle.std.specs.Prelude.{All}
use Rattle.shared_system.specs.Plain.{IsPlainCallerOf}
use Rattle.driver_testing.specs.Claimants.{IsClaimant}
use Rattle.slot_tests.proofs.crowd.round.Given as goal

abbrev pub invariant-loop : goal.invariant-loop
invariant-loop g l = IsPlainCallerOf l.system l.server × All (IsClaimant l.system l.slots) l.crowd.waiting.items
    × All (IsClaimant l.system l.slots) l.crowd.done.items
