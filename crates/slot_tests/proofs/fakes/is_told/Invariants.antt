use Rattle.std.specs.Prelude.{IfSome}
use Rattle.slot_alloc.specs.Claims.{IsClaimingOf}
use Rattle.slot_tests.proofs.fakes.is_told.Given as goal

abbrev pub invariant-loop-want : goal.invariant-loop-want
invariant-loop-want g l = IfSome l.next (λ k. IsClaimingOf l.driver k)
