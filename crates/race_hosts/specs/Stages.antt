-- What a host has begun from one turn to the next.
use Rattle.std.specs.Prelude.{Bool, false, ℕ, ◌==◌}
use Rattle.slot_alloc.specs.Claims.{IsClaimingOf, IsHeldBy, IsReleasingOf, IsUnreleased}
use Rattle.slot_alloc.specs.Counts.{IsPast}
use Rattle.race_hosts.specs.declared.owned.Host.{Host}
use Rattle.race_hosts.specs.declared.stage.RoundStage.{RoundStage}

-- What is begun is the host's driver's, and the slot that is held is believed by its log. The round's claim of slot 0
-- was published, if the round is begun.
abbrev pub IsStageOf : Host → RoundStage → Type 0
IsStageOf h RoundStage.Ready = Unit {0}
IsStageOf h (RoundStage.Claiming k) = IsClaimingOf h.driver k × IsUnreleased h.driver k × IsPast k 0
IsStageOf h (RoundStage.Holding k) = IsHeldBy h.driver k.claim
IsStageOf h (RoundStage.Releasing k) = IsReleasingOf h.driver k

-- no round is left to be begun, and none is
abbrev pub are_over : ℕ → RoundStage → Bool
are_over left RoundStage.Ready = left == 0
are_over left (RoundStage.Claiming k) = false
are_over left (RoundStage.Holding k) = false
are_over left (RoundStage.Releasing k) = false
