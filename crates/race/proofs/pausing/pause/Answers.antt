use Rattle.std.proofs.Common.{subst, sym}
use Rattle.driver_cas.specs.Starts.{IsUntouched}
use Rattle.slot_takeover.specs.Takeovers.{HoldsTaken}
use Rattle.slot_takeover.specs.declared.held.HeldSlot.{HeldSlot}
use Rattle.race.proofs.pausing.pause.Goals as goal

pub returns-clause-held : goal.returns-clause-held
returns-clause-held g c =
    let new = c.listen.new.self in
    let untouched : IsUntouched c.of-before.result.value new =
    subst (λ d. IsUntouched d new) (sym c.of-before.ensures) c.listen.ensures.untouched in
    subst (λ d. (h : HeldSlot) → HoldsTaken d h → HoldsTaken new h) c.of-before.ensures
    (c.an_untouched_driver_keeps_its_takeovers.ensures.held untouched)
