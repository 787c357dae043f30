-- What a survivor has in hand while it waits.
use Rattle.std.proofs.Common.{List, subst, sym, ℕ, ◌≡◌, ◌≢◌}
use Rattle.driver_cas.specs.declared.shared_port.SharedPort.{SharedPort}
use Rattle.race_hosts.specs.declared.owned.Host.{Host}
use Rattle.slot_alloc.specs.Claims.{IsReleasingOf}
use Rattle.slot_alloc.specs.declared.release.Releasing.{Releasing}
use Rattle.slot_takeover.specs.Holders.{IsReadingOf}
use Rattle.slot_takeover.specs.Takeovers.{HoldsTaken, IsTakingOverOf}
use Rattle.slot_takeover.specs.declared.held.HeldSlot.{HeldSlot}
use Rattle.slot_takeover.specs.declared.holder.ReadingHolder.{ReadingHolder}
use Rattle.slot_takeover.specs.declared.taking.TakingOver.{TakingOver}
use Rattle.race.specs.Survivors.{IsSweepStage}
use Rattle.race.specs.declared.fate.Fate.{Fate}
use Rattle.race.specs.declared.survivor.SweepCall.{SweepCall}
use Rattle.race.specs.declared.survivor.SweepStage.{SweepStage}

-- what was begun and what was taken over stays so
pub stays : (fates : List Fate) (h k : Host) → k.queue ≡ h.queue
    → ((r : ReadingHolder SharedPort) → IsReadingOf h.driver r → IsReadingOf k.driver r)
    → ((t : TakingOver SharedPort) → IsTakingOverOf h.driver t → IsTakingOverOf k.driver t)
    → ((x : HeldSlot) → HoldsTaken h.driver x → HoldsTaken k.driver x)
    → ((b : Releasing SharedPort) → IsReleasingOf h.driver b → IsReleasingOf k.driver b)
    → (s : SweepStage) → IsSweepStage fates h s → IsSweepStage fates k s
stays fates h k same reading taking held giving SweepStage.Asks is = is
stays fates h k same reading taking held giving (SweepStage.Finds n) is =
    (is.0, subst (λ (q : ℕ). n.host ≢ q) (sym same) is.1)
stays fates h k same reading taking held giving (SweepStage.Has x) is = held x.held is
stays fates h k same reading taking held giving (SweepStage.Waits (SweepCall.Reads r)) is = reading r is
stays fates h k same reading taking held giving (SweepStage.Waits (SweepCall.TakesOver t)) is = taking t is
stays fates h k same reading taking held giving (SweepStage.Waits (SweepCall.GivesBack b)) is = giving b is
stays fates h k same reading taking held giving SweepStage.Done is = is
