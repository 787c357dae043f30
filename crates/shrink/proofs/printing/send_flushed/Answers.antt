use Rattle.std.proofs.KnownBytes.{Appends-kept}
use Rattle.shrink.proofs.printing.send_flushed.Goals as goal

pub returns-in-Ok : goal.returns-in-Ok
returns-in-Ok g c = record { whole = Appends-kept _ _ _ _ c.in_ok-send_try.ensures.whole c.in-Ok.ensures.bytes }
