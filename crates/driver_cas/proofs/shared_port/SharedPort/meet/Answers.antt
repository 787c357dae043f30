use Rattle.std.proofs.Common.{refl}
use Rattle.driver_cas.proofs.Listening.{saw_more}
use Rattle.driver_cas.proofs.shared_port.SharedPort.meet.Goals as goal

pub returns-clause-first : goal.returns-clause-first
returns-clause-first c = saw_more c.args.self.now _ refl (λ h. h) c.meet_passes.ensures.first

pub returns-clause-second : goal.returns-clause-second
returns-clause-second c = saw_more c.args.other.now _ refl (λ h. h) c.meet_passes.ensures.second
