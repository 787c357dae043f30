use Rattle.std.proofs.Common.{refl}
use Rattle.driver_cas.proofs.Listening.{saw_more}
use Rattle.driver_cas.proofs.shared_port.SharedPort.meet_pass.Goals as goal

pub returns-clause-saw : goal.returns-clause-saw
returns-clause-saw c = saw_more c.args.self.now _ refl (λ h. h) c.meet_passes.ensures.first
