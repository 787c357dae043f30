use Rattle.std.proofs.Common.{List, ap, subst}
use Rattle.std.specs.declared.snapshot.Snapshot.{Snapshot}
use Rattle.driver_calls.specs.Views.{IsAlone, log_of}
use Rattle.driver_calls.specs.declared.event.PortEvent.{PortEvent}
use Rattle.driver_cas.specs.Drivers.{before, number_of}
use Rattle.driver_cas.specs.Ports.{view_of}
use Rattle.driver_cas.specs.declared.shared_port.SharedPort.{SharedPort}
use Rattle.slot_alloc.proofs.Taking.{differs_on, swaps_on}
use Rattle.slot_takeover.specs.Takeovers.{takeover_call}
use Rattle.slot_takeover.proofs.laws.a_takeover_was_answered.Goals as goal

pub returns : goal.returns
returns c =
    let at = c.args.at.now.value in
    let d = c.args.driver.now in
    let k = takeover_call c.args.taking.now.value in
    record {
      held = λ alone same later h polled.
          swaps_on (before at) (view_of k.start.value) (view_of at.port) (view_of d.port) k.queue (number_of at k) k.op
          later.view d.port.legal polled.2.1
          (subst (λ (log : List PortEvent). IsAlone log (view_of d.port))
          (ap (λ (b : Snapshot SharedPort). log_of (view_of b.value)) same.began) alone);
      taken = λ alone same later polled.
          differs_on (before at) (view_of k.start.value) (view_of at.port) (view_of d.port) k.queue (number_of at k)
          k.op later.view d.port.legal polled.0 polled.1.1
          (subst (λ (log : List PortEvent). IsAlone log (view_of d.port))
          (ap (λ (b : Snapshot SharedPort). log_of (view_of b.value)) same.began) alone);
    }
