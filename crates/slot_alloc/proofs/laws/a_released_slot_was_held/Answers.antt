use Rattle.std.proofs.Common.{List, ap, subst}
use Rattle.std.specs.declared.snapshot.Snapshot.{Snapshot}
use Rattle.driver_calls.specs.Views.{IsAlone, log_of}
use Rattle.driver_calls.specs.declared.event.PortEvent.{PortEvent}
use Rattle.driver_cas.specs.Drivers.{before, number_of}
use Rattle.driver_cas.specs.Ports.{view_of}
use Rattle.driver_cas.specs.declared.shared_port.SharedPort.{SharedPort}
use Rattle.slot_alloc.specs.Claims.{release_call}
use Rattle.slot_alloc.proofs.Taking.{swaps_on}
use Rattle.slot_alloc.proofs.laws.a_released_slot_was_held.Goals as goal

pub returns : goal.returns
returns c = λ alone same later released.
    let at = c.args.at.now.value in
    let d = c.args.driver.now in
    let k = release_call c.args.releasing.now.value in
    swaps_on (before at) (view_of k.start.value) (view_of at.port) (view_of d.port) k.queue (number_of at k) k.op
    later.view d.port.legal released.1
    (subst (λ (log : List PortEvent). IsAlone log (view_of d.port))
    (ap (λ (b : Snapshot SharedPort). log_of (view_of b.value)) same.began) alone)
