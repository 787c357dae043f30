use Rattle.std.proofs.Common.{List, ap, subst, sym}
use Rattle.std.specs.declared.snapshot.Snapshot.{Snapshot}
use Rattle.driver_calls.specs.Views.{IsAlone, log_of}
use Rattle.driver_calls.specs.declared.event.PortEvent.{PortEvent}
use Rattle.driver_cas.specs.Drivers.{before, number_of}
use Rattle.driver_cas.specs.Ports.{view_of}
use Rattle.driver_cas.specs.declared.shared_port.SharedPort.{SharedPort}
use Rattle.slot_alloc.proofs.Taking.{swaps_on}
use Rattle.slot_alloc.proofs.laws.a_won_slot_was_free.Goals as goal

pub returns : goal.returns
returns c = λ alone lba serial call s.
    let d = c.args.driver.now in
    swaps_on (before s.at) (view_of call.start.value) (view_of s.at.port) (view_of d.port) call.queue
    (number_of s.at call) call.op s.later.view d.port.legal s.says
    (subst (λ (log : List PortEvent). IsAlone log (view_of d.port))
    (sym (ap (λ (b : Snapshot SharedPort). log_of (view_of b.value)) s.same.began)) alone)
