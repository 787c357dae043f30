use Rattle.std.proofs.Common.{List, ap, sym, ◌∙◌, ◌≡◌}
use Rattle.driver_calls.specs.Events.{events}
use Rattle.driver_calls.specs.Views.{log_of, since}
use Rattle.driver_calls.specs.declared.event.PortEvent.{PortEvent}
use Rattle.driver_calls.proofs.Views.{since_none}
use Rattle.driver_cas.specs.Drivers.{made}
use Rattle.driver_cas.specs.Ports.{view_of}
use Rattle.meet_lock.specs.Passes.{config_of, number, seen}
use Rattle.slot_log_laws.specs.Counts.{log_claims}
use Rattle.many_host_laws.proofs.GoingOn.{none_done}
use Rattle.many_host_laws.proofs.closing.what_a_hosts_pass_claimed.Goals as goal

pub returns : goal.returns
returns c = λ config slots pass queue host l x.
    let d = c.args.driver.now in
    let s = seen d.port.pass in
    let n = number d.port.pass in
    let log = log_of (view_of d.port) in
    let ec : config_of d.port.pass ≡ config = x.config in
    let eq : d.port.queue ≡ queue = x.queue_is in
    let whole : made d ≡ log = ap (λ (b : List PortEvent). since b log) (none_done d.began.value x.first)
    ∙ since_none log in
    let same : events config queue n s ≡ log = λ i. events (sym ec i) (sym eq i) n s in
    ap (λ (xs : List PortEvent). log_claims xs l) (same ∙ sym whole)
