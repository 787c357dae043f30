use Rattle.std.proofs.Common.{None, refl, rules, ◌≡◌}
use Rattle.driver_cas.proofs.Following.{port_idle, port_reaped}
use Rattle.driver_cas.proofs.Listening.{follows_same}
use Rattle.driver_cas.proofs.shared_port.SharedPort.reap_counted.Goals as goal

pub returns-in-Some-eq0-clause-later : goal.returns-in-Some-eq0-clause-later
returns-in-Some-eq0-clause-later c = follows_same c.args.self.now

pub returns-in_err-reaped-clause-later : goal.returns-in_err-reaped-clause-later
returns-in_err-reaped-clause-later c =
    let k = c.in_err-reaped.ensures in
    port_idle c.args.self.now _ refl (λ h. h) k.same (k.knows.1, k.knows.2) k.none k.fault.0

pub returns-clause-later : goal.returns-clause-later
returns-clause-later c =
    let k = c.in_ok-reaped.ensures in
    let asks : c.args.self.now.counted ≡ None → c.count_after-self.result ≡ None = search rules in
    port_reaped c.args.self.now _ refl asks k.same (k.knows.1, k.knows.2) c.in_ok-reaped.reaped k.steps k.got
