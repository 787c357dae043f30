use Rattle.std.proofs.Common.{refl}
use Rattle.remote_host.proofs.Keeping.{keeps_all}
use Rattle.remote_host.proofs.call_host.CallHost.attend.Goals as goal

pub returns-clause-kept : goal.returns-clause-kept
returns-clause-kept g c =
    let h = c.args.self.now in
    keeps_all h.driver c.attend.new.self h.calls h.calls h.given_up.items c.attend.ensures.calls (λ n. refl)
    c.requires.kept
