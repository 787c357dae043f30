use Rattle.remote_host.proofs.Keeping.{keeps_all, keeps_started}
use Rattle.remote_host.proofs.call_host.CallHost.start_write.Goals as goal

pub returns-in_default-clause-kept : goal.returns-in_default-clause-kept
returns-in_default-clause-kept g c =
    let h = c.args.self.now in
    keeps_all h.driver h.driver h.calls c.next_number.new.calls h.given_up.items (λ k of. of)
    c.next_number.ensures.same c.requires.kept

pub returns-clause-kept : goal.returns-clause-kept
returns-clause-kept g c =
    let h = c.args.self.now in
    let s = c.start_write-started in
    let x = s.ensures in
    keeps_started g.met.P.Port.goes_on h.driver s.new.self _ _ h.calls c.next_number.new.calls c.keep.new.calls
    s.result c.keep.result h.given_up.items c.next_number.ensures.same x.same x.later x.is c.keep.ensures
    c.requires.kept
