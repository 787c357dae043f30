use Rattle.std.proofs.Common.{sym}
use Rattle.remote_host.specs.HostStates.{state_of}
use Rattle.remote_host.proofs.AtOnce.{told_at_once}
use Rattle.remote_host.proofs.host.RemoteHost.start_write_zeroes.Goals as goal

pub returns : goal.returns
returns c =
    let s = c.start_write_zeroes in
    rw (sym c.self.view_is) (told_at_once (state_of c.self.inside.host) (state_of s.new.self) _ _ s.result
    s.ensures.starts)
