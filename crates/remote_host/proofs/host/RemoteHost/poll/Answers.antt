use Rattle.std.proofs.Common.{sym}
use Rattle.remote_host.proofs.host.RemoteHost.poll.Goals as goal

pub returns-clause-polls : goal.returns-clause-polls
returns-clause-polls c = rw (sym c.self.view_is) c.poll.ensures.polls
