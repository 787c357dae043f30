use Rattle.std.proofs.Common.{refl}
use Rattle.driver_cas.proofs.Listening.{follows_later, idle_calls}
use Rattle.driver_cas.proofs.listen.Driver+SharedPort.meet.Goals as goal

pub returns-clause-calls : goal.returns-clause-calls
returns-clause-calls c = λ k of.
    let s = c.meet.ensures.first in
    idle_calls _ follows_later c.args.self.now _
    (record { began = refl; host = refl; acwu = refl; slots = refl; serial = refl; queues = refl }) refl s.follows
    s.log k of

pub returns-clause-others : goal.returns-clause-others
returns-clause-others c = λ k of.
    let s = c.meet.ensures.second in
    idle_calls _ follows_later c.args.other.now _
    (record { began = refl; host = refl; acwu = refl; slots = refl; serial = refl; queues = refl }) refl s.follows
    s.log k of
