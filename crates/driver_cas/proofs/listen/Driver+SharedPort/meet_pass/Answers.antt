use Rattle.std.proofs.Common.{refl}
use Rattle.driver_cas.proofs.Listening.{follows_later, idle_calls}
use Rattle.driver_cas.proofs.listen.Driver+SharedPort.meet_pass.Goals as goal

pub returns-clause-calls : goal.returns-clause-calls
returns-clause-calls c = λ k of.
    let s = c.meet_pass.ensures.saw in
    idle_calls _ follows_later c.args.self.now _
    (record { began = refl; host = refl; acwu = refl; slots = refl; serial = refl; queues = refl }) refl s.follows
    s.log k of
