use Rattle.std.proofs.Common.{refl}
use Rattle.driver_cas.proofs.Listening.{follows_later, follows_same, idle_calls}
use Rattle.driver_cas.proofs.listen.Driver+SharedPort.listen.Goals as goal

pub returns-clause-calls : goal.returns-clause-calls
returns-clause-calls g c = λ k of.
    let s = c.hear.ensures.saw in
    idle_calls _ follows_later c.args.self.now _
    (record { began = refl; host = refl; acwu = refl; slots = refl; serial = refl; queues = refl }) refl s.follows
    s.log k of

pub returns-in_default-clause-untouched : goal.returns-in_default-clause-untouched
returns-in_default-clause-untouched g c = record {
  same = record { began = refl; host = refl; acwu = refl; slots = refl; serial = refl; queues = refl };
  later = follows_same c.args.self.now.port;
  as_before = (refl, refl);
}
