use Rattle.std.proofs.Common.{arith, subst, sym, ◌∙◌, ◌≡◌}
use Rattle.many_host_laws.specs.Closing.{HasClaimed, HasDone}
use Rattle.race_hosts.specs.Hosts.{rounds_begun}
use Rattle.race_hosts.proofs.Playing.{first_claims, played_on}
use Rattle.race_hosts.proofs.host_threads.plays.Goals as goal

pub returns-in-Ok-clause-played : goal.returns-in-Ok-clause-played
returns-in-Ok-clause-played g c =
    let made = c.in-Ok.ensures in
    let is = c.host-end.ensures.hosts _ _ _ _ _ made.is in
    played_on c.host-end.result c.host-end.ensures.begun (λ begun.
    record {
      first = c.in-Ok.own;
      last = c.host-end.new.host;
      queue = made.queue.0;
      host = made.host;
      slots = made.slots.0;
      goes = c.host-end.ensures.goes;
      is = is;
      gave = c.into_caller.ensures.pass;
      done = subst (HasDone c.args.play.now.config c.args.play.now.slots c.args.caller.queue c.args.caller.queue)
          (sym c.into_caller.ensures.pass)
          (c.what_a_hosts_pass_did.ensures _ _ _ _ _ is);
      claimed =
          let slots = c.args.play.now.slots in
          let there = c.what_a_hosts_pass_claimed.ensures _ _ _ _ _ slots.slba is in
          let none = made.none in
          let all : rounds_begun c.host-end.new.host ≡ c.args.play.now.rounds = omega (arith, begun, none) in
          subst (HasClaimed c.args.play.now.config slots c.args.caller.queue c.args.play.now.rounds)
          (sym c.into_caller.ensures.pass)
          (there ∙ (first_claims c.host-end.new.host slots is.area ∙ all));
    })
