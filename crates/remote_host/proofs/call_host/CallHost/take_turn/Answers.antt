use Rattle.std.proofs.Common.{List, refl, subst, sym}
use Rattle.driver_cas.specs.declared.call.Call.{Call}
use Rattle.remote_host.specs.Calls.{KeepsCalls}
use Rattle.remote_host.specs.HostStates.{state_of}
use Rattle.remote_host.proofs.Keeping.{host_with, keeps_turned, turn_told}
use Rattle.remote_host.proofs.call_host.CallHost.take_turn.Goals as goal

pub returns-clause-kept : goal.returns-clause-kept
returns-clause-kept g c =
    let h = c.args.self.now in
    let e = c.poll-poll.new.self in
    let x = c.poll-poll.ensures in
    let others = c.pop_front.new.self.items in
    subst (λ (ks : List (Call g.row.P.Denot)). KeepsCalls (host_with e h.calls ks)) (sym c.keep_back.ensures)
    (keeps_turned h.driver e c.in-Some.call c.poll-poll.result h.calls others record {
      same = x.same;
      later = x.later;
      one = x.one;
      answer = x.answer;
      back = x.back;
      asks = x.asks;
      stays = x.stays;
      others = x.others;
      freed = x.freed;
      says = x.says;
    }
    (subst (λ (ks : List (Call g.row.P.Denot)). KeepsCalls (host_with h.driver h.calls ks)) c.in-Some.ensures.items
    c.requires.kept))

pub returns-clause-turn : goal.returns-clause-turn
returns-clause-turn g c =
    let h = c.args.self.now in
    let e = c.poll-poll.new.self in
    let x = c.poll-poll.ensures in
    turn_told (state_of h) (host_with e h.calls c.keep_back.new.given_up.items) c.in-Some.call
    c.pop_front.new.self.items c.in-Some.ensures.items (record {
      polled = c.poll-poll.result;
      is = record {
        same = x.same;
        later = x.later;
        one = x.one;
        answer = x.answer;
        back = x.back;
        asks = x.asks;
        stays = x.stays;
        others = x.others;
        freed = x.freed;
        says = x.says;
      };
      calls = refl;
      given_up = c.keep_back.ensures;
    })
