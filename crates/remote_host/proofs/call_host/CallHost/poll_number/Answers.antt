use Rattle.std.proofs.Common.{refl, sym}
use Rattle.remote_host.proofs.InFlight.{put_back_at, room_left}
use Rattle.remote_host.proofs.Keeping.{keeps_polled}
use Rattle.remote_host.proofs.call_host.CallHost.poll_number.Goals as goal

pub poll-poll-requires : goal.poll-poll-requires
poll-poll-requires g c = c.requires.kept.numbered.all c.args.number c.in_ok-call.call (sym c.in_ok-call.ensures.value)

pub returns-clause-kept : goal.returns-clause-kept
returns-clause-kept g c =
    let h = c.args.self.now in
    let x = c.poll-poll.ensures in
    let out = c.in_ok-call.ensures in
    keeps_polled h.driver c.poll-poll.new.self c.in_ok-call.call c.poll-poll.result h.calls c.put_back.new.calls
    c.args.number h.given_up.items (sym out.value) record {
      same = x.same;
      later = x.later;
      one = x.one;
      answer = x.answer;
      back = x.back;
      asks = x.asks;
      stays = x.stays;
      others = x.others;
      freed = x.freed;
      says = x.says;
    }
    (put_back_at h.calls c.try_remove.new.self c.put_back.new.calls c.args.number c.poll-poll.result out.updates
    out.key_is_next c.put_back.ensures.back) c.requires.kept

pub returns-clause-polls : goal.returns-clause-polls
returns-clause-polls g c =
    let h = c.args.self.now in
    let x = c.poll-poll.ensures in
    let out = c.in_ok-call.ensures in (
      c.in_ok-call.call,
      sym out.value,
      record {
        polled = c.poll-poll.result;
        is = record {
          same = x.same;
          later = x.later;
          one = x.one;
          answer = x.answer;
          back = x.back;
          asks = x.asks;
          stays = x.stays;
          others = x.others;
          freed = x.freed;
          says = x.says;
        };
        told_is = c.put_back.ensures.told;
        calls = put_back_at h.calls c.try_remove.new.self c.put_back.new.calls c.args.number c.poll-poll.result
            out.updates out.key_is_next c.put_back.ensures.back;
        room = room_left c.try_remove.new.self c.put_back.new.calls c.poll-poll.result out.room c.put_back.ensures.back;
        given_up = refl;
      },
    )
