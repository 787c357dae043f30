use Rattle.std.proofs.Common.{sym}
use Rattle.vandrexu_c.proofs.remote.DrivenRemote.poll.Goals as goal

pub returns : goal.returns
returns c =
    rw (sym c.self.view_is) (record {
      call = record {
        polled = c.poll-polled.result;
        is = c.poll-polled.ensures.polls;
        number = c.polled_told.ensures.number;
        reply_is = c.polled_told.ensures.reply;
        payload = c.polled_told.ensures.read;
      };
      at_once = c.poll-polled.ensures.not_later;
    })
