use Rattle.std.proofs.Common.{◌≡◌}
use Rattle.work_queue.specs.Notices.{IsNoticeOf, notice_seen}
use Rattle.driver_cas.specs.Passes.{SawOn}
use Rattle.driver_cas.proofs.messages.learn_notice.Given as goal

abbrev pub invariant-loop : goal.invariant-loop
invariant-loop g l =
    SawOn l.fn.pass l.pass × IsNoticeOf l.engine l.notice × (notice_seen l.notice ≡ notice_seen l.fn.notice)
    × (l.notice.queue ≡ l.fn.notice.queue)
