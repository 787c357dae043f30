use Rattle.std.proofs.Common.{Some, rules, ◌≡◌}
use Rattle.host_laws.proofs.Elements.{same_some}
use Rattle.slot_check.specs.Progress.{flying_of, progress_in}
use Rattle.slot_check.proofs.Moving.{flies, posted}
use Rattle.slot_check.proofs.progress.QueueProgress.post.Goals as goal

pub returns-clause-ok : goal.returns-clause-ok
returns-clause-ok c = λ past h legal.
    let there : (progress_in c.args.self.now).flying c.args.line.now.ticket ≡ Some c.in-Some.flying = search rules in
    let d = c.args.config.now in
    let is : c.in-Some.flying ≡ flying_of past c.args.line.now.ticket =
    same_some c.in-Some.flying (flying_of past c.args.line.now.ticket)
    ((progress_in c.args.self.now).flying c.args.line.now.ticket) there
    (flies d past c.args.line.now (progress_in c.args.self.now) (progress_in c.complete.new.self) h legal) in
    posted d past c.args.line.now (progress_in c.args.self.now) (progress_in c.complete.new.self) h legal
    c.in-Some.flying is c.completion_queue-queue.result c.completion_queue-queue.ensures.value
    c.says_success.result c.says_success.ensures.value c.complete.ensures.published c.complete.ensures.fetched
    c.complete.ensures.reaped c.in_ok-complete.ensures.posted c.in_ok-complete.ensures.flying
    c.in_ok-complete.ensures.waiting
