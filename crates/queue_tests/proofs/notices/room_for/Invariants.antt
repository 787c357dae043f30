use Rattle.meet_lock.specs.Passes.{config_of, seen}
use Rattle.nvme_model.specs.Passes.{entries}
use Rattle.work_queue.specs.Posted.{IsAnswerPosted}
use Rattle.shared_system.specs.Plain.{IsPlainCallerOf}
use Rattle.queue_tests.proofs.notices.room_for.Given as goal

abbrev pub invariant-loop-told : goal.invariant-loop-told
invariant-loop-told g l =
    IsPlainCallerOf l.system l.caller
    × IsAnswerPosted (config_of l.caller.pass) (entries (seen l.caller.pass)) l.work.queue l.answer
