use Rattle.std.proofs.Common.{Global, Vec}
use Rattle.work_queue.specs.QueuePasses as queue
use Rattle.work_queue.specs.declared.notice.Notice.{Notice}
use Rattle.work_queue.specs.declared.queue.QueuePass.{QueuePass}
use Rattle.shared_system.specs.Callers.{ArePlaces}
use Rattle.shared_system.proofs.Systems.{all_last, worker_is}
use Rattle.shared_system.proofs.opening.take_worker.Goals as goal

pub returns-clause-worker : goal.returns-clause-worker
returns-clause-worker g c =
    let system = c.args.system.now in
    worker_is system c.args.config.now _ _ _
    (rw c.unwrap-pass.ensures at c.last_pass.ensures.last).0.0
    (all_last (queue.IsPlaceOf system.engine system.works) _ _ _ c.requires.works
    (rw c.unwrap-works.ensures at c.pop-2.ensures.items))
    c.requires.queues.0
    c.requires.queues.1
    (all_last (λ (row : Vec (QueuePass Notice) Global). ArePlaces system.engine system.notices.items row.items) _ _ _
    c.requires.rows
    c.in_ok-notices.ensures.items)
