-- A worker's turn.
use Rattle.std.proofs.Common.{inl, refl, true, ◌≡◌}
use Rattle.ticket_laws.specs.Tasks.{own_done}
use Rattle.work_queue.specs.Duties.{duty_of}
use Rattle.work_queue.specs.Engines as engine
use Rattle.work_queue.specs.declared.work.Work.{Work}
use Rattle.hosts.specs.Stages.{IsDoneBy}

-- a Work that has no next task is done
pub done_now : (w : Work) → own_done (duty_of w.work) (engine.its w) w.work.ticket ≡ true → IsDoneBy w
done_now w h = record { past = engine.its w; one = inl refl; done = h }
