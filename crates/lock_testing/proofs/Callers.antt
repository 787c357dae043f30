-- What a fetched Work is.
use Rattle.std.proofs.Common.{ap, true, ◌∙◌, ◌≡◌}
use Rattle.nvme_model.specs.declared.entry.Entry.{Entry}
use Rattle.controller_interface.specs.declared.answer.Answer.{Answer}
use Rattle.controller_interface.specs.declared.work.Work.{Work as Duty}
use Rattle.work_queue.specs.Duties.{is_only_fetch}
use Rattle.work_queue.specs.Engines as engine
use Rattle.work_queue.specs.declared.engine.Engine.{Engine}
use Rattle.work_queue.specs.declared.engine.Open.{Open}
use Rattle.work_queue.specs.declared.engine.Opened.{Opened}
use Rattle.work_queue.specs.declared.engine.Opened.TheVariants as opened
use Rattle.work_queue.specs.declared.work.Work.{Work}
use Rattle.shared_system.specs.declared.plain.PlainSystem.{PlainSystem}
use Rattle.lock_testing.specs.Callers.{IsFreshOpening}

-- the Work of a Fetch may be pushed
opened_ready : (e : Engine) (q : engine.EnginePass) (entry : Entry) (a : Answer) (w : Work)
    → engine.IsOpened e q entry a (opened.Fetched w)
    → engine.IsWorkOf e w × (is_only_fetch w.work.ticket (engine.its w) ≡ true)
opened_ready e q entry Answer.Published w h = absurd h
opened_ready e q entry (Answer.Fetched x) w h =
    (h.1, ap (λ n. is_only_fetch n (engine.its w)) (ap (λ (y : Duty). y.ticket) h.0) ∙ h.4)
opened_ready e q entry (Answer.Blocked d) w h = absurd h
opened_ready e q entry (Answer.Granted u r m) w h = absurd h
opened_ready e q entry (Answer.Posted c) w h = absurd h
opened_ready e q entry (Answer.Reaped c p) w h = absurd h

pub fetched_fresh : (system : PlainSystem) (p q : engine.EnginePass) (o : Open) (r : Opened)
    → engine.OpenedAs system.engine p q o r → IsFreshOpening system r
fetched_fresh system p q o opened.Published h = tt
fetched_fresh system p q o (opened.Reaped c x) h = tt
fetched_fresh system p q o (opened.Fetched w) h = opened_ready system.engine q h.by.entry h.answer w h.is
