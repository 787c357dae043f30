-- What a fetcher and a worker have in hand from one turn to the next.
use Rattle.std.specs.Prelude.{length, true, ℕ, ◌%◌, ◌+◌, ◌∷◌, ◌≡◌, ◌≤◌, ◌⊎◌}
use Rattle.nvme_model.specs.History.{Past}
use Rattle.nvme_model.specs.declared.entry.Entry.{Entry}
use Rattle.ticket_laws.specs.Tasks.{own_done}
use Rattle.work_queue.specs.Duties.{duty_of}
use Rattle.work_queue.specs.Engines as engine
use Rattle.work_queue.specs.Notices.{IsNoticeOf}
use Rattle.work_queue.specs.declared.notice.Notice.{Notice}
use Rattle.work_queue.specs.declared.work.Work.{Work}
use Rattle.shared_system.specs.Callers.{IsPushableWork}
use Rattle.shared_system.specs.declared.system.System.{System}
use Rattle.hosts.specs.declared.fetching.FetchStage.{FetchStage}
use Rattle.hosts.specs.declared.working.WorkStage.{WorkStage}

-- it is one of so many submission queues
abbrev pub IsQueueIn : ℕ → ℕ → Type 0
IsQueueIn queues q = (1 ≤ q) × (q ≤ queues)

module _ {G : Type 0} where
  -- the queue that it is to ask is there, and its Work, if it has one, may be pushed
  abbrev pub IsFetchStage : System G → ℕ → FetchStage → Type 0
  IsFetchStage system queues (FetchStage.Asks q) = IsQueueIn queues q
  IsFetchStage system queues (FetchStage.Pushes w q) = IsPushableWork system w × IsQueueIn queues q

  -- there is a queue of notices for each of so many completion queues
  abbrev pub HasNotices : System G → ℕ → Type 0
  HasNotices system cqs = (1 ≤ cqs) × (length system.notices.items ≡ cqs)

  -- it is of the system, and names a completion queue that has a queue of notices
  abbrev pub IsPushableNotice : System G → Notice → Type 0
  IsPushableNotice system n = IsNoticeOf system.engine n × IsQueueIn (length system.notices.items) n.queue

  -- the Work and the notice that it has, if any, are of the system
  abbrev pub IsWorkStage : System G → WorkStage → Type 0
  IsWorkStage system WorkStage.Idle = Unit {0}
  IsWorkStage system (WorkStage.Works w) = engine.IsWorkOf system.engine w
  IsWorkStage system (WorkStage.Tells w n) = engine.IsWorkOf system.engine w × IsPushableNotice system n

-- A fetcher's turn: it asks the same queue again, or goes to the next one, round the queues from 1 on. A Work that it
-- has stays until it is pushed.
abbrev pub IsFetchTurn : ℕ → FetchStage → FetchStage → Type 0
IsFetchTurn queues (FetchStage.Asks q) (FetchStage.Asks r) = (r ≡ q) ⊎ (r ≡ q % queues + 1)
IsFetchTurn queues (FetchStage.Asks q) (FetchStage.Pushes w r) = r ≡ q % queues + 1
IsFetchTurn queues (FetchStage.Pushes w q) (FetchStage.Asks r) = r ≡ q
IsFetchTurn queues (FetchStage.Pushes w q) (FetchStage.Pushes v r) = (v ≡ w) × (r ≡ q)

-- the Work is gone on with, and left only once its last completion was posted
abbrev pub IsRestOf : Work → WorkStage → Type 0
IsRestOf w WorkStage.Idle = own_done (duty_of w.work) (engine.its w) w.work.ticket ≡ true
IsRestOf w (WorkStage.Works v) = v ≡ w
IsRestOf w (WorkStage.Tells v n) = ⊥

-- The stage behind a task that was made of this Work: it goes on, and is left only once all that it has to do is done.
abbrev pub IsStageBehind : Work → WorkStage → Type 0
IsStageBehind w WorkStage.Idle = IsRestOf w WorkStage.Idle
IsStageBehind w (WorkStage.Works v) = v.work ≡ w.work
IsStageBehind w (WorkStage.Tells v n) = v.work ≡ w.work

-- all that the Work has to do is done, by the entries that its ticket has, or by one more
pub record IsDoneBy (w : Work) : Type 0 where
  pub past : Past
  pub one : (past ≡ engine.its w) ⊎ ((e : Entry) × (past ≡ e ∷ engine.its w))
  pub done : own_done (duty_of w.work) past w.work.ticket ≡ true

-- A worker's turn: a Work is the same ticket's behind a task, and left only once all is done. A notice stays until it
-- is pushed.
abbrev pub IsWorkTurn : WorkStage → WorkStage → Type 0
IsWorkTurn WorkStage.Idle WorkStage.Idle = Unit {0}
IsWorkTurn WorkStage.Idle (WorkStage.Works w) = Unit {0}
IsWorkTurn WorkStage.Idle (WorkStage.Tells w n) = ⊥
IsWorkTurn (WorkStage.Works w) WorkStage.Idle = IsDoneBy w
IsWorkTurn (WorkStage.Works w) (WorkStage.Works v) = v.work ≡ w.work
IsWorkTurn (WorkStage.Works w) (WorkStage.Tells v n) = v.work ≡ w.work
IsWorkTurn (WorkStage.Tells w n) WorkStage.Idle = IsRestOf w WorkStage.Idle
IsWorkTurn (WorkStage.Tells w n) (WorkStage.Works v) = v ≡ w
IsWorkTurn (WorkStage.Tells w n) (WorkStage.Tells v m) = (v ≡ w) × (m ≡ n)
