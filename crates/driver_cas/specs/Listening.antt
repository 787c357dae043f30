-- What contracts say of ports and drivers that meet, and of notices that they learn.
use Rattle.std.specs.Prelude.{Bool, None, Option, Some, false, if◌then◌else◌, min, true, ℕ, ◌+◌, ◌-◌, ◌==◌, ◌^◌, ◌≡◌}
use Rattle.nvme_model.specs.Passes.{IsBeginning}
use Rattle.meet_lock.specs.Passes.{mine, seen}
use Rattle.work_queue.specs.Engines.{EnginePass}
use Rattle.work_queue.specs.Notices.{ReapFinds, notice_seen}
use Rattle.work_queue.specs.QueuePasses.{IsPassOfQueue, IsPopped, lock_of_pass}
use Rattle.work_queue.specs.declared.notice.Notice.{Notice}
use Rattle.work_queue.specs.declared.queue.MessageQueue.{MessageQueue}
use Rattle.work_queue.specs.declared.queue.QueuePass.{QueuePass}
use Rattle.driver_calls.specs.Views.{log_of}
use Rattle.driver_cas.specs.Ports.{PortFollows, view_of}
use Rattle.driver_cas.specs.declared.shared_port.SharedPort.{SharedPort}

-- the two are of one engine
abbrev pub IsOfSameEngine : SharedPort → SharedPort → Type 0
IsOfSameEngine a b = b.pass.seat.table_id ≡ a.pass.seat.table_id

-- the pass is of the port's engine
abbrev pub IsPassBeside : SharedPort → EnginePass → Type 0
IsPassBeside a p = p.seat.table_id ≡ a.pass.seat.table_id

-- the notice is of the port's engine
abbrev pub IsNoticeFor : SharedPort → Notice → Type 0
IsNoticeFor p n = n.note.seat.table_id ≡ p.pass.seat.table_id

-- The second is the first at a later time, whose pass made no step since, so that it published and reaped nothing.
pub record SawMore (a b : SharedPort) : Type 0 where
  pub follows : PortFollows a b
  pub mine_stay : mine b.pass ≡ mine a.pass
  pub log : log_of (view_of b) ≡ log_of (view_of a)

-- how many notices are counted after one more, if they are: 2^64 - 1 at most
abbrev pub one_more : Option ℕ → Option ℕ
one_more None = None
one_more (Some n) = Some (min (n + 1) (2 ^ 64 - 1))

-- how many notices are counted after one of this completion queue: one more, where it is the port's own
abbrev pub counted_with : ℕ → SharedPort → Option ℕ
counted_with queue p = if queue == p.queue then one_more p.counted else p.counted

-- The port has seen what the notice had, and did nothing else; the notice is counted. From now on a Reap of the
-- notice's completion queue is refused for want of a completion only where as many Reaps of it stand there as posts
-- stood in what the notice had seen.
pub record HearsNotice (a b : SharedPort) (n : Notice) : Type 0 where
  pub saw : SawMore a b
  pub learned : IsBeginning (notice_seen n) (seen b.pass)
  pub reaps : ReapFinds (notice_seen n) n.queue b.pass
  pub counted : b.counted ≡ counted_with n.queue a

-- a pass of this queue of notices, which is of the port's engine
abbrev pub IsPlaceFor : SharedPort → MessageQueue Notice → QueuePass Notice → Type 0
IsPlaceFor a q p = IsPassOfQueue q p × (lock_of_pass p ≡ a.pass.seat.table_id)

-- what a queue of notices says of a pop
abbrev pub PopsNotice : QueuePass Notice → QueuePass Notice → Option Notice → Type 0
PopsNotice = IsPopped (λ n. n.note.seat.table_id) (λ n. Unit {0})

-- the notice at the front was popped, and the port heard it; or the queue was empty at one moment, and the port is as
-- it was
abbrev pub Listens : SharedPort → SharedPort → QueuePass Notice → QueuePass Notice → Bool → Type 0
Listens a b p q true = (n : Notice) × PopsNotice p q (Some n) × HearsNotice a b n
Listens a b p q false = PopsNotice p q None × (b ≡ a)
