-- What contracts say of the passes of a system's callers.
use Rattle.std.specs.List.{AllZip}
use Rattle.std.specs.Prelude.{All, List, Some, length, slice_get, true, vec_len, ℕ, ◌+◌, ◌-◌}
use Rattle.std.specs.Prelude.{◌≡◌, ◌≤◌}
use Rattle.nvme_model.specs.Passes.{IsBeginning}
use Rattle.nvme_model.specs.declared.config.ConfigNumbers.{ConfigNumbers}
use Rattle.meet_lock.specs.Passes.{IsSame, config_of, number, passes_of, seen}
use Rattle.shared_system.specs.Servers.{IsServing}
use Rattle.work_queue.specs.Duties.{is_only_fetch}
use Rattle.work_queue.specs.Engines as engine
use Rattle.work_queue.specs.QueuePasses as queue
use Rattle.work_queue.specs.declared.engine.Engine.{Engine}
use Rattle.work_queue.specs.declared.notice.Notice.{Notice}
use Rattle.work_queue.specs.declared.queue.MessageQueue.{MessageQueue}
use Rattle.work_queue.specs.declared.queue.QueuePass.{QueuePass}
use Rattle.work_queue.specs.declared.work.Work.{Work}
use Rattle.shared_system.specs.declared.system.System.{System}
use Rattle.shared_system.specs.declared.system.CallerPasses.{CallerPasses}
use Rattle.shared_system.specs.declared.system.Callers.{Callers}
use Rattle.shared_system.specs.declared.system.HostPasses.{HostPasses}
use Rattle.shared_system.specs.declared.system.WorkerPasses.{WorkerPasses}
use Rattle.shared_system.specs.declared.opening.WorkerSpares.{WorkerSpares}

-- passes of these queues of notices, in their order
abbrev pub ArePlaces : Engine → List (MessageQueue Notice) → List (QueuePass Notice) → Type 0
ArePlaces e qs ps = AllZip (queue.IsPlaceOf e) qs ps

-- it names a completion of this completion queue
abbrev pub IsWordOf : ℕ → Notice → Type 0
IsWordOf q n = n.queue ≡ q

-- a host's pass is one of so many, of which the last are those of the completion queues in order
abbrev pub IsLastPass : ConfigNumbers → ℕ → HostPasses → Type 0
IsLastPass c all h = (passes_of h.pass ≡ all) × (number h.pass + c.cqs ≡ all + h.queue)

module _ {G : Type 0} where
  -- both its passes are of what the system shares
  abbrev pub IsCallerOf : System G → CallerPasses → Type 0
  IsCallerOf system h = engine.IsPassOfEngine system.engine h.pass × queue.IsPlaceOf system.engine system.works h.works

  -- It is so later, with a pass of the same number. What that has seen begins with what it had; and if it served, it
  -- serves: all that it made itself are Fetches, Grants, Blocks and Posts.
  pub record Continues (system : System G) (h k : CallerPasses) : Type 0 where
    pub of : IsCallerOf system k
    pub same : IsSame h.pass k.pass
    pub begins : IsBeginning (seen h.pass) (seen k.pass)
    pub serves : IsServing h.pass → IsServing k.pass

  -- a Work that may be pushed
  abbrev pub IsPushableWork : System G → Work → Type 0
  IsPushableWork system w = engine.IsWorkOf system.engine w × (is_only_fetch w.work.ticket (engine.its w) ≡ true)

  -- a pass of the queue of notices at this place
  abbrev pub IsPlaceAt : System G → ℕ → QueuePass Notice → Type 0
  IsPlaceAt system k p =
      (q : MessageQueue Notice) → slice_get system.notices.items k ≡ Some q → queue.IsPlaceOf system.engine q p

  -- there is a pass for each queue of notices, and a queue for each of so many completion queues
  pub record AreNoticesOf (system : System G) (cqs : ℕ) (passes : List (QueuePass Notice)) : Type 0 where
    pub some : 1 ≤ cqs
    pub queues : length system.notices.items ≡ cqs
    pub count : length passes ≡ cqs
    pub each : (k : ℕ) (p : QueuePass Notice) → slice_get passes k ≡ Some p → IsPlaceAt system k p

module _ {G : Type 0} where
  -- the passes of a worker
  pub record IsWorkerOf (system : System G) (w : WorkerPasses) : Type 0 where
    pub caller : IsCallerOf system w.caller
    pub notices : AreNoticesOf system (config_of w.caller.pass).cqs w.notices.items

  -- a worker's passes later
  abbrev pub WorkerContinues : System G → WorkerPasses → WorkerPasses → Type 0
  WorkerContinues system w v = Continues system w.caller v.caller × IsWorkerOf system v

  -- a pass of the engine that has seen nothing, one of so many
  abbrev pub IsOneOf : System G → ConfigNumbers → ℕ → engine.EnginePass → Type 0
  IsOneOf system c all p = engine.IsFreshPass system.engine c p × (passes_of p ≡ all)

  -- passes that have seen nothing, numbered from 1 in order
  abbrev pub AreFirstPasses : System G → ConfigNumbers → ℕ → List engine.EnginePass → Type 0
  AreFirstPasses system c all ps = (k : ℕ) (p : engine.EnginePass) → slice_get ps k ≡ Some p
      → IsOneOf system c all p × (number p ≡ k + 1)

  -- workers with the passes from n on, downwards
  abbrev pub AreLastWorkers : System G → ConfigNumbers → ℕ → ℕ → List WorkerPasses → Type 0
  AreLastWorkers system c all n ws = (k : ℕ) (w : WorkerPasses) → slice_get ws k ≡ Some w
      → IsWorkerOf system w × IsOneOf system c all w.caller.pass × (number w.caller.pass + k ≡ n)

  -- the passes of the host of a completion queue, which have seen nothing
  pub record IsHostOf (system : System G) (c : ConfigNumbers) (h : HostPasses) : Type 0 where
    pub pass : engine.IsFreshPass system.engine c h.pass
    pub queue : (1 ≤ h.queue) × (h.queue ≤ c.cqs)
    pub told : h.queue ≤ length system.notices.items
    pub notices : IsPlaceAt system (h.queue - 1) h.notices

  -- passes of the first queues of notices, in their order
  abbrev pub AreFirstPlaces : System G → List (QueuePass Notice) → Type 0
  AreFirstPlaces system ps = (k : ℕ) (p : QueuePass Notice) → slice_get ps k ≡ Some p → IsPlaceAt system k p

  -- hosts of the last completion queues, from the last one on
  abbrev pub AreLastHosts : System G → ConfigNumbers → ℕ → List HostPasses → Type 0
  AreLastHosts system c all hs = (k : ℕ) (h : HostPasses) → slice_get hs k ≡ Some h
      → IsHostOf system c h × (h.queue + k ≡ c.cqs) × IsLastPass c all h

  -- a host for each completion queue, from the last to the first
  pub record AreHostsOf (system : System G) (c : ConfigNumbers) (all : ℕ) (hs : List HostPasses) : Type 0 where
    pub count : length hs ≡ c.cqs
    pub own : All (IsHostOf system c) hs
    pub each : AreLastHosts system c all hs

  -- passes that no worker has yet, as many of each kind
  pub record AreSpares (system : System G) (c : ConfigNumbers) (all : ℕ) (s : WorkerSpares) : Type 0 where
    pub passes : AreFirstPasses system c all s.passes.items
    pub works : All (queue.IsPlaceOf system.engine system.works) s.works.items
    pub rows : All (λ row. ArePlaces system.engine system.notices.items row.items) s.rows.items
    pub queues : (1 ≤ c.cqs) × (length system.notices.items ≡ c.cqs)
    pub some_passes : vec_len s.passes ≡ vec_len s.rows
    pub some_works : vec_len s.works ≡ vec_len s.rows

  -- The passes of a fetcher, of so many workers, and of a host of each completion queue. They have seen nothing, and
  -- are numbered from 1: those of the workers, from the last worker on; the fetcher's; and those of the hosts, from the
  -- first completion queue on.
  pub record AreCallersOf (system : System G) (c : ConfigNumbers) (n : ℕ) (h : Callers) : Type 0 where
    pub fetcher : IsCallerOf system h.fetcher
    pub fetches : IsOneOf system c (n + 1 + c.cqs) h.fetcher.pass × (number h.fetcher.pass ≡ n + 1)
    pub workers : All (IsWorkerOf system) h.workers.items
    pub count : length h.workers.items ≡ n
    pub each : AreLastWorkers system c (n + 1 + c.cqs) n h.workers.items
    pub hosts : AreHostsOf system c (n + 1 + c.cqs) h.hosts.items
