-- How much the queues of a system hold.
use Rattle.std.specs.Prelude.{All, length, ℕ, ◌≡◌}
use Rattle.nvme_model.specs.declared.config.ConfigNumbers.{ConfigNumbers}
use Rattle.work_queue.specs.QueuePasses.{capacity_of}
use Rattle.work_queue.specs.declared.notice.Notice.{Notice}
use Rattle.work_queue.specs.declared.queue.MessageQueue.{MessageQueue}
use Rattle.shared_system.specs.declared.system.System.{System}

-- a queue of notices that holds so many
abbrev pub HasRoom : ℕ → MessageQueue Notice → Type 0
HasRoom n q = capacity_of q ≡ n

module _ {G : Type 0} where
  -- Its queue of works holds 16, and there is a queue of notices for each completion queue, which holds as many as that
  -- has slots.
  pub record HasCapacities (system : System G) (c : ConfigNumbers) : Type 0 where
    pub works : capacity_of system.works ≡ 16
    pub queues : length system.notices.items ≡ c.cqs
    pub notices : All (HasRoom c.cq_size) system.notices.items
