-- What contracts say of making a driver of a disk.
use Rattle.std.specs.Prelude.{Bool, None, [], false, set, true, vec_capacity, vec_len, ℕ, ◌-◌, ◌<◌, ◌∷◌, ◌≡◌, ◌≤◌}
use Rattle.std.specs.Prelude.{◌⊎◌}
use Rattle.nvme_model.specs.Config.{completion_queue}
use Rattle.nvme_model.specs.Refusals.{no_queue}
use Rattle.nvme_model.specs.declared.array.Range.{Range}
use Rattle.nvme_model.specs.declared.config.ConfigNumbers.{ConfigNumbers}
use Rattle.driver_cas.specs.Cids.{held, queues_of}
use Rattle.driver_cas.specs.declared.held.CidUse.{CidUse}
use Rattle.work_queue.specs.Engines.{IsFreshPass}
use Rattle.work_queue.specs.declared.engine.Engine.{Engine}
use Rattle.driver_cas.specs.declared.driver.Driver.{Driver}
use Rattle.driver_cas.specs.declared.port.Port.{Ghosts}
use Rattle.driver_cas.specs.Ports.{counted_of, engine_of, pass_of, queue_of}
use Rattle.driver_cas.specs.declared.shared_port.SharedPort.{SharedPort}
use Rattle.c_handles.specs.HostNumbers.{has_host, has_number}
use Rattle.c_handles.specs.declared.disk.Disk.{Disk}

-- how many hosts can be made of a disk yet
abbrev pub passes_left : Disk → ℕ
passes_left d = vec_len d.passes

-- a pass can be put back with no memory asked for
abbrev pub HasRoom : Disk → Type 0
HasRoom d = vec_len d.passes < vec_capacity d.passes

-- a host of the disk had the completion queue of this submission queue
abbrev pub is_queue_used : Disk → ℕ → Bool
is_queue_used d queue = has_host d.numbers (completion_queue d.config queue)

-- why no host was made: its number is 0, there is no such submission queue, a host had the number or the completion
-- queue before, all passes are used, or memory was refused
abbrev pub MayRefuseHost : Disk → ℕ → ℕ → ℕ → Type 0
MayRefuseHost d number queue told =
    ((told ≡ 115) × (number ≡ 0))
    ⊎ ((told ≡ 1) × (no_queue d.config queue ≡ true))
    ⊎ ((told ≡ 124) × (has_number d.numbers number ≡ true))
    ⊎ ((told ≡ 125) × (is_queue_used d queue ≡ true))
    ⊎ ((told ≡ 114) × (passes_left d ≡ 0))
    ⊎ (told ≡ 11)

-- No host had the number, nor the completion queue of the submission queue, which is there.
pub record IsNewcomer (d : Disk) (number queue : ℕ) : Type 0 where
  pub there : (1 ≤ queue) × (queue ≤ d.config.pairs)
  pub number_new : has_number d.numbers number ≡ false
  pub queue_new : is_queue_used d queue ≡ false

-- It is noted that the host of this number was made on the completion queue of this submission queue.
abbrev pub IsNoted : Disk → Disk → ℕ → ℕ → Type 0
IsNoted d e number queue = e.numbers ≡ set d.numbers (completion_queue d.config queue - 1) number

-- the same disk, but for how many passes are left, and for which hosts are noted
pub record HasGiven (d e : Disk) : Type 0 where
  pub config : e.config ≡ d.config
  pub slots : e.slots ≡ d.slots
  pub engine : e.engine ≡ d.engine
  pub server : e.server ≡ d.server
  pub ended : e.ended ≡ d.ended
  pub work : e.work ≡ d.work

module _ {g : Ghosts SharedPort} where
  -- a driver of this engine with these slots, over a pass that has seen nothing, as this host on this submission queue
  pub record IsNewDriver (eng : Engine) (c : ConfigNumbers) (number queue : ℕ) (slots : Range)
      (d : Driver SharedPort g) : Type 0 where
    pub engine : engine_of d.port ≡ eng
    pub pass : IsFreshPass eng c (pass_of d.port)
    pub queue_is : queue_of d.port ≡ completion_queue c queue
    pub asks : counted_of d.port ≡ None
    pub began : d.began.value ≡ d.port
    pub host : d.host ≡ number
    pub acwu : d.acwu ≡ c.atomic.acwu
    pub slots_are : d.slots ≡ slots
    pub serial : d.serial ≡ 0
    pub queues : queues_of d.cids ≡ queue ∷ []
    pub free : (q cid : ℕ) → held d.cids q cid ≡ CidUse.Free
