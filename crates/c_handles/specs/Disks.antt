-- What contracts say of a disk.
use Rattle.std.specs.Arc.{arc_value}
use Rattle.std.specs.Prelude.{All, Err, List, None, Ok, Option, Result, Some, [], replicate, suc, true}
use Rattle.std.specs.Prelude.{IfErr, IfOk, vec_len, zero, ℕ, ◌≡◌, ◌⊎◌}
use Rattle.c_handles.specs.Owned.{mark}
use Rattle.nvme_model.specs.Config.{config_fault, config_fault_number}
use Rattle.nvme_model.specs.History.{Past}
use Rattle.nvme_model.specs.Kept.{ControllerInvariant}
use Rattle.nvme_model.specs.Passes.{entries}
use Rattle.nvme_model.specs.declared.array.Range.{Range}
use Rattle.nvme_model.specs.declared.config.ConfigFault.{ConfigFault}
use Rattle.nvme_model.specs.declared.config.ConfigNumbers.{ConfigNumbers}
use Rattle.nvme_model.specs.declared.step.Step.{Step}
use Rattle.controller_interface.specs.State.{Accepts, ControllerState, Refuses}
use Rattle.controller_interface.specs.declared.answer.Answer.{Answer}
use Rattle.meet_lock.specs.Passes.{Declines, IsSame, Knows, Worked, mine, seen}
use Rattle.meet_lock.specs.declared.pass.Declined.{Declined}
use Rattle.ticket_laws.specs.Tasks.{own_done, task_fault}
use Rattle.work_queue.specs.Duties.{duty_of, task_step}
use Rattle.work_queue.specs.Engines.{EnginePass, FetchedAs, ForgotAt, IsFreshPass, its, opening_of}
use Rattle.work_queue.specs.declared.engine.Engine.{Engine}
use Rattle.work_queue.specs.declared.task.Task.{Task}
use Rattle.work_queue.specs.declared.work.Work.{Work}
use Rattle.c_handles.specs.Answers.{answer_number, end_number}
use Rattle.c_handles.specs.declared.disk.Disk.{Disk}

-- its configuration
abbrev pub disk_config : Disk → ConfigNumbers
disk_config d = d.config

-- its engine
abbrev pub disk_engine : Disk → Engine
disk_engine d = arc_value d.engine

-- the blocks of its slots
abbrev pub disk_slots : Disk → Range
disk_slots d = d.slots

-- the numbers of the hosts that were made of it, by completion queue, and 0 where none was made
abbrev pub hosts_had : Disk → List ℕ
hosts_had d = d.numbers

-- the history that its server has seen, the newest entry first
abbrev pub disk_past : Disk → Past
disk_past d = entries (seen d.server)

-- so it is of a controller of this configuration with that history
abbrev pub AsSeen : Disk → (ControllerState → Type 0) → Type 0
AsSeen d P = (s : ControllerState) × (s.config ≡ d.config) × (s.past ≡ disk_past d) × P s

-- A disk of this configuration with these slots, whose controller has no history, with passes for so many hosts, of
-- which none was made.
pub record IsNewDisk (c : ConfigNumbers) (hosts : ℕ) (slots : Range) (d : Disk) : Type 0 where
  pub config : d.config ≡ c
  pub slots_are : d.slots ≡ slots
  pub server : IsFreshPass (disk_engine d) c d.server
  pub passes : All (IsFreshPass (disk_engine d) c) d.passes.items
  pub count : vec_len d.passes ≡ hosts
  pub none : d.numbers ≡ replicate c.cqs 0
  pub none_ended : d.ended.items ≡ replicate c.cqs None
  pub idle : d.work ≡ None
  pub opening : opening_of (disk_engine d) ≡ []

-- why no disk was made: the handle owns one, this is the first fault of the configuration, or memory was refused
abbrev pub MayRefuseDisk : ConfigNumbers → Option Disk → ℕ → Type 0
MayRefuseDisk c o number =
    ((number ≡ 102) × (mark o ≡ 1))
    ⊎ ((fault : ConfigFault) × (config_fault c ≡ Some fault) × (number ≡ config_fault_number fault))
    ⊎ ((number ≡ 11) × (config_fault c ≡ None))

-- the same disk, whose server may have seen more and made a step
pub record IsSameDisk (d e : Disk) : Type 0 where
  pub config : e.config ≡ d.config
  pub engine : e.engine ≡ d.engine
  pub slots : e.slots ≡ d.slots
  pub passes : e.passes ≡ d.passes
  pub numbers : e.numbers ≡ d.numbers
  pub ended : e.ended ≡ d.ended
  pub server : IsSame d.server e.server

-- No step was made. The server has seen the whole history so far, which is legal and goes on from what it had seen; or
-- no more than it had, where another handle had the controller.
pub record HasLooked (d e : Disk) : Type 0 where
  pub same : IsSameDisk d e
  pub work : e.work ≡ d.work
  pub knows : Knows ControllerInvariant d.server e.server
  pub mine_are : mine e.server ≡ mine d.server

-- another handle had the controller: the server has seen no more
abbrev pub IsUnseen : Disk → Disk → Type 0
IsUnseen d e = seen e.server ≡ seen d.server

-- what a Fetch gives: the Work, which is kept; or why there is none
abbrev pub FetchGives : Disk → Disk → ℕ → Result Work Declined → Type 0
FetchGives d e q (Ok w) =
    (e.work ≡ Some w) × FetchedAs (disk_engine d) d.server e.server q w
FetchGives d e q (Err x) = (e.work ≡ None) × Declines Refuses d.server e.server (Step.Fetch q) x

-- the server asked for a Fetch of this submission queue, and this number is told
pub record Fetches (d e : Disk) (q number : ℕ) : Type 0 where
  pub same : IsSameDisk d e
  pub knows : Knows ControllerInvariant d.server e.server
  pub answer : Result Work Declined
  pub gives : FetchGives d e q answer
  pub told : number ≡ answer_number answer

-- Where a Work isn't finished nothing is fetched; else the server asks for a Fetch.
pub record FetchTells (d e : Disk) (q number : ℕ) : Type 0 where
  pub unfinished : (w : Work) → d.work ≡ Some w → (number ≡ 113) × (e ≡ d)
  pub fetches : d.work ≡ None → Fetches d e q number

-- the server asked for this task of the Work, which is then this one, and was answered so
pub record IsTaskAsked (p q : EnginePass) (w v : Work) (k : Task) (a : Result Answer Declined) : Type 0 where
  pub allowed : task_fault (duty_of w.work) w.work.ticket (its w) (task_step k w.work.ticket) ≡ None
  pub work : v.work ≡ w.work
  pub queue : v.queue ≡ w.queue
  pub knows : Knows ControllerInvariant p q
  pub made : IfOk a (Worked Accepts p q w.owner v.owner (task_step k w.work.ticket))
  pub declined : IfErr a (λ d. Declines Refuses p q (task_step k w.work.ticket) d × (its v ≡ its w))

-- the Work is finished, and no longer kept
pub record IsFinished (d e : Disk) (w : Work) (number : ℕ) : Type 0 where
  pub number_is : number ≡ 105
  pub idle : e.work ≡ None
  pub server : e.server ≡ d.server
  pub done : own_done (duty_of w.work) (its w) w.work.ticket ≡ true

-- the server asked for its next task, and this number is told
pub record MakesTask (d e : Disk) (w : Work) (number : ℕ) : Type 0 where
  pub task : Task
  pub later : Work
  pub answer : Result Answer Declined
  pub kept : e.work ≡ Some later
  pub asked : IsTaskAsked d.server e.server w later task answer
  pub told : number ≡ answer_number answer

-- What comes of the Work that isn't finished: its next task is asked for, or there is none.
pub record TaskTells (d e : Disk) (number : ℕ) : Type 0 where
  pub none : d.work ≡ None → (number ≡ 105) × (e.work ≡ None) × (e.server ≡ d.server)
  pub same : IsSameDisk d e
  pub makes : (w : Work) → d.work ≡ Some w → IsFinished d e w number ⊎ MakesTask d e w number

-- The controller forgets what stands before this place, from 0, of its history, which stays the same; or another caller
-- had the lock.
pub record ForgetTells (d : Disk) (place : ℕ) (e : Disk) (number : ℕ) : Type 0 where
  pub same : IsSameDisk d e
  pub work : e.work ≡ d.work
  pub knows : Knows ControllerInvariant d.server e.server
  pub mine : mine e.server ≡ mine d.server
  pub told : ((number ≡ 0) × ForgotAt place e.server) ⊎ ((number ≡ 12) × (seen e.server ≡ seen d.server))

-- so many tasks of what is kept, each of them made, lead from one disk to the other
abbrev pub Works : ℕ → Disk → Disk → Type 0
Works zero d e = e ≡ d
Works (suc n) d e = (mid : Disk) × Works n d mid × TaskTells mid e 0

-- Tasks are made until one isn't, whose number is told: as 0 where none was left. Only behind 2^64 - 1 tasks is one
-- that is made the last.
pub record Finishes (d e : Disk) (number : ℕ) : Type 0 where
  pub count : ℕ
  pub before : Disk
  pub works : Works count d before
  pub last : ℕ
  pub asked : TaskTells before e last
  pub most : last ≡ 0 → count ≡ 18446744073709551615
  pub told : number ≡ end_number last

-- A Fetch is asked for. Where a Work is kept then, it is finished; else the number of why none was fetched is told.
pub record ServesDisk (d e : Disk) (q number : ℕ) : Type 0 where
  pub between : Disk
  pub fetch : ℕ
  pub fetches : FetchTells d between q fetch
  pub finishes : (fetch ≡ 0) ⊎ (fetch ≡ 113) → Finishes between e number
  pub refused : (fetch ≡ 0 → ⊥) → (fetch ≡ 113 → ⊥) → (number ≡ fetch) × (e ≡ between)
