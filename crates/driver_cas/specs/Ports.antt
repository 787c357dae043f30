-- What contracts say of the port of a shared controller.
use Rattle.std.specs.Prelude.{List, None, Ok, Option, Result, Some, length, ℕ, ◌+◌, ◌≡◌, ◌≢◌}
use Rattle.nvme_model.specs.Passes.{entries}
use Rattle.nvme_model.specs.Refusals.{refusal}
use Rattle.nvme_model.specs.declared.step.Step.{Step}
use Rattle.nvme_model.specs.declared.submission.Submission.{Submission}
use Rattle.meet_lock.specs.Lock.{ExtendsByPasses}
use Rattle.meet_lock.specs.Passes as passes
use Rattle.work_queue.specs.Engines.{EnginePass}
use Rattle.work_queue.specs.declared.engine.Engine.{Engine}
use Rattle.driver_calls.specs.Views
use Rattle.driver_calls.specs.Views.{IsFull, PortView, Publishes, log_of}
use Rattle.driver_cas.specs.Parts.{engine_in}
use Rattle.driver_cas.specs.Passes.{view_at}
use Rattle.driver_cas.specs.Reaps.{IsCounted, IsReapAnswered}
use Rattle.driver_cas.specs.declared.fault.PortFault.{PortFault}
use Rattle.driver_cas.specs.declared.port.Reaped.{Reaped}
use Rattle.driver_cas.specs.declared.shared_port.SharedPort.{SharedPort}

-- the engine of a port
abbrev pub engine_of : SharedPort → Engine
engine_of p = engine_in p.part

-- its pass
abbrev pub pass_of : SharedPort → EnginePass
pass_of p = p.pass

-- its completion queue
abbrev pub queue_of : SharedPort → ℕ
queue_of p = p.queue

-- how many notices it counts whose completions aren't reaped; None where each of its Reaps asks the controller
abbrev pub counted_of : SharedPort → Option ℕ
counted_of p = p.counted

-- what is known of it
abbrev pub view_of : SharedPort → PortView
view_of p = view_at p.queue p.pass

-- how many steps its pass has made
abbrev pub steps_of : SharedPort → ℕ
steps_of p = length (passes.mine p.pass)

-- The second is the first at a later time, of the same engine, which has as many passes. What its pass has seen since
-- is of passes alone, and it has made no steps but those of its log. One of which each Reap asks stays so.
pub record PortFollows (a b : SharedPort) : Type 0 where
  pub same_lock : b.pass.seat.table_id ≡ a.pass.seat.table_id
  pub same_passes : passes.passes_of b.pass ≡ passes.passes_of a.pass
  pub view : Views.ViewFollows (view_of a) (view_of b)
  pub of_passes : ExtendsByPasses (passes.passes_of a.pass) (passes.seen a.pass) (passes.seen b.pass)
  pub sole : steps_of b + length (log_of (view_of a)) ≡ steps_of a + length (log_of (view_of b))
  pub asks : a.counted ≡ None → b.counted ≡ None

-- What is known where a port answers a Publish of this batch so, by the number of the engine's passes, and by what was
-- known of it before and is since: there is no room at what was seen. Or another caller had the controller, which one
-- pass alone never meets, and nothing has changed. Or nothing but want of memory refuses it.
abbrev pub IsRefused : ℕ → PortView → PortView → ℕ → List Submission → PortFault → Type 0
IsRefused passes a b q batch PortFault.RingFull = IsFull b q batch
IsRefused passes a b q batch PortFault.Busy = (passes ≢ 1) × (b ≡ a)
IsRefused passes a b q batch PortFault.NoMemory = refusal b.config (entries b.seen) (Step.Publish q batch) ≡ None

-- After a batch was published what was seen ends with its Publish, and as many notices are counted as before.
pub record IsPublished (a b : SharedPort) (q : ℕ) (batch : List Submission) : Type 0 where
  pub publishes : Publishes (view_of a) (view_of b) q batch
  pub counted : b.counted ≡ a.counted

-- What is known of a port whose Reap was answered so. Where it counts notices and none was counted it asked nothing,
-- None is answered, and it is as it was; else the engine was asked. Notices are counted as its answer leaves them.
pub record IsReapAnswer (a b : SharedPort) (r : Result (Option Reaped) PortFault) : Type 0 where
  pub idle : a.counted ≡ Some 0 → (r ≡ Ok None) × (b ≡ a)
  pub asked : a.counted ≢ Some 0 → IsReapAnswered (passes.passes_of a.pass) (view_of a) (view_of b) r
  pub counted : IsCounted a.counted b.counted r
