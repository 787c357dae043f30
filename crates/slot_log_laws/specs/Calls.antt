-- The calls by which a driver claims a slot and releases it.
use Rattle.std.specs.Prelude.{List, length, ℕ, ◌++◌, ◌<◌, ◌^◌, ◌∷◌, ◌≡◌, ◌≤◌}
use Rattle.nvme_model.specs.Array.{zeros}
use Rattle.nvme_model.specs.Slots.{Name, slot_block}
use Rattle.nvme_model.specs.declared.operation.Op.{Op}
use Rattle.nvme_model.specs.declared.submission.Submission.{Submission}
use Rattle.driver_calls.specs.Log.{sent}
use Rattle.driver_calls.specs.Says.{IsCallIn}
use Rattle.driver_calls.specs.declared.event.PortEvent.{PortEvent}
use Rattle.driver_calls.specs.Entries.{IsBatch}
use Rattle.driver_calls.specs.declared.request.CallData.{CallData}

-- A block spells the name: both its numbers are at least 1, the host's has 32 bits and the serial 64.
pub record IsName (n : Name) : Type 0 where
  pub host : 1 ≤ n.host
  pub host_fits : n.host < 2 ^ 32
  pub serial : 1 ≤ n.serial
  pub serial_fits : n.serial < 2 ^ 64

-- the two entries of a claim of the slot at block l for this name, and of its release
abbrev pub IsClaimBatch : ℕ → ℕ → ℕ → Name → List Submission → Type 0
IsClaimBatch l first second n batch = IsBatch Op.Pair l 1 first second (CallData.Two zeros (slot_block n)) batch

-- a batch is the release of this name of the slot at a block
abbrev pub IsReleaseBatch : ℕ → ℕ → ℕ → Name → List Submission → Type 0
IsReleaseBatch l first second n batch = IsBatch Op.Pair l 1 first second (CallData.Two (slot_block n) zeros) batch

-- The batch was published to submission queue q, where its first entry has number j.
pub record IsSentAs (log : List PortEvent) (q j : ℕ) (batch : List Submission) : Type 0 where
  pub later : List PortEvent
  pub before : List PortEvent
  pub whole : later ++ (PortEvent.Sent q batch ∷ before) ≡ log
  pub number : length (sent before q) ≡ j

-- The call with these CIDs, whose first entry is entry j of submission queue q, claims the slot at block l for this
-- name.
pub record IsClaimIn (log : List PortEvent) (q first second j l : ℕ) (n : Name) : Type 0 where
  pub name : IsName n
  pub batch : List Submission
  pub is : IsClaimBatch l first second n batch
  pub sent_as : IsSentAs log q j batch
  pub call : IsCallIn log q Op.Pair first second j

-- It releases this name from that slot.
pub record IsReleaseIn (log : List PortEvent) (q first second j l : ℕ) (n : Name) : Type 0 where
  pub name : IsName n
  pub batch : List Submission
  pub is : IsReleaseBatch l first second n batch
  pub sent_as : IsSentAs log q j batch
  pub call : IsCallIn log q Op.Pair first second j
