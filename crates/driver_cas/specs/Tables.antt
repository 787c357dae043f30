-- A driver's table of CIDs, beside what its port did.
use Rattle.std.specs.Prelude.{Bool, List, None, Option, Result, bytes_eq, false, if◌then◌else◌, true, ℕ, ◌&&◌, ◌==◌}
use Rattle.std.specs.Prelude.{◌≡◌, ◌⊎◌, ◌∷◌, ◌||◌}
use Rattle.nvme_model.specs.Operations.{is_pair}
use Rattle.nvme_model.specs.Statuses.{same_status}
use Rattle.nvme_model.specs.declared.operation.Op.{Op}
use Rattle.host_laws.specs.Calls.{cqe_status}
use Rattle.driver_cas.specs.Cids.{QueueCids, held}
use Rattle.driver_cas.specs.declared.held.CidUse.{CidUse}
use Rattle.driver_calls.specs.Answers.{command_answer, pair_answer_of}
use Rattle.driver_calls.specs.Log.{is_idle, state_of}
use Rattle.driver_calls.specs.declared.event.CidState.{CidState}
use Rattle.driver_calls.specs.declared.event.PortEvent.{PortEvent}
use Rattle.driver_calls.specs.declared.reply.Reply.{Reply}
use Rattle.nvme_model.specs.declared.status.Status.{Status}
use Rattle.std.specs.Prelude.{Some}

-- what a CID is used for fits what its newest entry has come to
abbrev pub use_fits : CidUse → CidState → Bool
use_fits CidUse.Free st = is_idle st
use_fits CidUse.Waiting CidState.Waiting = true
use_fits (CidUse.Answered status payload) (CidState.Answered cqe bytes) =
    same_status (cqe_status cqe) status && bytes_eq bytes payload
use_fits _ _ = false

-- so of each CID
abbrev pub Matches : QueueCids → List PortEvent → Type 0
Matches cids log = (q cid : ℕ) → use_fits (held cids q cid) (state_of log q cid) ≡ true

-- a CID is free
abbrev pub is_free : CidUse → Bool
is_free CidUse.Free = true
is_free _ = false

-- each CID that was in use stays so, and each that was free
abbrev pub SameFreeCids : QueueCids → QueueCids → Type 0
SameFreeCids old new = (q cid : ℕ) → is_free (held new q cid) ≡ is_free (held old q cid)

-- the port reaped nothing, or one completion, and the table fits what came
abbrev pub Reaps : List PortEvent → List PortEvent → QueueCids → QueueCids → Type 0
Reaps before after old new =
    ((after ≡ before) × (new ≡ old))
    ⊎ ((cqe : List ℕ) × (payload : List ℕ) × (after ≡ PortEvent.Got cqe payload ∷ before)
    × ((log : List PortEvent) → Matches old log → Matches new (PortEvent.Got cqe payload ∷ log)))

-- it is a CID of the call
abbrev pub is_its_cid : Op → ℕ → ℕ → ℕ → ℕ → ℕ → Bool
is_its_cid o queue first second q cid = (q == queue) && ((cid == first) || (is_pair (Some o) && (cid == second)))

-- the CIDs of the call are free, and all others are used as before
abbrev pub AreCidsReleased : QueueCids → QueueCids → Op → ℕ → ℕ → ℕ → Type 0
AreCidsReleased old new o queue first second =
    (q cid : ℕ) → held new q cid ≡ (if is_its_cid o queue first second q cid then CidUse.Free else held old q cid)

-- the answer to a command by itself, and to a pair, by what its CIDs are used for
abbrev pub one_answer : Op → CidUse → Option (Result Reply Status)
one_answer o (CidUse.Answered status payload) = Some (command_answer o status payload)
one_answer o _ = None

abbrev pub pair_answer : CidUse → CidUse → Option (Result Reply Status)
pair_answer (CidUse.Answered status payload) (CidUse.Answered other second) = Some (pair_answer_of status other)
pair_answer _ _ = None

-- the answer to a call
abbrev pub table_outcome : Op → CidUse → CidUse → Option (Result Reply Status)
table_outcome Op.Pair h g = pair_answer h g
table_outcome o h g = one_answer o h

-- the CIDs of the call are in use
abbrev pub IsHeld : QueueCids → Op → ℕ → ℕ → ℕ → Type 0
IsHeld cids o queue first second =
    (is_free (held cids queue first) ≡ false) × (is_pair (Some o) ≡ true → is_free (held cids queue second) ≡ false)
