-- What a handle of a tracer owns, and what its calls answer.
use Rattle.std.specs.Prelude.{List, None, Option, Some, [], ℕ, ◌∷◌, ◌≡◌, ◌⊎◌}
use Rattle.c_handles.specs.Owned.{Keeps}
use Rattle.nvme_model.specs.Config.{config_fault}
use Rattle.nvme_model.specs.History.{Past}
use Rattle.nvme_model.specs.Legal.{IsLegal}
use Rattle.nvme_model.specs.declared.config.ConfigNumbers.{ConfigNumbers}
use Rattle.nvme_model.specs.declared.entry.Entry.{Entry}
use Rattle.history.specs.Lines.{entry_in}
use Rattle.trace.specs.Observed.{shown}
use Rattle.trace.specs.declared.seen.Seen.{Seen}
use Rattle.witness_check.specs.Seeing.{AreWaitingPayloads}
use Rattle.witness_check.specs.TraceText.{seen_text}
use Rattle.witness_check.specs.declared.sight.Sight.{Sight}
use Rattle.vandrexu_c.specs.TextCalls.{GivesAll}

-- a tracer: the data of the completions that wait, and what hosts see of the entry that it took last
pub record TracerRun : Type 0 where
  pub waiting : List (List (List ℕ))
  pub last : Option Seen

-- It took this history: where that is legal, it has the data of its completions that wait.
pub record FollowsTrace (c : ConfigNumbers) (past : Past) (r : TracerRun) : Type 0 where
  pub accepted : config_fault c ≡ None
  pub waiting : IsLegal c past → AreWaitingPayloads c past r.waiting

-- a handle owns a tracer that has taken no line, of a configuration that isn't refused
abbrev pub IsNewTracer : ConfigNumbers → Option TracerRun → Type 0
IsNewTracer c o = Keeps o (λ r. FollowsTrace c [] r × (r.last ≡ None))

-- the entry was taken, and where the history with it is legal, what hosts see of it is kept
abbrev pub TakesEntry : TracerRun → Entry → TracerRun → Type 0
TakesEntry old e new =
    (c : ConfigNumbers) (past : Past) → FollowsTrace c past old →
    FollowsTrace c (e ∷ past) new × (IsLegal c (e ∷ past) → new.last ≡ shown c past e)

-- what hosts see of a Reap, where a sight is one
abbrev pub reaped_of : Sight → Option Seen
reaped_of Sight.Hidden = None
reaped_of (Sight.Published line) = None
reaped_of (Sight.Reaped line) = Some (Seen.Reaped line)

-- what hosts see of a Publish is itself; of another entry, this
abbrev pub published_or : Entry → Option Seen → Option Seen
published_or (Entry.Publish line) o = Some (Seen.Published line)
published_or _ o = o

-- A line was offered: it is none of a history, or memory was refused, and it wasn't taken; or its entry was taken.
abbrev pub TellsTraced : TracerRun → List ℕ → ℕ → TracerRun → Type 0
TellsTraced old line number new =
    ((number ≡ 107) × (entry_in line ≡ None) × (new ≡ old))
    ⊎ ((number ≡ 11) × (new ≡ old))
    ⊎ ((number ≡ 0) × ((e : Entry) × (entry_in line ≡ Some e) × TakesEntry old e new))

-- The line of what hosts see was asked for: it is given, or the room is too short for it; or memory was refused.
abbrev pub TellsSeen : TracerRun → (old new : List ℕ) → (number needed : ℕ) → Type 0
TellsSeen r old new number needed =
    (((number ≡ 0) ⊎ (number ≡ 103)) × GivesAll (seen_text r.last) old new needed)
    ⊎ ((number ≡ 11) × (new ≡ old))
