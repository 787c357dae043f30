-- What is kept of a history that is compared with a trace, and what is said of one more entry.
use Rattle.std.specs.Prelude.{Bool, List, None, Option, Some, false, suc, true, ℕ, ◌≡◌, ◌∷◌}
use Rattle.nvme_model.specs.History.{Past}
use Rattle.nvme_model.specs.Legal.{IsLegal, legal}
use Rattle.nvme_model.specs.declared.config.ConfigNumbers.{ConfigNumbers}
use Rattle.nvme_model.specs.declared.entry.Entry.{Entry}
use Rattle.history_check.specs.Kept.{Stands}
use Rattle.history_check.specs.Kept as kept
use Rattle.rings.specs.Tables.{IsTable}
use Rattle.trace.specs.Observed.{shown}
use Rattle.trace.specs.Options.{ReadsAs}
use Rattle.trace.specs.declared.options.TraceOptions.{TraceOptions}
use Rattle.trace.specs.declared.seen.Seen.{Seen}
use Rattle.witness_check.specs.Differing.{Differ}
use Rattle.witness_check.specs.Waiting.{waiting_payloads}
use Rattle.witness_check.specs.declared.witness.Told.{Told}
use Rattle.witness_check.specs.declared.witness.Told.TheVariants.{Bad, Hidden, Same, Unlike}

-- a checker, and by completion queue the data of the completions that wait
pub record Followed : Type 0 where
  pub checker : kept.CheckerRun
  pub waiting : List (List (List ℕ))

-- it is what is kept of this history
pub record FollowsHistory (c : ConfigNumbers) (past : Past) (x : Followed) : Type 0 where
  pub stands : Stands c past x.checker
  pub waits : legal c past ≡ true → IsTable (λ k. waiting_payloads c past (suc k)) c.cqs x.waiting

-- neither hosts see an entry of this kind nor a completion queue
abbrev pub is_inner : Entry → Bool
is_inner (Entry.Fetch f) = true
is_inner (Entry.Grant g) = true
is_inner (Entry.Block b) = true
is_inner _ = false

-- what is said where hosts see this of an entry, and the trace says that next, as options read it
abbrev pub Compares : TraceOptions → Option Seen → Option Seen → Told → Type 0
Compares o seen next Bad = ⊥
Compares o seen next Hidden = seen ≡ None
Compares o seen next Same = (s t : Seen) × (seen ≡ Some s) × (next ≡ Some t) × ReadsAs o s t
Compares o seen next (Unlike d) = (s : Seen) × (seen ≡ Some s) × Differ o (Some s) next d

-- what is said of one more entry behind this history, where the trace says this next
abbrev pub TellsEntry : TraceOptions → ConfigNumbers → Past → Entry → Option Seen → Told → Type 0
TellsEntry o c past e next Bad = legal c (e ∷ past) ≡ false
TellsEntry o c past e next Hidden = IsLegal c (e ∷ past) × Compares o (shown c past e) next Hidden
TellsEntry o c past e next Same = IsLegal c (e ∷ past) × Compares o (shown c past e) next Same
TellsEntry o c past e next (Unlike d) = IsLegal c (e ∷ past) × Compares o (shown c past e) next (Unlike d)
