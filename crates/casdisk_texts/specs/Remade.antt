-- A history that a controller makes once more, and a script that goes on from it.
use Rattle.std.specs.Prelude.{◌≡◌, ◌≢◌, ◌&&◌, ◌+◌, ℕ, Bool, List, [], ◌∷◌, ◌++◌, Option, Some, None, IfSome, Result, Ok}
use Rattle.std.specs.Prelude.{Err, bytes_eq, false, if◌then◌else◌, is_none, length, option_map, true}
use Rattle.std.specs.Io.KnownBytes.{Appends, Consumes, Keeps}
use Rattle.line_text.specs.Known.{AppendsFront}
use Rattle.line_text.specs.Lines.{GivesBytes, NoFeed, whole_lines, rest_line}
use Rattle.nvme_model.specs.Config.{config_fault, config_fault_number}
use Rattle.nvme_model.specs.FirstBad.{earlier_or}
use Rattle.nvme_model.specs.History.{Past, step_of}
use Rattle.nvme_model.specs.Refusals.{refusal}
use Rattle.nvme_model.specs.Steps.{next_entry}
use Rattle.nvme_model.specs.declared.config.ConfigFault.{ConfigFault}
use Rattle.nvme_model.specs.declared.config.ConfigNumbers.{ConfigNumbers}
use Rattle.nvme_model.specs.declared.entry.Entry.{Entry}
use Rattle.nvme_model.specs.declared.step.Step.{Step}
use Rattle.history.specs.ConfigLine.{config_in, config_line}
use Rattle.history.specs.Lines.{HasLine, entry_in, entry_line}
use Rattle.controller_interface.specs.State.{ControllerState}
use Rattle.casdisk_texts.specs.Checked.{HasMade}
use Rattle.casdisk_texts.specs.Fault.{exit_status}
use Rattle.casdisk_texts.specs.Meaning.{Meaning}
use Rattle.casdisk_texts.specs.Running.{RunsScript}
use Rattle.casdisk_texts.specs.Said.{entry_text, script_line}
use Rattle.casdisk_texts.specs.Script.{Outcome, bad_config, bad_line, cut, done, ending, first_config, lines_print}
use Rattle.casdisk_texts.specs.Script.{script_outcome}
use Rattle.casdisk_texts.specs.declared.fault.RunFault.{RunFault}
use Rattle.casdisk_texts.specs.declared.fault.RunFault.TheVariants.{BadConfig, BadLine, Input}
use Rattle.casdisk_texts.specs.declared.from_fault.FromFault.{FromFault}
use Rattle.casdisk_texts.specs.declared.from_fault.FromFault.TheVariants.{Differs, History, OtherConfig, Script}

-- the status with which the program ends then
abbrev pub from_status : FromFault → ℕ
from_status (History f) = exit_status f
from_status (Differs place) = 1
from_status OtherConfig = 2
from_status (Script f) = exit_status f

-- ---- a history once more

-- the step of this entry isn't refused, and what it adds has the line of this entry
abbrev pub is_remade : ConfigNumbers → Past → Entry → Bool
is_remade c past e =
    is_none (refusal c past (step_of e)) && bytes_eq (entry_line (next_entry c past (step_of e))) (entry_line e)

-- The first place, from 1, at which a controller of this kind would have done something else than this history says,
-- the newest entry first; None where it makes all of it.
abbrev pub first_other : ConfigNumbers → Past → Option ℕ
first_other c [] = None
first_other c (e ∷ past) =
    earlier_or (first_other c past) (if is_remade c past e then None else Some (length past + 1))

-- what is printed of an entry, by the first place that is other: its line, where there is none
abbrev pub remade_text : ℕ → Entry → Option ℕ → List ℕ
remade_text kinds e None = entry_text kinds e
remade_text kinds e (Some place) = []

-- what a line of a history means to a controller of this configuration that makes it once more, where these kinds are
-- shown
abbrev pub remade_line : ConfigNumbers → ℕ → Meaning
remade_line c kinds past line =
    option_map (λ e. (e ∷ past, remade_text kinds e (first_other c (e ∷ past)))) (entry_in line)

-- how a history ends that is made once more, and what it prints
abbrev pub remade_outcome : ℕ → List ℕ → Outcome
remade_outcome kinds input = script_outcome (λ c. remade_line c kinds) input

-- a history was read to its end and made once more, up to the first place that is other, and this holds of its
-- configuration and of the history
abbrev pub WasRemade : (ConfigNumbers → Past → Type 0) → ℕ → (input left old new : Option (List ℕ)) → Type 0
WasRemade Holds kinds input left old new =
    RunsScript (remade_outcome kinds) (Ok tt) input left old new
    × IfSome input (HasMade (λ c. remade_line c kinds) Holds)

-- ---- a script that goes on

-- what follows the first line of a script, by its configuration, which may be refused, and has to have this line
abbrev pub continues_by : ConfigNumbers → Past → List ℕ → Option ConfigFault → Outcome → Outcome
continues_by c past line None more = if bytes_eq line (config_line c) then more else ending done past
continues_by c past line (Some fault) more = ending (bad_config (config_fault_number fault)) past

-- what follows the first line of a script, by what it says
abbrev pub continues_as : ConfigNumbers → Past → List ℕ → Option ConfigNumbers → Outcome → Outcome
continues_as c past line None more = ending (bad_line 1) past
continues_as c past line (Some k) more = continues_by c past line (config_fault k) more

-- A script that goes on from a history of this configuration: its first line prints nothing. Of a script of another
-- configuration nothing is done.
unfoldable pub continues : ConfigNumbers → ℕ → Past → List (List ℕ) → List ℕ → Outcome
continues c kinds past [] rest = ending (cut 1) past
continues c kinds past (line ∷ lines) rest =
    continues_as c past line (config_in line) (lines_print (script_line c kinds) past 2 lines rest)

-- the outcome of a whole script that goes on
abbrev pub continued : ConfigNumbers → ℕ → Past → List ℕ → Outcome
continued c kinds past input = continues c kinds past (whole_lines input) (rest_line input)

-- the first line of a script is that of this configuration
abbrev pub HasConfig : ConfigNumbers → Option (List ℕ) → Type 0
HasConfig c input = IfSome input (λ bytes. first_config (whole_lines bytes) ≡ Some c)

-- it is that of another one
abbrev pub HasOther : ConfigNumbers → Option (List ℕ) → Type 0
HasOther c input = IfSome input (λ bytes. (k : ConfigNumbers) × (first_config (whole_lines bytes) ≡ Some k) × (k ≢ c))

-- by what was answered of a script that goes on from a history
abbrev pub Continues : ConfigNumbers → ℕ → Past → Result (Unit {0}) FromFault → (input left old new : Option (List ℕ))
    → Type 0
Continues c kinds past (Ok x) input left old new =
    HasConfig c input × RunsScript (continued c kinds past) (Ok x) input left old new
Continues c kinds past (Err (Script f)) input left old new =
    RunsScript (continued c kinds past) (Err f) input left old new
Continues c kinds past (Err OtherConfig) input left old new = HasOther c input × Keeps old new
Continues c kinds past (Err (History f)) input left old new = ⊥
Continues c kinds past (Err (Differs place)) input left old new = ⊥

-- ---- both

-- By what was answered: the history wasn't made to its end; it was, up to the first place that is other; or a
-- controller made all of it, and then did the script, so far as this says. The script isn't read before that.
abbrev pub RunsFrom : ℕ → Result (Unit {0}) FromFault → (history behind script left old new : Option (List ℕ)) → Type 0
RunsFrom kinds (Err (History f)) history behind script left old new =
    RunsScript (remade_outcome kinds) (Err f) history behind old new × (left ≡ script)
RunsFrom kinds (Err (Differs place)) history behind script left old new =
    WasRemade (λ c past. first_other c past ≡ Some place) kinds history behind old new × (left ≡ script)
RunsFrom kinds result history behind script left old new =
    (mid : Option (List ℕ))
    × WasRemade (λ c past. (first_other c past ≡ None) × Continues c kinds past result script left mid new) kinds
    history behind old mid

-- ---- on the way there

-- a controller has made these entries once more, up to the first that is other
pub record HasRemade (c : ConfigNumbers) (past : Past) (core : ControllerState) (other : Option ℕ) : Type 0 where
  pub config : core.config ≡ c
  pub first : other ≡ first_other c past
  pub made : other ≡ None → core.past ≡ past

-- by whether a step was made: nothing refuses it, it adds its entry, and this is the line of that; or something does
abbrev pub MakesAgain : ConfigNumbers → Past → Step → Bool → Past → List ℕ → Type 0
MakesAgain c past step true after text =
    (refusal c past step ≡ None) × (after ≡ next_entry c past step ∷ past)
    × (text ≡ entry_line (next_entry c past step)) × HasLine (next_entry c past step)
MakesAgain c past step false after text = is_none (refusal c past step) ≡ false

-- by whether the step of an entry added just that entry: it did, and this is its line; or it didn't
abbrev pub MakesEntry : ConfigNumbers → Past → Entry → Bool → Past → List ℕ → Type 0
MakesEntry c past e true after text = (is_remade c past e ≡ true) × (after ≡ e ∷ past) × (text ≡ entry_line e)
MakesEntry c past e false after text = is_remade c past e ≡ false

-- one more entry of a history was made once more, and what that prints was written
abbrev pub RemakesNext : ConfigNumbers → ℕ → Past → Entry → (after : ControllerState) → Option ℕ
    → (old new : Option (List ℕ)) → Type 0
RemakesNext c kinds past e after other old new =
    HasRemade c (e ∷ past) after other × Appends old new (remade_text kinds e (first_other c (e ∷ past)))

-- a beginning of that was written
abbrev pub StopsRemaking : ConfigNumbers → ℕ → Past → Entry → (old new : Option (List ℕ)) → Type 0
StopsRemaking c kinds past e old new = AppendsFront old new (remade_text kinds e (first_other c (e ∷ past)))

-- the first line was read, and says this configuration
pub record IsFirstLine (c : ConfigNumbers) (line : List ℕ) (input left : Option (List ℕ)) (held : List ℕ) : Type 0 where
  pub gives : GivesBytes input left [] held (line ++ 10 ∷ [])
  pub plain : NoFeed line
  pub says : config_in line ≡ Some c
  pub accepted : config_fault c ≡ None

-- By why there was no first line: none that says a configuration; one that is refused; or none yet.
abbrev pub LacksFirstLine : RunFault → (input left : Option (List ℕ)) → Type 0
LacksFirstLine (BadLine n) input left = (n ≡ 1) × IfSome input (λ bytes. first_config (whole_lines bytes) ≡ None)
LacksFirstLine (BadConfig n) input left =
    IfSome input (λ bytes. (k : ConfigNumbers) × (first_config (whole_lines bytes) ≡ Some k)
    × ((fault : ConfigFault) × (config_fault k ≡ Some fault) × (n ≡ config_fault_number fault)))
LacksFirstLine Input input left = (bytes : List ℕ) × Consumes input left bytes × (whole_lines bytes ≡ [])
LacksFirstLine f input left = (bytes : List ℕ) × Consumes input left bytes
