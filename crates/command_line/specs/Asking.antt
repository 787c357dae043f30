-- What a command line asks for.
use Rattle.std.specs.Prelude.{Bool, List, None, Ok, Option, Some, [], bytes_eq, codes, false, if◌then◌else◌, is_some}
use Rattle.std.specs.Prelude.{nat_le, option_map, true, unwrap_or, ◌&&◌, ◌-◌, ◌^◌, ◌||◌, ◌≡◌, ◌≢◌, ◌∷◌, ◌⊎◌, ℕ}
use Rattle.std.specs.Borrow.{Bor}
use Rattle.std.specs.Str.Parse.{ParsesUnsigned}
use Rattle.std.specs.declared.num.ParseIntError.{ParseIntError}
use Rattle.clap.specs.Words.{IsAmong, Row, Text, all_of, first_of, one_of}
use Rattle.clap.specs.declared.error.kind.ErrorKind.{ErrorKind}
use Rattle.casdisk_texts.specs.Kinds.{kinds_in}
use Rattle.race_numbers.specs.Races.{usage_of}
use Rattle.race_numbers.specs.declared.race.Race.{Race}
use Rattle.command_line.specs.CommandLine.{faults_in, are_words_taken, subcommand_in}
use Rattle.command_line.specs.declared.request.Asked.{Asked}
use Rattle.command_line.specs.declared.request.ColorChoice.{ColorChoice}
use Rattle.command_line.specs.declared.request.ColorChoice.TheVariants.{Always, Auto, Never}
use Rattle.command_line.specs.declared.request.Shown.{Shown}
use Rattle.command_line.specs.declared.request.SlotArea.{SlotArea}
use Rattle.command_line.specs.declared.request.UsageFault.{UsageFault}

-- the numbers of a race that is asked for are in their ranges
abbrev pub IsRaceInRange : Asked → Type 0
IsRaceInRange (Asked.Race r crash seed seeds bias trace quiet json why) =
    usage_of r.hosts r.workers r.slots r.rounds r.queues ≡ None
IsRaceInRange _ = Unit {0}

-- the kinds that are named, all where none are
abbrev pub kinds_asked : Option Text → Option ℕ
kinds_asked None = Some 255
kinds_asked (Some text) = kinds_in text

-- whether an option without a value is there
pub record SaysFlag (name : Text) (rows : List Row) (there : Bool) : Type 0 where
  pub left_out : one_of name rows ≡ None → there ≡ false
  pub named : one_of name rows ≡ Some (codes "true") → there ≡ true
  pub by_default : one_of name rows ≡ Some (codes "false") → there ≡ false

-- the number that an option says
abbrev pub SaysNumber : Text → List Row → ℕ → Type 0
SaysNumber name rows n =
    (digits : Text) × (one_of name rows ≡ Some digits) × ParsesUnsigned {E = ParseIntError} 64 10 digits (Ok n)

-- the numbers that the options of a race say
pub record SaysNumbers (rows : List Row) (hosts workers slots rounds queues : ℕ) : Type 0 where
  pub of_hosts : SaysNumber (codes "hosts") rows hosts
  pub of_workers : SaysNumber (codes "workers") rows workers
  pub of_slots : SaysNumber (codes "slots") rows slots
  pub of_rounds : SaysNumber (codes "rounds") rows rounds
  pub of_queues : SaysNumber (codes "queues") rows queues

-- the text that an option says, or the file that is named
abbrev pub SaysText : Text → List Row → Text → Type 0
SaysText name rows text = first_of name rows ≡ Some text

-- the number that an option says, none where it says none
abbrev pub MaySayNumber : Text → List Row → Option ℕ → Type 0
MaySayNumber name rows None = (n : ℕ) → SaysNumber name rows n → ⊥
MaySayNumber name rows (Some n) = SaysNumber name rows n

-- the text that an option says, none where it isn't there
abbrev pub MaySayText : Text → List Row → Option (Bor Text) → Type 0
MaySayText name rows text = first_of name rows ≡ option_map (λ t. t.now) text

-- What a run shows, by its options: a trace where that is asked for, no kinds are named and no check is asked for, else
-- the lines of the kinds that are named, all where none are.
abbrev pub SaysShown : List Row → Shown → Type 0
SaysShown rows (Shown.Kinds kinds) =
    SaysFlag (codes "trace") rows false × (kinds_asked (first_of (codes "show") rows) ≡ Some kinds.0)
SaysShown rows Shown.Trace =
    SaysFlag (codes "trace") rows true × (first_of (codes "show") rows ≡ None) × SaysFlag (codes "check") rows false

-- two words that are the numbers of this area
abbrev pub IsAreaOf : List Text → SlotArea → Type 0
IsAreaOf (first ∷ count ∷ []) area =
    ParsesUnsigned {E = ParseIntError} 64 10 first (Ok area.first)
    × ParsesUnsigned {E = ParseIntError} 32 10 count (Ok area.count)
IsAreaOf _ area = ⊥

-- the area of slots that the options say, none where they name none
abbrev pub SaysArea : List Row → Option SlotArea → Type 0
SaysArea rows None = all_of (codes "slots") rows ≡ None
SaysArea rows (Some area) = (words : List Text) × (all_of (codes "slots") rows ≡ Some words) × IsAreaOf words area

-- they aren't both standard input
abbrev pub AreTwoInputs : Text → Text → Type 0
AreTwoInputs trace history = trace ≡ codes "-" → history ≡ codes "-" → ⊥

-- two files, of which the first may be left out, are both standard input
abbrev pub is_one_input : Option Text → Text → Bool
is_one_input None file = false
is_one_input (Some beside) file = bytes_eq beside (codes "-") && bytes_eq file (codes "-")

-- the history that a run goes on from, none where the options name none; where one is named neither a trace nor a check
-- is asked for
abbrev pub GoesOnFrom : List Row → Option (Bor Text) → Type 0
GoesOnFrom rows None = first_of (codes "from") rows ≡ None
GoesOnFrom rows (Some history) =
    (first_of (codes "from") rows ≡ Some history.now)
    × SaysFlag (codes "trace") rows false × SaysFlag (codes "check") rows false

-- what the options of `run` say
pub record SaysRun (rows : List Row) (shown : Shown) (from : Option (Bor Text)) (check flush why : Bool) (file : Text)
    : Type 0 where
  pub what : SaysShown rows shown
  pub begins : GoesOnFrom rows from
  pub two : is_one_input (first_of (codes "from") rows) file ≡ false
  pub judges : SaysFlag (codes "check") rows check
  pub flushes : SaysFlag (codes "flush") rows flush
  pub reason : SaysFlag (codes "why") rows why
  pub reads : SaysText (codes "FILE") rows file

-- what the options of `check` say; it doesn't follow where there is an area
pub record SaysCheck (rows : List Row) (follow : Bool) (area : Option SlotArea) (quiet json why : Bool) (file : Text)
    : Type 0 where
  pub follows : SaysFlag (codes "follow") rows follow
  pub slots : SaysArea rows area
  pub one_of_both : (follow && is_some area) ≡ false
  pub hushed : SaysFlag (codes "quiet") rows quiet
  pub object : SaysFlag (codes "json") rows json
  pub reason : SaysFlag (codes "why") rows why
  pub reads : SaysText (codes "FILE") rows file

-- what the options of `explain` say; it doesn't follow where there is an area
pub record SaysExplain (rows : List Row) (follow : Bool) (area : Option SlotArea) (json why : Bool) (file : Text)
    : Type 0 where
  pub follows : SaysFlag (codes "follow") rows follow
  pub slots : SaysArea rows area
  pub one_of_both : (follow && is_some area) ≡ false
  pub object : SaysFlag (codes "json") rows json
  pub reason : SaysFlag (codes "why") rows why
  pub reads : SaysText (codes "FILE") rows file

-- what the options of a command say that reads a trace and the file of this name
pub record SaysBeside (name : Text) (rows : List Row) (why : Bool) (trace file : Text) : Type 0 where
  pub reason : SaysFlag (codes "why") rows why
  pub saw : SaysText (codes "TRACE") rows trace
  pub reads : SaysText name rows file
  pub two : AreTwoInputs trace file

-- what the options of `observe` say
pub record SaysObserve (rows : List Row) (witness refutation : Option (Bor Text)) (steps : ℕ) (json why : Bool)
    (trace : Text) : Type 0 where
  pub writes : MaySayText (codes "witness") rows witness
  pub refutes : MaySayText (codes "refutation") rows refutation
  pub limit : SaysNumber (codes "steps") rows steps
  pub object : SaysFlag (codes "json") rows json
  pub reason : SaysFlag (codes "why") rows why
  pub saw : SaysText (codes "TRACE") rows trace

-- when lines are coloured, by a word for that
abbrev pub color_in : Text → Option ColorChoice
color_in word =
    if bytes_eq word (codes "auto") then Some Auto
    else if bytes_eq word (codes "always") then Some Always
    else if bytes_eq word (codes "never") then Some Never
    else None

-- when lines are coloured, by the word of an option, which may be left out
abbrev pub color_asked : Option Text → Option ColorChoice
color_asked None = Some Auto
color_asked (Some word) = color_in word

-- what the options of `tell` say
pub record SaysTell (rows : List Row) (color : ColorChoice) (json why : Bool) (file : Text) : Type 0 where
  pub colors : color_asked (first_of (codes "color") rows) ≡ Some color
  pub object : SaysFlag (codes "json") rows json
  pub reason : SaysFlag (codes "why") rows why
  pub reads : SaysText (codes "FILE") rows file

-- whether there is a step from the first of these places to the last, counted from 1, where both may be left out
abbrev pub is_step_range : (from to : Option ℕ) → Bool
is_step_range from to =
    nat_le 1 (unwrap_or from 1) && nat_le 1 (unwrap_or to 1)
    && nat_le (unwrap_or from 1) (unwrap_or to (2 ^ 64 - 1))

-- the range of steps that the options say
abbrev pub IsStepRange : List Row → (from to : Option ℕ) → Type 0
IsStepRange rows from to =
    MaySayNumber (codes "from") rows from × MaySayNumber (codes "to") rows to × (is_step_range from to ≡ true)

-- what the options of `draw` say
pub record SaysDraw (rows : List Row) (from to : Option ℕ) (blocks : Bool) (area : Option SlotArea)
    (trace : Option (Bor Text)) (why : Bool) (file : Text) : Type 0 where
  pub range : IsStepRange rows from to
  pub values : SaysFlag (codes "blocks") rows blocks
  pub slots : SaysArea rows area
  pub saw : MaySayText (codes "trace") rows trace
  pub two : is_one_input (first_of (codes "trace") rows) file ≡ false
  pub reason : SaysFlag (codes "why") rows why
  pub reads : SaysText (codes "FILE") rows file

-- whether options name a part of a history, or what a picture shows besides
abbrev pub names_part : (from to : Option ℕ) → Bool → Option SlotArea → Option (Bor Text) → Bool
names_part from to blocks area trace = is_some from || is_some to || blocks || is_some area || is_some trace

-- What the options of `draw` say where a page is asked for, which has the whole history: none of a picture's.
abbrev pub SaysPage : List Row → Bool → Text → Type 0
SaysPage rows why file = SaysFlag (codes "page") rows true × SaysDraw rows None None false None None why file

-- what the options of `random` say
pub record SaysRandom (rows : List Row) (seed lines : ℕ) (config like : Option (Bor Text)) : Type 0 where
  pub begins : SaysNumber (codes "seed") rows seed
  pub length : SaysNumber (codes "lines") rows lines
  pub numbers : MaySayText (codes "config") rows config
  pub kind : MaySayText (codes "like") rows like

-- what the options of `shrink` say; its script isn't standard input, which has the answers
pub record SaysShrink (rows : List Row) (why : Bool) (script : Text) : Type 0 where
  pub reason : SaysFlag (codes "why") rows why
  pub reads : SaysText (codes "SCRIPT") rows script
  pub other : script ≢ codes "-"

-- what the options of `race` say
pub record SaysRace (rows : List Row) (r : Race) (crash seed : Option ℕ) (seeds bias : Option (Bor Text))
    (trace quiet json why : Bool) : Type 0 where
  pub numbers : SaysNumbers rows r.hosts r.workers r.slots r.rounds r.queues
  pub dying : MaySayNumber (codes "crash") rows crash
  pub begins : MaySayNumber (codes "seed") rows seed
  pub many : MaySayText (codes "seeds") rows seeds
  pub weights : MaySayText (codes "bias") rows bias
  pub traces : SaysFlag (codes "trace") rows trace
  pub hushed : SaysFlag (codes "quiet") rows quiet
  pub objects : SaysFlag (codes "json") rows json
  pub reason : SaysFlag (codes "why") rows why

-- a number of a race is missing, or one is out of its range
abbrev pub IsNoRace : List Row → Type 0
IsNoRace rows = (hosts workers slots rounds queues : ℕ) → SaysNumbers rows hosts workers slots rounds queues
    → usage_of hosts workers slots rounds queues ≢ None

-- what the options of a command of this name ask for
abbrev pub AsksBy : Text → List Row → Asked → Type 0
AsksBy name rows (Asked.Run shown from check flush why file) =
    (name ≡ codes "run") × SaysRun rows shown from check flush why file.now
AsksBy name rows (Asked.Check follow area quiet json why file) =
    (name ≡ codes "check") × SaysCheck rows follow area quiet json why file.now
AsksBy name rows (Asked.Explain follow area json why file) =
    (name ≡ codes "explain") × SaysExplain rows follow area json why file.now
AsksBy name rows (Asked.Certify delayed json why trace history) =
    (name ≡ codes "certify") × SaysFlag (codes "delayed") rows delayed × SaysFlag (codes "json") rows json
    × SaysBeside (codes "HISTORY") rows why trace.now history.now
AsksBy name rows (Asked.Refute json why trace refutation) =
    (name ≡ codes "refute") × SaysFlag (codes "json") rows json
    × SaysBeside (codes "REFUTATION") rows why trace.now refutation.now
AsksBy name rows (Asked.Observe witness refutation steps json why trace) =
    (name ≡ codes "observe") × SaysObserve rows witness refutation steps json why trace.now
AsksBy name rows (Asked.Tell color json why file) = (name ≡ codes "tell") × SaysTell rows color json why file.now
AsksBy name rows (Asked.Draw from to blocks area trace why file) =
    (name ≡ codes "draw") × SaysFlag (codes "page") rows false × SaysDraw rows from to blocks area trace why file.now
AsksBy name rows (Asked.Page why file) = (name ≡ codes "draw") × SaysPage rows why file.now
AsksBy name rows (Asked.Random seed lines config like) =
    (name ≡ codes "random") × SaysRandom rows seed lines config like
AsksBy name rows (Asked.Shrink why script) = (name ≡ codes "shrink") × SaysShrink rows why script.now
AsksBy name rows (Asked.Race r crash seed seeds bias trace quiet json why) =
    (name ≡ codes "race") × SaysRace rows r crash seed seeds bias trace quiet json why
AsksBy name rows (Asked.Show text) = ⊥

-- the words name a command, whose options ask for it
abbrev pub AsksByCommand : List Text → Asked → Type 0
AsksByCommand words asked =
    (name : Text) × (rows : List Row) × (subcommand_in words ≡ Some (name, rows)) × AsksBy name rows asked

-- an error of this kind is what clap answers to words that ask for help or for the version
abbrev pub IsShowing : ErrorKind → Type 0
IsShowing kind = (kind ≡ ErrorKind.DisplayHelp) ⊎ (kind ≡ ErrorKind.DisplayVersion)

-- what is answered where clap makes an error of this kind: a text, where the words ask for one
abbrev pub IsShownBy : ErrorKind → Asked → Type 0
IsShownBy kind (Asked.Show text) = IsShowing kind
IsShownBy kind asked = ⊥

-- what is told where clap makes an error of this kind: its text, unless memory was refused or the words ask for a text
abbrev pub IsToldBy : ErrorKind → UsageFault → Type 0
IsToldBy kind (UsageFault.Text text) = (kind ≢ ErrorKind.OutOfMemory) × (IsShowing kind → ⊥)
IsToldBy kind UsageFault.NoMemory = Unit {0}

-- the words are no command line of the program, and clap may answer them by an error of a kind for which this holds
abbrev pub IsNoneBy : (ErrorKind → Type 0) → List Text → Type 0
IsNoneBy P words = (are_words_taken words ≡ false) × ((kind : ErrorKind) × IsAmong kind (faults_in words) × P kind)

-- the words ask for it; a text is shown only where clap finds that they ask for help or for the version
abbrev pub Asks : List Text → Asked → Type 0
Asks words (Asked.Show text) = IsNoneBy IsShowing words
Asks words asked = AsksByCommand words asked

-- no command has this name
abbrev pub IsOther : Text → Type 0
IsOther name =
    (name ≢ codes "run") × (name ≢ codes "check") × (name ≢ codes "explain") × (name ≢ codes "certify")
    × (name ≢ codes "refute") × (name ≢ codes "observe") × (name ≢ codes "race") × (name ≢ codes "tell")
    × (name ≢ codes "draw") × (name ≢ codes "random") × (name ≢ codes "shrink")

-- no file is named
abbrev pub IsNoFile : List Row → Type 0
IsNoFile rows = first_of (codes "FILE") rows ≡ None

-- a trace is asked for and a check too, or kinds of lines are named; or those are unknown or empty
abbrev pub IsNotShown : List Row → Type 0
IsNotShown rows =
    (SaysFlag (codes "trace") rows true × (is_some (first_of (codes "show") rows) ≡ true))
    ⊎ (SaysFlag (codes "trace") rows true × SaysFlag (codes "check") rows true)
    ⊎ (kinds_asked (first_of (codes "show") rows) ≡ None)

-- a history to go on from is named, and a trace or a check is asked for
abbrev pub IsNoBeginning : List Row → Type 0
IsNoBeginning rows =
    (is_some (first_of (codes "from") rows) ≡ true)
    × (SaysFlag (codes "trace") rows true ⊎ SaysFlag (codes "check") rows true)

-- words stand behind `--slots` that are the numbers of no area
abbrev pub IsNoArea : List Row → Type 0
IsNoArea rows =
    (words : List Text) × (all_of (codes "slots") rows ≡ Some words) × ((a : SlotArea) → IsAreaOf words a → ⊥)

-- an area of slots is named, and to follow is asked for
abbrev pub FollowsArea : List Row → Type 0
FollowsArea rows = (a : SlotArea) × SaysArea rows (Some a) × SaysFlag (codes "follow") rows true

-- another word than those there are says when lines are coloured
abbrev pub IsNoColor : List Row → Type 0
IsNoColor rows = color_asked (first_of (codes "color") rows) ≡ None

-- a range of steps is named that has none
abbrev pub IsNoRange : List Row → Type 0
IsNoRange rows =
    (from : Option ℕ) × (to : Option ℕ) × MaySayNumber (codes "from") rows from × MaySayNumber (codes "to") rows to
    × (is_step_range from to ≡ false)

-- the file that this option names and the other one are both standard input
abbrev pub IsOneInput : Text → List Row → Type 0
IsOneInput name rows =
    (file : Text) × (first_of (codes "FILE") rows ≡ Some file) × (is_one_input (first_of name rows) file ≡ true)

-- a page is asked for, and a part of a history or what a picture shows besides
abbrev pub IsPageOfPart : List Row → Type 0
IsPageOfPart rows =
    SaysFlag (codes "page") rows true
    × ((from : Option ℕ) × (to : Option ℕ) × (blocks : Bool) × (area : Option SlotArea) × (trace : Option (Bor Text))
    × (file : Text) × (why : Bool) × SaysDraw rows from to blocks area trace why file
    × (names_part from to blocks area trace ≡ true))

-- no trace or no file of this name is named, or both are standard input
abbrev pub AreNoInputs : Text → List Row → Type 0
AreNoInputs name rows =
    (first_of (codes "TRACE") rows ≡ None) ⊎ (first_of name rows ≡ None)
    ⊎ ((first_of (codes "TRACE") rows ≡ Some (codes "-")) × (first_of name rows ≡ Some (codes "-")))

-- no trace is named, or no number of steps
abbrev pub IsNoSearch : List Row → Type 0
IsNoSearch rows = (first_of (codes "TRACE") rows ≡ None) ⊎ ((n : ℕ) → SaysNumber (codes "steps") rows n → ⊥)

-- no seed is named, or no number of lines
abbrev pub IsNoRandom : List Row → Type 0
IsNoRandom rows =
    ((n : ℕ) → SaysNumber (codes "seed") rows n → ⊥) ⊎ ((n : ℕ) → SaysNumber (codes "lines") rows n → ⊥)

-- no script is named, or it is standard input
abbrev pub IsNoScript : List Row → Type 0
IsNoScript rows = (first_of (codes "SCRIPT") rows ≡ None) ⊎ (first_of (codes "SCRIPT") rows ≡ Some (codes "-"))

-- The options of a command of this name ask for nothing: no file is named where one has to be, what is to be shown is
-- unknown, the words of an area are no area, a range has no step, two options exclude each other, or the numbers are
-- those of no race. There is no other command.
abbrev pub AskNothing : Text → List Row → Type 0
AskNothing name rows =
    ((name ≡ codes "run") × (IsNoFile rows ⊎ IsNotShown rows ⊎ IsNoBeginning rows ⊎ IsOneInput (codes "from") rows))
    ⊎ ((name ≡ codes "check") × (IsNoFile rows ⊎ IsNoArea rows ⊎ FollowsArea rows))
    ⊎ ((name ≡ codes "explain") × (IsNoFile rows ⊎ IsNoArea rows ⊎ FollowsArea rows))
    ⊎ ((name ≡ codes "race") × IsNoRace rows)
    ⊎ ((name ≡ codes "certify") × AreNoInputs (codes "HISTORY") rows)
    ⊎ ((name ≡ codes "observe") × IsNoSearch rows)
    ⊎ ((name ≡ codes "tell") × (IsNoFile rows ⊎ IsNoColor rows))
    ⊎ ((name ≡ codes "draw")
    × (IsNoFile rows ⊎ IsNoArea rows ⊎ IsNoRange rows ⊎ IsOneInput (codes "trace") rows ⊎ IsPageOfPart rows))
    ⊎ ((name ≡ codes "random") × IsNoRandom rows)
    ⊎ ((name ≡ codes "shrink") × IsNoScript rows)
    ⊎ ((name ≡ codes "refute") × AreNoInputs (codes "REFUTATION") rows)
    ⊎ IsOther name

-- a text says why something is refused only where this holds
abbrev pub HasCause : Type 0 → UsageFault → Type 0
HasCause P UsageFault.NoMemory = Unit {0}
HasCause P (UsageFault.Text text) = P

-- a text says why options are refused only where they ask for nothing
abbrev pub IsRefusedBy : Text → List Row → UsageFault → Type 0
IsRefusedBy name rows fault = HasCause (AskNothing name rows) fault

-- A text says why the words are refused only where clap finds that they are no command line of the program, and not
-- because they ask for help or for the version; or where they name a command whose options ask for nothing.
abbrev pub AreRefused : List Text → UsageFault → Type 0
AreRefused words fault =
    HasCause (IsNoneBy (λ kind. IsShowing kind → ⊥) words ⊎ (subcommand_in words ≡ None)
    ⊎ ((name : Text) × (rows : List Row) × (subcommand_in words ≡ Some (name, rows)) × AskNothing name rows)) fault
