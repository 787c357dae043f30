-- The program's command line, as clap's definitions see it.
use Rattle.std.specs.Prelude.{Bool, List, Option, Some, [], codes, true, ◌∷◌}
use Rattle.clap.specs.Words.{App, Kinds, Row, Rule, Text, fault_of, new_app, new_rule, subcommand_of, takes, with_rule}
use Rattle.clap.specs.Words.{with_subcommand}
use Rattle.clap.specs.declared.builder.action.ArgAction.TheVariants.{Set, SetTrue}
use Rattle.clap.specs.declared.builder.value_parser.ValueParser.TheVariants.{Unsigned}
use Rattle.command_line.specs.declared.options.Argument.{Argument}
use Rattle.command_line.specs.declared.options.Argument.TheVariants.{Area, Flag, Input, Needed, Number, NumberOr}

-- the name of a file of this kind, which has to be there
abbrev pub input_rule : Text → Rule
input_rule name = record (new_rule name) { required = true; action = Some Set }

-- an option with a text
abbrev pub text_rule : Text → Rule
text_rule name = record (new_rule name) { long = Some name; value_names = 1; action = Some Set }

-- an option without a value
abbrev pub flag_rule : Text → Rule
flag_rule name = record (new_rule name) { long = Some name; action = Some SetTrue }

-- an option with a number of 64 bits
abbrev pub number_rule : Text → Rule
number_rule name = record (new_rule name) {
  long = Some name;
  value_names = 1;
  parser = Some (Unsigned 0 18446744073709551615);
  action = Some Set;
}

-- the option of an area of slots, which has two such numbers
abbrev pub area_rule : Rule
area_rule = record (number_rule (codes "slots")) { value_names = 2 }

-- one that has to be there
abbrev pub needed_rule : Text → Rule
needed_rule name = record (number_rule name) { required = true }

-- one that is this number where it isn't there
abbrev pub default_rule : Text → Text → Rule
default_rule name value = record (number_rule name) { defaults = value ∷ [] }

-- what a command takes by a name
abbrev pub argument_rule : Argument → Text → Rule
argument_rule Input name = input_rule name
argument_rule (Argument.Text value) name = text_rule name
argument_rule Flag name = flag_rule name
argument_rule Area name = record (number_rule name) { value_names = 2 }
argument_rule (Number value) name = number_rule name
argument_rule (Needed value) name = needed_rule name
argument_rule (NumberOr value number) name = default_rule name number.now

-- a command with what of a run is shown
abbrev pub with_shown_rules : App → App
with_shown_rules a = with_rule (with_rule a (text_rule (codes "show"))) (flag_rule (codes "trace"))

-- the command `run` with its options
abbrev pub run_app : App
run_app =
    with_rule (with_rule (with_rule (with_rule (with_rule (with_shown_rules (new_app (codes "run")))
    (flag_rule (codes "check"))) (text_rule (codes "from"))) (flag_rule (codes "flush"))) (flag_rule (codes "why")))
    (input_rule (codes "FILE"))

-- the command `check` with its options
abbrev pub check_app : App
check_app =
    with_rule (with_rule (with_rule (with_rule (with_rule (with_rule (new_app (codes "check"))
    (flag_rule (codes "follow"))) area_rule) (flag_rule (codes "quiet"))) (flag_rule (codes "json")))
    (flag_rule (codes "why"))) (input_rule (codes "FILE"))

-- the command `explain` with its options
abbrev pub explain_app : App
explain_app =
    with_rule (with_rule (with_rule (with_rule (with_rule (new_app (codes "explain")) (flag_rule (codes "follow")))
    area_rule) (flag_rule (codes "json"))) (flag_rule (codes "why"))) (input_rule (codes "FILE"))

-- a command with the numbers of a race
abbrev pub with_race_rules : App → App
with_race_rules a =
    with_rule (with_rule (with_rule (with_rule (with_rule a (needed_rule (codes "hosts")))
    (needed_rule (codes "workers"))) (needed_rule (codes "slots")))
    (default_rule (codes "rounds") (codes "10"))) (default_rule (codes "queues") (codes "1"))

-- a command with what the turns of a race are drawn from
abbrev pub with_turn_rules : App → App
with_turn_rules a =
    with_rule (with_rule (with_rule (with_rule a (number_rule (codes "crash"))) (number_rule (codes "seed")))
    (text_rule (codes "seeds"))) (text_rule (codes "bias"))

-- the command `race` with its options
abbrev pub race_app : App
race_app =
    with_rule (with_rule (with_rule (with_rule (with_turn_rules (with_race_rules (new_app (codes "race"))))
    (flag_rule (codes "trace"))) (flag_rule (codes "quiet"))) (flag_rule (codes "json"))) (flag_rule (codes "why"))

-- a command with a trace and with the file of this name beside it
abbrev pub beside_app : App → Text → App
beside_app a name =
    with_rule (with_rule (with_rule a (flag_rule (codes "why"))) (input_rule (codes "TRACE"))) (input_rule name)

-- the command `certify` with its files
abbrev pub certify_app : App
certify_app =
    beside_app (with_rule (with_rule (new_app (codes "certify")) (flag_rule (codes "delayed")))
    (flag_rule (codes "json"))) (codes "HISTORY")

-- the command `refute` with its files
abbrev pub refute_app : App
refute_app = beside_app (with_rule (new_app (codes "refute")) (flag_rule (codes "json"))) (codes "REFUTATION")

-- the command `observe` with its options
abbrev pub observe_app : App
observe_app =
    with_rule (with_rule (with_rule (with_rule (with_rule (with_rule (new_app (codes "observe"))
    (text_rule (codes "witness"))) (text_rule (codes "refutation"))) (default_rule (codes "steps") (codes "10000000")))
    (flag_rule (codes "json"))) (flag_rule (codes "why"))) (input_rule (codes "TRACE"))

-- the command `tell` with its options
abbrev pub tell_app : App
tell_app =
    with_rule (with_rule (with_rule (with_rule (new_app (codes "tell")) (text_rule (codes "color")))
    (flag_rule (codes "json"))) (flag_rule (codes "why"))) (input_rule (codes "FILE"))

-- a command with the range of what is drawn
abbrev pub with_range_rules : App → App
with_range_rules a = with_rule (with_rule a (number_rule (codes "from"))) (number_rule (codes "to"))

-- a command with what is shown besides
abbrev pub with_lane_rules : App → App
with_lane_rules a =
    with_rule (with_rule (with_rule a (flag_rule (codes "blocks"))) area_rule) (text_rule (codes "trace"))

-- the command `draw` with its options
abbrev pub draw_app : App
draw_app =
    with_rule (with_rule (with_rule (with_lane_rules (with_range_rules (new_app (codes "draw"))))
    (flag_rule (codes "page"))) (flag_rule (codes "why"))) (input_rule (codes "FILE"))

-- the command `random` with its options
abbrev pub random_app : App
random_app =
    with_rule (with_rule (with_rule (with_rule (new_app (codes "random")) (needed_rule (codes "seed")))
    (default_rule (codes "lines") (codes "100"))) (text_rule (codes "config"))) (text_rule (codes "like"))

-- the command `shrink` with its options
abbrev pub shrink_app : App
shrink_app =
    with_rule (with_rule (new_app (codes "shrink")) (flag_rule (codes "why"))) (input_rule (codes "SCRIPT"))

-- the program, with a version, of which one command has to be named; without any word it shows its help
abbrev pub top_app : App
top_app = let a = new_app (codes "casdisk") in
    record a { top = record a.top { has_version = true; arg_required_else_help = true; subcommand_required = true } }

-- the whole program
abbrev pub casdisk_app : App
casdisk_app =
    with_subcommand (with_subcommand (with_subcommand (with_subcommand (with_subcommand (with_subcommand
    (with_subcommand (with_subcommand (with_subcommand (with_subcommand (with_subcommand top_app run_app.top)
    check_app.top) explain_app.top) race_app.top) certify_app.top) refute_app.top) observe_app.top) tell_app.top)
    draw_app.top) random_app.top) shrink_app.top

-- the command that the words name, and what they give its options
unfoldable pub subcommand_in : List Text → Option (Text × List Row)
subcommand_in words = subcommand_of casdisk_app words

-- The kinds of error that clap may have for the words, none where they are a command line of the program.
unfoldable pub faults_in : List Text → Kinds
faults_in words = fault_of casdisk_app words

-- the words are a command line of the program
unfoldable pub are_words_taken : List Text → Bool
are_words_taken words = takes casdisk_app words
