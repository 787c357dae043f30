-- What the text of a trace has.
use Rattle.std.specs.Prelude.{◌≡◌, ◌⊎◌, ℕ, ◌==◌, ◌&&◌, ◌||◌, Bool, true, false, not, if◌then◌else◌, nat_lt, List, []}
use Rattle.std.specs.Prelude.{◌∷◌, drop, get_or, option_map, reverse, Option, Some, None, IfSome}
use Rattle.std.specs.Io.KnownBytes.{Consumes}
use Rattle.line_text.specs.Lines.{whole_lines}
use Rattle.nvme_model.specs.Bits.{bit}
use Rattle.nvme_model.specs.Config.{is_accepted}
use Rattle.nvme_model.specs.History.{Past}
use Rattle.nvme_model.specs.declared.config.ConfigNumbers.{ConfigNumbers}
use Rattle.nvme_model.specs.declared.entry.Entry.{Entry}
use Rattle.nvme_model.specs.declared.entry.ReapLine.{ReapLine}
use Rattle.trace.specs.Aside.{history_numbers}
use Rattle.trace.specs.Options.{no_options}
use Rattle.trace.specs.declared.options.TraceOptions.{TraceOptions}
use Rattle.trace.specs.declared.seen.Seen.{Seen}
use Rattle.trace.specs.OptionLines.{option_in, option_rank, options_after, with_option}
use Rattle.trace.specs.SeenLines.{seen_in}
use Rattle.trace.specs.declared.option_lines.TraceOption.{TraceOption}
use Rattle.trace.specs.declared.option_lines.TraceOption.TheVariants.{ContentsUnknown, Ignore, StatusesAny}
use Rattle.casdisk_texts.specs.Meaning.{Meaning}
use Rattle.casdisk_texts.specs.Script.{ScriptEnd, IsOpenEnd, bad_config, bad_line, cut, done, first_config}
use Rattle.casdisk_texts.specs.Script.{script_outcome}
use Rattle.casdisk_texts.specs.declared.fault.RunFault.{RunFault}
use Rattle.casdisk_texts.specs.declared.meaning.Taken.{Taken}
use Rattle.casdisk_texts.specs.declared.meaning.Taken.TheVariants.{Bad, Done}
use Rattle.casdisk_texts.specs.declared.fault.RunFault.TheVariants.{BadLine, BadConfig, Input, Output, NoMemory}

-- one thing more, where a line says one
abbrev pub with_thing : Option Seen → List Seen → List Seen
with_thing None things = things
with_thing (Some s) things = s ∷ things

-- a line that says an option says nothing else
abbrev pub unless_option : Option TraceOption → Option Seen → Option Seen
unless_option None s = s
unless_option (Some option) s = None

-- the things that lines say, the first one's first
abbrev pub things_in : List (List ℕ) → List Seen
things_in [] = []
things_in (line ∷ lines) = with_thing (unless_option (option_in line) (seen_in line)) (things_in lines)

-- The things that the lines behind the first say, the oldest first.
abbrev pub trace_in : List ℕ → List Seen
trace_in input = things_in (drop 1 (whole_lines input))

-- The options that the lines behind the first say: how the trace is to be read.
abbrev pub options_of : List ℕ → TraceOptions
options_of input = options_after no_options (drop 1 (whole_lines input))

-- ---- what the lines so far keep, as entries

-- an option, kept as a Reap whose queue is its rank
abbrev pub option_kept_as : TraceOption → Entry
option_kept_as ContentsUnknown = Entry.Reap (record { queue = 1; cqe = [] })
option_kept_as StatusesAny = Entry.Reap (record { queue = 2; cqe = [] })
option_kept_as (Ignore i) =
    Entry.Reap (record {
      queue = 3;
      cqe = bit i.dnr ∷ bit i.more ∷ bit i.crd ∷ bit i.dw0 ∷ bit i.dw1 ∷ bit i.sqhd ∷ [];
    })

-- the option that is kept so
abbrev pub option_of : ReapLine → TraceOption
option_of r =
    if r.queue == 1 then ContentsUnknown
    else (if r.queue == 2 then StatusesAny
    else Ignore (record {
      dnr = get_or r.cqe 0 0 == 1;
      more = get_or r.cqe 1 0 == 1;
      crd = get_or r.cqe 2 0 == 1;
      dw0 = get_or r.cqe 3 0 == 1;
      dw1 = get_or r.cqe 4 0 == 1;
      sqhd = get_or r.cqe 5 0 == 1;
    }))

-- what was seen, kept as an entry with its parts: a Reap as a Post whose ticket is the Reap's queue
abbrev pub kept_as : Seen → Entry
kept_as (Seen.Published p) = Entry.Publish p
kept_as (Seen.Reaped r) = Entry.Post (record { ticket = r.queue; cqe = r.cqe; payload = r.payload })

-- the things that are kept so, the newest first
abbrev pub things_kept : Past → List Seen
things_kept [] = []
things_kept (Entry.Publish p ∷ past) = Seen.Published p ∷ things_kept past
things_kept (Entry.Post p ∷ past) =
    Seen.Reaped (record { queue = p.ticket; cqe = p.cqe; payload = p.payload }) ∷ things_kept past
things_kept (_ ∷ past) = things_kept past

-- the options that are kept so
abbrev pub options_kept : Past → TraceOptions
options_kept [] = no_options
options_kept (Entry.Reap r ∷ past) = with_option (option_of r) (options_kept past)
options_kept (_ ∷ past) = options_kept past

-- the rank of the last line of the head so far; behind a thing none may follow
abbrev pub rank_kept : Past → ℕ
rank_kept [] = 0
rank_kept (Entry.Reap r ∷ past) = r.queue
rank_kept (_ ∷ past) = 4

-- the configuration that a history has, where contents are unknown
abbrev pub wider : ConfigNumbers → ConfigNumbers
wider c = history_numbers (with_option ContentsUnknown no_options) c

-- A configuration has room for the queue pair that stands for what was there: it has 15 pairs or fewer.
abbrev pub has_room : ConfigNumbers → Bool
has_room c = is_accepted (wider c)

-- An option may stand behind these lines: each stands once, in one order, before all that was seen; and what the blocks
-- held is unknown only where there is room for one queue pair more.
abbrev pub may_stand : Bool → Past → TraceOption → Bool
may_stand room past option =
    nat_lt (rank_kept past) (option_rank option) && (room || not (option_rank option == 1))

-- an option keeps itself, where it may stand there
abbrev pub kept_option : Bool → Past → TraceOption → Option (Past × List ℕ)
kept_option room past option = if may_stand room past option then Some (option_kept_as option ∷ past, []) else None

-- the line of an option or of something seen keeps it, and prints nothing
abbrev pub kept_by : Bool → Past → List ℕ → Option TraceOption → Option (Past × List ℕ)
kept_by room past line (Some option) = kept_option room past option
kept_by room past line None = option_map (λ s. (kept_as s ∷ past, [])) (seen_in line)

-- what a line keeps, where there is room for one queue pair more, or isn't
abbrev pub line_kept : Bool → Meaning
line_kept room past line = kept_by room past line (option_in line)

-- ---- on the way there

-- the configuration with one queue pair more, where there is room
abbrev pub wider_config : ConfigNumbers → Option ConfigNumbers
wider_config c = if has_room c then Some (wider c) else None

-- the configuration of a history after one option more
abbrev pub config_after : Option ConfigNumbers → ConfigNumbers → TraceOption → Option ConfigNumbers
config_after wide config ContentsUnknown = wide
config_after wide config StatusesAny = Some config
config_after wide config (Ignore i) = Some config

-- this is what is kept of lines behind a configuration
pub record HasCollected (c : ConfigNumbers) (wide : Option ConfigNumbers) (history : ConfigNumbers)
    (options : TraceOptions) (rank : ℕ) (things : List Seen) (past : Past) : Type 0 where
  pub room : wide ≡ wider_config c
  pub config : history ≡ history_numbers options c
  pub reads : options ≡ options_kept past
  pub last : rank ≡ rank_kept past
  pub seen : things ≡ reverse (things_kept past)

-- an option was kept, or may not stand there
abbrev pub TakesOption : Taken → Bool → Past → TraceOption → (Past → Type 0) → Type 0
TakesOption Done room past option Stands =
    (kept_option room past option ≡ Some (option_kept_as option ∷ past, [])) × Stands (option_kept_as option ∷ past)
TakesOption Bad room past option Stands = kept_option room past option ≡ None

-- ---- whole texts

-- How a text ends whose first line is a configuration, and whose further lines say options and then what was seen.
abbrev pub trace_end : List ℕ → ScriptEnd
trace_end input = (script_outcome (λ c. line_kept (has_room c)) input).end

-- The lines of a trace are all read, and this holds of its options, its configuration and of what was seen.
abbrev pub HasTrace : (TraceOptions → ConfigNumbers → List Seen → Type 0) → List ℕ → Type 0
HasTrace Holds input =
    (trace_end input ≡ done)
    × ((c : ConfigNumbers) × (first_config (whole_lines input) ≡ Some c) × Holds (options_of input) c (trace_in input))

-- the text of a trace ends so
abbrev pub TraceEndsSo : ScriptEnd → Option (List ℕ) → Type 0
TraceEndsSo e input = IfSome input (λ bytes. trace_end bytes ≡ e)

-- By why the lines of a trace weren't all read: how it ends, or that no line of what was read is bad.
abbrev pub IsTraceUnread : RunFault → Option (List ℕ) → Option (List ℕ) → Type 0
IsTraceUnread (BadLine n) input left = TraceEndsSo (bad_line n) input ⊎ TraceEndsSo (cut n) input
IsTraceUnread (BadConfig c) input left = TraceEndsSo (bad_config c) input
IsTraceUnread Input input left = (bytes : List ℕ) × Consumes input left bytes × IsOpenEnd (trace_end bytes)
IsTraceUnread Output input left = ⊥
IsTraceUnread NoMemory input left = Unit {0}
