-- The lines of a trace's head, and the option that a line says.
use Rattle.std.specs.Prelude.{Bool, List, None, Option, Some, [], codes, drop, false, if◌then◌else◌, length, nat_le}
use Rattle.std.specs.Prelude.{not, option_map, slice_range, true, ℕ, ◌&&◌, ◌++◌, ◌==◌, ◌||◌, ◌∷◌}
use Rattle.std.specs.Str.{bytes_eq}
use Rattle.trace.specs.declared.options.IgnoredFields.{IgnoredFields}
use Rattle.trace.specs.declared.options.TraceOptions.{TraceOptions}
use Rattle.trace.specs.declared.option_lines.TraceOption.{TraceOption}
use Rattle.trace.specs.declared.option_lines.TraceOption.TheVariants.{ContentsUnknown, Ignore, StatusesAny}

-- a word, where it is there
abbrev pub word_if : Bool → List ℕ → List ℕ
word_if true word = word
word_if false word = []

-- The line of an option, without its line feed. The fields that are ignored stand in one order.
abbrev pub option_line : TraceOption → List ℕ
option_line ContentsUnknown = codes "observe contents unknown"
option_line StatusesAny = codes "observe statuses any"
option_line (Ignore i) =
    codes "observe ignore" ++ (word_if i.dnr (codes " DNR") ++ (word_if i.more (codes " MORE")
    ++ (word_if i.crd (codes " CRD") ++ (word_if i.dw0 (codes " DW0") ++ (word_if i.dw1 (codes " DW1")
    ++ word_if i.sqhd (codes " SQHD"))))))

-- ---- reading

-- a text begins with a word
abbrev pub begins : List ℕ → List ℕ → Bool
begins word text = nat_le (length word) (length text) && bytes_eq (slice_range text 0 (length word)) word

-- what stands behind a word, where a text begins with it; else the text
abbrev pub rest_behind : List ℕ → List ℕ → List ℕ
rest_behind word text = if begins word text then drop (length word) text else text

-- The fields that these words name, each behind a space, at least one.
unfoldable pub ignored_in : List ℕ → Option IgnoredFields
ignored_in text =
    let more = rest_behind (codes " DNR") text in
    let crd = rest_behind (codes " MORE") more in
    let dw0 = rest_behind (codes " CRD") crd in
    let dw1 = rest_behind (codes " DW0") dw0 in
    let sqhd = rest_behind (codes " DW1") dw1 in
    let end = rest_behind (codes " SQHD") sqhd in
    if (length text == 0) || not (length end == 0) then None
    else Some (record {
      dnr = begins (codes " DNR") text;
      more = begins (codes " MORE") more;
      crd = begins (codes " CRD") crd;
      dw0 = begins (codes " DW0") dw0;
      dw1 = begins (codes " DW1") dw1;
      sqhd = begins (codes " SQHD") sqhd;
    })

-- The option whose line this is.
unfoldable pub option_in : List ℕ → Option TraceOption
option_in line =
    if bytes_eq line (codes "observe contents unknown") then Some ContentsUnknown
    else (if bytes_eq line (codes "observe statuses any") then Some StatusesAny
    else (if begins (codes "observe ignore") line
    then option_map Ignore (ignored_in (rest_behind (codes "observe ignore") line))
    else None))

-- ---- a head

-- The place of an option's line among the lines of a head, from 1.
abbrev pub option_rank : TraceOption → ℕ
option_rank ContentsUnknown = 1
option_rank StatusesAny = 2
option_rank (Ignore i) = 3

-- These options, and this one.
abbrev pub with_option : TraceOption → TraceOptions → TraceOptions
with_option ContentsUnknown o =
    record { contents_unknown = true; statuses_any = o.statuses_any; ignored = o.ignored }
with_option StatusesAny o =
    record { contents_unknown = o.contents_unknown; statuses_any = true; ignored = o.ignored }
with_option (Ignore i) o =
    record { contents_unknown = o.contents_unknown; statuses_any = o.statuses_any; ignored = i }

-- these options, and the one that a line says, if it says one
abbrev pub with_said : Option TraceOption → TraceOptions → TraceOptions
with_said None o = o
with_said (Some option) o = with_option option o

-- These options, and those that lines say, the first one's first.
abbrev pub options_after : TraceOptions → List (List ℕ) → TraceOptions
options_after o [] = o
options_after o (line ∷ lines) = options_after (with_said (option_in line) o) lines
