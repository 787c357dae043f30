-- What a line of a script does to the history, and what it prints.
use Rattle.std.specs.Prelude.{ℕ, zero, suc, ◌==◌, nat_le, if◌then◌else◌, List, [], ◌∷◌, ◌++◌, Option, Some, None, codes}
use Rattle.std.specs.Prelude.{decimal, option_map}
use Rattle.std.specs.Int.RustNames.{bit_and}
use Rattle.std.specs.List.{join_with_byte}
use Rattle.line_text.specs.Data.{data_text}
use Rattle.nvme_model.specs.History.{Past}
use Rattle.nvme_model.specs.Medium.{medium}
use Rattle.nvme_model.specs.Refusals.{refusal, refusal_number}
use Rattle.nvme_model.specs.Steps.{next_entry, ready}
use Rattle.nvme_model.specs.declared.config.ConfigNumbers.{ConfigNumbers}
use Rattle.nvme_model.specs.declared.entry.Entry.{Entry}
use Rattle.nvme_model.specs.declared.refusal.Why.{Why}
use Rattle.nvme_model.specs.declared.step.Step.{Step}
use Rattle.history.specs.Lines.{entry_line}
use Rattle.script_lines.specs.ScriptLines.{script_line_in}
use Rattle.script_lines.specs.declared.line.ScriptLine.{ScriptLine}
use Rattle.casdisk_texts.specs.Meaning.{Meaning}

-- a line with its line feed, where its kind is among those shown
abbrev pub shown_line : ℕ → ℕ → List ℕ → List ℕ
shown_line kinds kind line = if bit_and kinds kind == kind then line ++ 10 ∷ [] else []

-- the kind of an entry's line
abbrev pub line_kind : Entry → ℕ
line_kind (Entry.Publish p) = 1
line_kind (Entry.Fetch f) = 2
line_kind (Entry.Grant g) = 4
line_kind (Entry.Block b) = 8
line_kind (Entry.Post p) = 16
line_kind (Entry.Reap r) = 32

-- what an accepted step prints
abbrev pub entry_text : ℕ → Entry → List ℕ
entry_text kinds e = shown_line kinds (line_kind e) (entry_line e)

-- what a refused step prints: `refused` and the number of the refusal
abbrev pub refusal_text : ℕ → Why → List ℕ
refusal_text kinds why = shown_line kinds 64 (join_with_byte 32 (codes "refused" ∷ decimal (refusal_number why) ∷ []))

-- a block as it lies in the volume, or `none` past the end
abbrev pub block_word : ConfigNumbers → Past → ℕ → List ℕ
block_word c past l = if nat_le c.blocks l then codes "none" else data_text 512 (medium past l)

-- what `medium L` prints
abbrev pub medium_text : ℕ → ConfigNumbers → Past → ℕ → List ℕ
medium_text kinds c past l =
    shown_line kinds 128 (join_with_byte 32 (codes "medium" ∷ decimal l ∷ block_word c past l ∷ []))

-- what a step that is accepted, or refused so, does and prints
abbrev pub step_by : ℕ → ConfigNumbers → Past → Step → Option Why → Past × List ℕ
step_by kinds c past step None = (next_entry c past step ∷ past, entry_text kinds (next_entry c past step))
step_by kinds c past step (Some why) = (past, refusal_text kinds why)

-- what a step does and prints
abbrev pub step_says : ℕ → ConfigNumbers → Past → Step → Past × List ℕ
step_says kinds c past step = step_by kinds c past step (refusal c past step)

-- what was done and printed, and then what follows
abbrev pub then_more : Past × List ℕ → (Past → Past × List ℕ) → Past × List ℕ
then_more x more = ((more x.0).0, x.1 ++ (more x.0).1)

-- what the step that is ready, where there is one, does and prints, and then what follows
abbrev pub ready_by : ℕ → ConfigNumbers → Past → Option Step → (Past → Past × List ℕ) → Past × List ℕ
ready_by kinds c past None more = (past, [])
ready_by kinds c past (Some step) more = then_more (step_says kinds c past step) more

-- doing what is ready, at most so many times, until nothing is
unfoldable pub settle_says : ℕ → ℕ → ConfigNumbers → Past → Past × List ℕ
settle_says zero kinds c past = (past, [])
settle_says (suc n) kinds c past = ready_by kinds c past (ready c past) (settle_says n kinds c)

-- so often is `ready` asked at most: no run has so many tickets
abbrev pub all_ready : ℕ
all_ready = 18446744073709551615

-- what a line of this kind does and prints
abbrev pub line_says : ℕ → ConfigNumbers → Past → ScriptLine → Past × List ℕ
line_says kinds c past (ScriptLine.Step step) = step_says kinds c past step
line_says kinds c past ScriptLine.Settle = settle_says all_ready kinds c past
line_says kinds c past (ScriptLine.Medium l) = (past, medium_text kinds c past l)
line_says kinds c past ScriptLine.Comment = (past, [])

-- what a line of a script means to a controller of this configuration, where these kinds are shown
abbrev pub script_line : ConfigNumbers → ℕ → Meaning
script_line c kinds past line = option_map (line_says kinds c past) (script_line_in line)
