-- What a line of a script says.
use Rattle.std.specs.Prelude.{ℕ, ◌==◌, List, [], ◌∷◌, Option, Some, None, codes, take, if◌then◌else◌}
use Rattle.std.specs.List.{slice_split}
use Rattle.std.specs.Str.{bytes_eq}
use Rattle.line_text.specs.Number.{number_in}
use Rattle.nvme_model.specs.declared.step.Step.{Step}
use Rattle.nvme_model.specs.declared.submission.Submission.{Submission}
use Rattle.script_lines.specs.declared.line.ScriptLine.{ScriptLine}
use Rattle.script_lines.specs.Batches.{script_batch_in}

-- a Publish of these parts, where both are there
abbrev pub script_publish_from : Option ℕ → Option (List Submission) → Option ScriptLine
script_publish_from (Some queue) (Some items) = Some (ScriptLine.Step (Step.Publish queue items))
script_publish_from _ _ = None

-- the Publish that the words behind `publish` spell
unfoldable pub script_publish_in : List (List ℕ) → Option ScriptLine
script_publish_in [] = None
script_publish_in (queue ∷ items) = script_publish_from (number_in 16 queue) (script_batch_in items)

-- the step with this number, where it is there
abbrev pub step_with : (ℕ → Step) → Option ℕ → Option ScriptLine
step_with step None = None
step_with step (Some n) = Some (ScriptLine.Step (step n))

-- the block of this number, where it is there
abbrev pub medium_of : Option ℕ → Option ScriptLine
medium_of None = None
medium_of (Some n) = Some (ScriptLine.Medium n)

-- the number below 2 ^ bits that the one word behind a kind spells
unfoldable pub one_number_in : ℕ → List (List ℕ) → Option ℕ
one_number_in bits (word ∷ []) = number_in bits word
one_number_in bits words = None

-- `settle`, which has no word behind it
abbrev pub settle_in : List (List ℕ) → Option ScriptLine
settle_in [] = Some ScriptLine.Settle
settle_in (word ∷ words) = None

-- what the words behind any kind but `publish` spell
unfoldable pub short_in : List ℕ → List (List ℕ) → Option ScriptLine
short_in kind words =
    if bytes_eq kind (codes "fetch") then step_with Step.Fetch (one_number_in 16 words)
    else if bytes_eq kind (codes "grant") then step_with Step.Grant (one_number_in 64 words)
    else if bytes_eq kind (codes "block") then step_with Step.Block (one_number_in 64 words)
    else if bytes_eq kind (codes "post") then step_with Step.Post (one_number_in 64 words)
    else if bytes_eq kind (codes "reap") then step_with Step.Reap (one_number_in 16 words)
    else if bytes_eq kind (codes "medium") then medium_of (one_number_in 64 words)
    else if bytes_eq kind (codes "settle") then settle_in words
    else None

-- what words say, by the first of them
unfoldable pub script_words_in : List (List ℕ) → Option ScriptLine
script_words_in [] = None
script_words_in (kind ∷ more) = if bytes_eq kind (codes "publish") then script_publish_in more else short_in kind more

-- what a line says: nothing where it begins with `#`, and else what its words say, with one space between each two
unfoldable pub script_line_in : List ℕ → Option ScriptLine
script_line_in line =
    if bytes_eq (codes "#") (take 1 line) then Some ScriptLine.Comment
    else script_words_in (slice_split (λ b. b == 32) line)
