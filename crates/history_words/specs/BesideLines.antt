-- The lines that aren't entries of a history, in words: refusals and blocks, which a run prints beside them, and what
-- was reaped, in a trace.
use Rattle.std.specs.Prelude.{List, None, Option, Some, [], codes, decimal, if◌then◌else◌, length, option_map, take, ℕ}
use Rattle.std.specs.Prelude.{◌==◌, ◌∷◌}
use Rattle.std.specs.List.{concat, slice_split}
use Rattle.std.specs.Str.{bytes_eq}
use Rattle.hex.specs.Hex.{encode_upper}
use Rattle.line_text.specs.Data.{data_in}
use Rattle.line_text.specs.Digits.{bytes_in, fixed_in}
use Rattle.line_text.specs.Number.{number_in}
use Rattle.nvme_model.specs.EntryBytes.{cqe_fields}
use Rattle.history_words.specs.Completions.{completion_told}
use Rattle.history_words.specs.Told.{painted, read_told}
use Rattle.history_words.specs.declared.paint.Paint.{Paint}

-- why a step is refused, by the number of the refusal
abbrev pub refusal_words : ℕ → Option (List ℕ)
refusal_words n =
    if n == 1 then Some (codes "no such queue")
    else if n == 2 then Some (codes "no room in the submission queue")
    else if n == 3 then Some (codes "no entry to fetch")
    else if n == 4 then Some (codes "as many tickets in flight as may be")
    else if n == 5 then Some (codes "no such ticket in flight")
    else if n == 6 then Some (codes "conflict with an open unit")
    else if n == 7 then Some (codes "not the ticket's turn")
    else if n == 8 then Some (codes "completion queue full")
    else if n == 9 then Some (codes "no completion to reap")
    else if n == 10 then Some (codes "no entry to publish")
    else None

-- a refusal, by its number
abbrev pub refused_told : ℕ → Option (List ℕ)
refused_told n = option_map (λ why. concat (codes "refused " ∷ decimal n ∷ codes ": " ∷ why ∷ [])) (refusal_words n)

-- the first sixteen of a block's bytes
abbrev pub bytes_told : List ℕ → List ℕ
bytes_told bytes = concat (codes "bytes " ∷ encode_upper (take 16 bytes) ∷ codes " and so on" ∷ [])

-- a block as it lies in the volume
abbrev pub medium_told : ℕ → List ℕ → List ℕ
medium_told lba words = concat (codes "medium " ∷ decimal lba ∷ codes ": " ∷ words ∷ [])

-- one block, where these bytes are that
abbrev pub block_told : ℕ → Option (List ℕ) → Option (List ℕ)
block_told lba None = None
block_told lba (Some bytes) = if length bytes == 512 then Some (medium_told lba (bytes_told bytes)) else None

-- a block of the volume, or that there is none
abbrev pub volume_told : Option ℕ → List ℕ → Option (List ℕ)
volume_told None block = None
volume_told (Some lba) block =
    if bytes_eq block (codes "none") then Some (medium_told lba (codes "past the end of the volume"))
    else block_told lba (data_in 512 block)

-- a refusal, where the word is a number
abbrev pub refusal_told : Option ℕ → Option (List ℕ)
refusal_told None = None
refusal_told (Some n) = refused_told n

-- a completion that was reaped, with what was read
unfoldable pub reaped_told : ℕ → List ℕ → List ℕ → List ℕ
reaped_told queue cqe payload =
    concat (codes "reap " ∷ decimal queue ∷ codes ": " ∷ completion_told (cqe_fields cqe) ∷ read_told payload ∷ [])

-- what was reaped, where all of it is there
abbrev pub seen_told : Option ℕ → (cqe payload : Option (List ℕ)) → Option (List ℕ)
seen_told (Some queue) (Some cqe) (Some payload) = Some (reaped_told queue cqe payload)
seen_told _ _ _ = None

-- a refusal, where one word says its number
unfoldable pub refusal_in : List (List ℕ) → Option (List ℕ)
refusal_in (number ∷ []) = refusal_told (number_in 64 number)
refusal_in words = None

-- a block, where two words say its number and what lies there
unfoldable pub volume_in : List (List ℕ) → Option (List ℕ)
volume_in (lba ∷ block ∷ []) = volume_told (number_in 64 lba) block
volume_in words = None

-- what was reaped of this queue, where two words say that
unfoldable pub reap_told_of : List ℕ → List (List ℕ) → Option (List ℕ)
reap_told_of queue (cqe ∷ payload ∷ []) =
    seen_told (number_in 16 queue) (fixed_in 16 (bytes_in cqe)) (data_in 512 payload)
reap_told_of queue words = None

-- what was reaped, where three words say that
unfoldable pub reap_told_in : List (List ℕ) → Option (List ℕ)
reap_told_in [] = None
reap_told_in (queue ∷ words) = reap_told_of queue words

-- what is told of these words
unfoldable pub beside_in : List (List ℕ) → Option (List ℕ)
beside_in [] = None
beside_in (kind ∷ words) =
    if bytes_eq kind (codes "refused") then refusal_in words
    else if bytes_eq kind (codes "medium") then volume_in words
    else if bytes_eq kind (codes "reap") then reap_told_in words
    else None

-- the number of the colour of such a line: that of a Reap of a history, where it is one
abbrev pub beside_color : List (List ℕ) → List ℕ
beside_color [] = codes "37"
beside_color (kind ∷ words) = if bytes_eq kind (codes "reap") then codes "31" else codes "37"

-- what is told of such a line; None where it is none
abbrev pub beside_painted : Paint → List ℕ → Option (List ℕ)
beside_painted paint line =
    let words = slice_split (λ b. b == 32) line in
    option_map (painted paint (beside_color words)) (beside_in words)
