-- The text of a refutation, and what is read of a text.
use Rattle.std.specs.Prelude.{Err, List, None, Ok, Option, Result, Some, [], codes, decimal, if◌then◌else◌, length}
use Rattle.std.specs.Prelude.{map, ℕ, ◌+◌, ◌++◌, ◌==◌, ◌∷◌}
use Rattle.std.specs.List.{join_with_byte, slice_split}
use Rattle.std.specs.Str.{bytes_eq}
use Rattle.line_text.specs.Lines.{with_feeds}
use Rattle.line_text.specs.Number.{number_in}
use Rattle.refutation.specs.Refutations.{Refutation, may_add_block, may_add_command, of_lines, with_block, with_command}

-- ---- its lines, without their line feeds

-- the line that says how many lines are refuted
abbrev pub count_line : ℕ → List ℕ
count_line lines = join_with_byte 32 (codes "lines" ∷ decimal lines ∷ [])

-- the line of a block
abbrev pub block_line : ℕ → List ℕ
block_line b = join_with_byte 32 (codes "block" ∷ decimal b ∷ [])

-- the line of a command
abbrev pub command_line : ℕ × ℕ → List ℕ
command_line m = join_with_byte 32 (codes "command" ∷ decimal m.0 ∷ decimal m.1 ∷ [])

-- The lines of a refutation: its head, how many lines it refutes, its blocks, its commands.
abbrev pub refutation_lines : Refutation → List (List ℕ)
refutation_lines r =
    codes "refutation" ∷ count_line r.lines ∷ (map block_line r.blocks ++ map command_line r.commands)

-- The text of a refutation: each line with a line feed behind it.
abbrev pub refutation_text : Refutation → List ℕ
refutation_text r = with_feeds (refutation_lines r)

-- the text of the first two lines
abbrev pub front_text : ℕ → List ℕ
front_text lines = (codes "refutation" ++ 10 ∷ []) ++ (count_line lines ++ 10 ∷ [])

-- the text of the lines behind them
abbrev pub slice_text : List ℕ → List (ℕ × ℕ) → List ℕ
slice_text blocks commands = with_feeds (map block_line blocks) ++ with_feeds (map command_line commands)

-- ---- reading: a text's pieces are what stands before, between and behind its line feeds

-- the number of lines that these words say
abbrev pub count_of : List (List ℕ) → Option ℕ
count_of (kind ∷ number ∷ []) = if bytes_eq kind (codes "lines") then number_in 64 number else None
count_of words = None

-- with a block, where there is one and it may stand there
abbrev pub and_block : Refutation → Option ℕ → Option Refutation
and_block r None = None
and_block r (Some b) = if may_add_block r b then Some (with_block r b) else None

-- with a command, where there is one and it may stand there
abbrev pub and_command : Refutation → (queue number : Option ℕ) → Option Refutation
and_command r (Some queue) (Some number) =
    if may_add_command r (queue, number) then Some (with_command r (queue, number)) else None
and_command r queue number = None

-- the refutation with what these words say behind it
abbrev pub and_words : Refutation → List (List ℕ) → Option Refutation
and_words r (kind ∷ number ∷ []) =
    if bytes_eq kind (codes "block") then and_block r (number_in 64 number) else None
and_words r (kind ∷ queue ∷ number ∷ []) =
    if bytes_eq kind (codes "command") then and_command r (number_in 16 queue) (number_in 64 number) else None
and_words r words = None

-- the words of a line
abbrev pub words_of : List ℕ → List (List ℕ)
words_of line = slice_split (λ b. b == 32) line

-- The refutation with what this line says behind it.
abbrev pub and_line : Refutation → List ℕ → Option Refutation
and_line r line = and_words r (words_of line)

-- what is read behind line n, where it is one
abbrev pub then_read : ℕ → (Refutation → Result Refutation ℕ) → Option Refutation → Result Refutation ℕ
then_read n rest None = Err n
then_read n rest (Some r) = rest r

-- What is read of these pieces, the first of them line n, behind what was read before: the refutation, or the number of
-- the first line that is none. The last piece is empty, since each line has a line feed behind it.
abbrev pub read_pieces : ℕ → Refutation → List (List ℕ) → Result Refutation ℕ
read_pieces n r [] = Err n
read_pieces n r (last ∷ []) = if length last == 0 then Ok r else Err n
read_pieces n r (line ∷ next ∷ pieces) =
    then_read n (λ s. read_pieces (n + 1) s (next ∷ pieces)) (and_line r line)

-- the same behind the first two lines, where the second says how many lines are refuted
abbrev pub read_counted : Option ℕ → List (List ℕ) → Result Refutation ℕ
read_counted None pieces = Err 2
read_counted (Some lines) pieces = read_pieces 3 (of_lines lines) pieces

-- what is read of all pieces of a text
abbrev pub read_all : List (List ℕ) → Result Refutation ℕ
read_all [] = Err 1
read_all (head ∷ []) = Err 1
read_all (head ∷ count ∷ []) = if bytes_eq head (codes "refutation") then Err 2 else Err 1
read_all (head ∷ count ∷ next ∷ pieces) =
    if bytes_eq head (codes "refutation") then read_counted (count_of (words_of count)) (next ∷ pieces) else Err 1

-- What is read of a text: the refutation whose text it is, or the number, from 1, of the first line that is none.
abbrev pub refutation_in : List ℕ → Result Refutation ℕ
refutation_in text = read_all (slice_split (λ b. b == 10) text)
