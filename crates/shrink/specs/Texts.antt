-- The texts of a conversation.
use Rattle.std.specs.Prelude.{ℕ, Bool, true, false, List, [], ◌∷◌, ◌++◌, codes, decimal}
use Rattle.std.specs.List.{join_with_byte}
use Rattle.line_text.specs.Lines.{with_feeds}

-- the line of a word and a number
abbrev pub numbered_text : List ℕ → ℕ → List ℕ
numbered_text kind n = join_with_byte 32 (kind ∷ decimal n ∷ []) ++ 10 ∷ []

-- A script: its first line, and the others, each with its line feed.
abbrev pub whole_script : List ℕ → List (List ℕ) → List ℕ
whole_script first lines = (first ++ 10 ∷ []) ++ with_feeds lines

-- the line `end`
abbrev pub end_text : List ℕ
end_text = codes "end" ++ 10 ∷ []

-- A candidate: `try N`, its script, and `end`.
abbrev pub try_text : ℕ → List ℕ → List (List ℕ) → List ℕ
try_text n first lines = numbered_text (codes "try") n ++ (whole_script first lines ++ end_text)

-- The smallest script: `smallest N` with the number of its candidate, and the script.
abbrev pub smallest_text : ℕ → List ℕ → List (List ℕ) → List ℕ
smallest_text n first lines = numbered_text (codes "smallest") n ++ whole_script first lines

-- the word of an answer
abbrev pub answer_word : Bool → List ℕ
answer_word true = codes "fails"
answer_word false = codes "passes"
