-- Words of a line, and how they are spelled.
use Rattle.std.specs.Prelude.{◌≡◌, ◌==◌, ℕ, false, List, [], ◌∷◌, ◌++◌, decimal}
use Rattle.std.specs.List.{AllByRecursion}
use Rattle.hex.specs.Hex.{encode_upper}
use Rattle.line_text.specs.declared.words.Word.{Word}
use Rattle.line_text.specs.declared.words.Word.TheVariants.{Text, Number, Hex, Data}
use Rattle.line_text.specs.Data.{data_text}

-- the spelling of a word
abbrev pub word_text : Word → List ℕ
word_text (Text bytes) = bytes.now
word_text (Number n) = decimal n
word_text (Hex bytes) = encode_upper bytes.now
word_text (Data bytes) = data_text 512 bytes.now

-- each word behind the byte c
unfoldable pub behind : ℕ → List (List ℕ) → List ℕ
behind c [] = []
behind c (w ∷ ws) = (c ∷ w) ++ behind c ws

-- no byte is c
abbrev pub Without : ℕ → List ℕ → Type 0
Without c word = AllByRecursion (λ x. (x == c) ≡ false) word
