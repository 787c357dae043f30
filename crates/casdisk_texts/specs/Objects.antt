-- Answers as JSON: one object a line, with its fields in one order.
use Rattle.std.specs.Prelude.{List, None, Option, Some, [], codes, decimal, flat_map, if◌then◌else◌, nat_lt, option_map}
use Rattle.std.specs.Prelude.{ℕ, ◌%◌, ◌+◌, ◌++◌, ◌-◌, ◌/◌, ◌==◌, ◌^◌, ◌||◌, ◌∷◌}
use Rattle.std.specs.Char.{digit_char}
use Rattle.std.specs.List.{concat}
use Rattle.casdisk_texts.specs.declared.object.Fields.{Fields}
use Rattle.casdisk_texts.specs.declared.object.Part.{Part}

-- A byte of a JSON string: a quote and a backslash behind a backslash, another byte below 32 by its number. A line
-- feed, which ends the text of an answer, is left out.
abbrev pub escaped_byte : ℕ → List ℕ
escaped_byte b =
    if b == 10 then []
    else if (b == 34) || (b == 92) then 92 ∷ b ∷ []
    else if nat_lt b 32 then codes "\\u00" ++ (digit_char (b / 16) ∷ digit_char (b % 16) ∷ [])
    else b ∷ []

-- a JSON string
abbrev pub quoted : List ℕ → List ℕ
quoted words = 34 ∷ (flat_map escaped_byte words ++ 34 ∷ [])

-- a JSON string, or null
abbrev pub string_or_null : Option (List ℕ) → List ℕ
string_or_null None = codes "null"
string_or_null (Some words) = quoted words

-- a number, or null
abbrev pub number_or_null : Option ℕ → List ℕ
number_or_null None = codes "null"
number_or_null (Some n) = decimal n

-- a number that stands behind others
abbrev pub behind_comma : ℕ → List ℕ
behind_comma n = 44 ∷ decimal n

-- numbers, with a comma between each two
abbrev pub numbers_in : List ℕ → List ℕ
numbers_in [] = []
numbers_in (n ∷ others) = decimal n ++ flat_map behind_comma others

-- The fields of an answer before its words: what is answered, the place and the line of the file that it is about, the
-- rule that is broken there, and its numbers.
pub record AnswerFields : Type 0 where
  pub answer : List ℕ
  pub place : Option ℕ
  pub line : Option ℕ
  pub rule : Option (List ℕ)
  pub numbers : List ℕ

-- an answer that is no more than that
abbrev pub plain_fields : List ℕ → AnswerFields
plain_fields answer = record { answer = answer; place = None; line = None; rule = None; numbers = [] }

-- the line of the file of a place, which stands behind the configuration line
abbrev pub line_of : ℕ → Option ℕ
line_of place = if nat_lt place (2 ^ 64 - 1) then Some (place + 1) else None

-- an answer about a place of a history
abbrev pub place_fields : List ℕ → ℕ → AnswerFields
place_fields answer place = record (plain_fields answer) { place = Some place; line = line_of place }

-- the same fields with another rule and other numbers
abbrev pub with_rule : AnswerFields → Option (List ℕ) → List ℕ → AnswerFields
with_rule fields rule numbers = record fields { rule = rule; numbers = numbers }

-- The object of an answer, whose words are its text, as one line.
abbrev pub object_text : AnswerFields → List ℕ → List ℕ
object_text fields words = concat (
    codes "{\"answer\":" ∷ quoted fields.answer ∷ codes ",\"place\":" ∷ number_or_null fields.place
    ∷ codes ",\"line\":" ∷ number_or_null fields.line ∷ codes ",\"rule\":" ∷ string_or_null fields.rule
    ∷ codes ",\"numbers\":[" ∷ numbers_in fields.numbers ∷ codes "],\"words\":" ∷ quoted words ∷ codes "}\n" ∷ [])

-- ---- on the way there

-- the fields that a struct has
abbrev pub fields_of : Fields → AnswerFields
fields_of f = record {
  answer = f.answer.now;
  place = f.place;
  line = f.line;
  rule = option_map (λ r. r.now) f.rule;
  numbers = f.numbers.now;
}

-- a part of an object
abbrev pub part_text : Part → List ℕ
part_text (Part.Raw bytes) = bytes.now
part_text (Part.Number n) = number_or_null n
part_text (Part.Words words) = string_or_null (option_map (λ w. w.now) words)
part_text (Part.Numbers numbers) = numbers_in numbers.now
