-- Bytes as two upper-case hexadecimal digits each.
use Rattle.std.specs.Prelude.{ℕ, ◌==◌, length, List, Option, Some, None, Result, Ok, Err, if◌then◌else◌}
use Rattle.std.specs.Str.{bytes_eq}
use Rattle.hex.specs.Hex.{decode_of, encode_upper}
use Rattle.hex.specs.declared.error.FromHexError.{FromHexError}

-- the bytes that were decoded, where the text spells them in upper case
abbrev pub if_upper : List ℕ → Result (List ℕ) FromHexError → Option (List ℕ)
if_upper text (Ok bytes) = if bytes_eq (encode_upper bytes) text then Some bytes else None
if_upper text (Err e) = None

-- the bytes that the text spells
unfoldable pub bytes_in : List ℕ → Option (List ℕ)
bytes_in text = if_upper text (decode_of text)

-- the bytes, where there are n
unfoldable pub fixed_in : ℕ → Option (List ℕ) → Option (List ℕ)
fixed_in n None = None
fixed_in n (Some bytes) = if length bytes == n then Some bytes else None
