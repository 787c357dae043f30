-- A list of bytes as one word: `-` for none, whole blocks joined by dots, and else `x` and digits. A block has k bytes.
use Rattle.std.specs.Prelude.{◌≡◌, ℕ, zero, suc, ◌/◌, ◌%◌, ◌==◌, Bool, true, false, List, [], ◌∷◌, ◌++◌, length, take}
use Rattle.std.specs.Prelude.{drop, replicate, map, slice_index, Option, Some, None, if◌then◌else◌}
use Rattle.std.specs.List.{list_all, slice_split, join_with_byte}
use Rattle.std.specs.Str.{bytes_eq}
use Rattle.hex.specs.Hex.{encode_upper}
use Rattle.line_text.specs.Digits.{bytes_in}

-- whether all bytes are equal
abbrev pub all_same : List ℕ → Bool
all_same [] = true
all_same (x ∷ xs) = list_all (λ y. y == x) xs

-- the digits of a block: those of one byte where all are equal
abbrev pub block_text : List ℕ → List ℕ
block_text block = encode_upper (if all_same block then take 1 block else block)

-- the first n blocks
unfoldable pub parted_blocks : ℕ → ℕ → List ℕ → List (List ℕ)
parted_blocks k zero bytes = []
parted_blocks k (suc n) bytes = take k bytes ∷ parted_blocks k n (drop k bytes)

-- the one spelling of the bytes
unfoldable pub data_text : ℕ → List ℕ → List ℕ
data_text k bytes =
    if length bytes == 0 then 45 ∷ []
    else if length bytes % k == 0 then join_with_byte 46 (map block_text (parted_blocks k (length bytes / k) bytes))
    else 120 ∷ encode_upper bytes

-- the block that the bytes of a part stand for, where it is its spelling
unfoldable pub spelled_block : ℕ → Option (List ℕ) → Option (List ℕ)
spelled_block k None = None
spelled_block k (Some bytes) =
    if length bytes == 1 then Some (replicate k (slice_index bytes 0))
    else if length bytes == k then (if all_same bytes then None else Some bytes)
    else None

-- a block and then the bytes of those behind it, where both are read
abbrev pub then_block : Option (List ℕ) → Option (List ℕ) → Option (List ℕ)
then_block None others = None
then_block (Some block) None = None
then_block (Some block) (Some bytes) = Some (block ++ bytes)

-- the bytes of the blocks that the texts spell
unfoldable pub bytes_of_blocks_in : ℕ → List (List ℕ) → Option (List ℕ)
bytes_of_blocks_in k [] = Some []
bytes_of_blocks_in k (text ∷ texts) = then_block (spelled_block k (bytes_in text)) (bytes_of_blocks_in k texts)

-- the bytes, where they are no whole blocks
abbrev pub unless_whole : ℕ → Option (List ℕ) → Option (List ℕ)
unless_whole k None = None
unless_whole k (Some bytes) = if length bytes % k == 0 then None else Some bytes

-- the bytes that the text spells
unfoldable pub data_in : ℕ → List ℕ → Option (List ℕ)
data_in k text =
    if bytes_eq text (45 ∷ []) then Some []
    else if bytes_eq (take 1 text) (120 ∷ []) then unless_whole k (bytes_in (drop 1 text))
    else bytes_of_blocks_in k (slice_split (λ b. b == 46) text)

-- a block that was found was added
abbrev pub ReadsBlock : Bool → Option (List ℕ) → List ℕ → List ℕ → Type 0
ReadsBlock true found old new = (block : List ℕ) × (found ≡ Some block) × (new ≡ old ++ block)
ReadsBlock false found old new = found ≡ None
