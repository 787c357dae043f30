-- The text of a line of a script.
use Rattle.std.specs.Prelude.{ℕ, ◌^◌, ◌<◌, List, [], ◌∷◌, ◌++◌, Option, Some, None, codes, decimal, length, ◌≡◌}
use Rattle.std.specs.List.{join_with_byte}
use Rattle.hex.specs.Hex.{encode_upper, IsBytes}
use Rattle.line_text.specs.Data.{data_text}
use Rattle.entry_codec.specs.Fuse.{fuse_number}
use Rattle.script_lines.specs.declared.written.CommandWord.{CommandWord}
use Rattle.script_lines.specs.declared.written.CommandWord.TheVariants.{Flush, Write, Read, Compare, WriteZeroes}
use Rattle.script_lines.specs.declared.written.EntryForm.{EntryForm}
use Rattle.script_lines.specs.declared.written.EntryForm.TheVariants.{Named, Raw}
use Rattle.script_lines.specs.declared.written.WrittenEntry.{WrittenEntry}
use Rattle.script_lines.specs.declared.written.WrittenLine.{WrittenLine}
use Rattle.script_lines.specs.declared.written.WrittenLine.TheVariants.{Publish, Fetch, Grant, Block, Post, Reap}
use Rattle.script_lines.specs.declared.written.WrittenLine.TheVariants.{Settle, Medium}

-- the name of a command
abbrev pub name_text : CommandWord → List ℕ
name_text Flush = codes "flush"
name_text Write = codes "write"
name_text Read = codes "read"
name_text Compare = codes "compare"
name_text WriteZeroes = codes "zeroes"

-- the words of an entry: `raw HEX DATA`, or a command's name, FUSE, CID, SLBA, NLB and data
abbrev pub form_words : EntryForm → List ℕ → List (List ℕ)
form_words (Named c) payload =
    name_text c.name ∷ decimal (fuse_number c.fuse) ∷ decimal c.cid ∷ decimal c.slba ∷ decimal c.nlb
    ∷ data_text 512 payload ∷ []
form_words (Raw bytes) payload = codes "raw" ∷ encode_upper bytes ∷ data_text 512 payload ∷ []

-- the words of a second entry, behind `+`
abbrev pub second_words : Option WrittenEntry → List (List ℕ)
second_words None = []
second_words (Some x) = codes "+" ∷ form_words x.form x.payload

-- The words of a line of a script.
unfoldable pub line_words : WrittenLine → List (List ℕ)
line_words (Publish p) =
    codes "publish" ∷ decimal p.queue ∷ (form_words p.first.form p.first.payload ++ second_words p.second)
line_words (Fetch queue) = codes "fetch" ∷ decimal queue ∷ []
line_words (Grant ticket) = codes "grant" ∷ decimal ticket ∷ []
line_words (Block ticket) = codes "block" ∷ decimal ticket ∷ []
line_words (Post ticket) = codes "post" ∷ decimal ticket ∷ []
line_words (Reap queue) = codes "reap" ∷ decimal queue ∷ []
line_words Settle = codes "settle" ∷ []
line_words (Medium block) = codes "medium" ∷ decimal block ∷ []

-- A line of a script, without its line feed: its words with one space between each two.
unfoldable pub line_text : WrittenLine → List ℕ
line_text line = join_with_byte 32 (line_words line)

-- ---- what its types keep

-- numbers within their types, or 64 bytes
abbrev pub HasForm : EntryForm → Type 0
HasForm (Named c) = (c.cid < 2 ^ 16) × (c.slba < 2 ^ 64) × (c.nlb < 2 ^ 16)
HasForm (Raw bytes) = (length bytes ≡ 64) × IsBytes bytes

-- such an entry with data of bytes
pub record HasEntry (x : WrittenEntry) : Type 0 where
  pub form : HasForm x.form
  pub payload : IsBytes x.payload

-- a second entry, if there is one, is such
abbrev pub HasSecond : Option WrittenEntry → Type 0
HasSecond None = Unit {0}
HasSecond (Some x) = HasEntry x

-- The numbers of a line are within their types, and its entries have 64 bytes and data of bytes.
abbrev pub IsWritten : WrittenLine → Type 0
IsWritten (Publish p) = (p.queue < 2 ^ 16) × HasEntry p.first × HasSecond p.second
IsWritten (Fetch queue) = queue < 2 ^ 16
IsWritten (Grant ticket) = ticket < 2 ^ 64
IsWritten (Block ticket) = ticket < 2 ^ 64
IsWritten (Post ticket) = ticket < 2 ^ 64
IsWritten (Reap queue) = queue < 2 ^ 16
IsWritten Settle = Unit {0}
IsWritten (Medium block) = block < 2 ^ 64
