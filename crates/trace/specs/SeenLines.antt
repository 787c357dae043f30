-- The one line of each thing that hosts saw, and what was seen of a line.
use Rattle.std.specs.Prelude.{◌≡◌, ℕ, ◌^◌, ◌<◌, ◌==◌, List, [], ◌∷◌, length, Option, Some, None}
use Rattle.std.specs.Prelude.{if◌then◌else◌, codes, decimal}
use Rattle.std.specs.List.{slice_split, join_with_byte}
use Rattle.std.specs.Str.{bytes_eq}
use Rattle.hex.specs.Hex.{encode_upper, IsBytes}
use Rattle.history.specs.Lines.{HasLine, entry_in, entry_line}
use Rattle.line_text.specs.Data.{data_text, data_in}
use Rattle.line_text.specs.Digits.{bytes_in, fixed_in}
use Rattle.line_text.specs.Number.{number_in}
use Rattle.nvme_model.specs.declared.entry.Entry.{Entry}
use Rattle.trace.specs.declared.seen.ReapedLine.{ReapedLine}
use Rattle.trace.specs.declared.seen.Seen.{Seen}

-- the words of a Reap: as in a history, and the data that was read
abbrev pub reaped_words : ReapedLine → List (List ℕ)
reaped_words r = codes "reap" ∷ decimal r.queue ∷ encode_upper r.cqe ∷ data_text 512 r.payload ∷ []

-- a line, without its line feed: that of a Publish is its line in a history
unfoldable pub seen_line : Seen → List ℕ
seen_line (Seen.Published p) = entry_line (Entry.Publish p)
seen_line (Seen.Reaped r) = join_with_byte 32 (reaped_words r)

-- numbers within their types, lists of bytes of their lengths, and a batch of at least one entry
abbrev pub HasSeenLine : Seen → Type 0
HasSeenLine (Seen.Published p) = HasLine (Entry.Publish p)
HasSeenLine (Seen.Reaped r) = (r.queue < 2 ^ 16) × (length r.cqe ≡ 16) × IsBytes r.cqe × IsBytes r.payload

-- a Reap of these parts, where all are there
abbrev pub reaped_from : Option ℕ → (cqe payload : Option (List ℕ)) → Option Seen
reaped_from (Some queue) (Some cqe) (Some payload) =
    Some (Seen.Reaped (record { queue = queue; cqe = cqe; payload = payload }))
reaped_from _ _ _ = None

-- the Reap whose words these are
unfoldable pub reaped_in : List (List ℕ) → Option Seen
reaped_in (kind ∷ queue ∷ cqe ∷ payload ∷ []) =
    if bytes_eq kind (codes "reap")
    then reaped_from (number_in 16 queue) (fixed_in 16 (bytes_in cqe)) (data_in 512 payload)
    else None
reaped_in words = None

-- an entry of a history, where it is a Publish, or something else
abbrev pub published_or : Option Entry → Option Seen → Option Seen
published_or (Some (Entry.Publish p)) other = Some (Seen.Published p)
published_or _ other = other

-- what was seen, of its line
unfoldable pub seen_in : List ℕ → Option Seen
seen_in line = published_or (entry_in line) (reaped_in (slice_split (λ b. b == 32) line))
