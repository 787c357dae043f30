-- The one line of each entry, and the entry of a line.
use Rattle.std.specs.Prelude.{◌≡◌, ◌≢◌, ℕ, ◌^◌, ◌<◌, ◌==◌, Bool, List, [], ◌∷◌, length, Option, Some, None}
use Rattle.std.specs.Prelude.{if◌then◌else◌, codes, decimal}
use Rattle.std.specs.List.{slice_split, join_with_byte, AllByRecursion}
use Rattle.std.specs.Str.{bytes_eq}
use Rattle.hex.specs.Hex.{encode_upper, IsBytes}
use Rattle.line_text.specs.Number.{number_in}
use Rattle.line_text.specs.Digits.{bytes_in, fixed_in}
use Rattle.line_text.specs.Data.{data_text, data_in}
use Rattle.nvme_model.specs.declared.array.Mode.{Mode}
use Rattle.nvme_model.specs.declared.entry.Entry.{Entry}
use Rattle.nvme_model.specs.declared.operation.Found.{Found}
use Rattle.nvme_model.specs.declared.status.Status.{Status}
use Rattle.nvme_model.specs.declared.status.Verdict.{Verdict}
use Rattle.nvme_model.specs.declared.submission.Submission.{Submission}
use Rattle.history.specs.StatusWord.{verdict_words, verdict_in}
use Rattle.history.specs.Marks.{mode_word, mode_in, found_word, found_in, mark_word, mark_in}
use Rattle.history.specs.BatchWords.{publish_words, batch_in}

-- ---- the line of an entry

-- the words of a line
unfoldable pub entry_words : Entry → List (List ℕ)
entry_words (Entry.Publish p) = publish_words p.queue p.batch
entry_words (Entry.Fetch f) = codes "fetch" ∷ decimal f.queue ∷ decimal f.ticket ∷ verdict_words f.verdict
entry_words (Entry.Grant g) =
    codes "grant" ∷ decimal g.ticket ∷ decimal g.unit ∷ decimal g.range.slba ∷ decimal g.range.blocks
    ∷ mode_word g.mode ∷ []
entry_words (Entry.Block b) =
    codes "block" ∷ decimal b.ticket ∷ decimal b.unit ∷ decimal b.lba ∷ found_word b.found ∷ mark_word b.effect ∷ []
entry_words (Entry.Post p) = codes "post" ∷ decimal p.ticket ∷ encode_upper p.cqe ∷ data_text 512 p.payload ∷ []
entry_words (Entry.Reap r) = codes "reap" ∷ decimal r.queue ∷ encode_upper r.cqe ∷ []

-- a line, without its line feed: the words with one space between each two
unfoldable pub entry_line : Entry → List ℕ
entry_line e = join_with_byte 32 (entry_words e)

-- ---- what has a line: what the types keep

-- an entry of 64 bytes with data of bytes
pub record HasItem (x : Submission) : Type 0 where
  pub long : length x.entry ≡ 64
  pub entry : IsBytes x.entry
  pub payload : IsBytes x.payload

-- a type below 8 and a code of one byte
abbrev pub HasStatus : Status → Type 0
HasStatus s = (s.sct < 8) × (s.sc < 256)

-- statuses that have a word
abbrev pub HasVerdictWord : Verdict → Type 0
HasVerdictWord Verdict.Single = Unit {0}
HasVerdictWord (Verdict.SingleFailed s) = HasStatus s
HasVerdictWord Verdict.Pair = Unit {0}
HasVerdictWord (Verdict.PairFailed s r) = HasStatus s × HasStatus r

-- numbers within their types, lists of bytes of their lengths, and a batch of at least one entry
abbrev pub HasLine : Entry → Type 0
HasLine (Entry.Publish p) = (p.queue < 2 ^ 16) × (p.batch ≢ []) × AllByRecursion HasItem p.batch
HasLine (Entry.Fetch f) = (f.queue < 2 ^ 16) × (f.ticket < 2 ^ 64) × HasVerdictWord f.verdict
HasLine (Entry.Grant g) = (g.ticket < 2 ^ 64) × (g.unit < 2 ^ 64) × (g.range.slba < 2 ^ 64) × (g.range.blocks < 2 ^ 16)
HasLine (Entry.Block b) = (b.ticket < 2 ^ 64) × (b.unit < 2 ^ 64) × (b.lba < 2 ^ 64)
HasLine (Entry.Post p) = (p.ticket < 2 ^ 64) × (length p.cqe ≡ 16) × IsBytes p.cqe × IsBytes p.payload
HasLine (Entry.Reap r) = (r.queue < 2 ^ 16) × (length r.cqe ≡ 16) × IsBytes r.cqe

-- ---- the entry of a line

-- a Publish of these parts, where all are there
abbrev pub publish_from : Option ℕ → Option (List Submission) → Option Entry
publish_from (Some queue) (Some batch) = Some (Entry.Publish (record { queue = queue; batch = batch }))
publish_from _ _ = None

-- the Publish that the words behind its kind spell
unfoldable pub publish_in : List (List ℕ) → Option Entry
publish_in (queue ∷ batch) = publish_from (number_in 16 queue) (batch_in batch)
publish_in words = None

-- a Fetch of these parts, where all are there
abbrev pub fetch_from : Option ℕ → Option ℕ → Option Verdict → Option Entry
fetch_from (Some queue) (Some ticket) (Some verdict) =
    Some (Entry.Fetch (record { queue = queue; ticket = ticket; verdict = verdict }))
fetch_from _ _ _ = None

-- the Fetch that the words behind its kind spell
unfoldable pub fetch_in : List (List ℕ) → Option Entry
fetch_in (queue ∷ ticket ∷ verdict) = fetch_from (number_in 16 queue) (number_in 64 ticket) (verdict_in verdict)
fetch_in words = None

-- a Grant of these parts, where all are there
abbrev pub grant_from : (ticket unit slba blocks : Option ℕ) → Option Mode → Option Entry
grant_from (Some ticket) (Some unit) (Some slba) (Some blocks) (Some mode) =
    Some (Entry.Grant
    (record { ticket = ticket; unit = unit; range = record { slba = slba; blocks = blocks }; mode = mode }))
grant_from _ _ _ _ _ = None

-- the Grant that the words behind its kind spell
unfoldable pub grant_in : List (List ℕ) → Option Entry
grant_in (ticket ∷ unit ∷ slba ∷ blocks ∷ mode ∷ []) =
    grant_from (number_in 64 ticket) (number_in 64 unit) (number_in 64 slba) (number_in 16 blocks) (mode_in mode)
grant_in words = None

-- a Block of these parts, where all are there
abbrev pub block_from : (ticket unit lba : Option ℕ) → Option Found → Option Bool → Option Entry
block_from (Some ticket) (Some unit) (Some lba) (Some found) (Some effect) =
    Some (Entry.Block (record { ticket = ticket; unit = unit; lba = lba; found = found; effect = effect }))
block_from _ _ _ _ _ = None

-- the Block that the words behind its kind spell
unfoldable pub block_in : List (List ℕ) → Option Entry
block_in (ticket ∷ unit ∷ lba ∷ found ∷ mark ∷ []) =
    block_from (number_in 64 ticket) (number_in 64 unit) (number_in 64 lba) (found_in found) (mark_in mark)
block_in words = None

-- a Post of these parts, where all are there
abbrev pub post_from : Option ℕ → (cqe payload : Option (List ℕ)) → Option Entry
post_from (Some ticket) (Some cqe) (Some payload) =
    Some (Entry.Post (record { ticket = ticket; cqe = cqe; payload = payload }))
post_from _ _ _ = None

-- the Post that the words behind its kind spell
unfoldable pub post_in : List (List ℕ) → Option Entry
post_in (ticket ∷ cqe ∷ payload ∷ []) =
    post_from (number_in 64 ticket) (fixed_in 16 (bytes_in cqe)) (data_in 512 payload)
post_in words = None

-- a Reap of these parts, where all are there
abbrev pub reap_from : Option ℕ → Option (List ℕ) → Option Entry
reap_from (Some queue) (Some cqe) = Some (Entry.Reap (record { queue = queue; cqe = cqe }))
reap_from _ _ = None

-- the Reap that the words behind its kind spell
unfoldable pub reap_in : List (List ℕ) → Option Entry
reap_in (queue ∷ cqe ∷ []) = reap_from (number_in 16 queue) (fixed_in 16 (bytes_in cqe))
reap_in words = None

-- the entry whose words these are
unfoldable pub entry_words_in : List (List ℕ) → Option Entry
entry_words_in [] = None
entry_words_in (kind ∷ words) =
    if bytes_eq kind (codes "publish") then publish_in words
    else if bytes_eq kind (codes "fetch") then fetch_in words
    else if bytes_eq kind (codes "grant") then grant_in words
    else if bytes_eq kind (codes "block") then block_in words
    else if bytes_eq kind (codes "post") then post_in words
    else if bytes_eq kind (codes "reap") then reap_in words
    else None

-- the entry whose line this is
unfoldable pub entry_in : List ℕ → Option Entry
entry_in line = entry_words_in (slice_split (λ b. b == 32) line)
