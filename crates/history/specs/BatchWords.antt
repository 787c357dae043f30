-- The entries of a Publish as words.
use Rattle.std.specs.Prelude.{ℕ, List, [], ◌∷◌, Option, Some, None, codes, decimal, if◌then◌else◌}
use Rattle.std.specs.Str.{bytes_eq}
use Rattle.hex.specs.Hex.{encode_upper}
use Rattle.line_text.specs.Digits.{bytes_in, fixed_in}
use Rattle.line_text.specs.Data.{data_text, data_in}
use Rattle.nvme_model.specs.declared.submission.Submission.{Submission}

-- the words of the entries behind the first
unfoldable pub more_words : List Submission → List (List ℕ)
more_words [] = []
more_words (x ∷ xs) = codes "+" ∷ encode_upper x.entry ∷ data_text 512 x.payload ∷ more_words xs

-- the words of a Publish of at least one entry
unfoldable pub publish_words : ℕ → List Submission → List (List ℕ)
publish_words queue [] = []
publish_words queue (x ∷ xs) =
    codes "publish" ∷ decimal queue ∷ encode_upper x.entry ∷ data_text 512 x.payload ∷ more_words xs

-- the entry of these bytes with this data, where both are there
abbrev pub item_from : Option (List ℕ) → Option (List ℕ) → Option Submission
item_from None payload = None
item_from (Some entry) None = None
item_from (Some entry) (Some payload) = Some (record { entry = entry; payload = payload })

-- the entry that two words spell
abbrev pub item_in : List ℕ → List ℕ → Option Submission
item_in entry payload = item_from (fixed_in 64 (bytes_in entry)) (data_in 512 payload)

-- an entry and those behind it, where all are there
abbrev pub then_item : Option Submission → Option (List Submission) → Option (List Submission)
then_item None others = None
then_item (Some x) None = None
then_item (Some x) (Some xs) = Some (x ∷ xs)

-- the entries that the words behind the first entry spell
unfoldable pub more_in : List (List ℕ) → Option (List Submission)
more_in [] = Some []
more_in (plus ∷ []) = None
more_in (plus ∷ entry ∷ []) = None
more_in (plus ∷ entry ∷ payload ∷ words) =
    if bytes_eq plus (codes "+") then then_item (item_in entry payload) (more_in words) else None

-- the entries that words spell, at least one
unfoldable pub batch_in : List (List ℕ) → Option (List Submission)
batch_in (entry ∷ payload ∷ words) = then_item (item_in entry payload) (more_in words)
batch_in words = None
