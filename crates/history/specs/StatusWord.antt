-- Statuses and verdicts as words.
use Rattle.std.specs.Prelude.{ℕ, ◌+◌, ◌-◌, ◌==◌, ◌&&◌, nat_lt, List, [], ◌∷◌, Option, Some, None, if◌then◌else◌, codes}
use Rattle.std.specs.Prelude.{slice_index}
use Rattle.std.specs.Str.{bytes_eq}
use Rattle.hex.specs.Hex.{encode_upper}
use Rattle.line_text.specs.Digits.{bytes_in, fixed_in}
use Rattle.nvme_model.specs.Statuses.{status}
use Rattle.nvme_model.specs.declared.status.Status.{Status}
use Rattle.nvme_model.specs.declared.status.Verdict.{Verdict}

-- ---- a status

-- a status: the digit of its type, `/`, and two digits of its code
abbrev pub status_word : Status → List ℕ
status_word s = (48 + s.sct) ∷ 47 ∷ encode_upper (s.sc ∷ [])

-- the status of this type and of these bytes, where they are one code
abbrev pub status_from : ℕ → Option (List ℕ) → Option Status
status_from sct None = None
status_from sct (Some code) = Some (status sct (slice_index code 0))

-- the status that a word spells
unfoldable pub status_in : List ℕ → Option Status
status_in (digit ∷ slash ∷ code) =
    if nat_lt 47 digit && nat_lt digit 56 && (slash == 47)
    then status_from (digit - 48) (fixed_in 1 (bytes_in code)) else None
status_in word = None

-- ---- a verdict

-- how many entries were taken, and the statuses where the checks failed
abbrev pub verdict_words : Verdict → List (List ℕ)
verdict_words Verdict.Single = codes "1" ∷ codes "ok" ∷ []
verdict_words (Verdict.SingleFailed s) = codes "1" ∷ status_word s ∷ []
verdict_words Verdict.Pair = codes "2" ∷ codes "ok" ∷ []
verdict_words (Verdict.PairFailed s r) = codes "2" ∷ status_word s ∷ status_word r ∷ []

-- one command, which failed so
abbrev pub single_failed : Option Status → Option Verdict
single_failed None = None
single_failed (Some s) = Some (Verdict.SingleFailed s)

-- a pair, which failed so
abbrev pub pair_failed : Option Status → Option Status → Option Verdict
pair_failed (Some s) (Some r) = Some (Verdict.PairFailed s r)
pair_failed _ _ = None

-- what two words say: of one command, or of a pair that passed
unfoldable pub short_verdict_in : List ℕ → List ℕ → Option Verdict
short_verdict_in count word =
    if bytes_eq count (codes "1")
    then (if bytes_eq word (codes "ok") then Some Verdict.Single else single_failed (status_in word))
    else if bytes_eq count (codes "2") && bytes_eq word (codes "ok") then Some Verdict.Pair
    else None

-- the verdict that words spell
unfoldable pub verdict_in : List (List ℕ) → Option Verdict
verdict_in (count ∷ word ∷ []) = short_verdict_in count word
verdict_in (count ∷ first ∷ second ∷ []) =
    if bytes_eq count (codes "2") then pair_failed (status_in first) (status_in second) else None
verdict_in words = None
