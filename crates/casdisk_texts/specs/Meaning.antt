-- What one line does.
use Rattle.std.specs.Prelude.{◌≡◌, ℕ, List, [], Option, Some, None}
use Rattle.std.specs.Io.KnownBytes.{Appends, Keeps}
use Rattle.line_text.specs.Known.{AppendsFront}
use Rattle.nvme_model.specs.History.{Past}
use Rattle.casdisk_texts.specs.declared.meaning.Taken.{Taken}
use Rattle.casdisk_texts.specs.declared.meaning.Taken.TheVariants.{Done, Bad}

-- What a line does to a history, and prints; None where the line is bad.
abbrev pub Meaning : Type 0
Meaning = Past → List ℕ → Option (Past × List ℕ)

-- the line was done, `Stands` holds of the history then, and its text was written; or it is bad, and nothing was
abbrev pub TakesLine : Taken → Meaning → Meaning → Past → (Past → Type 0) → List ℕ → Option (List ℕ) →
    Option (List ℕ) → Type 0
TakesLine Done meaning later before Stands line old new =
    (x : Past × List ℕ) × (meaning before line ≡ Some x) × Stands x.0 × (later ≡ meaning) × Appends old new x.1
TakesLine Bad meaning later before Stands line old new = (meaning before line ≡ None) × Keeps old new

-- what a line prints
abbrev pub text_of : Option (Past × List ℕ) → List ℕ
text_of None = []
text_of (Some x) = x.1

-- a beginning of the line's text was written
abbrev pub StopsInLine : Meaning → Past → List ℕ → Option (List ℕ) → Option (List ℕ) → Type 0
StopsInLine meaning before line old new = AppendsFront old new (text_of (meaning before line))
