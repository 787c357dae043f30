-- What a run of a script leaves.
use Rattle.std.specs.Prelude.{◌≡◌, ◌⊎◌, ℕ, List, ◌++◌, Option, IfSome, Result, Ok, Err}
use Rattle.std.specs.Io.KnownBytes.{Appends, Consumes, IsAtEnd}
use Rattle.line_text.specs.Known.{AppendsFront}
use Rattle.line_text.specs.Lines.{whole_lines, rest_line}
use Rattle.nvme_model.specs.History.{Past}
use Rattle.casdisk_texts.specs.Meaning.{Meaning}
use Rattle.casdisk_texts.specs.Script.{Outcome, ScriptEnd, IsOpenEnd, done, cut, bad_line, bad_config, lines_print}
use Rattle.casdisk_texts.specs.Script.{prefixed}
use Rattle.casdisk_texts.specs.declared.fault.RunFault.{RunFault}
use Rattle.casdisk_texts.specs.declared.fault.RunFault.TheVariants.{BadLine, BadConfig, Input, Output, NoMemory}

-- the input ends so, and its whole text was written
abbrev pub PrintsAll : (List ℕ → Outcome) → ScriptEnd → Option (List ℕ) → Option (List ℕ) → Option (List ℕ) → Type 0
PrintsAll outcome e input old new =
    IfSome input (λ bytes. ((outcome bytes).end ≡ e) × Appends old new (outcome bytes).text)

-- a beginning of the text of what was read was written
abbrev pub PrintsFront : (List ℕ → Outcome) → (input left old new : Option (List ℕ)) → Type 0
PrintsFront outcome input left old new =
    (bytes : List ℕ) × Consumes input left bytes × AppendsFront old new (outcome bytes).text

-- all that was read is done: no line of it is bad, and its whole text was written
abbrev pub PrintsRead : (List ℕ → Outcome) → (input left old new : Option (List ℕ)) → Type 0
PrintsRead outcome input left old new =
    (bytes : List ℕ) × Consumes input left bytes × IsOpenEnd (outcome bytes).end × Appends old new (outcome bytes).text

-- By what the run answered: the whole text and the reader at its end; the text before the bad line, or none; the whole
-- text of what was read, where reading failed; or a beginning of that.
abbrev pub RunsScript : (List ℕ → Outcome) → Result (Unit {0}) RunFault → (r t v w : Option (List ℕ)) → Type 0
RunsScript outcome (Ok x) input left old new = PrintsAll outcome done input old new × IsAtEnd left
RunsScript outcome (Err (BadLine n)) input left old new =
    PrintsAll outcome (bad_line n) input old new ⊎ PrintsAll outcome (cut n) input old new
RunsScript outcome (Err (BadConfig c)) input left old new = PrintsAll outcome (bad_config c) input old new
RunsScript outcome (Err Input) input left old new = PrintsRead outcome input left old new
RunsScript outcome (Err Output) input left old new = PrintsFront outcome input left old new
RunsScript outcome (Err NoMemory) input left old new = PrintsFront outcome input left old new

-- where all was read, `Stands` holds of the history that the input makes
abbrev pub Makes : (List ℕ → Outcome) → Result (Unit {0}) RunFault → Option (List ℕ) → (Past → Type 0) → Type 0
Makes outcome (Ok x) input Stands = IfSome input (λ bytes. Stands (outcome bytes).past)
Makes outcome (Err f) input Stands = Unit {0}

-- what the lines from number n on print, some of their bytes held already
abbrev pub lines_from : Meaning → Past → ℕ → List ℕ → List ℕ → Outcome
lines_from meaning past n held input =
    lines_print meaning past n (whole_lines (held ++ input)) (rest_line (held ++ input))

-- some bytes were read and some text was written, and the rest of the input prints what its lines from number n on do
pub record Reached (outcome : List ℕ → Outcome) (meaning : Meaning) (past : Past) (n : ℕ) (r s w v : Option (List ℕ))
    (held : List ℕ) : Type 0 where
  pub bytes : List ℕ
  pub consumed : Consumes r s bytes
  pub out : List ℕ
  pub written : Appends w v out
  pub agrees : (more : List ℕ) → outcome (bytes ++ more) ≡ prefixed out (lines_from meaning past n held more)

-- the same, for a history of which `Stands` holds
pub record Reaches (Stands : Past → Type 0) (outcome : List ℕ → Outcome) (meaning : Meaning) (n : ℕ)
    (r s w v : Option (List ℕ)) (held : List ℕ) : Type 0 where
  pub past : Past
  pub stands : Stands past
  pub reached : Reached outcome meaning past n r s w v held
