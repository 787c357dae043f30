-- What a script prints, and how it ends.
use Rattle.std.specs.Prelude.{ℕ, ◌+◌, List, [], ◌∷◌, ◌++◌, Option, Some, None}
use Rattle.line_text.specs.Lines.{whole_lines, rest_line}
use Rattle.nvme_model.specs.Config.{config_fault, config_fault_number}
use Rattle.nvme_model.specs.History.{Past}
use Rattle.nvme_model.specs.declared.config.ConfigFault.{ConfigFault}
use Rattle.nvme_model.specs.declared.config.ConfigNumbers.{ConfigNumbers}
use Rattle.history.specs.ConfigLine.{config_in}
use Rattle.casdisk_texts.specs.Meaning.{Meaning}

-- How a script ends: at its end, within its last line, which lacks its line feed, at a bad line, each by its number
-- from 1, or at a configuration that is refused.
pub data ScriptEnd : Type 0 where
  done : ScriptEnd
  cut : ℕ → ScriptEnd
  bad_line : ℕ → ScriptEnd
  bad_config : ℕ → ScriptEnd

-- no line of it is bad, and its configuration isn't refused
abbrev pub IsOpenEnd : ScriptEnd → Type 0
IsOpenEnd done = Unit {0}
IsOpenEnd (cut n) = Unit {0}
IsOpenEnd (bad_line n) = ⊥
IsOpenEnd (bad_config c) = ⊥

-- What a script prints, how it ends, and the history that it makes.
pub record Outcome : Type 0 where
  pub text : List ℕ
  pub end : ScriptEnd
  pub past : Past

-- a text, and then what prints
abbrev pub prefixed : List ℕ → Outcome → Outcome
prefixed text o = record { text = text ++ o.text; end = o.end; past = o.past }

-- nothing more
abbrev pub ending : ScriptEnd → Past → Outcome
ending e past = record { text = []; end = e; past = past }

-- what follows line n, by what it gave
abbrev pub after_line : ℕ → Past → Option (Past × List ℕ) → (Past → Outcome) → Outcome
after_line n past None more = ending (bad_line n) past
after_line n past (Some x) more = prefixed x.1 (more x.0)

-- The lines from number n on, and what stands behind the last line feed, which has to be nothing.
unfoldable pub lines_print : Meaning → Past → ℕ → List (List ℕ) → List ℕ → Outcome
lines_print meaning past n [] [] = ending done past
lines_print meaning past n [] (b ∷ bs) = ending (cut n) past
lines_print meaning past n (line ∷ lines) rest =
    after_line n past (meaning past line) (λ after. lines_print meaning after (n + 1) lines rest)

-- what follows the first line, by its configuration, which may be refused
abbrev pub after_numbers : List ℕ → Option ConfigFault → Outcome → Outcome
after_numbers line None more = prefixed (line ++ 10 ∷ []) more
after_numbers line (Some fault) more = ending (bad_config (config_fault_number fault)) []

-- what follows the first line, by what it says
abbrev pub after_config : List ℕ → Option ConfigNumbers → (ConfigNumbers → Outcome) → Outcome
after_config line None more = ending (bad_line 1) []
after_config line (Some c) more = after_numbers line (config_fault c) (more c)

-- A script from its first line on: the configuration line, and then what its lines print.
unfoldable pub script_prints : (ConfigNumbers → Meaning) → List (List ℕ) → List ℕ → Outcome
script_prints meaning [] rest = ending (cut 1) []
script_prints meaning (line ∷ lines) rest =
    after_config line (config_in line) (λ c. lines_print (meaning c) [] 2 lines rest)

-- the outcome of a whole input
abbrev pub script_outcome : (ConfigNumbers → Meaning) → List ℕ → Outcome
script_outcome meaning input = script_prints meaning (whole_lines input) (rest_line input)

-- the configuration of the first line
abbrev pub first_config : List (List ℕ) → Option ConfigNumbers
first_config [] = None
first_config (line ∷ lines) = config_in line
