-- What is known of the first line of a text that was read, or wasn't.
use Rattle.std.proofs.Common.{◌≡◌, ℕ, List, [], ◌∷◌, ◌++◌, None, Some, refl, ap, ◌∙◌}
use Rattle.std.specs.Prelude.{Option}
use Rattle.std.specs.Io.KnownBytes.{IsAtEnd}
use Rattle.std.proofs.KnownBytes.{Consumes-whole}
use Rattle.line_text.specs.Lines.{NoFeed, GivesBytes, GivesFront, whole_lines}
use Rattle.line_text.specs.declared.lines.ReadFault.{ReadFault}
use Rattle.line_text.proofs.Known.{known_input}
use Rattle.line_text.proofs.LineLaws.{whole_is_first, rest_is_last}
use Rattle.nvme_model.specs.Config.{config_fault, config_fault_number}
use Rattle.nvme_model.specs.declared.config.ConfigFault.{ConfigFault}
use Rattle.nvme_model.specs.declared.config.ConfigNumbers.{ConfigNumbers}
use Rattle.history.specs.ConfigLine.{config_in}
use Rattle.casdisk_texts.specs.Fault.{fault_of_read}
use Rattle.casdisk_texts.specs.Remade.{LacksFirstLine}
use Rattle.casdisk_texts.specs.Script.{first_config}
use Rattle.casdisk_texts.specs.declared.fault.RunFault.TheVariants.{BadConfig, BadLine}

-- no line was read
pub lacks_read : (f : ReadFault) (r t : Option (List ℕ)) (after line : List ℕ) → GivesFront r t [] after line
    → (f ≡ ReadFault.Input → after ≡ []) → LacksFirstLine (fault_of_read f) r t
lacks_read ReadFault.Input r t after line g none =
    (g.0.bytes, g.0.consumed, (rest_is_last r t [] after line g.0 g.1 (none refl)).0)
lacks_read ReadFault.NoMemory r t after line g none = (g.0.bytes, g.0.consumed)

-- there is none
pub lacks_line : (r t : Option (List ℕ)) (after line : List ℕ) → GivesBytes r t [] after line → NoFeed line → after ≡ []
    → IsAtEnd t → LacksFirstLine (BadLine 1) r t
lacks_line r t after line g plain none end = (
  refl,
  Consumes-whole r t g.bytes (λ bytes. first_config (whole_lines bytes) ≡ None) g.consumed end
      (ap first_config (rest_is_last r t [] after line g plain none).0),
)

module _ (r t : Option (List ℕ)) (after line : List ℕ) (g : GivesBytes r t [] after (line ++ 10 ∷ []))
    (plain : NoFeed line) where
  -- it says no configuration
  pub lacks_config : config_in line ≡ None → LacksFirstLine (BadLine 1) r t
  lacks_config e = (
    refl,
    known_input r t g.bytes (λ bytes. first_config (whole_lines bytes) ≡ None) g.consumed (λ more.
        ap first_config (whole_is_first r t [] after line more g plain).0 ∙ e),
  )

  -- it says one that is refused
  pub refused_config : (c : ConfigNumbers) (f : ConfigFault) → config_in line ≡ Some c → config_fault c ≡ Some f
      → LacksFirstLine (BadConfig (config_fault_number f)) r t
  refused_config c f e h =
      known_input r t g.bytes _ g.consumed (λ more.
      (c, ap first_config (whole_is_first r t [] after line more g plain).0 ∙ e, (f, h, refl)))
