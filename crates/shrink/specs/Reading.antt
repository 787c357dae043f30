-- Why the lines of a script weren't read.
use Rattle.std.specs.Prelude.{IfSome, List, Option, [], length, suc, ℕ, ◌++◌, ◌≡◌}
use Rattle.std.specs.Io.KnownBytes.{IsAtEnd}
use Rattle.casdisk_texts.specs.declared.fault.RunFault.{RunFault}
use Rattle.casdisk_texts.specs.declared.fault.RunFault.TheVariants.{BadConfig, BadLine, Input, NoMemory, Output}
use Rattle.line_text.specs.Lines.{Loses, NoFeed, with_feeds}

-- Line n of a script is bad: it stands behind all lines that a line feed ends, and has none itself. It isn't empty, but
-- in a script that has no byte.
pub record IsBadEnd (n : ℕ) (script : List ℕ) : Type 0 where
  pub lines : List (List ℕ)
  pub rest : List ℕ
  pub is : script ≡ with_feeds lines ++ rest
  pub no_feed : NoFeed rest
  pub number : n ≡ suc (length lines)
  pub some : rest ≡ [] → lines ≡ []

-- By why the lines of a script weren't all read: the last is bad, and all is read; or what was read went before a fault
-- of the reader, or before memory was refused.
abbrev pub IsUnreadScript : RunFault → (input left : Option (List ℕ)) → Type 0
IsUnreadScript (BadLine n) input left = IsAtEnd left × IfSome input (IsBadEnd n)
IsUnreadScript (BadConfig c) input left = ⊥
IsUnreadScript Input input left = Loses input left
IsUnreadScript Output input left = ⊥
IsUnreadScript NoMemory input left = Loses input left
