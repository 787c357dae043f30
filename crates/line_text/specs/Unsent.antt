-- What was spelled and isn't written yet.
use Rattle.std.specs.Prelude.{ℕ, List, take}
use Rattle.line_text.specs.declared.unsent.Unsent.{Unsent}

-- the bytes
abbrev pub unsent : Unsent → List ℕ
unsent u = take u.len u.bytes
