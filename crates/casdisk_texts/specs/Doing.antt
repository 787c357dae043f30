-- What a call does of what a line means.
use Rattle.std.specs.Prelude.{◌≡◌, ℕ, List, Option}
use Rattle.std.specs.Io.KnownBytes.{Appends}
use Rattle.nvme_model.specs.History.{Past}
use Rattle.nvme_model.specs.declared.refusal.Why.{Why}
use Rattle.controller_interface.specs.declared.answer.Refused.{Refused}

-- all of it: the history is as it has to be, and the text is written
abbrev pub SaysAll : Past × List ℕ → Past → Option (List ℕ) → Option (List ℕ) → Type 0
SaysAll x after old new = (after ≡ x.0) × Appends old new x.1

-- why a step was refused
abbrev pub why_of : Refused → Why
why_of (Refused.Publish why batch) = why
why_of (Refused.Step why) = why
