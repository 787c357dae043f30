use Rattle.std.proofs.Common.{◌≡◌, length}
use Rattle.std.specs.Prelude.{◌==◌}
use Rattle.std.specs.List.{slice_split}
use denote.Text.{Utf8}
use denote.Shadow.{shadow}
use Rattle.casdisk_texts.specs.Kinds.{kinds_in, kinds_after}
use Rattle.casdisk_texts.proofs.kinds.kinds_of.Given as goal

-- the kinds so far and those of the rest are those of the text
abbrev pub invariant-loop-name : goal.invariant-loop-name
invariant-loop-name l =
    shadow (Utf8 l.rest) × (kinds_after l.kinds.0 (slice_split (λ b. b == 44) l.rest) ≡ kinds_in l.initial.rest)

abbrev pub decreases-loop-name : goal.decreases-loop-name
decreases-loop-name l = length l.rest
