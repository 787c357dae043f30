-- The words so far, and those of what is left.
use Rattle.std.proofs.Common.{◌≡◌, ◌==◌, ◌++◌, length, map}
use Rattle.std.specs.List.{slice_split}
use Rattle.line_text.proofs.words.split_words.Given as goal

abbrev pub invariant-loop-end : goal.invariant-loop-end
invariant-loop-end l = map (λ word. word.now) l.words.items ++ slice_split (λ b. b == l.at) l.rest
    ≡ slice_split (λ b. b == l.at) l.line

abbrev pub decreases-loop-end : goal.decreases-loop-end
decreases-loop-end l = length l.rest
