-- What was added, and the words that are left.
use Rattle.std.proofs.Common.{◌≡◌, List, ℕ, ◌++◌, map, drop}
use Rattle.line_text.specs.Unsent.{unsent}
use Rattle.line_text.specs.Words.{behind, word_text}
use Rattle.line_text.proofs.unsent.Unsent.add_behind.Given as goal

abbrev pub invariant-loop-word : goal.invariant-loop-word
invariant-loop-word l =
    (done : List ℕ) × (unsent l.self ≡ unsent l.initial.self ++ done)
    × (behind 32 (map word_text l.words) ≡ done ++ behind 32 (drop l.word-index (map word_text l.words)))
