-- What was written, and the words that are left.
use Rattle.std.proofs.Common.{◌≡◌, List, ℕ, ◌++◌, map, drop}
use Rattle.std.specs.Io.KnownBytes.{Appends}
use Rattle.line_text.specs.Words.{behind, word_text}
use Rattle.line_text.proofs.words.send_behind.Given as goal

abbrev pub invariant-loop-word : goal.invariant-loop-word
invariant-loop-word g l =
    (done : List ℕ) × Appends (g.W.Write.contents l.fn.writer) (g.W.Write.contents l.writer) done
    × (behind 32 (map word_text l.words) ≡ done ++ behind 32 (drop l.word-index (map word_text l.words)))
