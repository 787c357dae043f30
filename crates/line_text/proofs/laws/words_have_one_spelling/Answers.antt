use Rattle.std.proofs.Common.{[], ◌∷◌, ◌≡◌, ◌≢◌, ℕ, List, refl}
use Rattle.std.specs.List.{AllByRecursion, slice_split, join_with_byte}
use Rattle.std.proofs.Math.Dec.{eqb}
use Rattle.std.proofs.lemmas.List.Splits.{join_with_byte-slice_split}
use Rattle.line_text.specs.Words.{Without}
use Rattle.line_text.proofs.WordLaws.{words_again, split_without}
use Rattle.line_text.proofs.laws.words_have_one_spelling.Goals as goal

again : (at : ℕ) (words : List (List ℕ)) → words ≢ [] → AllByRecursion (Without at) words
    → slice_split (λ b. eqb b at) (join_with_byte at words) ≡ words
again at [] some h = absurd (some refl)
again at (word ∷ words) some h = words_again at word words h.0 h.1

pub returns : goal.returns
returns c = record {
  split_again = again;
  joined_again = λ at line. join_with_byte-slice_split at line;
  no_separator = split_without;
}
