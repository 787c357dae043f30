-- Lines with their line feeds, one after another.
use Rattle.std.proofs.Common.{List, [], ap, append_assoc, drop, get_or, length, map, sym, take, take-append-drop}
use Rattle.std.proofs.Common.{ℕ}
use Rattle.std.proofs.Common.{◌+◌, ◌++◌, ◌<◌, ◌∙◌, ◌∷◌, ◌≡◌}
use Rattle.std.proofs.lemmas.List.{map-append, take_more}
use Rattle.std.specs.Prelude.{codes}
use Rattle.line_text.proofs.Feeds.{feeds_append, feeds_one}
use Rattle.line_text.specs.Lines.{with_feeds}
use Rattle.refutation.specs.Refutations.{Refutation}
use Rattle.refutation.specs.Texts.{block_line, command_line, count_line, front_text, refutation_text, slice_text}

module _ {A : Type 0} (f : A → List ℕ) where
  -- one line more
  pub feeds_more : (xs : List A) (i : ℕ) (d : A) → i < length xs
      → with_feeds (map f (take (i + 1) xs)) ≡ with_feeds (map f (take i xs)) ++ (f (get_or xs i d) ++ 10 ∷ [])
  feeds_more xs i d l =
      ap (λ t. with_feeds (map f t)) (take_more xs i d l)
      ∙ ap with_feeds (map-append f (take i xs) (get_or xs i d ∷ []))
      ∙ feeds_append (map f (take i xs)) (f (get_or xs i d) ∷ [])
      ∙ ap (λ t. with_feeds (map f (take i xs)) ++ t) (feeds_one (f (get_or xs i d)))

  -- those before a line, the line, and those behind it
  pub feeds_at : (xs : List A) (i : ℕ) (d : A) → i < length xs
      → with_feeds (map f xs)
      ≡ with_feeds (map f (take i xs)) ++ ((f (get_or xs i d) ++ 10 ∷ []) ++ with_feeds (map f (drop (i + 1) xs)))
  feeds_at xs i d l =
      ap (λ t. with_feeds (map f t)) (sym (take-append-drop (i + 1) xs))
      ∙ ap with_feeds (map-append f (take (i + 1) xs) (drop (i + 1) xs))
      ∙ feeds_append (map f (take (i + 1) xs)) (map f (drop (i + 1) xs))
      ∙ ap (λ t. t ++ with_feeds (map f (drop (i + 1) xs))) (feeds_more xs i d l)
      ∙ append_assoc (with_feeds (map f (take i xs))) (f (get_or xs i d) ++ 10 ∷ [])
      (with_feeds (map f (drop (i + 1) xs)))

-- the text of a refutation, by its parts
pub text_is : (r : Refutation) → refutation_text r ≡ front_text r.lines ++ slice_text r.blocks r.commands
unfolding with_feeds
text_is r =
    ap (λ l. (codes "refutation" ++ 10 ∷ []) ++ (count_line r.lines ++ 10 ∷ l))
    (feeds_append (map block_line r.blocks) (map command_line r.commands))
    ∙ ap (λ l. (codes "refutation" ++ 10 ∷ []) ++ l)
    (sym (append_assoc (count_line r.lines) (10 ∷ []) (slice_text r.blocks r.commands)))

-- and by parts that are equal
pub text_by : (r : Refutation) (lines : ℕ) (blocks : List ℕ) (commands : List (ℕ × ℕ)) → lines ≡ r.lines
    → blocks ≡ r.blocks → commands ≡ r.commands → refutation_text r ≡ front_text lines ++ slice_text blocks commands
text_by r lines blocks commands e f h =
    text_is r ∙ (λ i. front_text (sym e i) ++ slice_text (sym f i) (sym h i))
