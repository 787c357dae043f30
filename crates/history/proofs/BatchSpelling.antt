-- The text of a batch, entry by entry.
use Rattle.std.proofs.Common.{◌≡◌, ℕ, ◌+◌, ◌<◌, ◌≤◌, length, drop, get_or, List, [], ◌∷◌, ◌++◌, refl, sym, ap, ◌∙◌}
use Rattle.std.proofs.Common.{append_assoc}
use Rattle.std.specs.Prelude.{codes, decimal}
use Rattle.std.specs.List.{join_with_byte}
use Rattle.std.proofs.lemmas.List.{drop_more, drop_all}
use Rattle.hex.specs.Hex.{encode_upper}
use Rattle.line_text.specs.Data.{data_text}
use Rattle.line_text.specs.Words.{behind}
use Rattle.line_text.proofs.WordLaws.{join_behind}
use Rattle.history.specs.BatchWords.{more_words, publish_words}
use Rattle.nvme_model.specs.declared.submission.Submission.{Submission}

-- the words of two lists
behind_append : (c : ℕ) (xs ys : List (List ℕ)) → behind c (xs ++ ys) ≡ behind c xs ++ behind c ys
unfolding behind
behind_append c [] ys = refl
behind_append c (x ∷ xs) ys = ap (λ l. (c ∷ x) ++ l) (behind_append c xs ys)
    ∙ sym (append_assoc (c ∷ x) (behind c xs) (behind c ys))

-- the words of a line, and more of them
pub line_more : (kind : List ℕ) (front more : List (List ℕ))
    → join_with_byte 32 (kind ∷ (front ++ more)) ≡ join_with_byte 32 (kind ∷ front) ++ behind 32 more
line_more kind front more =
    join_behind 32 kind (front ++ more)
    ∙ ap (λ l. kind ++ l) (behind_append 32 front more)
    ∙ sym (append_assoc kind (behind 32 front) (behind 32 more))
    ∙ ap (λ l. l ++ behind 32 more) (sym (join_behind 32 kind front))

-- the first entry of a Publish, and the others
pub publish_first : (q : ℕ) (x : Submission) (others : List Submission)
    → join_with_byte 32 (publish_words q (x ∷ others))
    ≡ join_with_byte 32 (codes "publish" ∷ decimal q ∷ encode_upper x.entry ∷ data_text 512 x.payload ∷ [])
    ++ behind 32 (more_words others)
unfolding publish_words
publish_first q x others =
    line_more (codes "publish") (decimal q ∷ encode_upper x.entry ∷ data_text 512 x.payload ∷ []) (more_words others)

-- the entry at place i
pub more_next : (xs : List Submission) (i : ℕ) (d : Submission) → i < length xs
    → behind 32 (more_words (drop i xs))
    ≡ behind 32 (codes "+" ∷ encode_upper (get_or xs i d).entry ∷ data_text 512 (get_or xs i d).payload ∷ [])
    ++ behind 32 (more_words (drop (i + 1) xs))
unfolding more_words
more_next xs i d low =
    ap (λ l. behind 32 (more_words l)) (drop_more xs i d low)
    ∙ behind_append 32 (codes "+" ∷ encode_upper (get_or xs i d).entry ∷ data_text 512 (get_or xs i d).payload ∷ [])
    (more_words (drop (i + 1) xs))

-- no entries are left
pub more_none : (xs : List Submission) (i : ℕ) → length xs ≤ i → behind 32 (more_words (drop i xs)) ≡ []
unfolding more_words behind
more_none xs i high = ap (λ l. behind 32 (more_words l)) (drop_all i xs high)
