-- The entries of a Publish, one after the other.
use Rattle.std.proofs.Common.{List, None, Option, Some, [], ap, append-nil, append_assoc, arith, cond, drop, length}
use Rattle.std.proofs.Common.{refl, sym, take, ℕ, ◌++◌, ◌∙◌, ◌∷◌, ◌<◌, ◌≡◌, ◌≤◌}
use Rattle.std.specs.Prelude.{leb, option_map}
use Rattle.std.proofs.lemmas.Bool.{le-leb, lt-leb}
use Rattle.nvme_model.specs.declared.submission.Submission.{Submission}
use Rattle.vandrexu_c.specs.Batches.{submissions_of}
use Rattle.vandrexu_c.specs.declared.batch.EntryBytes.{EntryBytes}

-- none, and no data
pub none_left : (es : List EntryBytes) (bytes : List ℕ) → length es ≡ 0 → length bytes ≡ 0
    → submissions_of es bytes ≡ Some []
unfolding submissions_of
none_left [] [] e h = refl
none_left [] (b ∷ bs) e h = absurd (omega (arith, h))
none_left (x ∷ xs) bytes e h = absurd (omega (arith, e))

-- none, and data are left over
pub left_over : (es : List EntryBytes) (bytes : List ℕ) → length es ≡ 0 → 0 < length bytes
    → submissions_of es bytes ≡ None
unfolding submissions_of
left_over [] [] e h = absurd (omega (arith, h))
left_over [] (b ∷ bs) e h = refl
left_over (x ∷ xs) bytes e h = absurd (omega (arith, e))

-- the first and those behind it
pub first_of : (es others : List EntryBytes) (first : EntryBytes) (bytes : List ℕ) → es ≡ first ∷ others
    → submissions_of es bytes ≡ cond (leb first.count (length bytes))
    (option_map (λ xs. record { entry = first.bytes; payload = take first.count bytes } ∷ xs)
    (submissions_of others (drop first.count bytes))) None
unfolding submissions_of
first_of es others first bytes e = ap (λ xs. submissions_of xs bytes) e

-- enough for the first: then those behind it decide
pub enough : (es others : List EntryBytes) (first : EntryBytes) (bytes own behind : List ℕ) → es ≡ first ∷ others
    → first.count ≤ length bytes → own ≡ take first.count bytes → behind ≡ drop first.count bytes
    → submissions_of es bytes
    ≡ option_map (λ xs. record { entry = first.bytes; payload = own } ∷ xs) (submissions_of others behind)
enough es others first bytes own behind e h o b =
    first_of es others first bytes e
    ∙ ap (λ t. cond t (option_map (λ xs. record { entry = first.bytes; payload = take first.count bytes } ∷ xs)
    (submissions_of others (drop first.count bytes))) None) (le-leb first.count (length bytes) h)
    ∙ ap (λ u. option_map (λ xs. record { entry = first.bytes; payload = u } ∷ xs)
    (submissions_of others (drop first.count bytes))) (sym o)
    ∙ ap (λ u. option_map (λ xs. record { entry = first.bytes; payload = own } ∷ xs) (submissions_of others u)) (sym b)

-- these entries, and then those, if there are any
abbrev pub joined : List Submission → Option (List Submission) → Option (List Submission)
joined before o = option_map (λ xs. before ++ xs) o

joined_one : (before : List Submission) (item : Submission) (o : Option (List Submission))
    → joined before (option_map (λ xs. item ∷ xs) o) ≡ joined (before ++ item ∷ []) o
joined_one before item None = refl
joined_one before item (Some xs) = ap Some (sym (append_assoc before (item ∷ []) xs))

-- at first there are none
pub start_of : (o : Option (List Submission)) → joined [] o ≡ o
start_of None = refl
start_of (Some xs) = refl

module _ (es : List EntryBytes) (bytes : List ℕ) (before : List Submission) (whole : Option (List Submission))
    (so_far : joined before (submissions_of es bytes) ≡ whole) where
  -- all are there
  pub all_there : length es ≡ 0 → length bytes ≡ 0 → whole ≡ Some before
  all_there e h = sym so_far ∙ ap (joined before) (none_left es bytes e h) ∙ ap Some (append-nil before)

  -- data are left over
  pub too_many : length es ≡ 0 → 0 < length bytes → whole ≡ None
  too_many e h = sym so_far ∙ ap (joined before) (left_over es bytes e h)

  module _ (others : List EntryBytes) (first : EntryBytes) (is : es ≡ first ∷ others) where
    -- too few data are left for the next
    pub too_few : length bytes < first.count → whole ≡ None
    too_few h =
        sym so_far ∙ ap (joined before) (first_of es others first bytes is ∙ ap (λ b. cond b (option_map (λ xs.
        record { entry = first.bytes; payload = take first.count bytes } ∷ xs)
        (submissions_of others (drop first.count bytes))) None) (lt-leb first.count (length bytes) h))

    -- the next is added
    pub one_more : (own behind : List ℕ) (item : Submission) (after : List Submission)
        → first.count ≤ length bytes → own ≡ take first.count bytes → behind ≡ drop first.count bytes
        → item ≡ record { entry = first.bytes; payload = own } → after ≡ before ++ item ∷ []
        → joined after (submissions_of others behind) ≡ whole
    one_more own behind item after h o b i a =
        ap (λ l. joined l (submissions_of others behind)) a
        ∙ sym (joined_one before item (submissions_of others behind))
        ∙ ap (λ x. joined before (option_map (λ xs. x ∷ xs) (submissions_of others behind))) i
        ∙ ap (joined before) (sym (enough es others first bytes own behind is h o b)) ∙ so_far
