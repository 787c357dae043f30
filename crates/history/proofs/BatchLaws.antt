-- The two laws of a batch: what is read is spelled so, and what is spelled so is read.
use Rattle.std.proofs.Common.{◌≡◌, ℕ, Bool, true, false, cond, List, [], ◌∷◌, None, Some, refl, ap, ◌∙◌, arith}
use Rattle.std.specs.Prelude.{Option, codes, decimal}
use Rattle.std.specs.List.{AllByRecursion}
use Rattle.std.specs.Str.{bytes_eq}
use Rattle.plain_lemmas.proofs.Lists.{bytes_eq_true}
use Rattle.hex.specs.Hex.{encode_upper}
use Rattle.line_text.specs.Digits.{bytes_in, fixed_in}
use Rattle.line_text.specs.Data.{data_text, data_in}
use Rattle.line_text.proofs.HexLaws.{bytes_is, bytes_again, fixed_is, fixed_some}
use Rattle.line_text.specs.Words.{Without}
use Rattle.line_text.proofs.DataLaws.{data_is, data_again, data_spaceless}
use Rattle.line_text.proofs.WordLaws.{upper_without}
use Rattle.nvme_model.specs.declared.submission.Submission.{Submission}
use Rattle.history.specs.Lines.{HasItem}
use Rattle.history.specs.BatchWords.{more_words, publish_words, item_from, item_in, then_item, more_in, batch_in}

-- the parts of an entry that is read
item_parts : (a b : Option (List ℕ)) (x : Submission) → item_from a b ≡ Some x
    → (e : List ℕ) × (p : List ℕ) × (a ≡ Some e) × (b ≡ Some p) × (record { entry = e; payload = p } ≡ x)
item_parts None b x h = absurd cc
item_parts (Some e) None x h = absurd cc
item_parts (Some e) (Some p) x h = (e, p, refl, refl, cc)

-- an entry that is read is spelled so
pub item_is : (entry payload : List ℕ) (x : Submission) → item_in entry payload ≡ Some x
    → (entry ≡ encode_upper x.entry) × (payload ≡ data_text 512 x.payload)
item_is entry payload x h =
    let p = item_parts (fixed_in 64 (bytes_in entry)) (data_in 512 payload) x h in (
      bytes_is entry p.0 (fixed_is 64 (bytes_in entry) p.0 p.2).0 ∙ ap (λ (y : Submission). encode_upper y.entry) p.4,
      data_is 512 payload p.1 (omega arith) p.3 ∙ ap (λ (y : Submission). data_text 512 y.payload) p.4,
    )

-- the words of an entry are read as that entry
pub item_again : (x : Submission) → HasItem x → item_in (encode_upper x.entry) (data_text 512 x.payload) ≡ Some x
item_again x fits =
    ap (λ o. item_from o (data_in 512 (data_text 512 x.payload)))
    (fixed_some 64 (bytes_in (encode_upper x.entry)) x.entry
    (bytes_again (encode_upper x.entry) x.entry fits.entry refl) fits.long)
    ∙ ap (item_from (Some x.entry)) (data_again 512 (data_text 512 x.payload) x.payload (omega arith) fits.payload refl)

-- the parts of entries that are read
then_parts : (a : Option Submission) (b : Option (List Submission)) (xs : List Submission) → then_item a b ≡ Some xs
    → (y : Submission) × (ys : List Submission) × (a ≡ Some y) × (b ≡ Some ys) × (y ∷ ys ≡ xs)
then_parts None b xs h = absurd cc
then_parts (Some y) None xs h = absurd cc
then_parts (Some y) (Some ys) xs h = (y, ys, refl, refl, cc)

-- a test that let entries through held
if_plus : (b : Bool) (o : Option (List Submission)) (xs : List Submission) → cond b o None ≡ Some xs
    → (b ≡ true) × (o ≡ Some xs)
if_plus true o xs h = (refl, h)
if_plus false o xs h = absurd cc

-- entries that are read are spelled so
pub more_are : (words : List (List ℕ)) (xs : List Submission) → more_in words ≡ Some xs → words ≡ more_words xs
unfolding more_in more_words
more_are [] xs h = let none : [] ≡ xs = cc in ap more_words none
more_are (a ∷ []) xs h = absurd cc
more_are (a ∷ b ∷ []) xs h = absurd cc
more_are (a ∷ b ∷ c ∷ words) xs h =
    let q = if_plus (bytes_eq a (codes "+")) (then_item (item_in b c) (more_in words)) xs h in
    let p = then_parts (item_in b c) (more_in words) xs q.1 in
    let x = item_is b c p.0 p.2 in
    ap (λ w. w ∷ b ∷ c ∷ words) (bytes_eq_true a (codes "+") q.0)
    ∙ ap (λ w. codes "+" ∷ w ∷ c ∷ words) x.0 ∙ ap (λ w. codes "+" ∷ encode_upper p.0.entry ∷ w ∷ words) x.1
    ∙ ap (λ l. codes "+" ∷ encode_upper p.0.entry ∷ data_text 512 p.0.payload ∷ l) (more_are words p.1 p.3)
    ∙ ap more_words p.4

-- the words of entries are read as those entries
pub more_again : (xs : List Submission) → AllByRecursion HasItem xs → more_in (more_words xs) ≡ Some xs
unfolding more_in more_words
more_again [] fits = refl
more_again (x ∷ xs) fits =
    ap (λ o. then_item o (more_in (more_words xs))) (item_again x fits.0)
    ∙ ap (then_item (Some x)) (more_again xs fits.1)

-- ---- a batch

-- entries that are read are at least one, and are spelled so behind their queue
pub batch_are : (q : ℕ) (words : List (List ℕ)) (xs : List Submission) → batch_in words ≡ Some xs
    → codes "publish" ∷ decimal q ∷ words ≡ publish_words q xs
unfolding batch_in publish_words
batch_are q [] xs h = absurd cc
batch_are q (a ∷ []) xs h = absurd cc
batch_are q (a ∷ b ∷ words) xs h =
    let p = then_parts (item_in a b) (more_in words) xs h in
    let x = item_is a b p.0 p.2 in
    ap (λ w. codes "publish" ∷ decimal q ∷ w ∷ b ∷ words) x.0
    ∙ ap (λ w. codes "publish" ∷ decimal q ∷ encode_upper p.0.entry ∷ w ∷ words) x.1
    ∙ ap (λ l. codes "publish" ∷ decimal q ∷ encode_upper p.0.entry ∷ data_text 512 p.0.payload ∷ l)
    (more_are words p.1 p.3)
    ∙ ap (publish_words q) p.4

-- the words of entries are read as those entries
pub batch_again : (x : Submission) (xs : List Submission) → HasItem x → AllByRecursion HasItem xs
    → batch_in (encode_upper x.entry ∷ data_text 512 x.payload ∷ more_words xs) ≡ Some (x ∷ xs)
unfolding batch_in
batch_again x xs fits others =
    ap (λ o. then_item o (more_in (more_words xs))) (item_again x fits) ∙ ap (then_item (Some x)) (more_again xs others)

-- none of them has a space
pub more_spaceless : (xs : List Submission) → AllByRecursion (Without 32) (more_words xs)
unfolding more_words
more_spaceless [] = tt
more_spaceless (x ∷ xs) =
    ((refl, tt), (upper_without 32 x.entry refl, (data_spaceless 512 x.payload, more_spaceless xs)))
