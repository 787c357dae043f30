-- The two laws of data: what is read is spelled so, and what is spelled so is read.
use Rattle.std.proofs.Common.{◌≡◌, ℕ, zero, suc, ◌+◌, ◌*◌, ◌/◌, ◌%◌, ◌<◌, ◌≤◌, Bool, true, false, cond, List, [], ◌∷◌}
use Rattle.std.proofs.Common.{◌++◌, map, length, take, drop, get_or, None, Some, refl, sym, ap, ◌∙◌, subst, arith}
use Rattle.std.proofs.Common.{length-take, take-append-drop}
use Rattle.std.specs.Prelude.{Option}
use Rattle.std.specs.List.{slice_split, join_with_byte, AllByRecursion}
use Rattle.std.specs.Str.{bytes_eq}
use Rattle.std.proofs.Math.Dec.{eqb}
use Rattle.std.proofs.lemmas.Bool.{eqb-true, eqb-false}
use Rattle.std.proofs.lemmas.List.{nil_from_length}
use Rattle.std.proofs.lemmas.List.Splits.{join_with_byte-slice_split, length-slice_split}
use Rattle.std.proofs.Math.Nat.{div-add-mod, mul-mod_left, mul-div_cancel}
use Rattle.plain_lemmas.proofs.Lists.{bytes_eq_true}
use Rattle.hex.specs.Hex.{IsBytes, encode_upper, encode_with, upper_digits}
use Rattle.line_text.specs.Digits.{bytes_in}
use Rattle.line_text.specs.Words.{Without}
use Rattle.line_text.specs.Data.{all_same, block_text, parted_blocks, data_text, bytes_of_blocks_in, unless_whole}
use Rattle.line_text.specs.Data.{data_in}
use Rattle.line_text.proofs.Spelling.{IsSpelling}
use Rattle.line_text.proofs.HexLaws.{bytes_is, bytes_again}
use Rattle.line_text.proofs.WordLaws.{words_again, upper_without, plain, plain_isnt, digit_plain, join_front}
use Rattle.line_text.proofs.BlockLaws.{text_same, text_other, blocks_are, blocks_again}

-- ---- a list of bytes

-- by which of three tests holds
pub text_none : (k : ℕ) (bytes : List ℕ) → length bytes ≡ 0 → data_text k bytes ≡ 45 ∷ []
unfolding data_text
text_none k bytes none = rw none refl

-- the text of whole blocks
pub text_whole : (k : ℕ) (bytes : List ℕ) → 0 < length bytes → length bytes % k ≡ 0
    → data_text k bytes ≡ join_with_byte 46 (map block_text (parted_blocks k (length bytes / k) bytes))
unfolding data_text
text_whole k bytes some whole = rw (not_zero (length bytes) some, whole) refl
  where
    not_zero : (n : ℕ) → 0 < n → eqb n 0 ≡ false
    not_zero n h = grind (arith)

-- the text of any other bytes
pub text_odd : (k : ℕ) (bytes : List ℕ) → 0 < length bytes → eqb (length bytes % k) 0 ≡ false
    → data_text k bytes ≡ 120 ∷ encode_upper bytes
unfolding data_text
text_odd k bytes some odd = rw (not_zero (length bytes) some, odd) refl
  where
    not_zero : (n : ℕ) → 0 < n → eqb n 0 ≡ false
    not_zero n h = grind (arith)

-- no bytes at all are no blocks, and that is whole
pub odd_some : (k : ℕ) (bytes : List ℕ) → eqb (length bytes % k) 0 ≡ false → 0 < length bytes
odd_some k [] odd = absurd (eqb-false (0 % k) 0 odd (nothing k))
  where
    nothing : (k : ℕ) → 0 % k ≡ 0
    nothing k = grind (arith)
odd_some k (x ∷ xs) odd = omega arith

-- what is read behind an `x` is spelled so, and is no whole blocks
odd_is : (k : ℕ) (text : List ℕ) (o : Option (List ℕ)) (bytes : List ℕ) → bytes_in text ≡ o
    → unless_whole k o ≡ Some bytes → (text ≡ encode_upper bytes) × (eqb (length bytes % k) 0 ≡ false)
odd_is k text None bytes h e = absurd cc
odd_is k text (Some xs) bytes h e = chosen (eqb (length xs % k) 0) refl e
  where
    chosen : (b : Bool) → eqb (length xs % k) 0 ≡ b → cond b None (Some xs) ≡ Some bytes
        → (text ≡ encode_upper bytes) × (eqb (length bytes % k) 0 ≡ false)
    chosen true p q = absurd cc
    chosen false p q =
        let same : xs ≡ bytes = cc in
        (bytes_is text xs h ∙ ap encode_upper same, ap (λ l. eqb (length l % k) 0) (sym same) ∙ p)

-- n blocks have some bytes
times_some : (n k a : ℕ) → 1 ≤ n → 2 ≤ k → a ≡ n * k → 0 < a
times_some zero k a one two e = absurd (omega arith)
times_some (suc n) k a one two e = omega (arith, e, more n k)
  where
    more : (n k : ℕ) → suc n * k ≡ k + n * k
    more n k = grind (arith)

-- what is read is spelled so, by the first byte of its text
data_by : (k : ℕ) (text bytes : List ℕ) (p q : Bool) → 2 ≤ k → bytes_eq text (45 ∷ []) ≡ p
    → bytes_eq (take 1 text) (120 ∷ []) ≡ q
    → cond p (Some []) (cond q (unless_whole k (bytes_in (drop 1 text)))
    (bytes_of_blocks_in k (slice_split (λ b. eqb b 46) text))) ≡ Some bytes
    → text ≡ data_text k bytes
data_by k text bytes true q two h i e =
    let none : [] ≡ bytes = cc in
    bytes_eq_true text (45 ∷ []) h ∙ sym (text_none k bytes (ap length (sym none)))
data_by k text bytes false true two h i e =
    let x = odd_is k (drop 1 text) (bytes_in (drop 1 text)) bytes refl e in
    let front : take 1 text ≡ 120 ∷ [] = bytes_eq_true (take 1 text) (120 ∷ []) i in
    sym (take-append-drop 1 text) ∙ ap (λ l. l ++ drop 1 text) front ∙ ap (λ l. 120 ∷ l) x.0
    ∙ sym (text_odd k bytes (odd_some k bytes x.1) x.1)
data_by k text bytes false false two h i e =
    let parts : List (List ℕ) = slice_split (λ b. eqb b 46) text in
    let x = blocks_are k parts bytes two e in
    let many : 1 ≤ length parts = omega (arith, length-slice_split (λ b. eqb b 46) text) in
    let sizes = counted k (length parts) (length bytes) two many x.0 in
    sym (join_with_byte-slice_split 46 text)
    ∙ ap (join_with_byte 46) (sym x.1)
    ∙ ap (λ n. join_with_byte 46 (map block_text (parted_blocks k n bytes))) (sym sizes.2)
    ∙ sym (text_whole k bytes sizes.0 sizes.1)
  where
    counted : (k n a : ℕ) → 2 ≤ k → 1 ≤ n → a ≡ n * k → (0 < a) × (a % k ≡ 0) × (a / k ≡ n)
    counted k n a two one e = (
      times_some n k a one two e,
      ap (λ x. x % k) e ∙ mul-mod_left n k,
      ap (λ x. x / k) e
          ∙ mul-div_cancel n (omega arith),
    )

-- what is read is spelled so
pub data_is : (k : ℕ) (text bytes : List ℕ) → 2 ≤ k → data_in k text ≡ Some bytes → text ≡ data_text k bytes
unfolding data_in
data_is k text bytes two e =
    data_by k text bytes (bytes_eq text (45 ∷ [])) (bytes_eq (take 1 text) (120 ∷ [])) two refl refl e

-- the three kinds of text are told apart by how they begin
in_none : (k : ℕ) → data_in k (45 ∷ []) ≡ Some []
unfolding data_in
in_none k = refl

-- an `x` is taken off
in_odd : (k : ℕ) (digits : List ℕ) → data_in k (120 ∷ digits) ≡ unless_whole k (bytes_in digits)
unfolding data_in
in_odd k digits = refl

-- a digit begins blocks
in_blocks : (k d : ℕ) (rest : List ℕ) → plain d ≡ true
    → data_in k (d ∷ rest) ≡ bytes_of_blocks_in k (slice_split (λ b. eqb b 46) (d ∷ rest))
unfolding data_in
in_blocks k d rest h = rw (plain_isnt 45 d refl h, plain_isnt 120 d refl h) refl

-- a block's text begins with a digit
begins : (block : List ℕ) → 0 < length block
    → (d : ℕ) × (rest : List ℕ) × (plain d ≡ true) × (block_text block ≡ d ∷ rest)
unfolding encode_with
begins [] h = absurd (omega arith)
begins (x ∷ xs) h = by_same (all_same (x ∷ xs)) refl
  where
    by_same : (s : Bool) → all_same (x ∷ xs) ≡ s
        → (d : ℕ) × (rest : List ℕ) × (plain d ≡ true) × (block_text (x ∷ xs) ≡ d ∷ rest)
    by_same true e = (get_or upper_digits (x / 16) 0, _, digit_plain (x / 16), text_same (x ∷ xs) e)
    by_same false e = (get_or upper_digits (x / 16) 0, _, digit_plain (x / 16), text_other (x ∷ xs) e)

-- no block's text has a dot in it
texts_without : (k n : ℕ) (bytes : List ℕ) → AllByRecursion (Without 46) (map block_text (parted_blocks k n bytes))
unfolding parted_blocks
texts_without k zero bytes = tt
texts_without k (suc n) bytes = (upper_without 46 _ refl, texts_without k n (drop k bytes))

-- what is spelled so is read
pub data_again : (k : ℕ) (text bytes : List ℕ) → 2 ≤ k → IsBytes bytes → text ≡ data_text k bytes
    → data_in k text ≡ Some bytes
unfolding parted_blocks
data_again k text bytes two fits e = by_length (length bytes) refl
  where
    sized : (n : ℕ) → length bytes % k ≡ 0 → length bytes / k ≡ n → length bytes ≡ n * k
    sized n rest count = sym (div-add-mod (length bytes) k) ∙ ap (λ m. k * m + length bytes % k) count
        ∙ ap (λ m. k * n + m) rest ∙ turned
      where
        turned : k * n + 0 ≡ n * k
        turned = grind (arith)

    whole : (n : ℕ) → 0 < length bytes → length bytes % k ≡ 0 → length bytes / k ≡ n → data_in k text ≡ Some bytes
    whole zero some rest count = absurd (omega (arith, sized 0 rest count))
    whole (suc n) some rest count =
        let t : text ≡ join_with_byte 46 (map block_text (parted_blocks k (suc n) bytes)) = e
        ∙ text_whole k bytes some rest
        ∙ ap (λ m. join_with_byte 46 (map block_text (parted_blocks k m bytes))) count in
        let long : length bytes ≡ suc n * k = sized (suc n) rest count in
        let first : List ℕ = block_text (take k bytes) in
        let others : List (List ℕ) = map block_text (parted_blocks k n (drop k bytes)) in
        let front : 0 < length (take k bytes) = omega (arith, length-take k bytes) in
        let head = begins (take k bytes) front in
        let join = join_front 46 head.0 head.1 others in
        let shape : text ≡ head.0 ∷ join.0 = t ∙ ap (λ w. join_with_byte 46 (w ∷ others)) head.3 ∙ join.1 in
        ap (data_in k) shape
        ∙ in_blocks k head.0 join.0 head.2
        ∙ ap (λ l. bytes_of_blocks_in k (slice_split (λ b. eqb b 46) l)) (sym shape ∙ t)
        ∙ ap (bytes_of_blocks_in k)
        (words_again 46 first others (upper_without 46 _ refl) (texts_without k n (drop k bytes)))
        ∙ blocks_again k (suc n) bytes two fits long

    by_rest : (b : Bool) → 0 < length bytes → eqb (length bytes % k) 0 ≡ b → data_in k text ≡ Some bytes
    by_rest true some h = whole (length bytes / k) some (eqb-true _ _ h) refl
    by_rest false some h =
        let t : text ≡ 120 ∷ encode_upper bytes = e ∙ text_odd k bytes some h in
        ap (data_in k) t ∙ in_odd k (encode_upper bytes)
        ∙ ap (unless_whole k) (bytes_again (encode_upper bytes) bytes fits refl)
        ∙ ap (λ b. cond b None (Some bytes)) h

    by_length : (n : ℕ) → length bytes ≡ n → data_in k text ≡ Some bytes
    by_length zero h = ap (data_in k) (e ∙ text_none k bytes h) ∙ in_none k ∙ ap Some (sym (nil_from_length bytes h))
    by_length (suc n) h = by_rest (eqb (length bytes % k) 0) (omega arith) refl

-- ---- no space in a word of data

-- two lists without a byte have none of it when joined
without_append : (c : ℕ) (xs ys : List ℕ) → Without c xs → Without c ys → Without c (xs ++ ys)
without_append c [] ys p q = q
without_append c (x ∷ xs) ys p q = (p.0, without_append c xs ys p.1 q)

-- and so have words that are joined by another byte
join_without : (c d : ℕ) (words : List (List ℕ)) → eqb d c ≡ false → AllByRecursion (Without c) words
    → Without c (join_with_byte d words)
join_without c d [] p ps = tt
join_without c d (w ∷ []) p ps = ps.0
join_without c d (w ∷ v ∷ vs) p ps =
    without_append c w (d ∷ join_with_byte d (v ∷ vs)) ps.0 (p, join_without c d (v ∷ vs) p ps.1)

-- no block's text has a space in it
texts_spaceless : (k n : ℕ) (bytes : List ℕ) → AllByRecursion (Without 32) (map block_text (parted_blocks k n bytes))
unfolding parted_blocks
texts_spaceless k zero bytes = tt
texts_spaceless k (suc n) bytes = (upper_without 32 _ refl, texts_spaceless k n (drop k bytes))

-- nor has a whole word of data
pub data_spaceless : (k : ℕ) (bytes : List ℕ) → Without 32 (data_text k bytes)
data_spaceless k bytes = by_length (length bytes) refl
  where
    by_rest : (b : Bool) → 0 < length bytes → eqb (length bytes % k) 0 ≡ b → Without 32 (data_text k bytes)
    by_rest true some h = subst (Without 32) (sym (text_whole k bytes some (eqb-true _ _ h)))
        (join_without 32 46 _ refl (texts_spaceless k (length bytes / k) bytes))
    by_rest false some h = subst (Without 32) (sym (text_odd k bytes some h)) (refl, upper_without 32 bytes refl)

    by_length : (n : ℕ) → length bytes ≡ n → Without 32 (data_text k bytes)
    by_length zero h = subst (Without 32) (sym (text_none k bytes h)) (refl, tt)
    by_length (suc n) h = by_rest (eqb (length bytes % k) 0) (omega arith) refl

-- ---- what the reader promises

-- both laws together
pub data_law : (k : ℕ) (text : List ℕ) → 2 ≤ k → IsSpelling IsBytes (data_text k) text (data_in k text)
data_law k text two = (λ bytes e. data_is k text bytes two e, λ bytes fits e. data_again k text bytes two fits e)
