-- Blocks: what is read is spelled so, and what is spelled so is read.
use Rattle.std.proofs.Common.{◌≡◌, ℕ, zero, suc, ◌+◌, ◌*◌, ◌<◌, ◌≤◌, Bool, true, false, cond, List, [], ◌∷◌, ◌++◌, map}
use Rattle.std.proofs.Common.{length, take, drop, get_or, None, Some, ◌⊎◌, inl, inr, refl, sym, ap, ◌∙◌, arith}
use Rattle.std.proofs.Common.{length-append, length-take, length-drop, take-append-drop}
use Rattle.std.specs.Prelude.{Option, replicate, ◌&&◌}
use Rattle.std.specs.List.{list_all}
use Rattle.std.specs.Str.{bytes_eq}
use Rattle.std.proofs.Math.Dec.{eqb}
use Rattle.std.proofs.Math.Seq.{take-append_seam, drop-append_seam}
use Rattle.std.proofs.lemmas.Bool.{eqb-true}
use Rattle.std.proofs.lemmas.List.{length-replicate, nil_from_length}
use Rattle.plain_lemmas.proofs.Numbers.{eqb_same}
use Rattle.hex.specs.Hex.{IsBytes, encode_upper}
use Rattle.line_text.specs.Digits.{bytes_in}
use Rattle.line_text.specs.Data.{all_same, block_text, parted_blocks, spelled_block, then_block, bytes_of_blocks_in}
use Rattle.line_text.proofs.HexLaws.{bytes_is, bytes_again}

-- ---- equal bytes

-- what an `and` that holds shows
both_true : (a b : Bool) → (a && b) ≡ true → (a ≡ true) × (b ≡ true)
both_true true b h = (refl, h)
both_true false b h = absurd cc

-- copies are all equal
all_replicate : (n x : ℕ) → list_all (λ y. eqb y x) (replicate n x) ≡ true
all_replicate zero x = refl
all_replicate (suc n) x = rw (eqb_same x) (all_replicate n x)

-- so a block of copies is one of equal bytes
same_replicate : (n x : ℕ) → all_same (replicate n x) ≡ true
same_replicate zero x = refl
same_replicate (suc n) x = all_replicate n x

-- bytes that are all x are copies of x
replicate_of : (x : ℕ) (xs : List ℕ) → list_all (λ y. eqb y x) xs ≡ true → replicate (length xs) x ≡ xs
replicate_of x [] h = refl
replicate_of x (y ∷ ys) h =
    let p = both_true (eqb y x) (list_all (λ z. eqb z x) ys) h in
    ap (λ l. x ∷ l) (replicate_of x ys p.1) ∙ ap (λ z. z ∷ ys) (sym (eqb-true y x p.0))

-- one of some copies
take_one : (n x : ℕ) → 0 < n → take 1 (replicate n x) ≡ x ∷ []
take_one zero x h = absurd (omega arith)
take_one (suc n) x h = refl

-- a beginning of bytes is bytes
bytes_take : (n : ℕ) (xs : List ℕ) → IsBytes xs → IsBytes (take n xs)
bytes_take zero xs h i = omega arith
bytes_take (suc n) [] h i = omega arith
bytes_take (suc n) (x ∷ xs) h zero = h 0
bytes_take (suc n) (x ∷ xs) h (suc i) = bytes_take n xs (λ j. h (suc j)) i

-- and so is an end
bytes_drop : (n : ℕ) (xs : List ℕ) → IsBytes xs → IsBytes (drop n xs)
bytes_drop zero xs h = h
bytes_drop (suc n) [] h = h
bytes_drop (suc n) (x ∷ xs) h = bytes_drop n xs (λ j. h (suc j))

-- each byte is the one before it exactly where all are as the first
pub as_before : (x : ℕ) (xs : List ℕ) → bytes_eq xs (take (length xs) (x ∷ xs)) ≡ list_all (λ y. eqb y x) xs
as_before x [] = refl
as_before x (y ∷ ys) = first (eqb y x) refl (as_before y ys)
  where
    first : (b : Bool) → eqb y x ≡ b → bytes_eq ys (take (length ys) (y ∷ ys)) ≡ list_all (λ z. eqb z y) ys
        → (eqb y x && bytes_eq ys (take (length ys) (y ∷ ys))) ≡ (eqb y x && list_all (λ z. eqb z x) ys)
    first true e f = ap (λ b. eqb y x && b) (f ∙ ap (λ w. list_all (λ z. eqb z w) ys) (eqb-true y x e))
    first false e f = ap (λ b. b && bytes_eq ys (take (length ys) (y ∷ ys))) e
        ∙ sym (ap (λ b. b && list_all (λ z. eqb z x) ys) e)

-- ---- one block

-- the text of a block of equal bytes
pub text_same : (block : List ℕ) → all_same block ≡ true → block_text block ≡ encode_upper (take 1 block)
text_same block h = ap (λ b. encode_upper (cond b (take 1 block) block)) h

-- the text of any other block
pub text_other : (block : List ℕ) → all_same block ≡ false → block_text block ≡ encode_upper block
text_other block h = ap (λ b. encode_upper (cond b (take 1 block) block)) h

-- which of three tests gave a block
picked : (p q s : Bool) (x y b : List ℕ) → cond p (Some x) (cond q (cond s None (Some y)) None) ≡ Some b
    → ((p ≡ true) × (x ≡ b)) ⊎ ((p ≡ false) × (q ≡ true) × (s ≡ false) × (y ≡ b))
picked true q s x y b e = inl (refl, cc)
picked false true true x y b e = absurd cc
picked false true false x y b e = inr (refl, refl, refl, cc)
picked false false s x y b e = absurd cc

-- a block that is read has k bytes, and its part is its text
block_by : (k : ℕ) (text : List ℕ) (o : Option (List ℕ)) (b : List ℕ) → 2 ≤ k → bytes_in text ≡ o
    → spelled_block k o ≡ Some b → (length b ≡ k) × (text ≡ block_text b)
unfolding spelled_block
block_by k text None b two h e = absurd cc
block_by k text (Some bytes) b two h e =
    elim (picked (eqb (length bytes) 1) (eqb (length bytes) k) (all_same bytes) (replicate k (get_or bytes 0 0)) bytes b
    e) as (λ _. (length b ≡ k) × (text ≡ block_text b)) [
      | inl p ↦
          let x : ℕ = get_or bytes 0 0 in
          let one : bytes ≡ x ∷ [] = singleton bytes (eqb-true _ _ p.0) in
          let long : length b ≡ k = ap length (sym p.1) ∙ length-replicate k x in
          let same : block_text b ≡ encode_upper (x ∷ []) = ap block_text (sym p.1)
          ∙ text_same (replicate k x) (same_replicate k x) ∙ ap encode_upper (take_one k x (omega arith)) in
          (long, bytes_is text bytes h ∙ ap encode_upper one ∙ sym same)
      | inr p ↦
          let same : all_same b ≡ false = ap all_same (sym p.3) ∙ p.2 in (
            ap length (sym p.3) ∙ eqb-true _ _ p.1,
            bytes_is text bytes h ∙ ap encode_upper p.3
                ∙ sym (text_other b same),
          )
    ]
  where
    singleton : (xs : List ℕ) → length xs ≡ 1 → xs ≡ get_or xs 0 0 ∷ []
    singleton [] h = absurd (omega arith)
    singleton (x ∷ []) h = refl
    singleton (x ∷ y ∷ xs) h = absurd (omega arith)

-- one byte stands for k copies
block_one : (k x : ℕ) → spelled_block k (Some (x ∷ [])) ≡ Some (replicate k x)
unfolding spelled_block
block_one k x = refl

-- k bytes that are not all equal stand for themselves
block_many : (k : ℕ) (b : List ℕ) → 2 ≤ k → length b ≡ k → all_same b ≡ false → spelled_block k (Some b) ≡ Some b
unfolding spelled_block
block_many k b two long other = rw (not_one, ap (λ n. eqb n k) long ∙ eqb_same k, other) refl
  where
    not_one : eqb (length b) 1 ≡ false
    not_one = grind (arith)

-- a block's text is read as that block
block_again : (k : ℕ) (text b : List ℕ) (s : Bool) → 2 ≤ k → IsBytes b → length b ≡ k → all_same b ≡ s
    → text ≡ block_text b → spelled_block k (bytes_in text) ≡ Some b
block_again k text [] s two fits long same e = absurd (omega arith)
block_again k text (x ∷ xs) true two fits long same e =
    let read : bytes_in text ≡ Some (x ∷ []) =
    bytes_again text (x ∷ []) (bytes_take 1 (x ∷ xs) fits) (e ∙ text_same (x ∷ xs) same) in
    ap (spelled_block k) read ∙ block_one k x
    ∙ ap Some (ap (λ n. replicate n x) (sym long) ∙ ap (λ l. x ∷ l) (replicate_of x xs same))
block_again k text (x ∷ xs) false two fits long same e =
    ap (spelled_block k) (bytes_again text (x ∷ xs) fits (e ∙ text_other (x ∷ xs) same))
    ∙ block_many k (x ∷ xs) two long same

-- ---- several blocks

-- a block and bytes that were put together were both read
parts_then : (a b : Option (List ℕ)) (bytes : List ℕ) → then_block a b ≡ Some bytes
    → (x : List ℕ) × (y : List ℕ) × (a ≡ Some x) × (b ≡ Some y) × (bytes ≡ x ++ y)
parts_then None b bytes e = absurd cc
parts_then (Some x) None bytes e = absurd cc
parts_then (Some x) (Some y) bytes e = (x, y, refl, refl, cc)

-- bytes that are read of some parts are as many blocks, and the parts are their texts
pub blocks_are : (k : ℕ) (texts : List (List ℕ)) (bytes : List ℕ) → 2 ≤ k → bytes_of_blocks_in k texts ≡ Some bytes
    → (length bytes ≡ length texts * k) × (map block_text (parted_blocks k (length texts) bytes) ≡ texts)
unfolding bytes_of_blocks_in parted_blocks
blocks_are k [] bytes two e = (ap length none ∙ sym (zero_times k), refl)
  where
    none : bytes ≡ []
    none = cc

    zero_times : (n : ℕ) → 0 * n ≡ 0
    zero_times n = omega arith
blocks_are k (text ∷ texts) bytes two e =
    let p = parts_then (spelled_block k (bytes_in text)) (bytes_of_blocks_in k texts) bytes e in
    let first = block_by k text (bytes_in text) p.0 two refl p.2 in
    let others = blocks_are k texts p.1 two p.3 in
    let front : take k bytes ≡ p.0 = ap (take k) p.4 ∙ ap (λ n. take n (p.0 ++ p.1)) (sym first.0)
    ∙ take-append_seam p.0 p.1 in
    let back : drop k bytes ≡ p.1 = ap (drop k) p.4 ∙ ap (λ n. drop n (p.0 ++ p.1)) (sym first.0)
    ∙ drop-append_seam p.0 p.1 in
    let long : length bytes ≡ length p.0 + length p.1 = ap length p.4 ∙ length-append p.0 p.1 in (
      sum_up k (length texts) (length bytes) (length p.0) (length p.1) long first.0 others.0,
      ap (λ l. block_text l ∷ map block_text (parted_blocks k (length texts) (drop k bytes))) front
          ∙ ap (λ l. block_text p.0 ∷ map block_text (parted_blocks k (length texts) l)) back
          ∙ ap (λ l. block_text p.0 ∷ l) others.1
          ∙ ap (λ l. l ∷ texts) (sym first.1),
    )
  where
    sum_up : (k n a b c : ℕ) → a ≡ b + c → b ≡ k → c ≡ n * k → a ≡ suc n * k
    sum_up k n a b c h i j = grind (arith)

-- the texts of n blocks are read as those blocks
pub blocks_again : (k n : ℕ) (bytes : List ℕ) → 2 ≤ k → IsBytes bytes → length bytes ≡ n * k
    → bytes_of_blocks_in k (map block_text (parted_blocks k n bytes)) ≡ Some bytes
unfolding bytes_of_blocks_in parted_blocks
blocks_again k zero bytes two fits long = ap Some (sym (nil_from_length bytes (long ∙ zero_times k)))
  where
    zero_times : (n : ℕ) → 0 * n ≡ 0
    zero_times n = omega arith
blocks_again k (suc n) bytes two fits long =
    let enough : k ≤ length bytes = omega (arith, long, more n k) in
    let front : length (take k bytes) ≡ k = omega (arith, length-take k bytes) in
    let back : length (drop k bytes) ≡ n * k = omega (arith, length-drop k bytes, more n k) in
    let first = block_again k (block_text (take k bytes)) (take k bytes) (all_same (take k bytes)) two
    (bytes_take k bytes fits) front refl refl in
    let others = blocks_again k n (drop k bytes) two (bytes_drop k bytes fits) back in
    ap (λ o. then_block o (bytes_of_blocks_in k (map block_text (parted_blocks k n (drop k bytes))))) first
    ∙ ap (then_block (Some (take k bytes))) others ∙ ap Some (take-append-drop k bytes)
  where
    more : (n k : ℕ) → suc n * k ≡ k + n * k
    more n k = grind (arith)
