-- How a word of data is read, step by step.
use Rattle.std.proofs.Common.{◌≡◌, ℕ, ◌%◌, Bool, true, false, cond, List, [], ◌∷◌, ◌++◌, length}
use Rattle.std.proofs.Common.{take, drop, get_or, None, Some, refl, sym, ap, ◌∙◌, arith, append-nil}
use Rattle.std.specs.Prelude.{Option, replicate}
use Rattle.std.specs.List.{slice_split}
use Rattle.std.specs.Str.{bytes_eq}
use Rattle.std.proofs.Math.Dec.{eqb}
use Rattle.std.proofs.lemmas.List.{append_assoc}
use Rattle.plain_lemmas.proofs.Numbers.{eqb_same}
use Rattle.line_text.specs.Digits.{bytes_in}
use Rattle.line_text.specs.Data.{all_same, spelled_block, then_block, bytes_of_blocks_in, unless_whole, data_in}

-- ---- what a block is by its tests

-- a part that is no digits is no block
pub block_nothing : (k : ℕ) (o : Option (List ℕ)) → o ≡ None → spelled_block k o ≡ None
unfolding spelled_block
block_nothing k o e = ap (spelled_block k) e

-- one byte is a block of copies
pub block_from_one : (k : ℕ) (o : Option (List ℕ)) (bytes : List ℕ) → o ≡ Some bytes → length bytes ≡ 1
    → spelled_block k o ≡ Some (replicate k (get_or bytes 0 0))
unfolding spelled_block
block_from_one k o bytes e h = ap (spelled_block k) e ∙ rw h refl

-- a number that differs from 1
not_one : (n : ℕ) → (n ≡ 1 → ⊥) → eqb n 1 ≡ false
not_one n h = grind (arith)

-- a number that differs from k
not_k : (n k : ℕ) → (n ≡ k → ⊥) → eqb n k ≡ false
not_k n k h = grind (arith)

-- neither one byte nor k are no block
pub block_from_other : (k : ℕ) (o : Option (List ℕ)) (bytes : List ℕ) → o ≡ Some bytes → (length bytes ≡ 1 → ⊥)
    → (length bytes ≡ k → ⊥) → spelled_block k o ≡ None
unfolding spelled_block
block_from_other k o bytes e h i = ap (spelled_block k) e ∙ rw (not_one (length bytes) h, not_k (length bytes) k i) refl

-- k bytes are a block unless they are all equal
pub block_from_many : (k : ℕ) (o : Option (List ℕ)) (bytes : List ℕ) (s : Bool) → o ≡ Some bytes
    → (length bytes ≡ 1 → ⊥) → length bytes ≡ k → all_same bytes ≡ s → spelled_block k o ≡ cond s None (Some bytes)
unfolding spelled_block
block_from_many k o bytes s e h i j = ap (spelled_block k) e
    ∙ rw (not_one (length bytes) h, ap (λ n. eqb n k) i ∙ eqb_same k, j) refl

-- ---- the loop over the parts

-- a block may be added before or after
regroup : (out block : List ℕ) (others : Option (List ℕ))
    → then_block (Some (out ++ block)) others ≡ then_block (Some out) (then_block (Some block) others)
regroup out block None = refl
regroup out block (Some bytes) = ap Some (append_assoc out block bytes)

-- a part that is no block ends it all
pub part_bad : (k : ℕ) (text : List ℕ) (texts : List (List ℕ)) (out : List ℕ) (all : Option (List ℕ))
    → then_block (Some out) (bytes_of_blocks_in k (text ∷ texts)) ≡ all → spelled_block k (bytes_in text) ≡ None
    → None ≡ all
unfolding bytes_of_blocks_in
part_bad k text texts out all h none =
    ap (λ o. then_block (Some out) (then_block o (bytes_of_blocks_in k texts))) (sym none) ∙ h

-- a part that is a block is added
pub part_good : (k : ℕ) (text : List ℕ) (texts : List (List ℕ)) (out new block : List ℕ) (all : Option (List ℕ))
    → then_block (Some out) (bytes_of_blocks_in k (text ∷ texts)) ≡ all
    → spelled_block k (bytes_in text) ≡ Some block → new ≡ out ++ block
    → then_block (Some new) (bytes_of_blocks_in k texts) ≡ all
unfolding bytes_of_blocks_in
part_good k text texts out new block all h some e =
    ap (λ l. then_block (Some l) (bytes_of_blocks_in k texts)) e ∙ regroup out block (bytes_of_blocks_in k texts)
    ∙ ap (λ o. then_block (Some out) (then_block o (bytes_of_blocks_in k texts))) (sym some) ∙ h

-- all parts were added
pub parts_done : (k : ℕ) (out : List ℕ) (all : Option (List ℕ)) → then_block (Some out) (bytes_of_blocks_in k []) ≡ all
    → Some out ≡ all
unfolding bytes_of_blocks_in
parts_done k out all h = ap Some (sym (append-nil out)) ∙ h

-- ---- the whole word

-- the word `-`
pub data_none : (k : ℕ) (text : List ℕ) → bytes_eq text (45 ∷ []) ≡ true → data_in k text ≡ Some []
unfolding data_in
data_none k text h = rw h refl

-- a word of blocks
pub data_blocks : (k : ℕ) (text : List ℕ) → bytes_eq text (45 ∷ []) ≡ false → bytes_eq (take 1 text) (120 ∷ []) ≡ false
    → data_in k text ≡ bytes_of_blocks_in k (slice_split (λ b. eqb b 46) text)
unfolding data_in
data_blocks k text h i = rw (h, i) refl

-- a word behind an `x`
pub data_odd : (k : ℕ) (text : List ℕ) (o : Option (List ℕ)) → bytes_eq text (45 ∷ []) ≡ false
    → bytes_eq (take 1 text) (120 ∷ []) ≡ true → bytes_in (drop 1 text) ≡ o → data_in k text ≡ unless_whole k o
unfolding data_in
data_odd k text o h i j = rw (h, i) (ap (unless_whole k) j)

-- whole blocks are not read behind an `x`
pub whole_none : (k : ℕ) (bytes : List ℕ) → length bytes % k ≡ 0 → unless_whole k (Some bytes) ≡ None
whole_none k bytes h = ap (λ n. cond (eqb n 0) None (Some bytes)) h

-- other bytes are
pub whole_some : (k : ℕ) (bytes : List ℕ) → (length bytes % k ≡ 0 → ⊥) → unless_whole k (Some bytes) ≡ Some bytes
whole_some k bytes h = ap (λ b. cond b None (Some bytes)) (not_zero (length bytes % k) h)
  where
    not_zero : (n : ℕ) → (n ≡ 0 → ⊥) → eqb n 0 ≡ false
    not_zero n h = grind (arith)
