-- How a word of data is written, block by block.
use Rattle.std.proofs.Common.{◌≡◌, ℕ, suc, add-one, ◌+◌, ◌-◌, ◌/◌, ◌%◌, ◌<◌, ◌≤◌, false, List, [], ◌∷◌, ◌++◌, map}
use Rattle.std.proofs.Common.{Bool, if◌then◌else◌, length, take, drop, sym, ap, ◌∙◌, arith, length-drop, append-nil}
use Rattle.std.proofs.Common.{take_all, true}
use Rattle.std.specs.List.{join_with_byte}
use Rattle.std.proofs.Math.Dec.{eqb}
use Rattle.std.proofs.Math.Nat.{div-eq-sub-div, div-eq_of_lt, mod-eq_of_lt, add-mod_right}
use Rattle.hex.specs.Hex.{encode_upper}
use Rattle.line_text.specs.Data.{all_same, block_text, parted_blocks, data_text}
use Rattle.line_text.proofs.DataLaws.{text_none, text_odd, odd_some, text_whole}

-- ---- what is written

-- the texts after the first, each behind a dot
pub dotted : List (List ℕ) → List ℕ
dotted [] = []
dotted (t ∷ ts) = (46 ∷ t) ++ dotted ts

-- the first text, and then the dotted others
join_dotted : (t : List ℕ) (ts : List (List ℕ)) → join_with_byte 46 (t ∷ ts) ≡ t ++ dotted ts
unfolding dotted
join_dotted t [] = sym (append-nil t)
join_dotted t (u ∷ us) = ap (λ l. t ++ (46 ∷ l)) (join_dotted u us)

-- the text of what is left, k bytes a block
pub left_text : ℕ → List ℕ → List ℕ
left_text k bytes = dotted (map block_text (parted_blocks k (length bytes / k) bytes))

-- one block fewer is left
count_down : (k : ℕ) (bytes : List ℕ) → 0 < k → k ≤ length bytes → length bytes / k ≡ suc (length (drop k bytes) / k)
count_down k bytes pos some =
    div-eq-sub-div pos some ∙ add-one ((length bytes - k) / k) ∙ ap (λ n. suc (n / k)) (sym (length-drop k bytes))

-- behind a block the rest is whole again
pub rest_whole : (k : ℕ) (bytes : List ℕ) → k ≤ length bytes → length bytes % k ≡ 0 → length (drop k bytes) % k ≡ 0
rest_whole k bytes some whole =
    let n : ℕ = length bytes - k in
    let all : n + k ≡ length bytes = omega arith in
    ap (λ m. m % k) (length-drop k bytes) ∙ sym (add-mod_right n k) ∙ ap (λ m. m % k) all ∙ whole

-- some whole blocks are at least one
pub enough : (k n : ℕ) → 0 < k → 0 < n → n % k ≡ 0 → k ≤ n
enough k n pos some whole = grind (arith, mod-eq_of_lt {n = n} {m = k})

-- the next block is written
pub left_next : (k : ℕ) (bytes : List ℕ) → 0 < k → k ≤ length bytes
    → left_text k bytes ≡ (46 ∷ block_text (take k bytes)) ++ left_text k (drop k bytes)
unfolding parted_blocks left_text dotted
left_next k bytes pos some = ap (λ n. dotted (map block_text (parted_blocks k n bytes))) (count_down k bytes pos some)

-- nothing is left to write
pub left_none : (k : ℕ) (bytes : List ℕ) → length bytes < k → left_text k bytes ≡ []
unfolding parted_blocks left_text dotted
left_none k bytes few = ap (λ n. dotted (map block_text (parted_blocks k n bytes))) (div-eq_of_lt few)

-- the first block has no dot
pub text_first : (k : ℕ) (bytes : List ℕ) → 0 < k → 0 < length bytes → length bytes % k ≡ 0
    → data_text k bytes ≡ block_text (take k bytes) ++ left_text k (drop k bytes)
unfolding parted_blocks left_text
text_first k bytes pos some whole =
    text_whole k bytes some whole
    ∙ ap (λ n. join_with_byte 46 (map block_text (parted_blocks k n bytes)))
    (count_down k bytes pos (enough k (length bytes) pos some whole))
    ∙ join_dotted (block_text (take k bytes))
    (map block_text (parted_blocks k (length (drop k bytes) / k) (drop k bytes)))

-- the text of no bytes
pub text_empty : (k : ℕ) (bytes : List ℕ) → bytes ≡ [] → data_text k bytes ≡ 45 ∷ []
text_empty k bytes e = text_none k bytes (ap length e)

-- the text of bytes that are no whole blocks
pub text_other_length : (k : ℕ) (bytes : List ℕ) → (length bytes % k ≡ 0 → ⊥)
    → data_text k bytes ≡ 120 ∷ encode_upper bytes
text_other_length k bytes odd = let b = not_zero (length bytes % k) odd in text_odd k bytes (odd_some k bytes b) b
  where
    not_zero : (n : ℕ) → (n ≡ 0 → ⊥) → eqb n 0 ≡ false
    not_zero n h = grind (arith)

-- the text of one block of equal bytes
pub text_of_equal : (bytes : List ℕ) → length bytes ≡ 512 → all_same bytes ≡ true
    → data_text 512 bytes ≡ encode_upper (take 1 bytes)
text_of_equal bytes long same =
    let whole : length bytes % 512 ≡ 0 = ap (λ n. n % 512) long in
    text_first 512 bytes (omega arith) (omega (arith, long)) whole
    ∙ ap (λ l. block_text l ++ left_text 512 (drop 512 bytes)) (take_all 512 bytes (omega (arith, long)))
    ∙ ap (λ l. block_text bytes ++ l) (left_none 512 (drop 512 bytes) (omega (arith, length-drop 512 bytes, long)))
    ∙ append-nil (block_text bytes)
    ∙ ap (λ (b : Bool). encode_upper (if b then take 1 bytes else bytes)) same
