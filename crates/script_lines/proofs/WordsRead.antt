-- What the words of a line spell, and what isn't in them.
use Rattle.std.proofs.Common.{◌≡◌, ℕ, ◌<◌, ◌^◌, Bool, true, false, List, [], ◌∷◌, ◌++◌, length, Option, None, Some}
use Rattle.std.proofs.Common.{refl, sym, ap, ◌∙◌, subst, arith}
use Rattle.std.specs.Prelude.{codes, decimal}
use Rattle.std.specs.List.{AllByRecursion}
use Rattle.std.specs.Str.{bytes_eq}
use Rattle.std.specs.Str.Parse.{AllDigits}
use Rattle.std.specs.Char.{digit_value}
use Rattle.std.proofs.lemmas.Fmt.{decimal_is_IsNumeral}
use Rattle.plain_lemmas.proofs.Lists.{bytes_eq_true}
use Rattle.history.proofs.LinesAgain.{payload_again}
use Rattle.hex.specs.Hex.{encode_upper, IsBytes}
use Rattle.line_text.specs.Digits.{bytes_in, fixed_in}
use Rattle.line_text.specs.Data.{data_text, data_in, bytes_of_blocks_in, spelled_block}
use Rattle.line_text.proofs.HexLaws.{bytes_again, fixed_some}

-- 64 bytes
pub raw_again : (bytes : List ℕ) → length bytes ≡ 64 → IsBytes bytes
    → fixed_in 64 (bytes_in (encode_upper bytes)) ≡ Some bytes
raw_again bytes long fits =
    fixed_some 64 (bytes_in (encode_upper bytes)) bytes (bytes_again (encode_upper bytes) bytes fits refl) long

-- a word that is read is no word that isn't
read_isnt : {A : Type 0} (read : List ℕ → Option A) (word other : List ℕ) (x : A) (t : Bool) → read word ≡ Some x
    → read other ≡ None → bytes_eq word other ≡ t → t ≡ false
read_isnt read word other x true some none e =
    let same : word ≡ other = bytes_eq_true word other e in
    let both : read other ≡ Some x = ap read (sym same) ∙ some in
    absurd cc
read_isnt read word other x false some none e = refl

-- `+` is no digits
plus_digits : bytes_in (codes "+") ≡ None
unfolding bytes_in
plus_digits = refl

-- nor data
plus_data : data_in 512 (codes "+") ≡ None
unfolding data_in bytes_in bytes_of_blocks_in spelled_block
plus_data = refl

-- a number isn't `+`
pub number_isnt : (n : ℕ) → n < 2 ^ 64 → bytes_eq (decimal n) (codes "+") ≡ false
number_isnt n small = by_test (bytes_eq (decimal n) (codes "+")) refl
  where
    by_test : (t : Bool) → bytes_eq (decimal n) (codes "+") ≡ t → t ≡ false
    by_test true e =
        let digits : AllDigits 10 (codes "+") =
        subst (AllDigits 10) (bytes_eq_true (decimal n) (codes "+") e) (decimal_is_IsNumeral n small).0.1 in
        let low : digit_value 43 < 10 = digits.0 in
        absurd (omega arith)
    by_test false e = refl

-- digits aren't
pub digits_arent : (bytes : List ℕ) → IsBytes bytes → bytes_eq (encode_upper bytes) (codes "+") ≡ false
digits_arent bytes fits =
    read_isnt bytes_in (encode_upper bytes) (codes "+") bytes _ (bytes_again (encode_upper bytes) bytes fits refl)
    plus_digits refl

-- data isn't
pub data_isnt : (payload : List ℕ) → IsBytes payload → bytes_eq (data_text 512 payload) (codes "+") ≡ false
data_isnt payload fits =
    read_isnt (data_in 512) (data_text 512 payload) (codes "+") payload _ (payload_again payload fits) plus_data refl

-- what holds of two lists holds of both
pub all_append : {X : Type 0} (P : X → Type 0) (xs ys : List X) → AllByRecursion P xs → AllByRecursion P ys
    → AllByRecursion P (xs ++ ys)
all_append P [] ys h k = k
all_append P (x ∷ xs) ys h k = (h.0, all_append P xs ys h.1 k)
