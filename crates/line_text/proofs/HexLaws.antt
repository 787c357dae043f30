-- The laws of digits.
use Rattle.std.proofs.Common.{◌≡◌, ℕ, zero, suc, ◌+◌, ◌-◌, ◌*◌, ◌/◌, ◌%◌, ◌<◌, ◌≤◌, Bool, true, false, cond, List, []}
use Rattle.std.proofs.Common.{◌∷◌, ◌++◌, length, get_or, None, Some, ◌⊎◌, inl, inr, refl, sym, ap, ◌∙◌, arith}
use Rattle.std.specs.Prelude.{Option, Result, Ok, Err, nat_le, nat_lt, ◌&&◌}
use Rattle.std.specs.List.{AllByRecursion, list_all}
use Rattle.std.specs.Str.{bytes_eq}
use Rattle.hex.specs.Hex.{IsBytes, decode_of, decode_pairs, decode_sized, digit_or_error, encode_upper, encode_with}
use Rattle.hex.specs.Hex.{hex_digit_value, pair_value, upper_digits, value_at, ◌>>=◌}
use Rattle.hex.specs.declared.error.FromHexError.{FromHexError}
use Rattle.hex.proofs.HexLemmas.{decode_of-encode_upper, decode_of-even, decode_of-ok, decode_sized-ok}
use Rattle.hex.proofs.HexLemmas.{decode_sized-twice}
use Rattle.std.proofs.Math.Dec.{eqb}
use Rattle.std.proofs.lemmas.Bool.{and_parts, cases_lt, eqb-true, leb-true, lt-ltb, le-ltb, ltb-true}
use Rattle.plain_lemmas.proofs.Lists.{bytes_eq_true}
use Rattle.line_text.specs.Digits.{if_upper, bytes_in, fixed_in}
use Rattle.line_text.proofs.Spelling.{IsSpelling}
use Rattle.line_text.proofs.NumberLaws.{bytes_eq_refl}

-- a value under a test
if_some : (b : Bool) (x y : List ℕ) → cond b (Some x) None ≡ Some y → (b ≡ true) × (x ≡ y)
if_some true x y e = (refl, cc)
if_some false x y e = absurd cc

-- what was read of decoded bytes
upper_is : (text : List ℕ) (r : Result (List ℕ) FromHexError) (bytes : List ℕ) → if_upper text r ≡ Some bytes
    → (text ≡ encode_upper bytes) × (r ≡ Ok bytes)
upper_is text (Ok x) bytes e = let h = if_some (bytes_eq (encode_upper x) text) x bytes e in
    (sym (bytes_eq_true _ _ h.0) ∙ ap encode_upper h.1, ap Ok h.1)
upper_is text (Err f) bytes e = absurd cc

-- what is read is spelled so
pub bytes_is : (text bytes : List ℕ) → bytes_in text ≡ Some bytes → (text ≡ encode_upper bytes)
unfolding bytes_in
bytes_is text bytes e = (upper_is text (decode_of text) bytes e).0

-- what is spelled so is read
pub bytes_again : (text bytes : List ℕ) → IsBytes bytes → text ≡ encode_upper bytes → bytes_in text ≡ Some bytes
unfolding bytes_in
bytes_again text bytes fits e =
    let decoded : decode_of text ≡ Ok bytes = ap decode_of e ∙ decode_of-encode_upper bytes fits in
    let same : bytes_eq (encode_upper bytes) text ≡ true = ap (bytes_eq (encode_upper bytes)) e
    ∙ bytes_eq_refl (encode_upper bytes) in
    ap (if_upper text) decoded ∙ ap (λ b. cond b (Some bytes) None) same

-- text that does not decode is not read
pub bytes_none : (text : List ℕ) (f : FromHexError) → decode_of text ≡ Err f → bytes_in text ≡ None
unfolding bytes_in
bytes_none text f e = ap (if_upper text) e

-- the digits of a list in two parts
pub encode_append : (xs ys : List ℕ) → encode_upper (xs ++ ys) ≡ encode_upper xs ++ encode_upper ys
unfolding encode_with
encode_append [] ys = refl
encode_append (x ∷ xs) ys =
    ap (λ l. get_or upper_digits (x / 16) 0 ∷ get_or upper_digits (x % 16) 0 ∷ l) (encode_append xs ys)

-- the other side of a choice
pub or_left : {A B : Type 0} → A ⊎ B → (A → ⊥) → B
or_left (inl a) h = absurd (h a)
or_left (inr b) h = b

-- no bytes have no digits
pub encode_none : encode_upper [] ≡ []
unfolding encode_with
encode_none = refl

-- no bytes are no n bytes
pub fixed_none : (n : ℕ) (o : Option (List ℕ)) → o ≡ None → fixed_in n o ≡ None
unfolding fixed_in
fixed_none n o e = ap (fixed_in n) e

-- n bytes are n bytes
pub fixed_some : (n : ℕ) (o : Option (List ℕ)) (bytes : List ℕ) → o ≡ Some bytes → length bytes ≡ n
    → fixed_in n o ≡ Some bytes
unfolding fixed_in
fixed_some n o bytes e h = ap (fixed_in n) e ∙ ap (λ b. cond b (Some bytes) None) (same (length bytes) n h)
  where
    same : (a b : ℕ) → a ≡ b → eqb a b ≡ true
    same a b h = grind (arith)

-- what was kept is what was read, and n bytes
pub fixed_is : (n : ℕ) (o : Option (List ℕ)) (bytes : List ℕ) → fixed_in n o ≡ Some bytes
    → (o ≡ Some bytes) × (length bytes ≡ n)
unfolding fixed_in
fixed_is n None bytes e = absurd cc
fixed_is n (Some xs) bytes e = let h = if_some (eqb (length xs) n) xs bytes e in
    (ap Some h.1, ap length (sym h.1) ∙ eqb-true _ _ h.0)

-- two digits a byte
encode_length : (bytes : List ℕ) → length (encode_upper bytes) ≡ 2 * length bytes
unfolding encode_with
encode_length [] = refl
encode_length (x ∷ xs) = let others = encode_length xs in omega (arith, others)

-- what two digits spell is one byte
pub one_by_two : (text bytes : List ℕ) → bytes_in text ≡ Some bytes → length text ≡ 2 → length bytes ≡ 1
one_by_two text bytes e two =
    let long = ap length (bytes_is text bytes e) in let twice = encode_length bytes in omega (arith, long, twice, two)

-- and what others spell isn't
pub two_by_one : (text bytes : List ℕ) → bytes_in text ≡ Some bytes → length bytes ≡ 1 → length text ≡ 2
two_by_one text bytes e one =
    let long = ap length (bytes_is text bytes e) in let twice = encode_length bytes in omega (arith, long, twice, one)

-- two digits that spell no byte spell nothing
pub nothing_by_two : (text : List ℕ) → length text ≡ 2 → fixed_in 1 (bytes_in text) ≡ None → bytes_in text ≡ None
nothing_by_two text two none = by (bytes_in text) refl none
  where
    by : (o : Option (List ℕ)) → bytes_in text ≡ o → fixed_in 1 o ≡ None → bytes_in text ≡ None
    by None e n = e
    by (Some bytes) e n =
        let kept = sym (fixed_some 1 (Some bytes) bytes refl (one_by_two text bytes e two)) ∙ n in absurd cc

-- ---- what hex decodes without lower-case letters is spelled in upper case

-- the digit at each of the first n places of the table
abbrev all_placed : ℕ → Bool
all_placed zero = true
all_placed (suc n) = eqb (get_or upper_digits n 0) (cond (nat_lt n 10) (n + 48) (n + 55)) && all_placed n

-- each place below n has its digit
placed_at : (n k : ℕ) → all_placed n ≡ true → k < n → get_or upper_digits k 0 ≡ cond (nat_lt k 10) (k + 48) (k + 55)
placed_at zero k h low = absurd (omega arith)
placed_at (suc n) k h low =
    let parts = and_parts (eqb (get_or upper_digits n 0) (cond (nat_lt n 10) (n + 48) (n + 55))) (all_placed n) h in
    elim (cases_lt k n) [
      | inl below ↦ placed_at n k parts.1 below
      | inr top ↦
          let e : k ≡ n = omega arith in
          rw e (eqb-true _ _ parts.0)
    ]

-- the digits 0 to 9
digit_is : (v : ℕ) → v < 10 → get_or upper_digits v 0 ≡ v + 48
digit_is v low = placed_at 16 v refl (omega arith) ∙ ap (λ b. cond b (v + 48) (v + 55)) (lt-ltb v 10 low)

-- the digits A to F
letter_is : (v : ℕ) → 10 ≤ v → v < 16 → get_or upper_digits v 0 ≡ v + 55
letter_is v high low = placed_at 16 v refl low ∙ ap (λ b. cond b (v + 48) (v + 55)) (le-ltb v 10 high)

-- a digit that is no lower-case letter stands in the table at its value
digit_by : (c v : ℕ) (p q r : Bool) → (nat_le 65 c && nat_le c 70) ≡ p → (nat_le 97 c && nat_le c 102) ≡ q
    → (nat_le 48 c && nat_le c 57) ≡ r
    → cond p (Some (c - 55)) (cond q (Some (c - 87)) (cond r (Some (c - 48)) None)) ≡ Some v → c < 97
    → (get_or upper_digits v 0 ≡ c) × (v < 16)
digit_by c v true q r hp hq hr e upper =
    let parts = and_parts (nat_le 65 c) (nat_le c 70) hp in
    let low : 65 ≤ c = leb-true 65 c parts.0 in
    let high : c ≤ 70 = leb-true c 70 parts.1 in
    let at : c - 55 ≡ v = cc in
    (letter_is v (omega arith) (omega arith) ∙ omega arith, omega arith)
digit_by c v false true r hp hq hr e upper =
    let parts = and_parts (nat_le 97 c) (nat_le c 102) hq in
    let low : 97 ≤ c = leb-true 97 c parts.0 in
    absurd (omega arith)
digit_by c v false false true hp hq hr e upper =
    let parts = and_parts (nat_le 48 c) (nat_le c 57) hr in
    let low : 48 ≤ c = leb-true 48 c parts.0 in
    let high : c ≤ 57 = leb-true c 57 parts.1 in
    let at : c - 48 ≡ v = cc in
    (digit_is v (omega arith) ∙ omega arith, omega arith)
digit_by c v false false false hp hq hr e upper = absurd cc

-- the same of the value of a digit
digit_at : (c v i : ℕ) → value_at c i ≡ Ok v → c < 97 → (get_or upper_digits v 0 ≡ c) × (v < 16)
digit_at c v i e upper = digit_by c v _ _ _ refl refl refl (by_value (hex_digit_value c) e) upper
  where
    by_value : (o : Option ℕ) → digit_or_error c i o ≡ Ok v → o ≡ Some v
    by_value (Some w) h = cc
    by_value None h = absurd cc

-- what an `Ok` after `>>=` shows
bind_ok : {A B : Type 0} (r : Result A FromHexError) (f : A → Result B FromHexError) (y : B)
    → (r >>= f) ≡ Ok y → (x : A) × (r ≡ Ok x) × (f x ≡ Ok y)
bind_ok (Ok x) f y h = (x, refl, h)
bind_ok (Err e) f y h = absurd cc

-- pairs of such digits are the spelling of what they decode to
spelled_pairs : (i : ℕ) (text bytes : List ℕ) → decode_pairs i text ≡ Ok bytes → AllByRecursion (λ c. c < 97) text
    → encode_upper bytes ≡ text
unfolding decode_pairs encode_with
spelled_pairs i [] bytes h upper = let e : [] ≡ bytes = cc in ap encode_upper (sym e)
spelled_pairs i (a ∷ []) bytes h upper = absurd cc
spelled_pairs i (a ∷ b ∷ rest) bytes h upper =
    let pair = bind_ok (pair_value a b i) _ bytes h in
    let high = bind_ok (value_at a i) _ pair.0 pair.1 in
    let low = bind_ok (value_at b (i + 1)) _ pair.0 high.2 in
    let others = bind_ok (decode_pairs (i + 2) rest) _ bytes pair.2 in
    let all : pair.0 ∷ others.0 ≡ bytes = cc in
    let byte : high.0 * 16 + low.0 ≡ pair.0 = cc in
    let first = digit_at a high.0 i high.1 upper.0 in
    let second = digit_at b low.0 (i + 1) low.1 upper.1.0 in
    let over : pair.0 / 16 ≡ high.0 = omega (arith, first.1, second.1) in
    let under : pair.0 % 16 ≡ low.0 = omega (arith, first.1, second.1) in
    ap encode_upper (sym all)
    ∙ ap (λ l. get_or upper_digits (pair.0 / 16) 0 ∷ get_or upper_digits (pair.0 % 16) 0 ∷ l)
    (spelled_pairs (i + 2) rest others.0 others.1 upper.1.1)
    ∙ ap (λ n. get_or upper_digits n 0 ∷ get_or upper_digits (pair.0 % 16) 0 ∷ rest) over
    ∙ ap (λ n. get_or upper_digits high.0 0 ∷ get_or upper_digits n 0 ∷ rest) under
    ∙ ap (λ c. c ∷ get_or upper_digits low.0 0 ∷ rest) first.0
    ∙ ap (λ c. a ∷ c ∷ rest) second.0

-- a test of all bytes as a fact of each
upper_by : (text : List ℕ) → list_all (λ c. nat_lt c 97) text ≡ true → AllByRecursion (λ c. c < 97) text
upper_by [] h = tt
upper_by (c ∷ cs) h = let parts = and_parts (nat_lt c 97) (list_all (λ c. nat_lt c 97) cs) h in
    (ltb-true c 97 parts.0, upper_by cs parts.1)

-- text without lower-case letters is read as it decodes
pub bytes_decoded : (text bytes : List ℕ) → list_all (λ c. nat_lt c 97) text ≡ true → decode_of text ≡ Ok bytes
    → bytes_in text ≡ Some bytes
bytes_decoded text bytes upper e =
    let ok = decode_of-ok text bytes e in
    let pairs : decode_pairs 0 text ≡ Ok bytes = sym (decode_of-even text ok.0) ∙ e in
    bytes_again text bytes ok.3 (sym (spelled_pairs 0 text bytes pairs (upper_by text upper)))

-- no digit is a lower-case letter
table_upper : (xs : List ℕ) (i : ℕ) → list_all (λ c. nat_lt c 97) xs ≡ true → nat_lt (get_or xs i 0) 97 ≡ true
table_upper [] i h = refl
table_upper (x ∷ xs) zero h = (and_parts (nat_lt x 97) (list_all (λ c. nat_lt c 97) xs) h).0
table_upper (x ∷ xs) (suc i) h = table_upper xs i (and_parts (nat_lt x 97) (list_all (λ c. nat_lt c 97) xs) h).1

-- so no spelling has one
encode_is_upper : (bytes : List ℕ) → list_all (λ c. nat_lt c 97) (encode_upper bytes) ≡ true
unfolding encode_with
encode_is_upper [] = refl
encode_is_upper (b ∷ bs) =
    rw (table_upper upper_digits (b / 16) refl, table_upper upper_digits (b % 16) refl) (encode_is_upper bs)

-- text with a lower-case letter is not read
pub bytes_lower : (text : List ℕ) → list_all (λ c. nat_lt c 97) text ≡ false → bytes_in text ≡ None
bytes_lower text lower = by_value (bytes_in text) refl
  where
    by_value : (o : Option (List ℕ)) → bytes_in text ≡ o → o ≡ None
    by_value None e = refl
    by_value (Some bytes) e =
        let yes : list_all (λ c. nat_lt c 97) text ≡ true = ap (list_all (λ c. nat_lt c 97)) (bytes_is text bytes e)
        ∙ encode_is_upper bytes in
        absurd cc

-- what is read decodes so
pub bytes_from : (text bytes : List ℕ) → bytes_in text ≡ Some bytes → decode_of text ≡ Ok bytes
unfolding bytes_in
bytes_from text bytes e = (upper_is text (decode_of text) bytes e).1

-- the same of a text for n bytes
pub fixed_decoded : (n : ℕ) (text bytes : List ℕ) → list_all (λ c. nat_lt c 97) text ≡ true
    → decode_sized text n ≡ Ok bytes → fixed_in n (bytes_in text) ≡ Some bytes
fixed_decoded n text bytes upper e =
    let long : length text ≡ 2 * n = decode_sized-ok text n bytes e in
    let decoded : decode_of text ≡ Ok bytes = sym (decode_sized-twice text n long) ∙ e in
    let ok = decode_of-ok text bytes decoded in
    fixed_some n (bytes_in text) bytes (bytes_decoded text bytes upper decoded) (omega (arith, ok.2))

-- text that does not decode to n bytes is not read
pub fixed_refused : (n : ℕ) (text : List ℕ) (f : FromHexError) → decode_sized text n ≡ Err f
    → fixed_in n (bytes_in text) ≡ None
fixed_refused n text f e = by_value (fixed_in n (bytes_in text)) refl
  where
    by_value : (o : Option (List ℕ)) → fixed_in n (bytes_in text) ≡ o → o ≡ None
    by_value None h = refl
    by_value (Some bytes) h =
        let is = fixed_is n (bytes_in text) bytes h in
        let decoded = bytes_from text bytes is.0 in
        let ok = decode_of-ok text bytes decoded in
        let long : length text ≡ 2 * n = omega (arith, ok.2, is.1) in
        absurd (cc (sym e ∙ decode_sized-twice text n long ∙ decoded))

-- nor is text with a lower-case letter
pub fixed_lower : (n : ℕ) (text : List ℕ) → list_all (λ c. nat_lt c 97) text ≡ false → fixed_in n (bytes_in text) ≡ None
fixed_lower n text lower = fixed_none n (bytes_in text) (bytes_lower text lower)

-- ---- what the readers promise

-- both laws together
pub bytes_law : (text : List ℕ) → IsSpelling IsBytes encode_upper text (bytes_in text)
bytes_law text = (bytes_is text, bytes_again text)

-- both laws of n bytes
pub fixed_law : (n : ℕ) (text : List ℕ)
    → IsSpelling (λ bytes. IsBytes bytes × (length bytes ≡ n)) encode_upper text (fixed_in n (bytes_in text))
fixed_law n text = (
  λ bytes e. bytes_is text bytes (fixed_is n (bytes_in text) bytes e).0,
  λ bytes fits e. fixed_some n (bytes_in text) bytes (bytes_again text bytes fits.0 e) fits.1,
)
