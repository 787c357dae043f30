-- The two laws of numbers: what is read is spelled so, and what is spelled so is read.
use Rattle.std.proofs.Common.{◌≡◌, ℕ, ◌^◌, ◌<◌, ◌≤◌, Bool, true, false, cond, List, [], ◌∷◌, None, Some, refl, sym, ap}
use Rattle.std.proofs.Common.{◌∙◌, ◌+◌, ◌*◌, subst, arith, zero, suc, length, get_or, take}
use borrow.Author.Count.{below_more}
use Rattle.std.proofs.lemmas.List.{take_all}
use Rattle.std.proofs.lemmas.Int.Digits.{digits_value_more}
use Rattle.std.proofs.lemmas.Str.Parse.{digits_value-take-le, numerals_by_value, tells_digits}
use Rattle.std.specs.Prelude.{Option, Result, Ok, Err, IfSome, nat_lt, ◌&&◌, decimal}
use Rattle.std.specs.Result.{OkIff, result_ok}
use Rattle.std.specs.Str.{bytes_eq}
use Rattle.std.specs.Str.Parse.{digits_value, AllDigits}
use Rattle.std.specs.Char.{digit_value}
use Rattle.std.specs.List.{AllByRecursion}
use Rattle.std.proofs.Math.Dec.{eqb}
use Rattle.std.proofs.lemmas.Bool.{eqb-true}
use Rattle.std.proofs.lemmas.Fmt.{decimal-digits_value, decimal_digit, decimal_is_IsNumeral, decimal_nonempty}
use Rattle.std.proofs.lemmas.Fmt.{first_decimal}
use Rattle.std.specs.Option.{SomeIff}
use Rattle.std.proofs.lemmas.Slice.Eq.{bytes_eq-Decides}
use Rattle.std.proofs.lemmas.Bool.{ltb-true, lt-ltb}
use Rattle.plain_lemmas.proofs.Lists.{bytes_eq_true}
use Rattle.line_text.specs.Number.{number_in}

-- a list of bytes is equal to itself
pub bytes_eq_refl : (xs : List ℕ) → bytes_eq xs xs ≡ true
bytes_eq_refl xs = (bytes_eq-Decides xs xs).1 refl

-- a value under two tests that hold
both : (a b : Bool) (m n : ℕ) → a ≡ true → b ≡ true → m ≡ n → cond (a && b) (Some m) None ≡ Some n
both true true m n p q e = ap Some e
both true false m n p q e = absurd cc
both false b m n p q e = absurd cc

-- two tests of a value that was found
chosen : (a b : Bool) (n m : ℕ) → cond (a && b) (Some n) None ≡ Some m → (a ≡ true) × (b ≡ true) × (n ≡ m)
chosen true true n m e = (refl, refl, cc)
chosen true false n m e = absurd cc
chosen false b n m e = absurd cc

-- what is spelled so is read
pub number_some : (k n : ℕ) (bs : List ℕ) → n < 2 ^ k → n < 2 ^ 64 → bs ≡ decimal n → number_in k bs ≡ Some n
unfolding number_in
number_some k n bs small fits e =
    let value : digits_value 10 bs ≡ n = ap (digits_value 10) e ∙ (decimal_is_IsNumeral n fits).1 in
    let whole : bytes_eq (decimal (digits_value 10 bs)) bs ≡ true =
    (bytes_eq-Decides _ _).1 (ap decimal value ∙ sym e) in
    let low : nat_lt (digits_value 10 bs) (2 ^ k) ≡ true = ap (λ m. nat_lt m (2 ^ k)) value ∙ lt-ltb n (2 ^ k) small in
    both _ _ _ n whole low value

-- what is read is spelled so
pub number_is : (k n : ℕ) (bs : List ℕ) → number_in k bs ≡ Some n → (bs ≡ decimal n) × (n < 2 ^ k)
unfolding number_in
number_is k n bs e =
    let h = chosen (bytes_eq (decimal (digits_value 10 bs)) bs) (nat_lt (digits_value 10 bs) (2 ^ k))
    (digits_value 10 bs) n e in
    (sym (bytes_eq_true _ _ h.0) ∙ ap decimal h.2, subst (λ m. m < 2 ^ k) h.2 (ltb-true _ _ h.1))

-- what is no value is none
none_or_some : (o : Option ℕ) → ((n : ℕ) → o ≡ Some n → ⊥) → o ≡ None
none_or_some None h = refl
none_or_some (Some n) h = absurd (h n refl)

-- a word that spells no number is not read
pub number_none : (k : ℕ) (bs : List ℕ) → ((n : ℕ) → n < 2 ^ k → bs ≡ decimal n → ⊥) → number_in k bs ≡ None
number_none k bs h = none_or_some (number_in k bs) (λ n e. let x = number_is k n bs e in h n x.1 x.0)

-- a number has one spelling
pub decimal_one : (a b : ℕ) → a < 2 ^ 64 → b < 2 ^ 64 → decimal a ≡ decimal b → a ≡ b
decimal_one a b low high e =
    sym (decimal_is_IsNumeral a low).1 ∙ ap (digits_value 10) e ∙ (decimal_is_IsNumeral b high).1

-- what a reader of numbers below 2 ^ bits promises, from the value that it answers
pub number_spelled : (k : ℕ) (word : List ℕ) (r : Option ℕ) → 2 ^ k ≤ 2 ^ 64 → r ≡ number_in k word
    → record {
      value : r ≡ number_in k word;
      found : IfSome r (λ n. word ≡ decimal n);
      only : (n : ℕ) → n < 2 ^ k → word ≡ decimal n → r ≡ Some n;
    }
number_spelled k word None few e =
    record { value = e; found = tt; only = λ n small h. e ∙ number_some k n word small (omega arith) h }
number_spelled k word (Some n) few e =
    record {
      value = e;
      found = (number_is k n word (sym e)).0;
      only = λ n small h. e ∙ number_some k n word small (omega arith) h;
    }

-- a number below 2 ^ 64 that is read is read within fewer bits where it fits, and only there
pub number_within : (k n : ℕ) (word : List ℕ) → 2 ^ k ≤ 2 ^ 64 → number_in 64 word ≡ Some n → n < 2 ^ k
    → number_in k word ≡ Some n
number_within k n word few e small = number_some k n word small (omega arith) (number_is 64 n word e).0

-- one that does not fit is not
pub number_beyond : (k n : ℕ) (word : List ℕ) → 2 ^ k ≤ 2 ^ 64 → number_in 64 word ≡ Some n → 2 ^ k ≤ n
    → number_in k word ≡ None
number_beyond k n word few e large =
    let is = number_is 64 n word e in
    number_none k word (λ m small h. let same : m ≡ n = decimal_one m n (omega arith) is.1 (sym h ∙ is.0) in
    omega arith)

-- nor is a word that spells no number at all
pub number_nowhere : (k : ℕ) (word : List ℕ) → 2 ^ k ≤ 2 ^ 64 → number_in 64 word ≡ None → number_in k word ≡ None
number_nowhere k word few e =
    number_none k word (λ n small h. let read = number_some 64 n word (omega arith) (omega arith) h in absurd cc)

-- the same of a number that is narrowed
pub number_narrowed : {E : Type 0} (k n : ℕ) (word : List ℕ) (r : Result ℕ E) → 2 ^ k ≤ 2 ^ 64
    → Some n ≡ number_in 64 word → OkIff r (n < 2 ^ k) n → result_ok r ≡ number_in k word
number_narrowed k n word (Ok m) few e h = ap Some h.1 ∙ sym (number_within k n word few (sym e) h.0)
number_narrowed k n word (Err f) few e h = sym (number_beyond k n word few (sym e) (not_below n (2 ^ k) h))
  where
    not_below : (a b : ℕ) → (a < b → ⊥) → b ≤ a
    not_below a b h = omega arith

-- a digit is no space
digit_spaceless : (c : ℕ) (b : Bool) → eqb c 32 ≡ b → digit_value c < 10 → b ≡ false
digit_spaceless c true e h = let bad : digit_value 32 < 10 = subst (λ x. digit_value x < 10) (eqb-true c 32 e) h in
    absurd (omega arith)
digit_spaceless c false e h = refl

-- digits have no space in them
digits_spaceless : (cs : List ℕ) → AllDigits 10 cs → AllByRecursion (λ x. eqb x 32 ≡ false) cs
digits_spaceless [] h = tt
digits_spaceless (c ∷ cs) h = (digit_spaceless c (eqb c 32) refl h.0, digits_spaceless cs h.1)

-- nor has a number
pub decimal_spaceless : (n : ℕ) → n < 2 ^ 64 → AllByRecursion (λ x. eqb x 32 ≡ false) (decimal n)
decimal_spaceless n fits = digits_spaceless (decimal n) (decimal_is_IsNumeral n fits).0.1

-- ---- digits added up

-- each is a digit
pub digits_by_index : (cs : List ℕ) → ((k : ℕ) → k < length cs → digit_value (get_or cs k 0) < 10) → AllDigits 10 cs
digits_by_index [] h = tt
digits_by_index (c ∷ cs) h = (h 0 (omega arith), digits_by_index cs (λ k l. h (suc k) (omega (arith, l))))

pub digit_of : (cs : List ℕ) → AllDigits 10 cs → (k : ℕ) → k < length cs → digit_value (get_or cs k 0) < 10
digit_of [] h k l = absurd (omega (arith, l))
digit_of (c ∷ cs) h zero l = h.0
digit_of (c ∷ cs) h (suc k) l = digit_of cs h.1 k (omega (arith, l))

-- those up to here are digits whose number is n
pub record AddedUp (word : List ℕ) (i n : ℕ) : Type 0 where
  pub digits : (k : ℕ) → k < i → digit_value (get_or word k 0) < 10
  pub value : n ≡ digits_value 10 (take i word)
  pub fits : n < 18446744073709551616

pub one_more_digit : (word : List ℕ) (i n m : ℕ) → i < length word → AddedUp word i n
    → digit_value (get_or word i 0) < 10 → n * 10 + digit_value (get_or word i 0) < 18446744073709551616
    → m ≡ n * 10 + digit_value (get_or word i 0) → AddedUp word (i + 1) m
one_more_digit word i n m l a d f e = record {
  digits = below_more (λ k. digit_value (get_or word k 0) < 10) i a.digits d;
  value = e ∙ ap (λ v. v * 10 + digit_value (get_or word i 0)) a.value ∙ sym (digits_value_more 10 word i l);
  fits = omega (arith, e, f);
}

pub all_digits : (word : List ℕ) (i n : ℕ) → length word ≤ i → AddedUp word i n
    → (AllDigits 10 word × (digits_value 10 word < 18446744073709551616)) × (n ≡ digits_value 10 word)
all_digits word i n l a =
    let value : n ≡ digits_value 10 word = a.value ∙ ap (digits_value 10) (take_all i word l) in (
      (
        digits_by_index word (λ k m. a.digits k (omega (arith, l, m))),
        subst (λ v. v < 18446744073709551616) value a.fits,
      ),
      value,
    )

pub no_digit : (word : List ℕ) (i n : ℕ) → i < length word → AddedUp word i n
    → ((digit_value (get_or word i 0) < 10) × (n * 10 + digit_value (get_or word i 0) < 18446744073709551616) → ⊥)
    → AllDigits 10 word × (digits_value 10 word < 18446744073709551616) → ⊥
no_digit word i n l a refused all =
    let more = digits_value_more 10 word i l in
    let some = digits_value-take-le 10 word (i + 1) (omega arith) in
    refused (
      digit_of word all.0 i l,
      omega (arith, all.1, some, more, ap (λ v. v * 10) a.value),
    )

-- no number is spelled by no digit
pub no_word : (word : List ℕ) → length word ≤ 0 → number_in 64 word ≡ None
no_word word l = number_none 64 word (λ n small e. omega (arith, l, ap length e, decimal_nonempty n small))

-- nor by more that begin with 0
pub zero_first : (word : List ℕ) → get_or word 0 0 ≡ 48 → 1 < length word → number_in 64 word ≡ None
zero_first word z l = number_none 64 word spelled
  where
    spelled : (n : ℕ) → n < 2 ^ 64 → word ≡ decimal n → ⊥
    spelled zero small e = omega (arith, l, ap length (e ∙ decimal_digit 0 (omega arith)))
    spelled (suc n) small e =
        omega (arith, z, ap (λ w. get_or w 0 0) e, first_decimal (suc n) (omega arith) small)

-- else its digits added up are the number
pub number_added : (word : List ℕ) (r : Option ℕ) → 0 < length word → (get_or word 0 0 ≡ 48 → length word ≡ 1)
    → SomeIff r (AllDigits 10 word × (digits_value 10 word < 18446744073709551616)) (digits_value 10 word)
    → r ≡ number_in 64 word
number_added word (Some n) some lead h =
    let fits : n < 2 ^ 64 = omega (arith, h.0.1, h.1) in
    sym (number_some 64 n word fits fits
    (sym (decimal-digits_value (numerals_by_value (AllDigits 10) tells_digits) word h.0.0 some lead h.0.1)
    ∙ ap decimal (sym h.1)))
number_added word None some lead h = sym (number_none 64 word (λ n small e.
    let is = decimal_is_IsNumeral n small in
    h (subst (AllDigits 10) (sym e) is.0.1, omega (arith, small, ap (digits_value 10) e, is.1))))
