-- The words of statuses and verdicts: what is read is spelled so, and what is spelled so is read.
use Rattle.std.proofs.Common.{◌≡◌, ℕ, zero, suc, ◌+◌, ◌-◌, ◌<◌, Bool, true, false, cond, List, [], ◌∷◌, length, get_or}
use Rattle.std.proofs.Common.{None, Some, refl, ap, ◌∙◌, arith}
use Rattle.std.specs.Prelude.{Option, codes, nat_lt, ◌&&◌}
use Rattle.std.specs.List.{AllByRecursion}
use Rattle.std.specs.Str.{bytes_eq}
use Rattle.std.proofs.Math.Dec.{eqb}
use Rattle.std.proofs.lemmas.Bool.{eqb-true, ltb-true, lt-ltb}
use Rattle.plain_lemmas.proofs.Lists.{bytes_eq_true}
use Rattle.hex.specs.Hex.{encode_upper, IsBytes}
use Rattle.line_text.specs.Digits.{bytes_in, fixed_in}
use Rattle.line_text.specs.Words.{Without}
use Rattle.line_text.proofs.HexLaws.{bytes_is, bytes_again, fixed_is, fixed_some}
use Rattle.line_text.proofs.WordLaws.{upper_without}
use Rattle.nvme_model.specs.Statuses.{status}
use Rattle.nvme_model.specs.declared.status.Status.{Status}
use Rattle.nvme_model.specs.declared.status.Verdict.{Verdict}
use Rattle.history.specs.StatusWord.{status_word, status_from, status_in, verdict_words, single_failed, pair_failed}
use Rattle.history.specs.StatusWord.{short_verdict_in, verdict_in}
use Rattle.history.specs.Lines.{HasStatus, HasVerdictWord}

-- a test that let an answer through held
pub chosen : {A : Type 0} (b : Bool) (o : Option A) (x : A) → cond b o None ≡ Some x → (b ≡ true) × (o ≡ Some x)
chosen true o x h = (refl, h)
chosen false o x h = absurd cc

-- ---- a status

-- the digit of a type, and a `/`
digit_is : (d s : ℕ) → (nat_lt 47 d && nat_lt d 56 && (eqb s 47)) ≡ true → (47 < d) × (d < 56) × (s ≡ 47)
digit_is d s h = grind (arith, ltb-true, eqb-true)

-- the parts of a status that is read
status_parts : (sct : ℕ) (o : Option (List ℕ)) (s : Status) → status_from sct o ≡ Some s
    → (code : List ℕ) × (o ≡ Some code) × (status sct (get_or code 0 0) ≡ s)
status_parts sct None s h = absurd cc
status_parts sct (Some code) s h = (code, refl, cc)

-- a list of one byte
singleton : (xs : List ℕ) → length xs ≡ 1 → xs ≡ get_or xs 0 0 ∷ []
singleton [] h = absurd (omega arith)
singleton (x ∷ []) h = refl
singleton (x ∷ y ∷ xs) h = absurd (omega arith)

-- a status that is read is spelled so
pub status_is : (word : List ℕ) (s : Status) → status_in word ≡ Some s → word ≡ status_word s
unfolding status_in
status_is [] s h = absurd cc
status_is (d ∷ []) s h = absurd cc
status_is (d ∷ slash ∷ code) s h =
    let p = chosen (nat_lt 47 d && nat_lt d 56 && (eqb slash 47)) (status_from (d - 48) (fixed_in 1 (bytes_in code))) s
    h in
    let t = digit_is d slash p.0 in
    let q = status_parts (d - 48) (fixed_in 1 (bytes_in code)) s p.1 in
    let f = fixed_is 1 (bytes_in code) q.0 q.1 in
    let digit : d ≡ 48 + (d - 48) = omega arith in
    ap (λ n. n ∷ slash ∷ code) digit
    ∙ ap (λ n. (48 + (d - 48)) ∷ n ∷ code) t.2
    ∙ ap (λ l. (48 + (d - 48)) ∷ 47 ∷ l) (bytes_is code q.0 f.0 ∙ ap encode_upper (singleton q.0 f.1))
    ∙ ap status_word q.2

-- one byte is bytes
one_byte : (x : ℕ) → x < 256 → IsBytes (x ∷ [])
one_byte x h zero = h
one_byte x h (suc i) = omega arith

-- the digit of a type passes its test
digit_again : (n : ℕ) → n < 8 → (nat_lt 47 (48 + n) && nat_lt (48 + n) 56 && (eqb 47 47)) ≡ true
digit_again n h = let low : 47 < 48 + n = omega arith in let high : 48 + n < 56 = omega arith in
    rw (lt-ltb 47 (48 + n) low, lt-ltb (48 + n) 56 high) refl

-- the word of a status is read as that status
pub status_again : (s : Status) → HasStatus s → status_in (status_word s) ≡ Some s
unfolding status_in
status_again s is =
    let code : List ℕ = s.sc ∷ [] in
    let read = fixed_some 1 (bytes_in (encode_upper code)) code
    (bytes_again (encode_upper code) code (one_byte s.sc is.1) refl) refl in
    let back : 48 + s.sct - 48 ≡ s.sct = omega arith in
    ap (λ b. cond b (status_from (48 + s.sct - 48) (fixed_in 1 (bytes_in (encode_upper code)))) None)
    (digit_again s.sct is.0)
    ∙ ap (status_from (48 + s.sct - 48)) read
    ∙ ap (λ n. Some (status n s.sc)) back

-- no digit is a space
digit_spaceless : (n : ℕ) → eqb (48 + n) 32 ≡ false
digit_spaceless n = grind arith

-- nor has the word of a status one
pub status_spaceless : (s : Status) → Without 32 (status_word s)
status_spaceless s = (digit_spaceless s.sct, (refl, upper_without 32 (s.sc ∷ []) refl))

-- ---- a verdict

-- a slash is no letter
no_letter : (x : ℕ) → x ≡ 47 → x ≡ 107 → ⊥
no_letter x e h = omega arith

-- no status is spelled `ok`
not_ok : (s : Status) → bytes_eq (status_word s) (codes "ok") ≡ false
not_ok s = by (bytes_eq (status_word s) (codes "ok")) refl
  where
    by : (b : Bool) → bytes_eq (status_word s) (codes "ok") ≡ b → b ≡ false
    by true h = absurd (no_letter (get_or (status_word s) 1 0) refl
        (ap (λ (l : List ℕ). get_or l 1 0) (bytes_eq_true (status_word s) (codes "ok") h)))
    by false h = refl

-- the status of a command that failed
single_parts : (o : Option Status) (v : Verdict) → single_failed o ≡ Some v
    → (s : Status) × (o ≡ Some s) × (Verdict.SingleFailed s ≡ v)
single_parts None v h = absurd cc
single_parts (Some s) v h = (s, refl, cc)

-- the statuses of a pair that failed
pair_parts : (o p : Option Status) (v : Verdict) → pair_failed o p ≡ Some v
    → (s : Status) × (r : Status) × (o ≡ Some s) × (p ≡ Some r) × (Verdict.PairFailed s r ≡ v)
pair_parts None p v h = absurd cc
pair_parts (Some s) None v h = absurd cc
pair_parts (Some s) (Some r) v h = (s, r, refl, refl, cc)

-- a verdict of two words that is read is spelled so
short_is : (count word : List ℕ) (v : Verdict) → short_verdict_in count word ≡ Some v
    → count ∷ word ∷ [] ≡ verdict_words v
unfolding short_verdict_in
short_is count word v h =
    by (bytes_eq count (codes "1")) (bytes_eq word (codes "ok")) (bytes_eq count (codes "2")) refl refl refl h
  where
    by : (p q r : Bool) → bytes_eq count (codes "1") ≡ p → bytes_eq word (codes "ok") ≡ q
        → bytes_eq count (codes "2") ≡ r
        → cond p (cond q (Some Verdict.Single) (single_failed (status_in word)))
        (cond (r && q) (Some Verdict.Pair) None) ≡ Some v → count ∷ word ∷ [] ≡ verdict_words v
    by true true r x y z h =
        let same : Verdict.Single ≡ v = cc in
        ap (λ w. w ∷ word ∷ []) (bytes_eq_true count (codes "1") x)
        ∙ ap (λ w. codes "1" ∷ w ∷ []) (bytes_eq_true word (codes "ok") y) ∙ ap verdict_words same
    by true false r x y z h =
        let p = single_parts (status_in word) v h in
        ap (λ w. w ∷ word ∷ []) (bytes_eq_true count (codes "1") x)
        ∙ ap (λ w. codes "1" ∷ w ∷ []) (status_is word p.0 p.1) ∙ ap verdict_words p.2
    by false true true x y z h =
        let same : Verdict.Pair ≡ v = cc in
        ap (λ w. w ∷ word ∷ []) (bytes_eq_true count (codes "2") z)
        ∙ ap (λ w. codes "2" ∷ w ∷ []) (bytes_eq_true word (codes "ok") y) ∙ ap verdict_words same
    by false true false x y z h = absurd cc
    by false false true x y z h = absurd cc
    by false false false x y z h = absurd cc

-- a verdict that is read is spelled so
pub verdict_are : (words : List (List ℕ)) (v : Verdict) → verdict_in words ≡ Some v → words ≡ verdict_words v
unfolding verdict_in
verdict_are [] v h = absurd cc
verdict_are (a ∷ []) v h = absurd cc
verdict_are (a ∷ b ∷ []) v h = short_is a b v h
verdict_are (a ∷ b ∷ c ∷ []) v h =
    let p = chosen (bytes_eq a (codes "2")) (pair_failed (status_in b) (status_in c)) v h in
    let q = pair_parts (status_in b) (status_in c) v p.1 in
    ap (λ w. w ∷ b ∷ c ∷ []) (bytes_eq_true a (codes "2") p.0)
    ∙ ap (λ w. codes "2" ∷ w ∷ c ∷ []) (status_is b q.0 q.2)
    ∙ ap (λ w. codes "2" ∷ status_word q.0 ∷ w ∷ []) (status_is c q.1 q.3)
    ∙ ap verdict_words q.4
verdict_are (a ∷ b ∷ c ∷ d ∷ words) v h = absurd cc

-- the words of a verdict are read as that verdict
pub verdict_again : (v : Verdict) → HasVerdictWord v → verdict_in (verdict_words v) ≡ Some v
unfolding verdict_in short_verdict_in
verdict_again Verdict.Single is = refl
verdict_again (Verdict.SingleFailed s) is =
    ap (λ b. cond b (Some Verdict.Single) (single_failed (status_in (status_word s)))) (not_ok s)
    ∙ ap single_failed (status_again s is)
verdict_again Verdict.Pair is = refl
verdict_again (Verdict.PairFailed s r) is =
    ap (λ o. pair_failed o (status_in (status_word r))) (status_again s is.0)
    ∙ ap (pair_failed (Some s)) (status_again r is.1)

-- none of them has a space
pub verdict_spaceless : (v : Verdict) → AllByRecursion (Without 32) (verdict_words v)
verdict_spaceless Verdict.Single = ((refl, tt), ((refl, (refl, tt)), tt))
verdict_spaceless (Verdict.SingleFailed s) = ((refl, tt), (status_spaceless s, tt))
verdict_spaceless Verdict.Pair = ((refl, tt), ((refl, (refl, tt)), tt))
verdict_spaceless (Verdict.PairFailed s r) = ((refl, tt), (status_spaceless s, (status_spaceless r, tt)))
