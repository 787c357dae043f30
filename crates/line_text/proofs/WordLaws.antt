-- Words between separators, and what no word has in it.
use Rattle.std.proofs.Common.{◌≡◌, ℕ, zero, suc, ◌+◌, ◌/◌, ◌%◌, ◌<◌, ◌≤◌, Bool, true, false, cond, List, [], ◌∷◌, ◌++◌}
use Rattle.std.proofs.Common.{map, drop, drop-cons, length, get_or, refl, subst, sym, take, take-append-drop}
use Rattle.std.proofs.Common.{take_all, ap, ◌∙◌, arith}
use Rattle.std.proofs.Common.{◌-◌, length-drop}
use Rattle.memchr.specs.Find.{NoneBefore, Nowhere}
use Rattle.std.specs.Prelude.{nat_lt, ◌&&◌, ◌||◌}
use Rattle.std.specs.List.{list_all, slice_split, onto_first, join_with_byte, AllByRecursion}
use Rattle.std.proofs.Math.Dec.{eqb}
use Rattle.std.proofs.lemmas.List.Splits.{slice_split_none, slice_split_at}
use Rattle.std.proofs.lemmas.List.{append-nil, append_assoc, drop-drop, drop_more, drop_all, get_or-map, length-map}
use Rattle.std.proofs.lemmas.List.{map-append}
use Rattle.std.proofs.lemmas.List.Elements.{All-from_recursion}
use Rattle.hex.specs.Hex.{encode_upper, encode_with, upper_digits}
use Rattle.line_text.specs.Words.{behind, Without}

-- words that don't have the separator in them are what their join splits into
pub words_again : (c : ℕ) (word : List ℕ) (words : List (List ℕ)) → Without c word → AllByRecursion (Without c) words
    → slice_split (λ b. eqb b c) (join_with_byte c (word ∷ words)) ≡ word ∷ words
words_again c word [] p ps = slice_split_none (λ b. eqb b c) word (All-from_recursion (λ x. eqb x c ≡ false) word p)
words_again c word (next ∷ words) p ps =
    slice_split_at (λ b. eqb b c) word c (join_with_byte c (next ∷ words))
    (All-from_recursion (λ x. eqb x c ≡ false) word p) (same c)
    ∙ ap (λ l. word ∷ l) (words_again c next words ps.0 ps.1)
  where
    same : (n : ℕ) → eqb n n ≡ true
    same n = grind (arith)

-- no separator before place n
lacks_take : (c : ℕ) (xs : List ℕ) (n : ℕ) → ((k : ℕ) → k < n → eqb (get_or xs k 0) c ≡ true → ⊥)
    → Without c (take n xs)
lacks_take c xs zero h = tt
lacks_take c [] (suc n) h = tt
lacks_take c (x ∷ xs) (suc n) h =
    (not_true (eqb x c) (h 0 (omega arith)), lacks_take c xs n (λ k lt. h (suc k) (omega (arith, lt))))
  where
    not_true : (b : Bool) → (b ≡ true → ⊥) → b ≡ false
    not_true true h = absurd (h refl)
    not_true false h = refl

-- the word before the first separator, and then the others
pub split_first : (c : ℕ) (line front next : List ℕ) (at : ℕ)
    → NoneBefore (λ k. eqb (get_or line k 0) c ≡ true) 0 (length line) at → eqb (get_or line at 0) c ≡ true
    → front ≡ take at line → next ≡ drop (at + 1) line
    → slice_split (λ b. eqb b c) line ≡ front ∷ slice_split (λ b. eqb b c) next
split_first c line front next at none here e f =
    let room : at < length line = none.high in
    let place : suc at ≡ at + 1 = omega arith in
    let after : drop (suc at) line ≡ next = ap (λ n. drop n line) place ∙ sym f in
    let all : line ≡ front ++ get_or line at 0 ∷ next = sym (take-append-drop at line)
    ∙ ap (λ l. l ++ drop at line) (sym e)
    ∙ ap (λ l. front ++ l) (drop-cons line at 0 room ∙ ap (λ l. get_or line at 0 ∷ l) after) in
    let lacks : Without c front =
    subst (Without c) (sym e) (lacks_take c line at (λ k lt same. none.before k (omega arith) lt same)) in
    ap (slice_split (λ b. eqb b c)) all
    ∙ slice_split_at (λ b. eqb b c) front (get_or line at 0) next
    (All-from_recursion (λ x. eqb x c ≡ false) front lacks)
    here

-- one word
pub split_last : (c : ℕ) (line : List ℕ) → Nowhere (λ k. eqb (get_or line k 0) c ≡ true) 0 (length line)
    → slice_split (λ b. eqb b c) line ≡ line ∷ []
split_last c line none =
    let whole : take (length line) line ≡ line = take_all (length line) line (omega arith) in
    slice_split_none (λ b. eqb b c) line
    (All-from_recursion (λ x. eqb x c ≡ false) line
    (subst (Without c) whole (lacks_take c line (length line) (λ k lt same. none k (omega arith) lt same))))

-- what stands behind the separator
pub next_is : (rest back next : List ℕ) (at : ℕ) → back ≡ drop at rest → next ≡ take (length back - 1) (drop 1 back)
    → next ≡ drop (at + 1) rest
next_is rest back next at b e =
    e ∙ take_all (length back - 1) (drop 1 back) (omega (arith, length-drop 1 back)) ∙ ap (drop 1) b
    ∙ drop-drop 1 at rest ∙ ap (λ n. drop n rest) (omega arith)

module _ {X : Type 0} (f : X → List ℕ) (split : List ℕ → List (List ℕ)) where
  -- one word more
  pub word_more : (xs ys : List X) (w : X) (rest next : List ℕ) (all : List (List ℕ)) → ys ≡ xs ++ w ∷ []
      → split rest ≡ f w ∷ split next → map f xs ++ split rest ≡ all → map f ys ++ split next ≡ all
  word_more xs ys w rest next all e s h =
      ap (λ l. map f l ++ split next) e ∙ ap (λ l. l ++ split next) (map-append f xs (w ∷ []))
      ∙ append_assoc (map f xs) (f w ∷ []) (split next) ∙ ap (λ l. map f xs ++ l) (sym s) ∙ h

  -- and the last one
  pub word_last : (xs ys : List X) (w : X) (rest : List ℕ) (all : List (List ℕ)) → ys ≡ xs ++ w ∷ []
      → split rest ≡ f w ∷ [] → map f xs ++ split rest ≡ all → map f ys ≡ all
  word_last xs ys w rest all e s h =
      ap (map f) e ∙ map-append f xs (w ∷ []) ∙ ap (λ l. map f xs ++ l) (sym s) ∙ h

-- one more byte in front of the first part
onto_first_without : (c x : ℕ) (parts : List (List ℕ)) → eqb x c ≡ false → AllByRecursion (Without c) parts
    → AllByRecursion (Without c) (onto_first x parts)
onto_first_without c x [] e h = ((e, tt), tt)
onto_first_without c x (part ∷ parts) e h = ((e, h.0), h.1)

-- no part of a split has the separator in it
pub split_without : (c : ℕ) (line : List ℕ) → AllByRecursion (Without c) (slice_split (λ b. eqb b c) line)
split_without c [] = (tt, tt)
split_without c (x ∷ xs) = by_test (eqb x c) refl (split_without c xs)
  where
    by_test : (t : Bool) → eqb x c ≡ t → AllByRecursion (Without c) (slice_split (λ b. eqb b c) xs)
        → AllByRecursion (Without c)
        (cond t ([] ∷ slice_split (λ b. eqb b c) xs) (onto_first x (slice_split (λ b. eqb b c) xs)))
    by_test true e others = (tt, others)
    by_test false e others = onto_first_without c x (slice_split (λ b. eqb b c) xs) e others

-- a digit, or the 0 that stands past the end of a table
abbrev pub plain : ℕ → Bool
plain x = eqb x 0 || (nat_lt 47 x && nat_lt x 71)

-- so is each place of a table of such
get_plain : (xs : List ℕ) (i : ℕ) → list_all plain xs ≡ true → plain (get_or xs i 0) ≡ true
get_plain [] i h = refl
get_plain (x ∷ xs) zero h = (both_true (plain x) (list_all plain xs) h).0
  where
    both_true : (a b : Bool) → (a && b) ≡ true → (a ≡ true) × (b ≡ true)
    both_true true b h = (refl, h)
    both_true false b h = absurd cc
get_plain (x ∷ xs) (suc i) h = get_plain xs i (both_true (plain x) (list_all plain xs) h).1
  where
    both_true : (a b : Bool) → (a && b) ≡ true → (a ≡ true) × (b ≡ true)
    both_true true b h = (refl, h)
    both_true false b h = absurd cc

-- a digit is no byte that is none
pub plain_isnt : (c x : ℕ) → plain c ≡ false → plain x ≡ true → eqb x c ≡ false
plain_isnt c x p q = grind (arith, plain)

-- digits have no separator in them
pub upper_without : (c : ℕ) (bytes : List ℕ) → plain c ≡ false → Without c (encode_upper bytes)
unfolding encode_with
upper_without c [] p = tt
upper_without c (x ∷ xs) p = (
  plain_isnt c _ p (get_plain upper_digits (x / 16) refl),
  (plain_isnt c _ p (get_plain upper_digits (x % 16) refl), upper_without c xs p),
)

-- and a digit of the table is one
pub digit_plain : (i : ℕ) → plain (get_or upper_digits i 0) ≡ true
digit_plain i = get_plain upper_digits i refl

-- what a join begins with
pub join_front : (c d : ℕ) (word : List ℕ) (words : List (List ℕ))
    → (rest : List ℕ) × (join_with_byte c ((d ∷ word) ∷ words) ≡ d ∷ rest)
join_front c d word [] = (word, refl)
join_front c d word (next ∷ words) = (word ++ (c ∷ join_with_byte c (next ∷ words)), refl)

-- the first word, and then the others behind the separator
pub join_behind : (c : ℕ) (w : List ℕ) (ws : List (List ℕ)) → join_with_byte c (w ∷ ws) ≡ w ++ behind c ws
unfolding behind
join_behind c w [] = sym (append-nil w)
join_behind c w (v ∷ vs) = ap (λ l. w ++ (c ∷ l)) (join_behind c v vs)

-- no words
pub behind_none : (c : ℕ) → behind c [] ≡ []
unfolding behind
behind_none c = refl

-- the word at place i
pub behind_next : {X : Type 0} (f : X → List ℕ) (c : ℕ) (xs : List X) (i : ℕ) (d : X) → i < length xs
    → behind c (drop i (map f xs)) ≡ (c ∷ f (get_or xs i d)) ++ behind c (drop (i + 1) (map f xs))
unfolding behind
behind_next f c xs i d low =
    ap (behind c) (drop_more (map f xs) i (f d) (omega (arith, length-map xs f))
    ∙ ap (λ t. t ∷ drop (i + 1) (map f xs)) (get_or-map f xs i d (f d) low))

-- no words are left
pub behind_end : {X : Type 0} (f : X → List ℕ) (c : ℕ) (xs : List X) (i : ℕ) → length xs ≤ i
    → behind c (drop i (map f xs)) ≡ []
behind_end f c xs i high = ap (behind c) (drop_all i (map f xs) (omega (arith, length-map xs f))) ∙ behind_none c

-- one more word was written, or a beginning of it
pub one_more : {X : Type 0} (f : X → List ℕ) (c : ℕ) (xs : List X) (i : ℕ) (all done : List ℕ) (d : X) → i < length xs
    → all ≡ done ++ behind c (drop i (map f xs))
    → all ≡ done ++ ((c ∷ f (get_or xs i d)) ++ behind c (drop (i + 1) (map f xs)))
one_more f c xs i all done d low e = e ∙ ap (λ l. done ++ l) (behind_next f c xs i d low)
