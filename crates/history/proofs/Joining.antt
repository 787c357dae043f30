-- The entries so far, and those of the words that are left.
use Rattle.std.proofs.Common.{◌≡◌, ℕ, ◌-◌, ◌<◌, ◌≤◌, length, take, drop, get_or, take_all, arith, Bool, true, false}
use Rattle.std.proofs.Common.{cond, List, [], ◌∷◌, ◌++◌, map, None, Some, refl, sym, ap, ◌∙◌, subst, append_assoc}
use Rattle.std.proofs.Common.{append-nil}
use Rattle.std.specs.Prelude.{Option, Err, codes}
use Rattle.std.specs.Str.{bytes_eq}
use Rattle.std.specs.Prelude.{not}
use Rattle.history.specs.declared.line_fault.LineFault.{LineFault}
use Rattle.history.specs.declared.line_fault.LineFault.TheVariants.{Malformed, NoMemory}
use Rattle.nvme_model.specs.declared.submission.Submission.{Submission}
use Rattle.history.specs.Gives.{GivesRead}
use Rattle.history.specs.BatchWords.{item_in, then_item, more_in}

-- the entries so far and those behind them, where these are there
abbrev pub joined : List Submission → Option (List Submission) → Option (List Submission)
joined front None = None
joined front (Some xs) = Some (front ++ xs)

-- one more entry
pub joined_then : (front : List Submission) (x : Submission) (o : Option (List Submission))
    → joined (front ++ x ∷ []) o ≡ joined front (then_item (Some x) o)
joined_then front x None = refl
joined_then front x (Some xs) = ap Some (append_assoc front (x ∷ []) xs)

-- what stands behind a `+`
next_is : (plus entry payload : List ℕ) (words : List (List ℕ)) (b : Bool) → bytes_eq plus (codes "+") ≡ b
    → more_in (plus ∷ entry ∷ payload ∷ words) ≡ cond b (then_item (item_in entry payload) (more_in words)) None
unfolding more_in
next_is plus entry payload words b h = ap (λ b. cond b (then_item (item_in entry payload) (more_in words)) None) h

-- the next entry was read
pub more_good : (front new : List Submission) (x : Submission) (plus entry payload : List ℕ)
    (words rest : List (List ℕ)) (all : Option (List Submission)) → rest ≡ plus ∷ entry ∷ payload ∷ words
    → bytes_eq plus (codes "+") ≡ true → item_in entry payload ≡ Some x → new ≡ front ++ x ∷ []
    → joined front (more_in rest) ≡ all → joined new (more_in words) ≡ all
more_good front new x plus entry payload words rest all e h i n inv =
    ap (λ l. joined l (more_in words)) n ∙ joined_then front x (more_in words)
    ∙ ap (λ o. joined front (then_item o (more_in words))) (sym i)
    ∙ sym (ap (joined front) (ap more_in e ∙ next_is plus entry payload words true h)) ∙ inv

-- another word stands where a `+` belongs
pub more_bad_plus : (front : List Submission) (plus entry payload : List ℕ) (words rest : List (List ℕ))
    (all : Option (List Submission)) → rest ≡ plus ∷ entry ∷ payload ∷ words
    → bytes_eq plus (codes "+") ≡ false → joined front (more_in rest) ≡ all → all ≡ None
more_bad_plus front plus entry payload words rest all e h inv = sym inv
    ∙ ap (joined front) (ap more_in e ∙ next_is plus entry payload words false h)

-- what stands behind a `+` is no entry
pub more_bad_item : (front : List Submission) (plus entry payload : List ℕ) (words rest : List (List ℕ))
    (all : Option (List Submission)) → rest ≡ plus ∷ entry ∷ payload ∷ words
    → bytes_eq plus (codes "+") ≡ true → item_in entry payload ≡ None → joined front (more_in rest) ≡ all → all ≡ None
more_bad_item front plus entry payload words rest all e h i inv =
    sym inv ∙ ap (joined front)
    (ap more_in e ∙ next_is plus entry payload words true h ∙ ap (λ o. then_item o (more_in words)) i)

-- three words and what follows them
pub three_up : {X : Type 0} (f : X → List ℕ) (xs : List X) (d : X) → 3 ≤ length xs
    → map f xs ≡ f (get_or xs 0 d) ∷ f (get_or xs 1 d) ∷ f (get_or xs 2 d) ∷ map f (take (length xs - 3) (drop 3 xs))
three_up f [] d h = absurd (omega arith)
three_up f (x ∷ []) d h = absurd (omega arith)
three_up f (x ∷ y ∷ []) d h = absurd (omega arith)
three_up f (x ∷ y ∷ z ∷ zs) d h =
    ap (λ l. f x ∷ f y ∷ f z ∷ map f l) (sym (take_all (length (x ∷ y ∷ z ∷ zs) - 3) zs (omega arith)))

-- fewer than three words are no entry
few_none : (rest : List (List ℕ)) → 0 < length rest → length rest < 3 → more_in rest ≡ None
unfolding more_in
few_none [] h i = absurd (omega arith)
few_none (a ∷ []) h i = refl
few_none (a ∷ b ∷ []) h i = refl
few_none (a ∷ b ∷ c ∷ d) h i = absurd (omega arith)

-- so nothing is read of them
pub more_few : (front : List Submission) (rest : List (List ℕ)) (all : Option (List Submission)) → 0 < length rest
    → length rest < 3 → joined front (more_in rest) ≡ all → all ≡ None
more_few front rest all h i inv = sym inv ∙ ap (joined front) (few_none rest h i)

-- no words are left
pub more_end : (front : List Submission) (rest : List (List ℕ)) (all : Option (List Submission)) → rest ≡ []
    → joined front (more_in rest) ≡ all → all ≡ Some front
unfolding more_in
more_end front rest all none inv = sym inv ∙ ap (λ l. joined front (more_in l)) none ∙ ap Some (append-nil front)

-- a fault of one reading is one of another
pub fails_then : {A B : Type 0} (f : LineFault) (a : Option A) (b : Option B) → GivesRead {A = A} (Err f) a
    → (a ≡ None → b ≡ None) → GivesRead {A = B} (Err f) b
fails_then Malformed a b h g = g h
fails_then NoMemory a b h g = tt

-- entries that are put together are at least one
pub then_some : (x : Submission) (o : Option (List Submission)) (xs : List Submission) → then_item (Some x) o ≡ Some xs
    → 0 < length xs
then_some x None xs h = absurd cc
then_some x (Some ys) xs h = let same : x ∷ ys ≡ xs = cc in subst (λ l. 0 < length l) same (omega arith)

-- a test that holds where its opposite does not
pub not_false : (a b : Bool) → a ≡ not b → a ≡ true → b ≡ false
not_false a true e h = absurd cc
not_false a false e h = refl

-- and the other way round
pub not_true : (a b : Bool) → a ≡ not b → a ≡ false → b ≡ true
not_true a true e h = refl
not_true a false e h = absurd cc
