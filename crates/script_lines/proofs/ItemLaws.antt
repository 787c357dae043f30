-- The entries so far, and those of the parts that are left.
use Rattle.std.proofs.Common.{◌≡◌, Bor, ℕ, ◌+◌, ◌<◌, ◌≤◌, List, [], ◌∷◌, ◌++◌, map, length, drop, get_or}
use Rattle.std.proofs.Common.{None, Some, refl, sym, ap, ◌∙◌, arith, append-nil}
use Rattle.std.specs.Prelude.{Option}
use Rattle.std.proofs.lemmas.List.{drop_more, get_or-map, length-map, drop_all}
use Rattle.nvme_model.specs.declared.submission.Submission.{Submission}
use Rattle.history.specs.BatchWords.{then_item}
use Rattle.history.proofs.Joining.{joined, joined_then}
use Rattle.script_lines.specs.Commands.{script_item_in}
use Rattle.script_lines.specs.Batches.{items_in}

-- the words of a part
abbrev pub words_of : Bor (List (Bor (List ℕ))) → List (List ℕ)
words_of part = map (λ w. w.now) part.now

-- the first of the parts
items_step : (part : List (List ℕ)) (parts : List (List (List ℕ)))
    → items_in (part ∷ parts) ≡ then_item (script_item_in part) (items_in parts)
unfolding items_in
items_step part parts = refl

-- no parts are left
items_end : items_in [] ≡ Some []
unfolding items_in
items_end = refl

-- the part at place i
part_step : {X : Type 0} (f : X → List (List ℕ)) (xs : List X) (i : ℕ) (d : X) (front : List Submission)
    (all : Option (List Submission)) → i < length xs
    → joined front (items_in (drop i (map f xs))) ≡ all
    → joined front (then_item (script_item_in (f (get_or xs i d))) (items_in (drop (i + 1) (map f xs)))) ≡ all
part_step f xs i d front all low h =
    let here : drop i (map f xs) ≡ f (get_or xs i d) ∷ drop (i + 1) (map f xs) =
    drop_more (map f xs) i (f d) (omega (arith, length-map xs f))
    ∙ ap (λ t. t ∷ drop (i + 1) (map f xs)) (get_or-map f xs i d (f d) low) in
    ap (joined front) (sym (ap items_in here ∙ items_step (f (get_or xs i d)) (drop (i + 1) (map f xs)))) ∙ h

-- a part that is no entry ends it all
pub part_bad : {X : Type 0} (f : X → List (List ℕ)) (xs : List X) (i : ℕ) (d : X) (front : List Submission)
    (all : Option (List Submission)) → i < length xs
    → joined front (items_in (drop i (map f xs))) ≡ all → script_item_in (f (get_or xs i d)) ≡ None → all ≡ None
part_bad f xs i d front all low h none =
    sym (part_step f xs i d front all low h)
    ∙ ap (λ o. joined front (then_item o (items_in (drop (i + 1) (map f xs))))) none

-- an entry is added
pub part_good : {X : Type 0} (f : X → List (List ℕ)) (xs : List X) (i : ℕ) (d : X) (front new : List Submission)
    (x : Submission)
    (all : Option (List Submission)) → i < length xs
    → joined front (items_in (drop i (map f xs))) ≡ all → script_item_in (f (get_or xs i d)) ≡ Some x
    → new ≡ front ++ x ∷ []
    → joined new (items_in (drop (i + 1) (map f xs))) ≡ all
part_good f xs i d front new x all low h some e =
    ap (λ l. joined l (items_in (drop (i + 1) (map f xs)))) e
    ∙ joined_then front x (items_in (drop (i + 1) (map f xs)))
    ∙ ap (λ o. joined front (then_item o (items_in (drop (i + 1) (map f xs))))) (sym some)
    ∙ part_step f xs i d front all low h

-- all entries were added
pub parts_done : {X : Type 0} (f : X → List (List ℕ)) (xs : List X) (i : ℕ) (front : List Submission)
    (all : Option (List Submission)) → length xs ≤ i
    → joined front (items_in (drop i (map f xs))) ≡ all → all ≡ Some front
parts_done f xs i front all high h =
    let none : drop i (map f xs) ≡ [] = drop_all i (map f xs) (omega (arith, length-map xs f)) in
    sym h ∙ ap (joined front) (ap items_in none ∙ items_end) ∙ ap Some (append-nil front)
