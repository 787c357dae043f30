-- The parts of a list whose items are seen through a function.
use Rattle.std.proofs.Common.{◌≡◌, Bool, true, false, cond, List, [], ◌∷◌, map, Bor, refl, sym, ap, ◌∙◌}
use Rattle.std.specs.Prelude.{Result, Ok, Err, IfOk, Vec}
use Rattle.std.specs.List.{onto_first, slice_split}
use Rattle.std.proofs.lemmas.Simd.{map-map}

-- an item goes before the first part
map-onto_first : {X Y : Type 0} (f : X → Y) (x : X) (parts : List (List X))
    → map (map f) (onto_first x parts) ≡ onto_first (f x) (map (map f) parts)
map-onto_first f x [] = refl
map-onto_first f x (part ∷ parts) = refl

-- one more item parts, or goes before the first part
map-part : {X Y : Type 0} (f : X → Y) (b : Bool) (x : X) (parts : List (List X))
    → map (map f) (cond b ([] ∷ parts) (onto_first x parts))
    ≡ cond b ([] ∷ map (map f) parts) (onto_first (f x) (map (map f) parts))
map-part f true x parts = refl
map-part f false x parts = map-onto_first f x parts

-- the parts of what is seen
map-slice_split : {X Y : Type 0} (f : X → Y) (p : Y → Bool) (xs : List X)
    → map (map f) (slice_split (λ x. p (f x)) xs) ≡ slice_split p (map f xs)
map-slice_split f p [] = refl
map-slice_split f p (x ∷ xs) =
    map-part f (p (f x)) x (slice_split (λ x. p (f x)) xs)
    ∙ ap (λ parts. cond (p (f x)) ([] ∷ parts) (onto_first (f x) parts)) (map-slice_split f p xs)

-- at the call
pub parts_seen : {X Y Z E : Type 0} (f : X → Y) (p : Y → Bool) (xs : List X) (r : Result (Vec (Bor (List X)) Z) E)
    → IfOk r (λ parts. map (λ part. part.now) parts.items ≡ slice_split (λ x. p (f x)) xs)
    → IfOk r (λ parts. map (λ part. map f part.now) parts.items ≡ slice_split p (map f xs))
parts_seen f p xs (Ok parts) h =
    sym (map-map (map f) (λ part. part.now) parts.items) ∙ ap (map (map f)) h ∙ map-slice_split f p xs
parts_seen f p xs (Err e) h = tt
