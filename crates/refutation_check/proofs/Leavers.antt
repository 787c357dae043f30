-- What is left on a block by those writers that no other covers.
use Rattle.std.proofs.Common.{Bool, List, [], ap, ap₂, cond, false, filter, length, map, not, refl, sym, true, ℕ, ◌&&◌}
use Rattle.std.proofs.Common.{◌++◌, ◌||◌, ◌∙◌, ◌∷◌, ◌≡◌}
use Rattle.std.proofs.lemmas.Bool.{or_left, or_right}
use Rattle.std.proofs.lemmas.List.{map-append, nil_from_length}
use Rattle.std.proofs.lemmas.List.Folds.{list_any-append}
use Rattle.std.specs.List.{list_all, list_any}
use Rattle.nvme_model.specs.Operations.{write_data}
use Rattle.nvme_model.specs.declared.config.ConfigNumbers.{ConfigNumbers}
use Rattle.trace.specs.declared.options.TraceOptions.{TraceOptions}
use Rattle.trace.specs.declared.seen.Seen.{Seen}
use Rattle.refutation.specs.EffectOrders.{EffectName, comes_before}
use Rattle.refutation.specs.Slices.{answer_of, is_named, none_else, ticket_of}
use Rattle.refutation.specs.Told.{says_done}
use Rattle.refutation.specs.Writers.{is_covered_by, none_by, writers_in}
use Rattle.refutation.proofs.Writers.{none_by_writers}
use Rattle.refutation_check.specs.Commands.{name_of}
use Rattle.refutation_check.specs.Leaving.{may_leave, was_before}
use Rattle.refutation_check.specs.declared.order.Effect.{Effect}

-- ---- tests of what a filter kept

any_filtered : {X : Type 0} (keeps p q : X → Bool) (xs : List X) → ((x : X) → (keeps x && p x) ≡ q x)
    → list_any p (filter keeps xs) ≡ list_any q xs
any_filtered keeps p q [] h = refl
any_filtered keeps p q (x ∷ xs) h = go (keeps x) (h x) (any_filtered keeps p q xs h)
  where
    go : (b : Bool) → (b && p x) ≡ q x → list_any p (filter keeps xs) ≡ list_any q xs
        → list_any p (cond b (x ∷ filter keeps xs) (filter keeps xs)) ≡ (q x || list_any q xs)
    go true e ih = ap₂ (λ (a b : Bool). a || b) e ih
    go false e ih = ih ∙ ap (λ (a : Bool). a || list_any q xs) e

all_filtered : {X : Type 0} (keeps p q : X → Bool) (xs : List X) → ((x : X) → (not (keeps x) || p x) ≡ q x)
    → list_all p (filter keeps xs) ≡ list_all q xs
all_filtered keeps p q [] h = refl
all_filtered keeps p q (x ∷ xs) h = go (keeps x) (h x) (all_filtered keeps p q xs h)
  where
    go : (b : Bool) → (not b || p x) ≡ q x → list_all p (filter keeps xs) ≡ list_all q xs
        → list_all p (cond b (x ∷ filter keeps xs) (filter keeps xs)) ≡ (q x && list_all q xs)
    go true e ih = ap₂ (λ (a b : Bool). a && b) e ih
    go false e ih = ih ∙ ap (λ (a : Bool). a && list_all q xs) e

any_parts : {X Y : Type 0} (p : X → Bool) (h : Y → X) (xs early : List Y) (y : Y) → xs ≡ early ++ y ∷ []
    → (list_any p (map h early) || (p (h y) || false)) ≡ list_any p (map h xs)
any_parts {Y = Y} p h xs early y e =
    sym (list_any-append p (map h early) (h y ∷ []))
    ∙ ap (list_any p) (sym (map-append h early (y ∷ [])))
    ∙ ap (λ (ys : List Y). list_any p (map h ys)) (sym e)

-- the last of a list passes
pub last_passes : {X Y : Type 0} (p : X → Bool) (h : Y → X) (xs early : List Y) (y : Y) → xs ≡ early ++ y ∷ []
    → true ≡ p (h y) → true ≡ list_any p (map h xs)
last_passes p h xs early y e f =
    sym (or_right (list_any p (map h early)) (p (h y) || false) (or_left (p (h y)) false (sym f)))
    ∙ any_parts p h xs early y e

-- it doesn't
pub last_fails : {X Y : Type 0} (p : X → Bool) (h : Y → X) (xs early : List Y) (y : Y) → xs ≡ early ++ y ∷ []
    → false ≡ p (h y) → list_any p (map h early) ≡ list_any p (map h xs)
last_fails p h xs early y e f =
    or_none (list_any p (map h early))
    ∙ ap (λ (b : Bool). list_any p (map h early) || (b || false)) f
    ∙ any_parts p h xs early y e
  where
    or_none : (b : Bool) → b ≡ (b || (false || false))
    or_none true = refl
    or_none false = refl

-- ---- what was left

swapped : (a b d : Bool) → ((a && b) && d) ≡ ((a && d) && b)
swapped false b d = refl
swapped true true true = refl
swapped true true false = refl
swapped true false true = refl
swapped true false false = refl

pub covered : (o : TraceOptions) (c : ConfigNumbers) (trace : List Seen) (writers : List EffectName) (y r : EffectName)
    → list_any (comes_before o c trace y) (filter (was_before o c trace r) writers)
    ≡ is_covered_by o c trace writers y r
covered o c trace writers y r =
    any_filtered (was_before o c trace r) (comes_before o c trace y)
    (λ x. says_done (answer_of trace x) && comes_before o c trace y x && comes_before o c trace x r) writers
    (λ x. swapped (says_done (answer_of trace x)) (comes_before o c trace x r) (comes_before o c trace y x))

-- that it fits, that it isn't named, that the effect isn't before it, and that another covers it
tested : (f n b v : Bool) → (not ((f && not n) && not b) || v) ≡ (n || not ((not b && not v) && f))
tested true true b v = refl
tested false true b v = refl
tested true false true v = refl
tested false false true v = refl
tested true false false true = refl
tested false false false true = refl
tested true false false false = refl
tested false false false false = refl

by_writers : (o : TraceOptions) (c : ConfigNumbers) (trace : List Seen) (names : List EffectName) (r : EffectName)
    (l : ℕ) (fits : List ℕ → Bool) (writers : List EffectName)
    → list_all (λ y. list_any (comes_before o c trace y) (filter (was_before o c trace r) writers))
    (filter (may_leave o c trace names r l fits) writers)
    ≡ none_by o c trace writers names r l fits
by_writers o c trace names r l fits writers =
    all_filtered (may_leave o c trace names r l fits)
    (λ y. list_any (comes_before o c trace y) (filter (was_before o c trace r) writers))
    (λ y. is_named names y || not (not (comes_before o c trace r y) && not (is_covered_by o c trace writers y r)
    && fits (write_data (ticket_of trace y) l)))
    writers
    (λ y. ap (λ (v : Bool). not (may_leave o c trace names r l fits y) || v) (covered o c trace writers y r)
    ∙ tested (fits (write_data (ticket_of trace y) l)) (is_named names y) (comes_before o c trace r y)
    (is_covered_by o c trace writers y r))

-- as it is computed
pub none_found : (o : TraceOptions) (c : ConfigNumbers) (trace : List Seen) (names : List EffectName) (r : EffectName)
    (l : ℕ) (fits : List ℕ → Bool) (writers left later : List EffectName)
    → left ≡ filter (may_leave o c trace names r l fits) writers → later ≡ filter (was_before o c trace r) writers
    → list_all (λ y. list_any (comes_before o c trace y) later) left ≡ none_by o c trace writers names r l fits
none_found o c trace names r l fits writers left later e f =
    ap₂ (λ (xs ys : List EffectName). list_all (λ y. list_any (comes_before o c trace y) xs) ys) f e
    ∙ by_writers o c trace names r l fits writers

-- where no writer is left
pub none_left : (o : TraceOptions) (c : ConfigNumbers) (trace : List Seen) (names : List EffectName) (r : EffectName)
    (l : ℕ) (fits : List ℕ → Bool) (writers : List EffectName) (left : List Effect)
    → map name_of left ≡ filter (may_leave o c trace names r l fits) writers → length left ≡ 0
    → true ≡ none_by o c trace writers names r l fits
none_left o c trace names r l fits writers left e none =
    ap (λ (ys : List Effect). list_all
    (λ y. list_any (comes_before o c trace y) (filter (was_before o c trace r) writers)) (map name_of ys))
    (sym (nil_from_length left none))
    ∙ none_found o c trace names r l fits writers (map name_of left) (filter (was_before o c trace r) writers) e refl

-- the writers are those of the trace
pub none_of_all : (o : TraceOptions) (c : ConfigNumbers) (trace : List Seen) (names : List EffectName) (r : EffectName)
    (l : ℕ) (fits : List ℕ → Bool) (writers : List EffectName) → writers ≡ writers_in c trace l
    → none_by o c trace writers names r l fits ≡ none_else o c trace names r l fits
none_of_all o c trace names r l fits writers w =
    ap (λ (ws : List EffectName). none_by o c trace ws names r l fits) w
    ∙ sym (none_by_writers o c trace names r l fits)
