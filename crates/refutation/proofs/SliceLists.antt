-- Lists of effects by their numbers, and lists of blocks.
use Rattle.std.proofs.Common.{◌≡◌, ℕ, zero, suc, ◌+◌, ◌≤◌, ◌<◌, Bool, true, false, ◌&&◌, ◌||◌, cond, List, [], ◌∷◌}
use Rattle.std.proofs.Common.{length, map, refl, sym, ap, ◌∙◌, subst, Option, Some, None, inl, inr, arith, eq-eqb}
use Rattle.std.proofs.Common.{eqb, eqb-true, slice_get}
use Rattle.std.specs.List.{filter, flat_map, list_all, list_any, range_with_len}
use Rattle.std.proofs.lemmas.Bool.{and_parts, and_from, cases_Bool, cases_eq, cond-false, cond-true, or_cases}
use Rattle.nvme_model.proofs.Cut.{clash}
use Rattle.host_laws.proofs.Elements.{In, in_any, in_left, in_right, same_some}
use Rattle.refutation.specs.Orders.{has, written}
use Rattle.refutation.specs.EffectOrders.{EffectName}
use Rattle.refutation.specs.Slices.{each_once, is_named, numbers_where, same_effect}

-- ---- elements

pub none_from : {X : Type 0} (p : X → Bool) (xs : List X) → ((x : X) → In x xs → p x ≡ false)
    → list_any p xs ≡ false
none_from p [] f = refl
none_from p (x ∷ xs) f = both (p x) (list_any p xs) (f x (inl refl)) (none_from p xs (λ y i. f y (inr i)))
  where
    both : (a b : Bool) → a ≡ false → b ≡ false → (a || b) ≡ false
    both true b e d = e
    both false b e d = d

pub not_all : {X : Type 0} (p : X → Bool) (xs : List X) → list_all p xs ≡ false
    → (x : X) × In x xs × (p x ≡ false)
not_all p [] h = absurd (let f : true ≡ false = h in cc)
not_all p (x ∷ xs) h = go (p x) refl (not_all p xs) h
  where
    go : (b : Bool) → p x ≡ b → (list_all p xs ≡ false → (y : _) × In y xs × (p y ≡ false))
        → (b && list_all p xs) ≡ false → (y : _) × In y (x ∷ xs) × (p y ≡ false)
    go false e ih f = (x, inl refl, e)
    go true e ih f = let r = ih f in (r.0, inr r.1, r.2)

pub of_map : {X Y : Type 0} (f : X → Y) (xs : List X) (y : Y) → In y (map f xs) → (x : X) × In x xs × (y ≡ f x)
of_map f [] y h = absurd h
of_map f (x ∷ xs) y (inl e) = (x, inl refl, e)
of_map f (x ∷ xs) y (inr h) = let r = of_map f xs y h in (r.0, inr r.1, r.2)

pub in_map : {X Y : Type 0} (f : X → Y) (xs : List X) (x : X) → In x xs → In (f x) (map f xs)
in_map f [] x h = absurd h
in_map f (y ∷ xs) x (inl e) = inl (ap f e)
in_map f (y ∷ xs) x (inr h) = inr (in_map f xs x h)

pub filter_holds : {X : Type 0} (p : X → Bool) (xs : List X) (x : X) → In x (filter p xs) → p x ≡ true
filter_holds p [] x h = absurd h
filter_holds p (y ∷ xs) x h = go (p y) refl h (filter_holds p xs x)
  where
    go : (b : Bool) → p y ≡ b → In x (cond b (y ∷ filter p xs) (filter p xs)) → (In x (filter p xs) → p x ≡ true)
        → p x ≡ true
    go true e (inl q) ih = ap p q ∙ e
    go true e (inr i) ih = ih i
    go false e i ih = ih i

pub in_flat : {X Y : Type 0} (f : X → List Y) (xs : List X) (x : X) (y : Y) → In x xs → In y (f x)
    → In y (flat_map f xs)
in_flat f [] x y h i = absurd h
in_flat f (z ∷ xs) x y (inl e) i = in_left y (f z) (flat_map f xs) (subst (λ (w : _). In y (f w)) e i)
in_flat f (z ∷ xs) x y (inr h) i = in_right y (f z) (flat_map f xs) (in_flat f xs x y h i)

pub in_numbers : (a n i : ℕ) → a ≤ i → i < a + n → In i (range_with_len a n)
in_numbers a zero i l m = absurd (omega (arith, l, m))
in_numbers a (suc n) i l m = elim (cases_eq i a) [
  | inl e ↦ inl e
  | inr e ↦ inr (in_numbers (a + 1) n i (omega (arith, l, e)) (omega (arith, m)))
]

pub of_numbers : (a n i : ℕ) → In i (range_with_len a n) → (a ≤ i) × (i < a + n)
of_numbers a zero i h = absurd h
of_numbers a (suc n) i (inl e) = (omega (arith, e), omega (arith, e))
of_numbers a (suc n) i (inr h) = let r = of_numbers (a + 1) n i h in (omega (arith, r.0), omega (arith, r.1))

pub get_map : {X Y : Type 0} (f : X → Y) (xs : List X) (i : ℕ) (x : X) → slice_get xs i ≡ Some x
    → slice_get (map f xs) i ≡ Some (f x)
get_map f [] i x h = absurd (let g : None ≡ Some x = h in cc)
get_map f (y ∷ xs) zero x h = ap Some (ap f (same_some y x (Some y) refl h))
get_map f (y ∷ xs) (suc i) x h = get_map f xs i x h

pub of_get_map : {X Y : Type 0} (f : X → Y) (xs : List X) (i : ℕ) → i < length (map f xs)
    → (x : X) × (slice_get xs i ≡ Some x)
of_get_map f [] i l = absurd (omega (arith, l))
of_get_map f (y ∷ xs) zero l = (y, refl)
of_get_map f (y ∷ xs) (suc i) l = of_get_map f xs i (omega (arith, l))

pub get_in : {X : Type 0} (xs : List X) (i : ℕ) (x : X) → slice_get xs i ≡ Some x → In x xs
get_in [] i x h = absurd (let g : None ≡ Some x = h in cc)
get_in (y ∷ xs) zero x h = inl (same_some x y (Some y) h refl)
get_in (y ∷ xs) (suc i) x h = inr (get_in xs i x h)

-- ---- numbers

pub has_in : (numbers : List ℕ) (n : ℕ) → In n numbers → has numbers n ≡ true
has_in numbers n i = in_any (λ m. eqb m n) numbers n i (eq-eqb n n refl)

pub in_has : (numbers : List ℕ) (n : ℕ) → has numbers n ≡ true → In n numbers
in_has [] n h = absurd (let f : false ≡ true = h in cc)
in_has (m ∷ numbers) n h = elim (or_cases (eqb m n) (has numbers n) h) [
  | inl e ↦ inl (sym (eqb-true m n e))
  | inr e ↦ inr (in_has numbers n e)
]

-- ---- effects

pub same_name : (a b : EffectName) → same_effect a b ≡ true → a ≡ b
same_name a b h =
    let x = and_parts (eqb a.queue b.queue && eqb a.number b.number) (eqb a.unit b.unit) h in
    let y = and_parts (eqb a.queue b.queue) (eqb a.number b.number) x.0 in
    made (eqb-true a.queue b.queue y.0) (eqb-true a.number b.number y.1) (eqb-true a.unit b.unit x.1)
  where
    made : a.queue ≡ b.queue → a.number ≡ b.number → a.unit ≡ b.unit → a ≡ b
    made e f g =
        ap (λ (q : ℕ). let r : EffectName = record { queue = q; number = a.number; unit = a.unit } in r) e
        ∙ ap (λ (q : ℕ). let r : EffectName = record { queue = b.queue; number = q; unit = a.unit } in r) f
        ∙ ap (λ (q : ℕ). let r : EffectName = record { queue = b.queue; number = b.number; unit = q } in r) g

pub same_self : (a : EffectName) → same_effect a a ≡ true
same_self a =
    and_from _ _ (and_from _ _ (eq-eqb a.queue a.queue refl) (eq-eqb a.number a.number refl))
    (eq-eqb a.unit a.unit refl)

pub get_named : (names : List EffectName) (i : ℕ) (n : EffectName) → slice_get names i ≡ Some n
    → is_named names n ≡ true
get_named names i n h = in_any (λ m. same_effect m n) names n (get_in names i n h) (same_self n)

-- each is there once
abbrev pub AreDistinct : List EffectName → Type 0
AreDistinct [] = Unit {0}
AreDistinct (n ∷ names) = (is_named names n ≡ false) × AreDistinct names

pub once_distinct : (names : List EffectName) → AreDistinct (each_once names)
once_distinct [] = tt
once_distinct (n ∷ names) = go (is_named (each_once names) n) refl (once_distinct names)
  where
    go : (b : Bool) → is_named (each_once names) n ≡ b → AreDistinct (each_once names)
        → AreDistinct (cond b (each_once names) (n ∷ each_once names))
    go true e ih = ih
    go false e ih = (e, ih)

pub of_once : (names : List EffectName) (n : EffectName) → In n (each_once names) → In n names
of_once [] n h = h
of_once (m ∷ names) n h = go (is_named (each_once names) m) h (of_once names n)
  where
    go : (b : Bool) → In n (cond b (each_once names) (m ∷ each_once names)) → (In n (each_once names) → In n names)
        → In n (m ∷ names)
    go true i ih = inr (ih i)
    go false (inl e) ih = inl e
    go false (inr i) ih = inr (ih i)

-- the number of an effect, from i
abbrev pub number_from : ℕ → List EffectName → EffectName → Option ℕ
number_from i [] n = None
number_from i (m ∷ names) n = cond (same_effect m n) (Some i) (number_from (suc i) names n)

pub number_get : (k : ℕ) (names : List EffectName) (n : EffectName) (i : ℕ) → number_from k names n ≡ Some i
    → (m : ℕ) × (i ≡ k + m) × (slice_get names m ≡ Some n)
number_get k [] n i h = absurd (let f : None ≡ Some i = h in cc)
number_get k (x ∷ names) n i h = go (same_effect x n) refl h (number_get (suc k) names n i)
  where
    go : (b : Bool) → same_effect x n ≡ b → cond b (Some k) (number_from (suc k) names n) ≡ Some i
        → (number_from (suc k) names n ≡ Some i → (m : ℕ) × (i ≡ suc k + m) × (slice_get names m ≡ Some n))
        → (m : ℕ) × (i ≡ k + m) × (slice_get (x ∷ names) m ≡ Some n)
    go true e f ih = (0, omega (arith, same_some i k (Some i) refl (sym f)), ap Some (same_name x n e))
    go false e f ih = let r = ih f in (suc r.0, omega (arith, r.1), r.2)

pub get_number : (k : ℕ) (names : List EffectName) (n : EffectName) (m : ℕ) → AreDistinct names
    → slice_get names m ≡ Some n → number_from k names n ≡ Some (k + m)
get_number k [] n m d h = absurd (let f : None ≡ Some n = h in cc)
get_number k (x ∷ names) n zero d h =
    let same = same_some x n (Some x) refl h in
    cond-true (same_effect x n) (Some k) (number_from (suc k) names n)
    (subst (λ (y : EffectName). same_effect x y ≡ true) same (same_self x))
    ∙ ap Some (omega arith)
get_number k (x ∷ names) n (suc m) d h = elim (cases_Bool (same_effect x n)) [
  | inr e ↦ cond-false (same_effect x n) (Some k) (number_from (suc k) names n) e
      ∙ (get_number (suc k) names n m d.1 h ∙ ap Some (omega arith))
  | inl e ↦ clash (is_named names x)
      (subst (λ (y : EffectName). is_named names y ≡ true) (sym (same_name x n e)) (get_named names m n h)) d.0
]

pub none_number : (k : ℕ) (names : List EffectName) (n : EffectName) → number_from k names n ≡ None
    → is_named names n ≡ false
none_number k [] n h = refl
none_number k (x ∷ names) n h = go (same_effect x n) h (none_number (suc k) names n)
  where
    go : (b : Bool) → cond b (Some k) (number_from (suc k) names n) ≡ None
        → (number_from (suc k) names n ≡ None → is_named names n ≡ false) → (b || is_named names n) ≡ false
    go true f ih = absurd (let g : Some k ≡ None = f in cc)
    go false f ih = ih f

pub where_holds : (test : EffectName → Bool) (k : ℕ) (names : List EffectName) (i : ℕ)
    → In i (numbers_where test k names)
    → (m : ℕ) × (n : EffectName) × (i ≡ k + m) × (slice_get names m ≡ Some n) × (test n ≡ true)
where_holds test k [] i h = absurd h
where_holds test k (x ∷ names) i h = go (test x) refl h (where_holds test (suc k) names i)
  where
    go : (b : Bool) → test x ≡ b
        → In i (cond b (k ∷ numbers_where test (suc k) names) (numbers_where test (suc k) names))
        → (In i (numbers_where test (suc k) names)
        → (m : ℕ) × (n : EffectName) × (i ≡ suc k + m) × (slice_get names m ≡ Some n) × (test n ≡ true))
        → (m : ℕ) × (n : EffectName) × (i ≡ k + m) × (slice_get (x ∷ names) m ≡ Some n) × (test n ≡ true)
    go true e (inl f) ih = (0, x, omega (arith, f), refl, e)
    go true e (inr f) ih = let r = ih f in (suc r.0, r.1, omega (arith, r.2), r.3, r.4)
    go false e f ih = let r = ih f in (suc r.0, r.1, omega (arith, r.2), r.3, r.4)

-- ---- blocks that are written

pub written_map : (g : ℕ → List ℕ) (ls : List ℕ) (l : ℕ) (before : List ℕ)
    → written (map (λ i. (i, g i)) ls) l before ≡ cond (list_any (λ i. eqb i l) ls) (g l) before
written_map g [] l before = refl
written_map g (i ∷ ls) l before = go (eqb i l) refl (written_map g ls l before)
  where
    go : (b : Bool) → eqb i l ≡ b
        → written (map (λ i. (i, g i)) ls) l before ≡ cond (list_any (λ i. eqb i l) ls) (g l) before
        → cond b (g i) (written (map (λ i. (i, g i)) ls) l before)
        ≡ cond (b || list_any (λ i. eqb i l) ls) (g l) before
    go true e ih = ap g (eqb-true i l e)
    go false e ih = ih
