-- What the tables of names say is true of the claims and releases that were published.
use Rattle.std.proofs.Common.{◌≡◌, ℕ, suc, Bool, true, false, not, ◌&&◌, ◌||◌, cond, refl, sym, ap, ap₂, ◌∙◌, eqb}
use Rattle.std.proofs.Common.{append-nil, append_assoc, eqb-true}
use Rattle.std.proofs.Common.{List, [], ◌∷◌, ◌++◌, Option, Some, None, is_some, subst, eq-eqb, unwrap_or, zero}
use Rattle.std.proofs.Common.{◌<◌, arith, drop, get_or, length}
use Rattle.std.specs.List.{filter, list_any}
use Rattle.std.proofs.lemmas.Bool.{and_parts, and_from}
use Rattle.std.proofs.lemmas.List.Elements.{filter-append}
use Rattle.std.proofs.lemmas.List.Folds.{list_any-append}
use Rattle.plain_lemmas.proofs.Lists.{any_same}
use Rattle.host_laws.proofs.Names.{name_eq}
use Rattle.nvme_model.specs.Array.{has_block}
use Rattle.nvme_model.specs.Slots.{Name, Swap, fresh_names, in_area, releases, same_name}
use Rattle.nvme_model.specs.declared.array.Range.{Range}
use Rattle.slot_check.specs.Batch.{claimed_twice_in, fresh_in}
use Rattle.slot_check.specs.Broken.{claimed_twice}
use Rattle.slot_check.specs.Names.{AreUnwon, KeptNames, KnowsNames, believes, claims_by, claims_name}
use Rattle.std.specs.Option.{option_to_list}
use Rattle.slot_check.specs.Names.{gives}

-- ---- lists

-- an element that passes both tests is one of the filtered that passes the second
pub any_filter : {X : Type 0} (p t : X → Bool) (xs : List X) → list_any (λ x. p x && t x) xs ≡ list_any t (filter p xs)
any_filter p t [] = refl
any_filter p t (x ∷ xs) = go (p x) (any_filter p t xs)
  where
    go : (b : Bool) → list_any (λ x. p x && t x) xs ≡ list_any t (filter p xs)
        → ((b && t x) || list_any (λ x. p x && t x) xs) ≡ list_any t (cond b (x ∷ filter p xs) (filter p xs))
    go true ih = ap (λ (y : Bool). t x || y) ih
    go false ih = ih

pub and_true : (b : Bool) → b ≡ (b && true)
and_true true = refl
and_true false = refl

pub any_listed : (p : Swap → Bool) (xs : List Swap) (o : Option Swap) → filter p xs ≡ option_to_list o
    → list_any p xs ≡ is_some o
any_listed p xs o h = any_same p (λ x. p x && true) xs (λ x. and_true (p x)) ∙ any_filter p (λ _. true) xs
    ∙ ap (list_any (λ _. true)) h ∙ by_some o
  where
    by_some : (o : Option Swap) → list_any (λ _. true) (option_to_list o) ≡ is_some o
    by_some None = refl
    by_some (Some s) = refl

-- ---- names

none_is : (o : Option Swap) → is_some o ≡ false → o ≡ None
none_is None e = refl
none_is (Some s) e = absurd cc

-- ---- one more

module _ (r : ℕ → ℕ → Bool) (of : List Swap) (k m : KeptNames) (s : Swap) (h : KnowsNames r of k) where
  pub added_claim : ((n : Name) → m.claim n ≡ cond (s.claims && same_name s.name n) (Some s) (k.claim n))
      → (s.claims ≡ true → is_some (k.claim s.name) ≡ false)
      → (n : Name) → filter (claims_name n) (s ∷ of) ≡ option_to_list (m.claim n)
  added_claim a fresh n = go (s.claims && same_name s.name n) refl (a n)
    where
      go : (b : Bool) → (s.claims && same_name s.name n) ≡ b → m.claim n ≡ cond b (Some s) (k.claim n)
          → cond b (s ∷ filter (claims_name n) of) (filter (claims_name n) of) ≡ option_to_list (m.claim n)
      go false e f = h.claim n ∙ ap option_to_list (sym f)
      go true e f =
          let p = and_parts s.claims (same_name s.name n) e in
          let none : k.claim n ≡ None = ap k.claim (sym (name_eq s.name n p.1)) ∙ none_is (k.claim s.name)
          (fresh p.0) in
          ap (λ (xs : List Swap). s ∷ xs) (h.claim n ∙ ap option_to_list none) ∙ ap option_to_list (sym f)

  pub added_won : ((q j : ℕ) → m.won q j ≡ cond (claims_by q j s) (Some false) (k.won q j))
      → r s.queue (suc s.number) ≡ false
      → (q j : ℕ) → m.won q j ≡ cond (list_any (claims_by q j) (s ∷ of)) (Some (r q j)) None
  added_won a unwon q j = go (claims_by q j s) refl (a q j)
    where
      go : (b : Bool) → claims_by q j s ≡ b → m.won q j ≡ cond b (Some false) (k.won q j)
          → m.won q j ≡ cond (b || list_any (claims_by q j) of) (Some (r q j)) None
      go false e f = f ∙ h.won q j
      go true e f =
          let p = and_parts s.claims (eqb s.queue q && eqb (suc s.number) j) e in
          let w = and_parts (eqb s.queue q) (eqb (suc s.number) j) p.1 in
          f ∙ ap Some (sym unwon ∙ ap₂ r (eqb-true s.queue q w.0) (eqb-true (suc s.number) j w.1))

  pub added : ((n : Name) → m.claim n ≡ cond (s.claims && same_name s.name n) (Some s) (k.claim n))
      → ((q j : ℕ) → m.won q j ≡ cond (claims_by q j s) (Some false) (k.won q j))
      → ((l : ℕ) (n : Name) → m.released l n ≡ (releases s l n || k.released l n))
      → (s.claims ≡ true → is_some (k.claim s.name) ≡ false) → r s.queue (suc s.number) ≡ false
      → KnowsNames r (s ∷ of) m
  added a b d fresh unwon =
      record {
        claim = added_claim a fresh;
        won = added_won b unwon;
        released = λ l n. d l n ∙ ap (λ (x : Bool). releases s l n || x) (h.released l n);
      }

-- ---- what changes nothing

pub unchanged : (r : ℕ → ℕ → Bool) (of : List Swap) (k m : KeptNames) → ((n : Name) → m.claim n ≡ k.claim n)
    → ((q j : ℕ) → m.won q j ≡ k.won q j) → ((l : ℕ) (n : Name) → m.released l n ≡ k.released l n)
    → KnowsNames r of k → KnowsNames r of m
unchanged r of k m a b d h =
    record {
      claim = λ n. h.claim n ∙ ap option_to_list (sym (a n));
      won = λ q j. b q j ∙ h.won q j;
      released = λ l n. d l n ∙ h.released l n;
    }

-- ---- a success that was reaped

pub won_more : (r p : ℕ → ℕ → Bool) (of : List Swap) (k m : KeptNames) (queue number : ℕ) → KnowsNames r of k
    → ((n : Name) → m.claim n ≡ k.claim n)
    → ((q j : ℕ) → m.won q j ≡ cond ((eqb queue q && eqb number j) && is_some (k.won queue number)) (Some true)
    (k.won q j))
    → ((l : ℕ) (n : Name) → m.released l n ≡ k.released l n)
    → ((q j : ℕ) → p q j ≡ ((eqb queue q && eqb number j) || r q j)) → KnowsNames p of m
won_more r p of k m queue number h a b d e =
    record {
      claim = λ n. h.claim n ∙ ap option_to_list (sym (a n));
      won = λ q j. b q j ∙ go q j (eqb queue q && eqb number j) refl
          ∙ (λ i. cond (list_any (claims_by q j) of) (Some (sym (e q j) i)) None);
      released = λ l n. d l n ∙ h.released l n;
    }
  where
    known : (any : Bool) (x : Bool) (o : Option Bool) → o ≡ cond any (Some x) None
        → cond (is_some o) (Some true) o ≡ cond any (Some true) None
    known true x o f = ap (λ (y : Option Bool). cond (is_some y) (Some true) y) f
    known false x o f = ap (λ (y : Option Bool). cond (is_some y) (Some true) y) f

    go : (q j : ℕ) (y : Bool) → (eqb queue q && eqb number j) ≡ y
        → cond (y && is_some (k.won queue number)) (Some true) (k.won q j)
        ≡ cond (list_any (claims_by q j) of) (Some (y || r q j)) None
    go q j false f = h.won q j
    go q j true f =
        let w = and_parts (eqb queue q) (eqb number j) f in
        (λ i. cond (is_some (k.won (eqb-true queue q w.0 i) (eqb-true number j w.1 i))) (Some true) (k.won q j))
        ∙ known (list_any (claims_by q j) of) (r q j) (k.won q j) (h.won q j)

-- ---- what is answered

pub fresh_is : (r : ℕ → ℕ → Bool) (of : List Swap) (k : KeptNames) (xs : List Swap) → KnowsNames r of k
    → fresh_in k xs ≡ fresh_names xs of
fresh_is r of k [] h = refl
fresh_is r of k (s ∷ later) h =
    ap₂ (λ (x y : Bool). (not s.claims || not x) && y)
    (ap (λ (x : Bool). list_any (claims_name s.name) later || x)
    (sym (any_listed (claims_name s.name) of (k.claim s.name) (h.claim s.name)))
    ∙ sym (list_any-append (claims_name s.name) later of))
    (fresh_is r of k later h)

pub twice_is : (r : ℕ → ℕ → Bool) (of : List Swap) (k : KeptNames) (xs : List Swap) → KnowsNames r of k
    → claimed_twice_in k xs ≡ claimed_twice xs of
twice_is r of k [] h = refl
twice_is r of k (s ∷ later) h =
    ap₂ (λ (x : Bool) (y : Option ℕ). cond (s.claims && x) (Some s.lba) y)
    (ap (λ (x : Bool). list_any (claims_name s.name) later || x)
    (sym (any_listed (claims_name s.name) of (k.claim s.name) (h.claim s.name)))
    ∙ sym (list_any-append (claims_name s.name) later of))
    (twice_is r of k later h)

in_filter_holds : {X : Type 0} (p : X → Bool) (xs : List X) (x : X) (ys : List X) → filter p xs ≡ x ∷ ys
    → p x ≡ true
in_filter_holds p [] x ys e = absurd cc
in_filter_holds p (y ∷ xs) x ys e = go (p y) refl e (in_filter_holds p xs x ys)
  where
    head : y ∷ filter p xs ≡ x ∷ ys → y ≡ x
    head q = cc

    go : (b : Bool) → p y ≡ b → cond b (y ∷ filter p xs) (filter p xs) ≡ x ∷ ys
        → (filter p xs ≡ x ∷ ys → p x ≡ true) → p x ≡ true
    go true f g ih = ap p (sym (head g)) ∙ f
    go false f g ih = ih g

any_found : {X : Type 0} (p t : X → Bool) (xs : List X) (x : X) (ys : List X) → filter p xs ≡ x ∷ ys → t x ≡ true
    → list_any (λ y. p y && t y) xs ≡ true
any_found p t xs x ys e f = any_filter p t xs ∙ ap (list_any t) e ∙ ap (λ (b : Bool). b || list_any t ys) f

-- the entry of a claim that is kept
won_of : (r : ℕ → ℕ → Bool) (of : List Swap) (k : KeptNames) (n : Name) (w : Swap) → KnowsNames r of k
    → k.claim n ≡ Some w → k.won w.queue (suc w.number) ≡ Some (r w.queue (suc w.number))
won_of r of k n w h e =
    let is : filter (claims_name n) of ≡ w ∷ [] = h.claim n ∙ ap option_to_list e in
    let claims = (and_parts w.claims (same_name w.name n) (in_filter_holds (claims_name n) of w [] is)).0 in
    let there : list_any (λ y. claims_name n y && claims_by w.queue (suc w.number) y) of ≡ true =
    any_found (claims_name n) (claims_by w.queue (suc w.number)) of w [] is
    (and_from _ _ claims (and_from _ _ (eq-eqb w.queue w.queue refl) (eq-eqb (suc w.number) (suc w.number) refl))) in
    h.won w.queue (suc w.number)
    ∙ ap (λ (b : Bool). cond b (Some (r w.queue (suc w.number))) None)
    (any_weaker (claims_name n) (claims_by w.queue (suc w.number)) of there)
  where
    any_weaker : (p t : Swap → Bool) (xs : List Swap) → list_any (λ y. p y && t y) xs ≡ true → list_any t xs ≡ true
    any_weaker p t [] e = absurd cc
    any_weaker p t (x ∷ xs) e = go (p x) (t x) e (any_weaker p t xs)
      where
        go : (a b : Bool) → ((a && b) || list_any (λ y. p y && t y) xs) ≡ true
            → (list_any (λ y. p y && t y) xs ≡ true → list_any t xs ≡ true) → (b || list_any t xs) ≡ true
        go a true f ih = refl
        go true false f ih = ih f
        go false false f ih = ih f

order : (a b d e : Bool) → (((a && b) && d) && e) ≡ ((a && d) && (b && e))
order true true true e = refl
order true true false e = refl
order true false true e = refl
order true false false e = refl
order false b d e = refl

-- what a name's claim gives is what some claim of the name does
pub gives_is : (r : ℕ → ℕ → Bool) (of : List Swap) (k : KeptNames) (l : ℕ) (n : Name) (test : Swap → Bool)
    → KnowsNames r of k
    → gives l test (k.claim n) ≡ list_any (λ s. ((s.claims && eqb s.lba l) && same_name s.name n) && test s) of
gives_is r of k l n test h = go (k.claim n) ∙ sym found
  where
    both : Swap → Bool
    both s = eqb s.lba l && test s

    found : list_any (λ s. ((s.claims && eqb s.lba l) && same_name s.name n) && test s) of
        ≡ list_any both (option_to_list (k.claim n))
    found = any_same _ (λ s. claims_name n s && both s) of
        (λ s. order s.claims (eqb s.lba l) (same_name s.name n) (test s))
        ∙ any_filter (claims_name n) both of ∙ ap (list_any both) (h.claim n)

    or_none : (b : Bool) → b ≡ (b || false)
    or_none true = refl
    or_none false = refl

    go : (o : Option Swap) → gives l test o ≡ list_any both (option_to_list o)
    go None = refl
    go (Some w) = or_none (both w)

pub believes_is : (r : ℕ → ℕ → Bool) (of : List Swap) (k : KeptNames) (l : ℕ) (n : Name) → KnowsNames r of k
    → believes k l n
    ≡ (list_any (λ s. ((s.claims && eqb s.lba l) && same_name s.name n) && r s.queue (suc s.number)) of
    && not (list_any (λ s. releases s l n) of))
believes_is r of k l n h =
    ap₂ (λ (x y : Bool). x && not y)
    (won_is (k.claim n) refl ∙ gives_is r of k l n (λ s. r s.queue (suc s.number)) h) (h.released l n)
  where
    won_is : (o : Option Swap) → k.claim n ≡ o → gives l (λ w. unwrap_or (k.won w.queue (suc w.number)) false) o
        ≡ gives l (λ w. r w.queue (suc w.number)) o
    won_is None e = refl
    won_is (Some w) e = ap (λ (x : Option Bool). eqb w.lba l && unwrap_or x false) (won_of r of k n w h e)

-- ---- two lists, each in two parts

longer : (o : Option Swap) (x y : Swap) (zs : List Swap) → x ∷ y ∷ zs ≡ option_to_list o → ⊥
longer None x y zs e = absurd cc
longer (Some s) x y zs e = absurd (let l : suc (suc (length zs)) ≡ 1 = ap length e in omega (arith, l))

-- of four parts that have one element at most the order doesn't matter
regroup : (o : Option Swap) (a g b h : List Swap) → (a ++ g) ++ (b ++ h) ≡ option_to_list o
    → (a ++ b) ++ (g ++ h) ≡ option_to_list o
regroup o [] [] b h e = e
regroup o [] (x ∷ g) [] h e = e
regroup o [] (x ∷ []) (y ∷ b) h e = absurd (longer o x y (b ++ h) e)
regroup o [] (x ∷ z ∷ g) (y ∷ b) h e = absurd (longer o x z (g ++ ((y ∷ b) ++ h)) e)
regroup o (x ∷ a) [] b h e = append_assoc (x ∷ a) b h
    ∙ ap (λ (xs : List Swap). xs ++ (b ++ h)) (sym (append-nil (x ∷ a))) ∙ e
regroup o (x ∷ []) (y ∷ g) b h e = absurd (longer o x y (g ++ (b ++ h)) e)
regroup o (x ∷ z ∷ a) (y ∷ g) b h e = absurd (longer o x z ((a ++ (y ∷ g)) ++ (b ++ h)) e)

pub regrouped : (r : ℕ → ℕ → Bool) (a g b h : List Swap) (k : KeptNames) → KnowsNames r ((a ++ g) ++ (b ++ h)) k
    → KnowsNames r ((a ++ b) ++ (g ++ h)) k
regrouped r a g b h k x =
    record {
      claim = λ n. four (claims_name n) a b g h
          ∙ regroup (k.claim n) (filter (claims_name n) a) (filter (claims_name n) g) (filter (claims_name n) b)
          (filter (claims_name n) h) (sym (four (claims_name n) a g b h) ∙ x.claim n);
      won = λ q j. x.won q j ∙ ap (λ (y : Bool). cond y (Some (r q j)) None) (any_four (claims_by q j));
      released = λ l n. x.released l n ∙ any_four (λ s. releases s l n);
    }
  where
    four : (p : Swap → Bool) (xs ys zs us : List Swap) → filter p ((xs ++ ys) ++ (zs ++ us))
        ≡ (filter p xs ++ filter p ys) ++ (filter p zs ++ filter p us)
    four p xs ys zs us = filter-append p (xs ++ ys) (zs ++ us)
        ∙ ap₂ (λ (x y : List Swap). x ++ y) (filter-append p xs ys) (filter-append p zs us)

    exchange : (x y z u : Bool) → ((x || y) || (z || u)) ≡ ((x || z) || (y || u))
    exchange true y z u = refl
    exchange false true true u = refl
    exchange false true false u = refl
    exchange false false z u = refl

    any_parts : (p : Swap → Bool) (xs ys zs us : List Swap) → list_any p ((xs ++ ys) ++ (zs ++ us))
        ≡ ((list_any p xs || list_any p ys) || (list_any p zs || list_any p us))
    any_parts p xs ys zs us = list_any-append p (xs ++ ys) (zs ++ us)
        ∙ ap₂ (λ (x y : Bool). x || y) (list_any-append p xs ys) (list_any-append p zs us)

    any_four : (p : Swap → Bool) → list_any p ((a ++ g) ++ (b ++ h)) ≡ list_any p ((a ++ b) ++ (g ++ h))
    any_four p = any_parts p a g b h ∙ exchange (list_any p a) (list_any p g) (list_any p b) (list_any p h)
        ∙ sym (any_parts p a b g h)

-- ---- the area

pub in_area_any : (slots : Range) (l : ℕ) (p : Swap → Bool) (xs : List Swap) → has_block slots l ≡ true
    → ((s : Swap) → p s ≡ true → s.lba ≡ l) → list_any p (in_area slots xs) ≡ list_any p xs
in_area_any slots l p xs h only = sym (any_filter (λ s. has_block slots s.lba) p xs) ∙ any_same _ p xs (λ s. go s
    (p s) refl)
  where
    go : (s : Swap) (b : Bool) → p s ≡ b → (has_block slots s.lba && p s) ≡ p s
    go s true e = ap (λ (x : Bool). x && p s) (ap (has_block slots) (only s e) ∙ h)
    go s false e = (λ i. has_block slots s.lba && e i) ∙ none (has_block slots s.lba) ∙ sym e
      where
        none : (b : Bool) → (b && false) ≡ false
        none true = refl
        none false = refl

-- ---- a batch

not_any : (a b : Bool) → (not a || not b) ≡ true → a ≡ true → b ≡ false
not_any true true h e = absurd cc
not_any true false h e = refl
not_any false b h e = absurd cc

-- one more of a batch whose names are fresh, from its end
pub added_at : (r : ℕ → ℕ → Bool) (of : List Swap) (k m : KeptNames) (xs : List Swap) (i : ℕ) (s d : Swap)
    → i < length xs → s ≡ get_or xs i d → fresh_names xs of ≡ true → AreUnwon r xs
    → KnowsNames r (drop (suc i) xs ++ of) k
    → ((n : Name) → m.claim n ≡ cond (s.claims && same_name s.name n) (Some s) (k.claim n))
    → ((q j : ℕ) → m.won q j ≡ cond (claims_by q j s) (Some false) (k.won q j))
    → ((l : ℕ) (n : Name) → m.released l n ≡ (releases s l n || k.released l n))
    → KnowsNames r (drop i xs ++ of) m
added_at r of k m [] i s d l e f u h a b g = absurd (omega (arith, l))
added_at r of k m (x ∷ xs) zero s d l e f u h a b g =
    subst (λ (y : Swap). KnowsNames r (y ∷ (xs ++ of)) m) e
    (added r (xs ++ of) k m s h a b g
    (λ y. sym (any_listed (claims_name s.name) (xs ++ of) (k.claim s.name) (h.claim s.name))
    ∙ not_any s.claims (list_any (claims_name s.name) (xs ++ of))
    (subst (λ (z : Swap). (not z.claims || not (list_any (claims_name z.name) (xs ++ of))) ≡ true) (sym e)
    (and_parts _ (fresh_names xs of) f).0) y)
    (subst (λ (z : Swap). r z.queue (suc z.number) ≡ false) (sym e) u.0))
added_at r of k m (x ∷ xs) (suc i) s d l e f u h a b g =
    added_at r of k m xs i s d (omega (arith, l)) e (and_parts _ (fresh_names xs of) f).1 u.1 h a b g
