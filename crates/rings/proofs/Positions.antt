-- Where a CID is among those in use.
use Rattle.std.proofs.Common.{◌≡◌, ◌<◌, ◌≤◌, ◌+◌, ◌-◌, ◌∷◌, [], cond, length-drop, nat_lt, Bool, List, None, Some, ap}
use Rattle.std.proofs.Common.{arith, drop, eqb, eqb-true, false, get_or, length, refl, suc, sym, take, zero}
use Rattle.std.proofs.Common.{true, ℕ, ◌∙◌}
use Rattle.std.proofs.Math.Seq.{take-add}
use Rattle.std.proofs.lemmas.List.{take_rest}
use Rattle.std.proofs.lemmas.Bool.Decides.{nat_tests}
use Rattle.std.proofs.lemmas.List.Folds.{Any-from_list_any, list_any-append, list_any-from_Any}
use Rattle.std.proofs.lemmas.Grind.{get_or_default_zero}
use Rattle.std.proofs.lemmas.List.Quantifiers.{position-Some}
use Rattle.std.proofs.lemmas.List.Sums.{fails_before_first}
use Rattle.std.specs.List.{list_any, position, position_or_len}
use Rattle.std.specs.Prelude.{option_map}
use Rattle.rings.specs.Used.{is_used}

-- a place that is found has the CID
pub has : (cids : List ℕ) (cid i : ℕ) → position (λ one. eqb one cid) cids ≡ Some i
    → (i < length cids) × (cid ≡ get_or cids i cid)
has cids cid i e =
    let found = position-Some (λ one. eqb one cid) cids i cid e in
    (found.0, sym (eqb-true _ cid found.1))

-- where none is found the CID isn't in use
pub lacks : (cids : List ℕ) (cid : ℕ) → position (λ one. eqb one cid) cids ≡ None → is_used cid cids ≡ false
lacks cids cid e = go (is_used cid cids) refl
  where
    go : (b : Bool) → is_used cid cids ≡ b → b ≡ false
    go false u = refl
    go true u =
        let some = Any-from_list_any (λ one. eqb one cid) cids u in
        absurd (grind (
          arith,
          nat_tests,
          some.2,
          some.3,
          some.4,
          fails_before_first (λ one. eqb one cid) cids some.0 some.1,
        ))

-- the CID that is taken out from this place is that one
pub same : (cids : List ℕ) (cid i taken : ℕ) → i < length cids → cid ≡ get_or cids i cid → taken ≡ get_or cids i taken
    → taken ≡ cid
same cids cid i taken within e f =
    f ∙ get_or_default_zero cids i taken within ∙ sym (get_or_default_zero cids i cid within) ∙ sym e

-- one that is found is in use
pub uses : (cids : List ℕ) (cid i : ℕ) → position (λ one. eqb one cid) cids ≡ Some i → is_used cid cids ≡ true
uses cids cid i e =
    let found = position-Some (λ one. eqb one cid) cids i cid e in
    let at = get_or_default_zero cids i (get_or cids i cid) found.0 ∙ sym (get_or_default_zero cids i cid found.0) in
    list_any-from_Any (λ one. eqb one cid) cids (i, get_or cids i cid, found.0, at, found.1)

-- where none of the first n is the one, it is looked for behind them
pub behind : (p : ℕ → Bool) (n : ℕ) (xs : List ℕ) → list_any p (take n xs) ≡ false → n ≤ length xs
    → position_or_len p xs ≡ n + position_or_len p (drop n xs)
behind p zero xs h l = omega arith
behind p (suc n) [] h l = absurd (omega (arith, l))
behind p (suc n) (x ∷ xs) h l = step (p x) refl (λ g. behind p n xs g (omega (arith, l)))
  where
    step : (b : Bool) → p x ≡ b
        → (list_any p (take n xs) ≡ false → position_or_len p xs ≡ n + position_or_len p (drop n xs))
        → position_or_len p (x ∷ xs) ≡ suc n + position_or_len p (drop n xs)
    step true e f = grind (arith, e, h)
    step false e f = grind (arith, e, h, f)

-- so is its place
pub place_behind : (p : ℕ → Bool) (n : ℕ) (xs : List ℕ) → list_any p (take n xs) ≡ false → n ≤ length xs
    → position p xs ≡ option_map (λ i. n + i) (position p (drop n xs))
place_behind p n xs h l =
    ap (λ a. cond (nat_lt a (length xs)) (Some a) None) (behind p n xs h l)
    ∙ step (position_or_len p (drop n xs)) (length xs) (length (drop n xs)) l (length-drop n xs)
  where
    both : (n a m k : ℕ) (b : Bool) → nat_lt a k ≡ b → n ≤ m → k ≡ m - n → nat_lt (n + a) m ≡ b
    both n a m k true e l f = grind (arith, nat_tests, e, l, f)
    both n a m k false e l f = grind (arith, nat_tests, e, l, f)

    step : (a m k : ℕ) → n ≤ m → k ≡ m - n → cond (nat_lt (n + a) m) (Some (n + a)) None
        ≡ option_map (λ i. n + i) (cond (nat_lt a k) (Some a) None)
    step a m k l f = ap (λ b. cond b (Some (n + a)) None) (both n a m k (nat_lt a k) refl l f) ∙ cases (nat_lt a k)
      where
        cases : (b : Bool) → cond b (Some (n + a)) None ≡ option_map (λ i. n + i) (cond b (Some a) None)
        cases true = refl
        cases false = refl

-- the first n + m are none where neither the first n nor the next m are
pub none_more : (p : ℕ → Bool) (n m : ℕ) (xs : List ℕ) → list_any p (take n xs) ≡ false
    → list_any p (take m (drop n xs)) ≡ false → list_any p (take (n + m) xs) ≡ false
none_more p n m xs f g =
    ap (list_any p) (take-add n m xs) ∙ list_any-append p (take n xs) (take m (drop n xs)) ∙ grind (arith, f, g)

-- the same, of a slice from n on
pub place_in_rest : (p : ℕ → Bool) (n : ℕ) (xs : List ℕ) → list_any p (take n xs) ≡ false → n ≤ length xs
    → position p xs ≡ option_map (λ i. n + i) (position p (take (length xs - n) (drop n xs)))
place_in_rest p n xs h l =
    place_behind p n xs h l ∙ sym (ap (λ ys. option_map (λ i. n + i) (position p ys)) (take_rest xs n))

-- the same, of a slice of m behind the first n
pub none_in_run : (p : ℕ → Bool) (n m : ℕ) (xs : List ℕ) → list_any p (take n xs) ≡ false
    → list_any p (take (n + m - n) (drop n xs)) ≡ false → list_any p (take (n + m) xs) ≡ false
none_in_run p n m xs f g =
    let e : m ≡ n + m - n = omega arith in
    none_more p n m xs f (ap (λ k. list_any p (take k (drop n xs))) e ∙ g)
