-- The tickets in flight, as a table.
use Rattle.std.proofs.Common.{◌≡◌, ◌≢◌, ℕ, zero, suc, ◌<◌, ◌==◌, ◌||◌, Bool, true, false, not, List, [], ◌∷◌, ◌++◌}
use Rattle.std.proofs.Common.{get_or, length, map, set, slice_get, Option, Some, None, refl, sym, ap, ap₂, ◌∙◌, subst}
use Rattle.std.proofs.Common.{arith, cond, eq-eqb, eqb-true, inl, inr, le-ltb, lt-ltb, ltb-false, ltb-true, nat_lt}
use Rattle.std.proofs.Common.{ne_eqb, ◌≤◌}
use Rattle.std.specs.List.{filter, list_any, position, position_or_len, remove}
use Rattle.std.specs.List.Sorted.{IsNonDecreasingBy, IsPartitionPoint}
use Rattle.std.proofs.lemmas.Bool.{cases_lt, cond-false, cond-true}
use Rattle.std.proofs.lemmas.Bool.Decides.{nat_tests}
use Rattle.std.proofs.lemmas.List.{map-append}
use Rattle.std.proofs.lemmas.List.Quantifiers.{position-Some}
use Rattle.std.proofs.lemmas.List.Sums.{position_or_len_is}
use Rattle.history_check.specs.Judged.{flies}
use Rattle.history_check.specs.Tables.{Tables, tables}
use Rattle.nvme_model.specs.History.{Past}
use Rattle.nvme_model.specs.declared.config.ConfigNumbers.{ConfigNumbers}
use Rattle.nvme_model.proofs.Lists.{Each, each_get, each_map}
use Rattle.ticket_laws.specs.Standing.{flying}
use Rattle.ticket_laws.proofs.Flying.{Rising, flying_rises, has_flying}
use Rattle.history_check.specs.Kept.{IsCheckerState, CheckerState, flight_in}
use Rattle.history_check.specs.declared.fields.CheckedInFlight.{CheckedInFlight}

-- each is of its ticket
pub record IsOwn (g : ℕ → CheckedInFlight) : Type 0 where
  pub ticket : (u : ℕ) → (g u).ticket ≡ u

pub own_flight : (c : ConfigNumbers) (s : Tables) → IsOwn (flight_in c s)
own_flight c s = record { ticket = λ u. refl }

-- ---- what stands where

at_place : (g : ℕ → CheckedInFlight) (ts : List ℕ) (i : ℕ) (x : CheckedInFlight) → IsOwn g → i < length (map g ts)
    → x ≡ get_or (map g ts) i x → (slice_get ts i ≡ Some x.ticket) × (x ≡ g x.ticket)
at_place g [] i x o l e = absurd (omega (arith, l))
at_place g (u ∷ us) zero x o l e =
    let t : x.ticket ≡ u = ap (λ (y : CheckedInFlight). y.ticket) e ∙ o.ticket u in
    (ap (λ n. Some n) (sym t), e ∙ ap g (sym t))
at_place g (u ∷ us) (suc i) x o l e = at_place g us i x o (omega (arith, l)) e

-- a ticket is found where it is one of them
any_place : (p : CheckedInFlight → Bool) (xs : List CheckedInFlight)
    → nat_lt (position_or_len p xs) (length xs) ≡ list_any p xs
any_place p [] = refl
any_place p (x ∷ xs) = grind (arith, nat_tests, any_place p xs)

any_ticket : (g : ℕ → CheckedInFlight) (ts : List ℕ) (t : ℕ) → IsOwn g
    → list_any (λ (e : CheckedInFlight). e.ticket == t) (map g ts) ≡ list_any (λ u. u == t) ts
any_ticket g [] t o = refl
any_ticket g (u ∷ us) t o = ap₂ (λ (a b : Bool). a || b) (ap (λ n. n == t) (o.ticket u)) (any_ticket g us t o)

none_placed : (b : Bool) (i : ℕ) → cond b (Some i) None ≡ None → b ≡ false
none_placed true i e = absurd cc
none_placed false i e = refl

some_placed : (b : Bool) (i j : ℕ) → cond b (Some i) None ≡ Some j → b ≡ true
some_placed true i j e = refl
some_placed false i j e = absurd cc

-- ---- by halves

-- the tickets of a table rise
all_above : (g : ℕ → CheckedInFlight) (u : ℕ) (ts : List ℕ) (j : ℕ) (d : CheckedInFlight) → IsOwn g
    → Each (λ v. u < v) ts
    → j < length (map g ts) → u < (get_or (map g ts) j d).ticket
all_above g u [] j d o a l = absurd (omega (arith, l))
all_above g u (v ∷ vs) zero d o a l = omega (arith, a.0, o.ticket v)
all_above g u (v ∷ vs) (suc j) d o a l = all_above g u vs j d o a.1 (omega (arith, l))

rises_far : (g : ℕ → CheckedInFlight) (ts : List ℕ) → IsOwn g → Rising ts
    → IsNonDecreasingBy (λ (e : CheckedInFlight). e.ticket) (map g ts)
rises_far g [] o r i j d le l = absurd (omega (arith, l))
rises_far g (u ∷ us) o r zero zero d le l = omega arith
rises_far g (u ∷ us) o r zero (suc j) d le l = omega (arith, o.ticket u, all_above g u us j d o r.0 (omega (arith, l)))
rises_far g (u ∷ us) o r (suc i) zero d le l = absurd (omega (arith, le))
rises_far g (u ∷ us) o r (suc i) (suc j) d le l = rises_far g us o r.1 i j d (omega (arith, le)) (omega (arith, l))

-- none is this one
nowhere : (t : ℕ) (xs : List CheckedInFlight) (d : CheckedInFlight)
    → ((k : ℕ) → k < length xs → (get_or xs k d).ticket ≢ t)
    → None ≡ position (λ (e : CheckedInFlight). e.ticket == t) xs
nowhere t xs d others =
    let at : position_or_len (λ (e : CheckedInFlight). e.ticket == t) xs ≡ length xs =
    position_or_len_is (λ (e : CheckedInFlight). e.ticket == t) xs (length xs) d (omega arith)
    (λ k l. ne_eqb _ t (others k l)) (λ l. absurd (omega (arith, l))) in
    sym (cond-false _ (Some (position_or_len (λ (e : CheckedInFlight). e.ticket == t) xs)) None
    (le-ltb _ _ (omega (arith, at))))

-- where they stop being below one
abbrev pub IsPoint : ℕ → List CheckedInFlight → ℕ → Type 0
IsPoint t xs i = IsPartitionPoint (λ (e : CheckedInFlight). nat_lt e.ticket t ≡ true)
    (λ (e : CheckedInFlight). nat_lt e.ticket t ≡ false) xs i

-- it stands there
pub halves_some : (t : ℕ) (xs : List CheckedInFlight) (i : ℕ) (d : CheckedInFlight) → IsPoint t xs i → i < length xs
    → (get_or xs i d).ticket ≡ t → Some i ≡ position (λ (e : CheckedInFlight). e.ticket == t) xs
halves_some t xs i d point within e =
    let at : position_or_len (λ (x : CheckedInFlight). x.ticket == t) xs ≡ i =
    position_or_len_is (λ (x : CheckedInFlight). x.ticket == t) xs i d (omega (arith, within))
    (λ k l. ne_eqb _ t (λ (q : (get_or xs k d).ticket ≡ t).
    omega (arith, q, ltb-true _ t (point.0 k d (omega arith) l)))) (λ l. eq-eqb _ t e) in
    sym (cond-true _ (Some (position_or_len (λ (x : CheckedInFlight). x.ticket == t) xs)) None
    (lt-ltb _ _ (omega (arith, at, within))) ∙ ap (λ n. Some n) at)

-- or another does
pub halves_none : (t : ℕ) (xs : List CheckedInFlight) (i : ℕ) (d : CheckedInFlight) → IsPoint t xs i
    → IsNonDecreasingBy (λ (e : CheckedInFlight). e.ticket) xs → i < length xs → (get_or xs i d).ticket ≢ t
    → None ≡ position (λ (e : CheckedInFlight). e.ticket == t) xs
halves_none t xs i d point rises within isnt = nowhere t xs d (λ k l q. elim (cases_lt k i) [
  | inl below ↦ omega (arith, q, ltb-true _ t (point.0 k d (omega arith) below))
  | inr above ↦ isnt (omega (arith, q, rises i k d above l, ltb-false _ t (point.1 i d (omega arith) within)))
])

-- or none
pub halves_past : (t : ℕ) (xs : List CheckedInFlight) (i : ℕ) → IsPoint t xs i → length xs ≤ i
    → None ≡ position (λ (e : CheckedInFlight). e.ticket == t) xs
halves_past t [] i point past = refl
halves_past t (x ∷ xs) i point past =
    nowhere t (x ∷ xs) x (λ k l q. omega (arith, q, ltb-true _ t (point.0 k x (omega arith) (omega (arith, l, past)))))

-- ---- what a change of one leaves

same_map : (g h : ℕ → CheckedInFlight) (ts : List ℕ) → Each (λ u. h u ≡ g u) ts → map g ts ≡ map h ts
same_map g h [] e = refl
same_map g h (u ∷ us) e =
    ap₂ (λ (y : CheckedInFlight) (ys : List CheckedInFlight). y ∷ ys) (sym e.0) (same_map g h us e.1)

-- another at the place of a ticket
pub set_place : (g h : ℕ → CheckedInFlight) (ts : List ℕ) (i t : ℕ) (x : CheckedInFlight) → Rising ts
    → slice_get ts i ≡ Some t
    → x ≡ h t → ((u : ℕ) → u ≢ t → h u ≡ g u) → set (map g ts) i x ≡ map h ts
set_place g h [] i t x r s e o = absurd (let f : None ≡ Some t = s in cc)
set_place g h (u ∷ us) zero t x r s e o =
    let same : u ≡ t = some_inj s in
    ap₂ (λ (y : CheckedInFlight) (ys : List CheckedInFlight). y ∷ ys) (e ∙ ap h (sym same))
    (same_map g h us (each_map (λ v. u < v) (λ v. h v ≡ g v) (λ v l. o v (λ q. omega (arith, q, same, l))) us r.0))
  where
    some_inj : Some u ≡ Some t → u ≡ t
    some_inj w = cc
set_place g h (u ∷ us) (suc i) t x r s e o =
    let below : u < t = each_get (λ v. u < v) us i t r.0 s in
    ap₂ (λ (y : CheckedInFlight) (ys : List CheckedInFlight). y ∷ ys) (sym (o u (λ q. omega (arith, q, below))))
    (set_place g h us i t x r.1 s e o)

-- the same at its place
pub set_same : (xs : List CheckedInFlight) (i : ℕ) (x : CheckedInFlight) → i < length xs → x ≡ get_or xs i x
    → set xs i x ≡ xs
set_same [] i x l e = absurd (omega (arith, l))
set_same (y ∷ ys) zero x l e = ap (λ (z : CheckedInFlight). z ∷ ys) e
set_same (y ∷ ys) (suc i) x l e = ap (λ (zs : List CheckedInFlight). y ∷ zs) (set_same ys i x (omega (arith, l)) e)

-- one fewer, at its place
none_above : (t : ℕ) (ts : List ℕ) → Each (λ u. t < u) ts → filter (λ u. not (u == t)) ts ≡ ts
none_above t [] a = refl
none_above t (u ∷ us) a =
    cond-true (not (u == t)) (u ∷ filter (λ v. not (v == t)) us) (filter (λ v. not (v == t)) us)
    (ap not (ne_eqb u t (λ (q : u ≡ t). omega (arith, q, a.0))))
    ∙ ap (λ (ys : List ℕ). u ∷ ys) (none_above t us a.1)

pub less_one : (g h : ℕ → CheckedInFlight) (ts : List ℕ) (i t : ℕ) → Rising ts → slice_get ts i ≡ Some t
    → ((u : ℕ) → u ≢ t → h u ≡ g u) → remove (map g ts) i ≡ map h (filter (λ u. not (u == t)) ts)
less_one g h [] i t r s o = absurd (let f : None ≡ Some t = s in cc)
less_one g h (u ∷ us) zero t r s o =
    let same : u ≡ t = some_inj s in
    same_map g h us (each_map (λ v. u < v) (λ v. h v ≡ g v) (λ v l. o v (λ q. omega (arith, q, same, l))) us r.0)
    ∙ ap (map h) (sym (
    cond-false (not (u == t)) (u ∷ filter (λ v. not (v == t)) us) (filter (λ v. not (v == t)) us)
    (ap not (eq-eqb u t same))
    ∙ none_above t us (each_map (λ v. u < v) (λ v. t < v) (λ v l. omega (arith, same, l)) us r.0)
    ))
  where
    some_inj : Some u ≡ Some t → u ≡ t
    some_inj w = cc
less_one g h (u ∷ us) (suc i) t r s o =
    let below : u < t = each_get (λ v. u < v) us i t r.0 s in
    ap₂ (λ (y : CheckedInFlight) (ys : List CheckedInFlight). y ∷ ys) (sym (o u (λ q. omega (arith, q, below))))
    (less_one g h us i t r.1 s o)
    ∙ ap (map h) (sym (cond-true (not (u == t)) (u ∷ filter (λ v. not (v == t)) us) (filter (λ v. not (v == t)) us)
    (ap not (ne_eqb u t (λ (q : u ≡ t). omega (arith, q, below))))))

-- one more
pub more_one : (g h : ℕ → CheckedInFlight) (ts : List ℕ) (t : ℕ) (x : CheckedInFlight) → Each (λ u. h u ≡ g u) ts
    → x ≡ h t
    → map g ts ++ x ∷ [] ≡ map h (ts ++ t ∷ [])
more_one g h ts t x e s = ap₂ (λ (xs : List CheckedInFlight) (y : CheckedInFlight). xs ++ y ∷ []) (same_map g h ts e) s
    ∙ sym (map-append h ts (t ∷ []))

-- ---- of what is kept

-- a ticket in flight, and where it stands
pub record IsThere (c : ConfigNumbers) (past : Past) (t i : ℕ) (x : CheckedInFlight) : Type 0 where
  pub is : x ≡ flight_in c (tables c past) t
  pub place : slice_get (flying past) i ≡ Some t
  pub flies : flies ((tables c past).flight t) ≡ true

module _ (c : ConfigNumbers) (past : Past) (k : CheckerState) (keeps : IsCheckerState c past k) (t : ℕ) where
  any_is : list_any (λ (e : CheckedInFlight). e.ticket == t) k.flights ≡ flies ((tables c past).flight t)
  any_is =
      ap (list_any (λ (e : CheckedInFlight). e.ticket == t)) keeps.shows.in_flight
      ∙ any_ticket (flight_in c (tables c past)) (flying past) t (own_flight c (tables c past))
      ∙ has_flying c past t keeps.legal_so_far

  -- one that isn't found isn't in flight
  pub missing : position (λ (e : CheckedInFlight). e.ticket == t) k.flights ≡ None
      → flies ((tables c past).flight t) ≡ false
  missing e = sym any_is ∙ sym (any_place (λ (e : CheckedInFlight). e.ticket == t) k.flights) ∙ none_placed _ _ e

  -- one that is found
  pub found : (i : ℕ) (x : CheckedInFlight) → position (λ (e : CheckedInFlight). e.ticket == t) k.flights ≡ Some i
      → x ≡ get_or k.flights i x → IsThere c past t i x
  found i x e at =
      let p = position-Some (λ (e : CheckedInFlight). e.ticket == t) k.flights i x e in
      let same : x.ticket ≡ t = eqb-true _ _ (ap (λ (y : CheckedInFlight). y.ticket == t) at ∙ p.1) in
      let a = at_place (flight_in c (tables c past)) (flying past) i x (own_flight c (tables c past))
      (subst (λ (xs : List CheckedInFlight). i < length xs) keeps.shows.in_flight p.0)
      (at ∙ ap (λ (xs : List CheckedInFlight). get_or xs i x) keeps.shows.in_flight) in
      record {
        is = a.1 ∙ ap (flight_in c (tables c past)) same;
        place = a.0 ∙ ap (λ n. Some n) same;
        flies = sym any_is ∙ sym (any_place (λ (e : CheckedInFlight). e.ticket == t) k.flights) ∙ some_placed _ _ i e;
      }

  -- and its place
  pub placed : (i : ℕ) → position (λ (e : CheckedInFlight). e.ticket == t) k.flights ≡ Some i → i < length k.flights
  placed i e = (position-Some (λ (e : CheckedInFlight). e.ticket == t) k.flights i (flight_in c (tables c past) 0) e).0

  -- its tickets rise
  pub rises_by : (xs : List CheckedInFlight) → xs ≡ k.flights → IsNonDecreasingBy (λ (e : CheckedInFlight). e.ticket) xs
  rises_by xs same =
      subst (IsNonDecreasingBy (λ (e : CheckedInFlight). e.ticket)) (sym (same ∙ keeps.shows.in_flight))
      (rises_far (flight_in c (tables c past)) (flying past) (own_flight c (tables c past)) (flying_rises past))

  -- the same by what a search of the table gave
  pub missing_by : (xs : List CheckedInFlight) (o : Option ℕ) → xs ≡ k.flights
      → o ≡ position (λ (e : CheckedInFlight). e.ticket == t) xs → o ≡ None → flies ((tables c past).flight t) ≡ false
  missing_by xs o same by e = missing (ap (position (λ (e : CheckedInFlight). e.ticket == t)) (sym same) ∙ sym by ∙ e)

  pub found_by : (i : ℕ) (x : CheckedInFlight) (xs : List CheckedInFlight) (o : Option ℕ) → xs ≡ k.flights
      → o ≡ position (λ (e : CheckedInFlight). e.ticket == t) xs → o ≡ Some i → x ≡ get_or k.flights i x
      → IsThere c past t i x
  found_by i x xs o same by e at =
      found i x (ap (position (λ (e : CheckedInFlight). e.ticket == t)) (sym same) ∙ sym by ∙ e) at

  pub placed_by : (i : ℕ) (xs : List CheckedInFlight) (o : Option ℕ) → xs ≡ k.flights
      → o ≡ position (λ (e : CheckedInFlight). e.ticket == t) xs → o ≡ Some i → i < length k.flights
  placed_by i xs o same by e = placed i (ap (position (λ (e : CheckedInFlight). e.ticket == t)) (sym same) ∙ sym by ∙ e)
