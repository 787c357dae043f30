-- Numbers that rise, and tickets by rising number: what a change leaves, and where a ticket stands.
use Rattle.std.proofs.Common.{Bool, List, None, Some, [], arith, cond, false, is_some, nat_lt, not, refl, slice_get}
use Rattle.std.proofs.Common.{subst, suc, sym, true, zero, ℕ, ◌++◌, ◌<◌, ◌==◌, ◌∙◌, ◌∷◌, ◌≡◌}
use Rattle.std.proofs.lemmas.Bool.{and_from, and_parts}
use Rattle.std.proofs.lemmas.Bool.Decides.{nat_tests}
use Rattle.std.proofs.lemmas.List.{map-append}
use Rattle.std.proofs.lemmas.List.Folds.{list_all-append, list_all-map}
use Rattle.std.specs.List.{filter, list_all, remove}
use Rattle.job_table.specs.Keyed.{AreRising, IsAtPlace, AreKeyedRising, all_above, all_below, has_ticket, key_of}
use Rattle.job_table.specs.Keyed.{keyed_beside, keys_of, tickets_of}
use Rattle.job_table.specs.declared.tickets.Keyed.{Keyed}

-- ---- numbers

-- what a filter keeps passes too
pub list_all-filter : {X : Type 0} (p q : X → Bool) (xs : List X) → list_all p xs ≡ true
    → list_all p (filter q xs) ≡ true
list_all-filter p q [] k = refl
list_all-filter p q (x ∷ xs) k = grind (arith, list_all-filter p q xs)

-- one above all may come last
pub AreRising-push : (ts : List ℕ) (t : ℕ) → AreRising ts → list_all (λ u. nat_lt u t) ts ≡ true
    → AreRising (ts ++ t ∷ [])
AreRising-push [] t r k = (refl, tt)
AreRising-push (u ∷ us) t r k =
    let p = and_parts (nat_lt u t) (list_all (λ v. nat_lt v t) us) k in
    let above = list_all-append (λ v. nat_lt u v) us (t ∷ [])
    ∙ and_from _ _ r.0 (and_from (nat_lt u t) true p.0 refl) in
    (above, AreRising-push us t r.1 p.1)

-- some of them rise too
pub AreRising-filter : (p : ℕ → Bool) (ts : List ℕ) → AreRising ts → AreRising (filter p ts)
AreRising-filter p [] r = tt
AreRising-filter p (t ∷ ts) r =
    kept (p t) t (filter p ts) (list_all-filter (λ u. nat_lt t u) p ts r.0) (AreRising-filter p ts r.1)
  where
    kept : (b : Bool) (t : ℕ) (ts : List ℕ) → all_above t ts ≡ true → AreRising ts → AreRising (cond b (t ∷ ts) ts)
    kept true t ts k r = (k, r)
    kept false t ts k r = r

-- one below all is below each
pub above_each : (t : ℕ) (ts : List ℕ) (i u : ℕ) → all_above t ts ≡ true → slice_get ts i ≡ Some u → t < u
above_each t [] i u k h = absurd (let q : None ≡ Some u = h in cc)
above_each t (v ∷ vs) zero u k h = let q : Some v ≡ Some u = h in let e : v ≡ u = cc in grind (arith, nat_tests)
above_each t (v ∷ vs) (suc i) u k h = above_each t vs i u (and_parts (nat_lt t v) (all_above t vs) k).1 h

-- a later one is higher
pub rises : (ts : List ℕ) (i j t u : ℕ) → AreRising ts → i < j → slice_get ts i ≡ Some t → slice_get ts j ≡ Some u
    → t < u
rises [] i j t u r l h k = absurd (let q : None ≡ Some t = h in cc)
rises (v ∷ vs) i zero t u r l h k = absurd (omega (arith, l))
rises (v ∷ vs) zero (suc j) t u r l h k = let q : Some v ≡ Some t = h in let e : v ≡ t = cc in
    above_each t vs j u (rw e at r.0) k
rises (v ∷ vs) (suc i) (suc j) t u r l h k = rises vs i j t u r.1 (omega (arith, l)) h k

-- ---- tickets with their keys

-- a ticket below all isn't there
pub has_ticket_below : (ks : List Keyed) (t : ℕ) → all_above t (tickets_of ks) ≡ true → has_ticket ks t ≡ false
has_ticket_below [] t k = refl
has_ticket_below (x ∷ xs) t k = grind (arith, nat_tests, has_ticket_below xs t)

-- all are others where it isn't there
pub beside_absent : (ks : List Keyed) (t : ℕ) → has_ticket ks t ≡ false → keyed_beside ks t ≡ ks
beside_absent [] t k = refl
beside_absent (x ∷ xs) t k = grind (arith, nat_tests, beside_absent xs t)

-- and it has no key
pub key_absent : (ks : List Keyed) (t : ℕ) → has_ticket ks t ≡ false → key_of ks t ≡ None
key_absent [] t k = refl
key_absent (x ∷ xs) t k = grind (arith, nat_tests, key_absent xs t)

-- a ticket has a key where it is there
pub is_some-key_of : (ks : List Keyed) (t : ℕ) → is_some (key_of ks t) ≡ has_ticket ks t
is_some-key_of [] t = refl
is_some-key_of (x ∷ xs) t = grind (arith, nat_tests, is_some-key_of xs t)

-- they rise with one above all at the end
pub IsRising-push : (ks : List Keyed) (k : Keyed) → AreKeyedRising ks → all_below k.ticket ks ≡ true
    → AreKeyedRising (ks ++ k ∷ [])
IsRising-push ks k r below =
    subst AreRising (sym (map-append (λ (x : Keyed). x.ticket) ks (k ∷ [])))
    (AreRising-push (tickets_of ks) k.ticket r (list_all-map (λ u. nat_lt u k.ticket) (λ x. x.ticket) ks ∙ below))

-- the tickets beside one
tickets-beside : (ks : List Keyed) (t : ℕ) → tickets_of (keyed_beside ks t) ≡ filter (λ u. not (u == t)) (tickets_of ks)
tickets-beside [] t = refl
tickets-beside (x ∷ xs) t = grind (arith, nat_tests, tickets-beside xs t)

-- they rise without one
pub IsRising-beside : (ks : List Keyed) (t : ℕ) → AreKeyedRising ks → AreKeyedRising (keyed_beside ks t)
IsRising-beside ks t r =
    subst AreRising (sym (tickets-beside ks t)) (AreRising-filter (λ u. not (u == t)) (tickets_of ks) r)

-- ---- a place

-- a ticket with a place is there
pub has_ticket_at : (ks : List Keyed) (t i : ℕ) → IsAtPlace ks t i → has_ticket ks t ≡ true
has_ticket_at [] t i p = absurd (let q : None ≡ Some t = p in cc)
has_ticket_at (x ∷ xs) t zero p =
    let q : Some x.ticket ≡ Some t = p in
    let k : x.ticket ≡ t = cc in
    grind (arith, nat_tests)
has_ticket_at (x ∷ xs) t (suc i) p = grind (arith, nat_tests, has_ticket_at xs t i p)

-- the first ticket is below that of a later place
first_below : (x : Keyed) (xs : List Keyed) (t i : ℕ) → AreKeyedRising (x ∷ xs) → IsAtPlace xs t i → x.ticket < t
first_below x xs t i r p = above_each x.ticket (tickets_of xs) i t r.0 p

-- the key at its place is the ticket's
pub key_at : (ks : List Keyed) (t i : ℕ) → AreKeyedRising ks → IsAtPlace ks t i → slice_get (keys_of ks) i ≡ key_of ks t
key_at [] t i r p = refl
key_at (x ∷ xs) t zero r p =
    let q : Some x.ticket ≡ Some t = p in
    let k : x.ticket ≡ t = cc in
    grind (arith, nat_tests)
key_at (x ∷ xs) t (suc i) r p =
    let k : x.ticket < t = first_below x xs t i r p in
    grind (arith, nat_tests, key_at xs t i r.1 p)

-- what is left without the place
pub remove_at : (ks : List Keyed) (t i : ℕ) → AreKeyedRising ks → IsAtPlace ks t i → remove ks i ≡ keyed_beside ks t
remove_at [] t i r p = absurd (let q : None ≡ Some t = p in cc)
remove_at (x ∷ xs) t zero r p =
    let q : Some x.ticket ≡ Some t = p in
    let k : x.ticket ≡ t = cc in
    let a = beside_absent xs t (has_ticket_below xs t (rw k at r.0)) in
    grind (arith, nat_tests)
remove_at (x ∷ xs) t (suc i) r p =
    let k : x.ticket < t = first_below x xs t i r p in
    grind (arith, nat_tests, remove_at xs t i r.1 p)
