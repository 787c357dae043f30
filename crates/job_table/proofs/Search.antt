-- A search by halves over tickets that rise: what each probe leaves, and how many probes there are.
use Rattle.std.proofs.Common.{List, None, Some, [], arith, false, inl, inr, length, refl, slice_get, suc, zero, ℕ, ◌*◌}
use Rattle.std.proofs.Common.{◌+◌, ◌-◌, ◌/◌, ◌<◌, ◌^◌, ◌≤◌, ◌∙◌, ◌∷◌, ◌≡◌, ap, sym}
use Rattle.std.proofs.Math.Nat.{mul-le-mul_left, mul_assoc, pow-suc}
use Rattle.std.proofs.lemmas.Bool.{cases_lt, ne_eqb}
use Rattle.std.proofs.lemmas.Bool.Decides.{nat_tests}
use Rattle.job_table.specs.Keyed.{IsAtPlace, AreKeyedRising, has_ticket, tickets_of}
use Rattle.job_table.specs.declared.tickets.Keyed.{Keyed}
use Rattle.job_table.proofs.Rising.{rises}

-- the ticket, if it is there, is at one of the places left; and so many probes were made
pub record Searches (ks : List Keyed) (t from to old now : ℕ) : Type 0 where
  pub order : from ≤ to
  pub within : to ≤ length ks
  pub below : (i u : ℕ) → i < from → slice_get (tickets_of ks) i ≡ Some u → u < t
  pub above : (i u : ℕ) → to ≤ i → slice_get (tickets_of ks) i ≡ Some u → t < u
  pub counted : old ≤ now
  pub halved : 2 ^ (now - old) * (to - from) ≤ length ks
  pub cost : 2 ^ (now - old) ≤ 2 * length ks + 1

-- none is past the end
past_end : (ks : List Keyed) (i u : ℕ) → length ks ≤ i → slice_get (tickets_of ks) i ≡ Some u → i < i
past_end [] i u l h = absurd (let q : None ≡ Some u = h in cc)
past_end (k ∷ ks) zero u l h = absurd (omega (arith, l))
past_end (k ∷ ks) (suc i) u l h = omega (arith, past_end ks i u (omega (arith, l)) h)

-- all places are left before the first probe
pub first : (ks : List Keyed) (t s : ℕ) → Searches ks t 0 (length ks) s s
first ks t s =
    let none : s - s ≡ 0 = omega arith in
    record {
      order = omega arith;
      within = omega arith;
      below = λ i u l h. absurd (omega (arith, l));
      above = λ i u l h. absurd (omega (arith, past_end ks i u l h));
      counted = omega arith;
      halved = rw none (omega arith);
      cost = rw none (omega arith);
    }

-- the count after one more
power : (old now : ℕ) → old ≤ now → 2 ^ (now + 1 - old) ≡ 2 ^ (now - old) * 2
power old now l =
    let more : now + 1 - old ≡ suc (now - old) = omega (arith, l) in
    ap (λ k. 2 ^ k) more ∙ pow-suc 2 (now - old)

-- what is left after one more probe is at most a half
half : (ks : List Keyed) (t from to old now m : ℕ) → Searches ks t from to old now → 2 * m ≤ to - from
    → 2 ^ (now + 1 - old) * m ≤ length ks
half ks t from to old now m s l =
    let a : 2 ^ (now + 1 - old) * m ≡ 2 ^ (now - old) * (2 * m) = ap (λ k. k * m) (power old now s.counted)
    ∙ mul_assoc (2 ^ (now - old)) 2 m in
    omega (arith, a, mul-le-mul_left (2 ^ (now - old)) l, s.halved)

-- and one more probe is within the bound
pub one_more : (ks : List Keyed) (t from to old now : ℕ) → Searches ks t from to old now → from < to
    → 2 ^ (now + 1 - old) ≤ 2 * length ks + 1
one_more ks t from to old now s l =
    let some : 1 ≤ to - from = omega (arith, l) in
    omega (arith, power old now s.counted, mul-le-mul_left (2 ^ (now - old)) some, s.halved)

-- a lower ticket in the middle leaves the upper half
pub upper : (ks : List Keyed) (t from to old now u : ℕ) → AreKeyedRising ks → Searches ks t from to old now → from < to
    → slice_get (tickets_of ks) (from + (to - from) / 2) ≡ Some u → u < t
    → Searches ks t (from + (to - from) / 2 + 1) to old (now + 1)
upper ks t from to old now u r s l h low =
    let middle = from + (to - from) / 2 in
    record {
      order = omega (arith, l);
      within = s.within;
      below = λ i v k e. elim (cases_lt i middle) [
        | inl before ↦ omega (arith, low, rises (tickets_of ks) i middle v u r before e h)
        | inr from_there ↦ let same : i ≡ middle = omega (arith, k, from_there) in
            let q : Some v ≡ Some u = sym e ∙ ap (slice_get (tickets_of ks)) same ∙ h in let f : v ≡ u = cc in
            omega (arith, f, low)
      ];
      above = s.above;
      counted = omega (arith, s.counted);
      halved = half ks t from to old now (to - (middle + 1)) s (omega (arith, l));
      cost = one_more ks t from to old now s l;
    }

-- a higher one leaves the lower half
pub lower : (ks : List Keyed) (t from to old now u : ℕ) → AreKeyedRising ks → Searches ks t from to old now → from < to
    → slice_get (tickets_of ks) (from + (to - from) / 2) ≡ Some u → t < u
    → Searches ks t from (from + (to - from) / 2) old (now + 1)
lower ks t from to old now u r s l h high =
    let middle = from + (to - from) / 2 in
    record {
      order = omega arith;
      within = omega (arith, l, s.within);
      below = s.below;
      above = λ i v k e. elim (cases_lt middle i) [
        | inl behind ↦ omega (arith, high, rises (tickets_of ks) middle i u v r behind h e)
        | inr up_to ↦ let same : i ≡ middle = omega (arith, k, up_to) in
            let q : Some v ≡ Some u = sym e ∙ ap (slice_get (tickets_of ks)) same ∙ h in let f : v ≡ u = cc in
            omega (arith, f, high)
      ];
      counted = omega (arith, s.counted);
      halved = half ks t from to old now (middle - from) s (omega (arith, l));
      cost = one_more ks t from to old now s l;
    }

-- one that is no lower, and another, is higher
pub other_above : (t u : ℕ) → t ≤ u → (u ≡ t → ⊥) → t < u
other_above t u l n = elim (cases_lt t u) [
  | inl k ↦ k
  | inr k ↦ absurd (n (omega (arith, l, k)))
]

-- with no place left the ticket isn't there
pub none_left : (ks : List Keyed) (t : ℕ) → ((i : ℕ) → IsAtPlace ks t i → i < i) → has_ticket ks t ≡ false
none_left [] t none = refl
none_left (k ∷ ks) t none =
    let other = ne_eqb k.ticket t (λ e. omega (arith, none 0 (ap Some e))) in
    let later = none_left ks t (λ i p. omega (arith, none (suc i) p)) in
    grind (arith, nat_tests)

pub ended : (ks : List Keyed) (t from to old now : ℕ) → Searches ks t from to old now → to ≤ from
    → has_ticket ks t ≡ false
ended ks t from to old now s l = none_left ks t (λ i p. elim (cases_lt i from) [
  | inl k ↦ absurd (omega (arith, s.below i t k p))
  | inr k ↦ absurd (omega (arith, s.above i t (omega (arith, k, l)) p))
])
