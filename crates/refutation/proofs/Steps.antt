-- An order is a list of pieces that are next, one after the other; so layers that end before one is whole leave none.
use Rattle.std.proofs.Common.{Bool, List, None, Option, Some, [], false, inl, inr, length, not, refl}
use Rattle.std.proofs.Common.{eq-eqb, eqb-true, slice_get, subst, suc, sym, true, zero, ℕ, ◌+◌, ◌<◌, ◌==◌, ◌||◌, ◌∙◌}
use Rattle.std.proofs.Common.{◌∷◌, ◌≡◌, arith, ap}
use Rattle.std.proofs.lemmas.Bool.{and_from, and_parts, not-true, or_cases, or_left, or_right, true≢false}
use Rattle.std.specs.List.{list_any, range_with_len}
use Rattle.refutation.specs.Layers.{ends, has_no_order, is_next, lacks_none, next_layer}
use Rattle.refutation.specs.Orders.{IsOrder, IsWay, behind_by, comes_before, follows_by, has, is_sure, is_whole}
use Rattle.refutation.specs.Orders.{may_follow, sure_by}
use Rattle.refutation.specs.Pieces.{Piece, Slice}
use Rattle.refutation.proofs.Members.{In, all_from, all_in, any_from, has_in, in_has, in_range}
use Rattle.refutation.proofs.Reached.{Reached, next_reached}
use Rattle.refutation.proofs.SameState.{same_self, whole_same}

-- ---- numbers of pieces

pub there : (slice : Slice) (n : ℕ) (p : Piece) → slice_get slice n ≡ Some p → n < length slice
there [] n p e = absurd (let h : None ≡ Some p = e in cc)
there (q ∷ slice) zero p e = omega arith
there (q ∷ slice) (suc n) p e = let l : n < length slice = there slice n p e in omega arith

in_numbers : (slice : Slice) (n : ℕ) → n < length slice → In (range_with_len 0 (length slice)) n
in_numbers slice n l =
    let e : 0 + n ≡ n = omega arith in subst (In (range_with_len 0 (length slice))) e (in_range 0 (length slice) n l)

-- a piece that may stand is there, and comes before none that stands
record Follows (slice : Slice) (order : List ℕ) (n : ℕ) : Type 0 where
  number : In (range_with_len 0 (length slice)) n
  before_none : list_any (λ m. comes_before slice n m) order ≡ false

follows : (blank : List ℕ) (slice : Slice) (order : List ℕ) (n : ℕ) → may_follow blank slice order n ≡ true
    → Follows slice order n
follows blank slice order n h = step (slice_get slice n) refl h
  where
    step : (o : Option Piece) → slice_get slice n ≡ o → follows_by blank slice order n o ≡ true → Follows slice order n
    step None e g = absurd (true≢false (sym g))
    step (Some p) e g = record {
      number = in_numbers slice n (there slice n p e);
      before_none = not-true _ (and_parts _ _ (and_parts _ _ g).0).1;
    }

-- ---- an order's pieces are next, one after the other

abbrev pub AreNext : List ℕ → Slice → List ℕ → Type 0
AreNext blank slice [] = Unit {0}
AreNext blank slice (n ∷ order) = (is_next blank slice order n ≡ true) × AreNext blank slice order

-- each sure piece that comes before one of these is among them
abbrev Complete : Slice → List ℕ → Type 0
Complete slice order =
    (m n : ℕ) → is_sure slice m ≡ true → has order n ≡ true → comes_before slice m n ≡ true → has order m ≡ true

lacking : (b h : Bool) → (b ≡ true → h ≡ true) → (not b || h) ≡ true
lacking true h f = f refl
lacking false h f = refl

none_lacks : (slice : Slice) (order : List ℕ) (n : ℕ) → Complete slice (n ∷ order) → lacks_none slice order n ≡ true
none_lacks slice order n f =
    all_from (λ m. not (is_sure slice m) || has (n ∷ order) m) (behind_by (slice_get slice n))
    (λ m i. lacking (is_sure slice m) (has (n ∷ order) m)
    (λ s. f m n s (or_left _ _ (eq-eqb n n refl)) (has_in (behind_by (slice_get slice n)) m i)))

still_complete : (slice : Slice) (order : List ℕ) (n : ℕ) → list_any (λ m. comes_before slice n m) order ≡ false
    → Complete slice (n ∷ order) → Complete slice order
still_complete slice order n none f m k s h e =
    elim (or_cases (n == m) (has order m) (f m k s (or_right (n == k) _ h) e)) [
      | inl same ↦ absurd (true≢false (sym
          (any_from (λ x. comes_before slice n x) order k (in_has order k h)
          (subst (λ x. comes_before slice x k ≡ true) (sym (eqb-true n m same)) e)) ∙ none))
      | inr g ↦ g
    ]

are_next : (blank : List ℕ) (slice : Slice) (order : List ℕ) → IsWay blank slice order → Complete slice order
    → AreNext blank slice order
are_next blank slice [] w f = tt
are_next blank slice (n ∷ order) w f =
    let g = follows blank slice order n w.0 in (
      and_from _ _ w.0 (none_lacks slice order n f),
      are_next blank slice order w.1 (still_complete slice order n g.before_none f),
    )

sure_there : (slice : Slice) (m : ℕ) → is_sure slice m ≡ true → m < length slice
sure_there slice m s = step (slice_get slice m) refl s
  where
    step : (o : Option Piece) → slice_get slice m ≡ o → sure_by o ≡ true → m < length slice
    step None e g = absurd (true≢false (sym g))
    step (Some p) e g = there slice m p e

whole_complete : (slice : Slice) (order : List ℕ) → is_whole slice order ≡ true → Complete slice order
whole_complete slice order h m n s i e =
    elim (or_cases (not (is_sure slice m)) (has order m)
    (all_in (λ n. not (is_sure slice n) || has order n) (range_with_len 0 (length slice)) m h
    (in_numbers slice m (sure_there slice m s)))) [
      | inl isnt ↦ absurd (true≢false (sym s ∙ not-true (is_sure slice m) isnt))
      | inr g ↦ g
    ]

-- ---- from the oldest on

-- these pieces, the oldest first, are next behind this order, and end in that one
abbrev Leads : List ℕ → Slice → List ℕ → List ℕ → List ℕ → Type 0
Leads blank slice o [] w = o ≡ w
Leads blank slice o (n ∷ ns) w = (is_next blank slice o n ≡ true) × Leads blank slice (n ∷ o) ns w

from_none : (blank : List ℕ) (slice : Slice) (o ns w : List ℕ) → AreNext blank slice o → Leads blank slice o ns w
    → (ms : List ℕ) × Leads blank slice [] ms w
from_none blank slice [] ns w h l = (ns, l)
from_none blank slice (n ∷ o) ns w h l = from_none blank slice o (n ∷ ns) w h.1 (h.0, l)

none_left : (blank : List ℕ) (slice : Slice) (steps : ℕ) (layer : List (List ℕ)) (o ns w : List ℕ)
    → ends blank slice steps layer ≡ true → Reached blank slice layer o → Leads blank slice o ns w
    → is_whole slice w ≡ true → ⊥
none_left blank slice steps [] o ns w e r l h = r.1
none_left blank slice zero (x ∷ layer) o ns w e r l h = true≢false (sym e)
none_left blank slice (suc steps) (x ∷ layer) o [] w e r l h =
    true≢false (sym (any_from (is_whole slice) (x ∷ layer) r.0 r.1
    (sym (whole_same blank slice o r.0 r.2) ∙ ap (is_whole slice) l ∙ h))
    ∙ not-true _ (and_parts _ _ e).0)
none_left blank slice (suc steps) (x ∷ layer) o (n ∷ ns) w e r l h =
    none_left blank slice steps (next_layer blank slice (x ∷ layer)) (n ∷ o) ns w (and_parts _ _ e).1
    (next_reached blank slice (x ∷ layer) o n r
    (follows blank slice o n (and_parts (may_follow blank slice o n) _ l.0).0).number l.0)
    l.1 h

pub no_order : (blank : List ℕ) (slice : Slice) (order : List ℕ) → has_no_order blank slice ≡ true
    → IsOrder blank slice order → ⊥
no_order blank slice order e h =
    let way = from_none blank slice order [] order
    (are_next blank slice order h.0 (whole_complete slice order h.1)) refl in
    none_left blank slice (length slice) ([] ∷ []) [] way.0 order e ([], inl refl, same_self blank slice []) way.1 h.1
