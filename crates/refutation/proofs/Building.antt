-- How an order is shown, from what each of its pieces finds.
use Rattle.std.proofs.Common.{Bool, List, Some, ap, false, length, not, slice_get, sym, true, ℕ, ◌==◌, ◌||◌, refl}
use Rattle.std.proofs.Common.{◌∙◌, ◌≡◌}
use Rattle.std.proofs.lemmas.Bool.{and_from, false_from_ne_true, not_from_false, or_right}
use Rattle.std.proofs.lemmas.Slice.Eq.{bytes_eq-Decides}
use Rattle.std.specs.List.{list_any, range_with_len}
use Rattle.plain_lemmas.proofs.Lists.{bytes_eq_true}
use Rattle.refutation.specs.Orders.{comes_before, follows_by, has, held_by, is_sure, is_whole, may_differ}
use Rattle.refutation.specs.Orders.{may_follow, may_hold}
use Rattle.refutation.specs.Pieces.{Held, Piece, Slice}
use Rattle.refutation.proofs.Members.{In, all_from, any_from, any_in}

any_none : {S : Type 0} (p : S → Bool) (xs : List S) → ((x : S) → In xs x → p x ≡ false) → list_any p xs ≡ false
any_none p xs f = false_from_ne_true _ (λ h. let m = any_in p xs h in ne_both (p m.0) m.2 (f m.0 m.1))
  where
    ne_both : (b : Bool) → b ≡ true → b ≡ false → ⊥
    ne_both b h g = let e : true ≡ false = sym h ∙ g in cc

-- Piece n may stand next behind these: it is new, comes before none of them, and finds what it has to find.
pub may_follow_from : (blank : List ℕ) (slice : Slice) (order : List ℕ) (n : ℕ) (p : Piece) → slice_get slice n ≡ Some p
    → has order n ≡ false → ((m : ℕ) → In order m → comes_before slice n m ≡ false)
    → ((h : Held) → In p.finds h → held_by blank slice order h.0 ≡ h.1)
    → ((hs : List Held) → In p.differs hs → (h : Held) × In hs h × (held_by blank slice order h.0 ≡ h.1 → ⊥))
    → may_follow blank slice order n ≡ true
may_follow_from blank slice order n p e new before finds differs =
    ap (follows_by blank slice order n) e
    ∙ and_from _ _
    (and_from _ _ (not_from_false _ new) (not_from_false _ (any_none (comes_before slice n) order before)))
    (and_from _ _
    (all_from (may_hold (held_by blank slice order)) p.finds
    (λ h i. or_right (length (held_by blank slice order h.0) == 0) _ ((bytes_eq-Decides _ _).1 (finds h i))))
    (all_from (λ hs. list_any (may_differ (held_by blank slice order)) hs) p.differs
    (λ hs i. let d = differs hs i in
    any_from (may_differ (held_by blank slice order)) hs d.0 d.1
    (or_right (length (held_by blank slice order (d.0).0) == 0) _
    (not_from_false _ (false_from_ne_true _ (λ same. d.2 (bytes_eq_true _ _ same))))))))

-- These are all that are sure.
pub whole_from : (slice : Slice) (order : List ℕ) → ((n : ℕ) → is_sure slice n ≡ true → has order n ≡ true)
    → is_whole slice order ≡ true
whole_from slice order f =
    all_from (λ n. not (is_sure slice n) || has order n) (range_with_len 0 (length slice))
    (λ n i. step n (is_sure slice n) (f n))
  where
    step : (n : ℕ) (b : Bool) → (b ≡ true → has order n ≡ true) → (not b || has order n) ≡ true
    step n true g = g refl
    step n false g = refl
