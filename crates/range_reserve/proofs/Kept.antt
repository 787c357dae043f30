-- What a filter keeps.
use Rattle.std.proofs.Common.{◌≡◌, ℕ, Bool, true, false, not, cond, ◌||◌, List, [], ◌∷◌, refl, ap, ◌∙◌, ◌==◌, eqb}
use Rattle.std.proofs.Common.{Option, Some, is_some}
use Rattle.std.specs.List.{filter, find, list_any}
use Rattle.std.proofs.lemmas.Bool.{cond-true, not_from_false, or_from, or_parts}
use Rattle.nvme_model.specs.Open.{conflict}
use Rattle.nvme_model.specs.declared.array.Mode.{Mode}
use Rattle.nvme_model.specs.declared.array.Range.{Range}
use Rattle.range_reserve.specs.declared.held.HeldRange.{HeldRange}
use Rattle.range_reserve.specs.Reserved.{AreApart, has_conflict, holds_range, held_beside, held_by}
use Rattle.nvme_model.specs.Array.{IsRange}
use Rattle.std.specs.Option.{option_map}

list_any_kept : {X : Type 0} (p : X → Bool) (b : Bool) (x : X) (ys : List X) → p x ≡ false → list_any p ys ≡ false
    → list_any p (cond b (x ∷ ys) ys) ≡ false
list_any_kept p true x ys h k = or_from (p x) (list_any p ys) h k
list_any_kept p false x ys h k = k

list_any-filter : {X : Type 0} (p q : X → Bool) (xs : List X) → list_any p xs ≡ false → list_any p (filter q xs) ≡ false
list_any-filter p q [] h = refl
list_any-filter p q (x ∷ xs) h =
    let k : (p x ≡ false) × (list_any p xs ≡ false) = or_parts (p x) (list_any p xs) h in
    list_any_kept p (q x) x (filter q xs) k.0 (list_any-filter p q xs k.1)

pub apart_filter : (q : HeldRange → Bool) (held : List HeldRange) → AreApart held → AreApart (filter q held)
apart_filter q [] a = tt
apart_filter q (h ∷ hs) a =
    kept (q h) h (filter q hs) a.0
    (list_any-filter (λ x. x.ticket == h.ticket) q hs a.1)
    (list_any-filter (λ x. conflict h.range h.mode x.range x.mode) q hs a.2)
    (apart_filter q hs a.3)
  where
    kept : (b : Bool) (h : HeldRange) (hs : List HeldRange) → IsRange h.range → holds_range hs h.ticket ≡ false
        → has_conflict hs h.range h.mode ≡ false → AreApart hs → AreApart (cond b (h ∷ hs) hs)
    kept true h hs r t c a = (r, t, c, a)
    kept false h hs r t c a = a

-- a ticket that holds nothing leaves all
pub beside_all : (held : List HeldRange) (t : ℕ) → holds_range held t ≡ false → held_beside held t ≡ held
beside_all [] t e = refl
beside_all (h ∷ hs) t e =
    let k : (eqb h.ticket t ≡ false) × (holds_range hs t ≡ false) = or_parts (h.ticket == t) (holds_range hs t) e in
    cond-true (not (h.ticket == t)) _ _ (not_from_false (h.ticket == t) k.0)
    ∙ ap (λ (xs : List HeldRange). h ∷ xs) (beside_all hs t k.1)

pub beside_none : (held : List HeldRange) (t : ℕ) → holds_range (held_beside held t) t ≡ false
beside_none [] t = refl
beside_none (h ∷ hs) t = kept (h.ticket == t) h (held_beside hs t) refl (beside_none hs t)
  where
    kept : (b : Bool) (h : HeldRange) (hs : List HeldRange) → (h.ticket == t) ≡ b → holds_range hs t ≡ false
        → holds_range (cond (not b) (h ∷ hs) hs) t ≡ false
    kept true h hs e k = k
    kept false h hs e k = or_from (h.ticket == t) (holds_range hs t) e k

-- what a ticket holds is there where one has its number
pub is_some-held_by : (held : List HeldRange) (t : ℕ) → is_some (held_by held t) ≡ holds_range held t
is_some-held_by [] t = refl
is_some-held_by (h ∷ hs) t = first (h.ticket == t) (find (λ h. h.ticket == t) hs) (is_some-held_by hs t)
  where
    first : (b : Bool) (o : Option HeldRange)
        → is_some {T = Range × Mode} (option_map (λ (h : HeldRange). (h.range, h.mode)) o) ≡ holds_range hs t
        → is_some {T = Range × Mode} (option_map (λ (h : HeldRange). (h.range, h.mode)) (cond b (Some h) o))
        ≡ (b || holds_range hs t)
    first true o e = refl
    first false o e = e
