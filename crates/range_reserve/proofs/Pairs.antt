-- Any two that are held.
use Rattle.std.proofs.Common.{◌≡◌, ◌≢◌, ℕ, zero, suc, ◌+◌, ◌≤◌, ◌<◌, ◌↔◌, Bool, true, false, ◌&&◌, ◌||◌, List, [], ◌∷◌}
use Rattle.std.proofs.Common.{None, Some, refl, sym, ap, ◌∙◌, arith, inl, inr, slice_get, eq-eqb, ltb-true}
use Rattle.std.proofs.Common.{le-ltb, leb-true, nat_le, nat_lt, ◌==◌, true≢false}
use Rattle.std.specs.List.{list_any}
use Rattle.std.proofs.lemmas.Bool.{and_from, and_parts, and_right, cases_lt, false_from_ne_true, or_left, or_parts}
use Rattle.std.proofs.Math.Bool.{and_comm}
use Rattle.plain_lemmas.proofs.Bools.{or_turned}
use Rattle.nvme_model.specs.Array.{has_block, overlap}
use Rattle.nvme_model.specs.Open.{conflict}
use Rattle.nvme_model.specs.Operations.{is_exclusive}
use Rattle.nvme_model.specs.declared.array.Mode.{Mode}
use Rattle.nvme_model.specs.declared.array.Range.{Range}
use Rattle.nvme_model.proofs.HasBlock.{has_inside}
use Rattle.nvme_model.proofs.Holding.{both_overlap}
use Rattle.range_reserve.specs.declared.held.HeldRange.{HeldRange}
use Rattle.range_reserve.specs.Reserved.{AreApart}

-- ---- two ranges

-- neither range comes first
overlap-turned : (r s : Range) → overlap r s ≡ overlap s r
overlap-turned r s =
    ap (λ b. b && (nat_lt r.slba (s.slba + s.blocks) && nat_lt s.slba (r.slba + r.blocks)))
    (and_comm (nat_lt 0 r.blocks) (nat_lt 0 s.blocks))
    ∙ ap (λ b. (nat_lt 0 s.blocks && nat_lt 0 r.blocks) && b)
    (and_comm (nat_lt r.slba (s.slba + s.blocks)) (nat_lt s.slba (r.slba + r.blocks)))

pub conflict-turned : (r : Range) (m : Mode) (s : Range) (n : Mode) → conflict r m s n ≡ conflict s n r m
conflict-turned r m s n =
    ap (λ b. b && (is_exclusive m || is_exclusive n)) (overlap-turned r s)
    ∙ ap (λ b. overlap s r && b) (or_turned (is_exclusive m) (is_exclusive n))

-- what has a block
record Has (r : Range) (l : ℕ) : Type 0 where
  pub from : r.slba ≤ l
  pub below : l < r.slba + r.blocks

has_parts : (r : Range) (l : ℕ) → has_block r l ≡ true → Has r l
has_parts r l h =
    let k : (nat_le r.slba l ≡ true) × (nat_lt l (r.slba + r.blocks) ≡ true) =
    and_parts (nat_le r.slba l) (nat_lt l (r.slba + r.blocks)) h in
    record { from = leb-true r.slba l k.0; below = ltb-true l (r.slba + r.blocks) k.1 }

-- what overlapping ranges are
record Overlaps (r s : Range) : Type 0 where
  pub some : 0 < r.blocks
  pub others : 0 < s.blocks
  pub first : r.slba < s.slba + s.blocks
  pub second : s.slba < r.slba + r.blocks

overlap_parts : (r s : Range) → overlap r s ≡ true → Overlaps r s
overlap_parts r s o =
    let k = and_parts (nat_lt 0 r.blocks && nat_lt 0 s.blocks)
    (nat_lt r.slba (s.slba + s.blocks) && nat_lt s.slba (r.slba + r.blocks)) o in
    let a = and_parts (nat_lt 0 r.blocks) (nat_lt 0 s.blocks) k.0 in
    let b = and_parts (nat_lt r.slba (s.slba + s.blocks)) (nat_lt s.slba (r.slba + r.blocks)) k.1 in
    record {
      some = ltb-true 0 r.blocks a.0;
      others = ltb-true 0 s.blocks a.1;
      first = ltb-true r.slba (s.slba + s.blocks) b.0;
      second = ltb-true s.slba (r.slba + r.blocks) b.1;
    }

shared : (r s : Range) → overlap r s ≡ true → (l : ℕ) × (has_block r l ≡ true) × (has_block s l ≡ true)
shared r s o =
    let k : Overlaps r s = overlap_parts r s o in
    elim (cases_lt r.slba s.slba) [
      | inl e ↦ (
        s.slba,
        has_inside r s.slba (omega (arith, e)) k.second,
        has_inside s s.slba (omega arith) (omega (arith, k.others)),
      )
      | inr e ↦ (r.slba, has_inside r r.slba (omega arith) (omega (arith, k.some)), has_inside s r.slba e k.first)
    ]

-- ranges overlap where they share a block
pub overlap_shared : (r s : Range) → (overlap r s ≡ true) ↔ ((l : ℕ) × (has_block r l ≡ true) × (has_block s l ≡ true))
overlap_shared r s = (shared r s, λ k. both_overlap r s k.0 k.1 k.2)

pub overlap_touching : (r s : Range) → r.slba + r.blocks ≡ s.slba → overlap r s ≡ false
overlap_touching r s e =
    and_right (nat_lt 0 r.blocks && nat_lt 0 s.blocks) _
    (and_right (nat_lt r.slba (s.slba + s.blocks)) _ (le-ltb s.slba (r.slba + r.blocks) (omega (arith, e))))

-- ---- two that are held

none_at : {X : Type 0} (p : X → Bool) (xs : List X) (i : ℕ) (y : X) → list_any p xs ≡ false → slice_get xs i ≡ Some y
    → p y ≡ false
none_at p [] i y h e = absurd (let f : None ≡ Some y = e in cc)
none_at p (x ∷ xs) zero y h e = let f : Some x ≡ Some y = e in let g : x ≡ y = cc in
    ap p (sym g) ∙ (or_parts (p x) (list_any p xs) h).0
none_at p (x ∷ xs) (suc i) y h e = none_at p xs i y (or_parts (p x) (list_any p xs) h).1 e

-- two that don't conflict, of two tickets
pub record ArePair (g h : HeldRange) : Type 0 where
  pub conflict : conflict g.range g.mode h.range h.mode ≡ false
  pub ticket : g.ticket ≢ h.ticket

turned : (g h : HeldRange) → ArePair g h → ArePair h g
turned g h p = record {
  conflict = conflict-turned h.range h.mode g.range g.mode ∙ p.conflict;
  ticket = λ e. p.ticket (sym e);
}

first_pair : (x : HeldRange) (xs : List HeldRange) (i : ℕ) (y : HeldRange) → AreApart (x ∷ xs) → slice_get xs i ≡ Some y
    → ArePair x y
first_pair x xs i y a e = record {
  conflict = none_at (λ h. conflict x.range x.mode h.range h.mode) xs i y a.2 e;
  ticket = λ (t : x.ticket ≡ y.ticket).
      true≢false (sym (eq-eqb y.ticket x.ticket (sym t)) ∙ none_at (λ h. h.ticket == x.ticket) xs i y a.1 e);
}

pub pair_at : (held : List HeldRange) (i j : ℕ) (g h : HeldRange) → AreApart held → i ≢ j → slice_get held i ≡ Some g
    → slice_get held j ≡ Some h → ArePair g h
pair_at [] i j g h a n d e = absurd (let f : None ≡ Some g = d in cc)
pair_at (x ∷ xs) zero zero g h a n d e = absurd (n refl)
pair_at (x ∷ xs) zero (suc j) g h a n d e = let f : Some x ≡ Some g = d in let k : x ≡ g = cc in
    rw k at (first_pair x xs j h a e)
pair_at (x ∷ xs) (suc i) zero g h a n d e = let f : Some x ≡ Some h = e in let k : x ≡ h = cc in
    turned h g (rw k at (first_pair x xs i g a d))
pair_at (x ∷ xs) (suc i) (suc j) g h a n d e = pair_at xs i j g h a.3 (λ (s : i ≡ j). n (ap suc s)) d e

-- a block of an Exclusive range is in no other
pub alone : (g h : HeldRange) (l : ℕ) → ArePair g h → is_exclusive g.mode ≡ true → has_block g.range l ≡ true
    → has_block h.range l ≡ false
alone g h l p x b = false_from_ne_true (has_block h.range l) (λ (k : has_block h.range l ≡ true).
    true≢false (sym (and_from (overlap g.range h.range) (is_exclusive g.mode || is_exclusive h.mode)
    (both_overlap g.range h.range l b k) (or_left (is_exclusive g.mode) (is_exclusive h.mode) x)) ∙ p.conflict))
