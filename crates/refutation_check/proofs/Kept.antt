-- The effects of a trace's commands that may write a block, as loops collect them.
use Rattle.std.proofs.Common.{Bool, List, None, Option, Some, [], ap, append-nil, append_assoc, arith, cond, false}
use Rattle.std.proofs.Common.{filter}
use Rattle.std.proofs.Common.{if◌then◌else◌, length, map, not, refl, slice_get, suc, sym, true, ℕ, ◌&&◌, ◌+◌, ◌++◌, ◌-◌}
use Rattle.std.proofs.Common.{◌<◌, ◌≤◌, ◌∙◌, ◌∷◌, ◌≡◌}
use Rattle.std.proofs.lemmas.Bool.{and_from, and_parts, cond-false, false_from_ne_true, le-leb, leb-true, lt-ltb}
use Rattle.std.proofs.lemmas.Bool.{ltb-true, true≢false}
use Rattle.std.proofs.lemmas.List.Elements.{filter-append}
use Rattle.std.specs.List.{flat_map, range_with_len}
use Rattle.std.specs.Prelude.{nat_le, nat_lt}
use Rattle.nvme_model.specs.Array.{has_block}
use Rattle.nvme_model.specs.EntryBytes.{Sqe, block_count, slba, sqe_fields}
use Rattle.nvme_model.specs.Operations.{has_write, op, units_by}
use Rattle.nvme_model.specs.declared.array.Range.{Range}
use Rattle.nvme_model.specs.declared.config.ConfigNumbers.{ConfigNumbers}
use Rattle.nvme_model.specs.declared.submission.Submission.{Submission}
use Rattle.nvme_model.proofs.Lists.{Each}
use Rattle.host_laws.proofs.Changes.{Inside, units_inside}
use Rattle.trace.specs.declared.seen.Seen.{Seen}
use Rattle.refutation.specs.EffectOrders.{EffectName}
use Rattle.refutation.specs.Lines.{answer_in, published_in}
use Rattle.refutation.specs.Slices.{effects_of_command, is_block_of, may_write, says_failed}
use Rattle.refutation.specs.Told.{told_ticket, told_units}
use Rattle.refutation_check.specs.Collected.{effects_from, has_blocks}
use Rattle.refutation_check.specs.Commands.{entry_op, found_units}
use Rattle.refutation_check.proofs.Named.{all_or_none}
use Rattle.refutation_check.proofs.Units.{told_by_entry}

-- ---- a loop over numbers

-- one number more
pub numbers_step : (keeps : EffectName → Bool) (effects : ℕ → List EffectName) (before new : List EffectName)
    (a i n : ℕ) → i < n → new ≡ before ++ filter keeps (effects a)
    → new ++ filter keeps (flat_map effects (range_with_len (a + 1) (n - (i + 1))))
    ≡ before ++ filter keeps (flat_map effects (range_with_len a (n - i)))
numbers_step keeps effects before new a i n l e =
    ap (λ (ns : List EffectName). ns ++ filter keeps later) e
    ∙ append_assoc before (filter keeps (effects a)) (filter keeps later)
    ∙ ap (λ (ns : List EffectName). before ++ ns) (sym (filter-append keeps (effects a) later))
    ∙ ap (λ (k : ℕ). before ++ filter keeps (flat_map effects (range_with_len a k))) one_more
  where
    later : List EffectName
    later = flat_map effects (range_with_len (a + 1) (n - (i + 1)))

    one_more : suc (n - (i + 1)) ≡ n - i
    one_more = omega arith

-- no number is left
pub numbers_end : (keeps : EffectName → Bool) (effects : ℕ → List EffectName) (kept : List EffectName) (a i n : ℕ)
    → n ≤ i → kept ≡ kept ++ filter keeps (flat_map effects (range_with_len a (n - i)))
numbers_end keeps effects kept a i n l =
    let none : 0 ≡ n - i = omega arith in
    sym (append-nil kept)
    ∙ ap (λ (k : ℕ). kept ++ filter keeps (flat_map effects (range_with_len a k))) none

-- ---- the effects of a command that may write a block

-- those of its units that have the block
with_block : (units : List Range) (q j l u : ℕ) (rest : List Range)
    → ((k : ℕ) → slice_get units (k + u) ≡ slice_get rest k)
    → effects_from q j u (Some l) rest
    ≡ filter (λ y. is_block_of (slice_get units y.unit) l)
    (map (λ (k : ℕ). record { queue = q; number = j; unit = k }) (range_with_len u (length rest)))
with_block units q j l u [] h = refl
with_block units q j l u (r ∷ rest) h =
    ap (λ (ns : List EffectName). if has_block r l then record { queue = q; number = j; unit = u } ∷ ns else ns)
    (with_block units q j l (u + 1) rest more)
    ∙ ap (λ (o : Option Range). cond (is_block_of o l) (record { queue = q; number = j; unit = u } ∷ others) others)
    (sym here)
  where
    others : List EffectName
    others =
        filter (λ y. is_block_of (slice_get units y.unit) l)
        (map (λ (k : ℕ). record { queue = q; number = j; unit = k }) (range_with_len (u + 1) (length rest)))

    here : slice_get units u ≡ Some r
    here = let e : u ≡ 0 + u = omega arith in ap (slice_get units) e ∙ h 0

    more : (k : ℕ) → slice_get units (k + (u + 1)) ≡ slice_get rest k
    more k = let e : k + (u + 1) ≡ suc k + u = omega arith in ap (slice_get units) e ∙ h (suc k)

alike : (p q : EffectName → Bool) (f : ℕ → EffectName) (ks : List ℕ) → ((k : ℕ) → p (f k) ≡ q (f k))
    → filter p (map f ks) ≡ filter q (map f ks)
alike p q f [] h = refl
alike p q f (k ∷ ks) h =
    ap (λ (ns : List EffectName). cond (p (f k)) (f k ∷ ns) ns) (alike p q f ks h)
    ∙ ap (λ (b : Bool). cond b (f k ∷ filter q (map f ks)) (filter q (map f ks))) (h k)

block_decides : (w b f : Bool) → true ≡ (w && not f) → b ≡ ((w && b) && not f)
block_decides true true false e = refl
block_decides true false false e = refl
block_decides true b true e = absurd (let x : true ≡ false = e in cc)
block_decides false b f e = absurd (let x : true ≡ false = e in cc)

-- where the command has the block and may have written
pub some_write : (c : ConfigNumbers) (trace : List Seen) (q j l : ℕ) (units : List Range)
    → units ≡ told_units c trace q j
    → true ≡ (has_blocks (slice_get (published_in trace q) j) l
    && (has_write (op (told_ticket trace q j)) && not (says_failed (answer_in trace q j))))
    → effects_from q j 0 (Some l) units
    ≡ filter (λ y. may_write c trace y l) (effects_of_command c trace q j)
some_write c trace q j l units u e =
    ap (effects_from q j 0 (Some l)) u
    ∙ with_block told q j l 0 told (λ k. let z : k + 0 ≡ k = omega arith in ap (slice_get told) z)
    ∙ alike (λ y. is_block_of (slice_get told y.unit) l) (λ y. may_write c trace y l)
    (λ (k : ℕ). record { queue = q; number = j; unit = k }) (range_with_len 0 (length told))
    (λ k. block_decides (has_write (op (told_ticket trace q j))) (is_block_of (slice_get told k) l)
    (says_failed (answer_in trace q j)) (sym (and_parts _ _ (sym e)).1))
  where
    told : List Range
    told = told_units c trace q j

none_decides : (w b f : Bool) → (w && not f) ≡ false → ((w && b) && not f) ≡ false
none_decides true true f e = e
none_decides true false f e = refl
none_decides false b f e = refl

-- a unit of a command that hasn't the block hasn't it
outside : (s n l : ℕ) (r : Range) → Inside s n r → has_block (record { slba = s; blocks = n }) l ≡ false
    → has_block r l ≡ false
outside s n l r i e =
    false_from_ne_true _ (λ h.
    let parts = and_parts (nat_le r.slba l) (nat_lt l (r.slba + r.blocks)) h in
    let low : s ≤ l = omega (arith, i.low, leb-true r.slba l parts.0) in
    let high : l < s + n = omega (arith, i.high, ltb-true l (r.slba + r.blocks) parts.1) in
    true≢false (sym (and_from _ _ (le-leb s l low) (lt-ltb l (s + n) high)) ∙ e))

none_of_these : (q j s n l u : ℕ) (units : List Range) → Each (Inside s n) units
    → has_block (record { slba = s; blocks = n }) l ≡ false → effects_from q j u (Some l) units ≡ []
none_of_these q j s n l u [] i e = refl
none_of_these q j s n l u (r ∷ units) i e =
    cond-false _ (record { queue = q; number = j; unit = u } ∷ effects_from q j (u + 1) (Some l) units)
    (effects_from q j (u + 1) (Some l) units) (outside s n l r i.0 e)
    ∙ none_of_these q j s n l (u + 1) units i.1 e

none_found : (c : ConfigNumbers) (q j l : ℕ) (o : Option Submission) → has_blocks o l ≡ false
    → effects_from q j 0 (Some l) (found_units c o) ≡ []
none_found c q j l None e = refl
none_found c q j l (Some s) e = go (nat_le (slba f + block_count f) c.blocks)
  where
    f : Sqe
    f = sqe_fields s.entry

    us : List Range
    us = units_by c.atomic (entry_op s) (slba f) (block_count f)

    go : (b : Bool) → effects_from q j 0 (Some l) (if b then us else []) ≡ []
    go true =
        none_of_these q j (slba f) (block_count f) l 0 us (units_inside c.atomic (entry_op s) (slba f)
        (block_count f)) e
    go false = refl

-- where it hasn't, or can't
pub none_write : (c : ConfigNumbers) (trace : List Seen) (q j l : ℕ)
    → false ≡ (has_blocks (slice_get (published_in trace q) j) l
    && (has_write (op (told_ticket trace q j)) && not (says_failed (answer_in trace q j))))
    → [] ≡ filter (λ y. may_write c trace y l) (effects_of_command c trace q j)
none_write c trace q j l e =
    by (has_blocks (slice_get (published_in trace q) j) l) (writes && not failed) refl refl (sym e)
  where
    writes : Bool
    writes = has_write (op (told_ticket trace q j))

    failed : Bool
    failed = says_failed (answer_in trace q j)

    told : List Range
    told = told_units c trace q j

    has : ℕ → Bool
    has k = is_block_of (slice_get told k) l

    not_it : (writes && not failed) ≡ false → [] ≡ filter (λ y. may_write c trace y l) (effects_of_command c trace q j)
    not_it f =
        sym (all_or_none (λ y. may_write c trace y l) (λ (k : ℕ). record { queue = q; number = j; unit = k }) false 0
        (length told) (λ k x y. none_decides writes (has k) failed f))

    by : (b m : Bool) → has_blocks (slice_get (published_in trace q) j) l ≡ b → (writes && not failed) ≡ m
        → (b && m) ≡ false → [] ≡ filter (λ y. may_write c trace y l) (effects_of_command c trace q j)
    by true m f g h = not_it (g ∙ h)
    by false true f g h =
        sym (none_found c q j l (slice_get (published_in trace q) j) f)
        ∙ ap (effects_from q j 0 (Some l)) (sym (told_by_entry c trace q j (slice_get (published_in trace q) j) refl))
        ∙ with_block told q j l 0 told (λ k. let z : k + 0 ≡ k = omega arith in ap (slice_get told) z)
        ∙ alike (λ y. is_block_of (slice_get told y.unit) l) (λ y. may_write c trace y l)
        (λ (k : ℕ). record { queue = q; number = j; unit = k }) (range_with_len 0 (length told))
        (λ k. block_decides writes (has k) failed (sym g))
    by false false f g h = not_it g
