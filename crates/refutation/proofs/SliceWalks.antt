-- A Block entry that is an effect, and what holds of a slice behind it.
use Rattle.nvme_model.specs.Slots
use Rattle.nvme_model.specs.Tickets
use Rattle.std.proofs.Common.{◌≡◌, ℕ, ◌+◌, Bool, true, false, not, ◌&&◌, ◌||◌, cond, List, [], ◌∷◌, refl, sym, ap}
use Rattle.std.proofs.Common.{◌∙◌, subst, Option, Some, None, inl, inr, ◌⊎◌, arith, slice_get}
use Rattle.std.specs.List.{list_any}
use Rattle.std.proofs.lemmas.Bool.{and_parts, and_from, cases_Bool, cond-false, cond-true}
use Rattle.nvme_model.specs.Array.{has_block}
use Rattle.nvme_model.specs.History.{Past}
use Rattle.nvme_model.specs.Legal.{IsLegal}
use Rattle.nvme_model.specs.Open.{unit_range}
use Rattle.nvme_model.specs.Operations.{has_compare, has_write, op, write_data}
use Rattle.nvme_model.specs.Tickets.{Ticket}
use Rattle.nvme_model.specs.Value.{all_equal, value, writes}
use Rattle.nvme_model.specs.Verdict.{is_in}
use Rattle.nvme_model.specs.declared.array.Range.{Range}
use Rattle.nvme_model.specs.declared.config.ConfigNumbers.{ConfigNumbers}
use Rattle.nvme_model.specs.declared.entry.BlockLine.{BlockLine}
use Rattle.nvme_model.specs.declared.entry.Entry.{Entry}
use Rattle.nvme_model.proofs.Cut.{clash}
use Rattle.host_laws.proofs.Elements.{In, same_some}
use Rattle.refutation.specs.Orders
use Rattle.refutation.proofs.NamedEffects
use Rattle.refutation.specs.Orders.{IsWay, finds_by, has, held_by, may_follow, written, writes_by}
use Rattle.refutation.specs.Pieces.{Piece, Slice}
use Rattle.trace.specs.Aside.{own}
use Rattle.trace.specs.Observed.{observed}
use Rattle.trace.specs.declared.options.TraceOptions.{TraceOptions}
use Rattle.trace.specs.declared.seen.Seen.{Seen}
use Rattle.refutation.specs.Apart.{held_at_first}
use Rattle.refutation.specs.Effects.{is_effect_of}
use Rattle.refutation.specs.EffectOrders.{EffectName, comes_before}
use Rattle.refutation.specs.Slices.{answer_of, finds_of, is_block_of, is_named, is_piece, numbers_where, piece_of}
use Rattle.refutation.specs.Slices.{range_of, says_failed, surely_writes, ticket_of}
use Rattle.refutation.specs.Told.{is_sure, says_done}
use Rattle.refutation.proofs.KeptEffects.{HoldsAt, Kept, differs_met, done_is, finds_met, found_left}
use Rattle.refutation.proofs.KeptEffects.{kept_written}
use Rattle.refutation.proofs.NamedEffects.{effect_says, none_before}
use Rattle.refutation.proofs.OwnEffects.{OwnEffect, Told, nothing_written, value_behind, yes_here}
use Rattle.refutation.proofs.OwnLines.{is_other}
use Rattle.refutation.proofs.OwnOrders.{piece_other}
use Rattle.refutation.proofs.Outside.{OutLast, Part, effect_here, effect_named, from_before, name_at, named_here}
use Rattle.refutation.proofs.Outside.{outside_clash, part_legal, part_tail, to_whole}
use Rattle.refutation.proofs.SliceLists.{AreDistinct, get_in, get_map, get_number, in_has, none_from}
use Rattle.refutation.proofs.SliceLists.{none_number, number_from, number_get, where_holds}
use Rattle.refutation.proofs.SliceMade.{SureMade, Walk, is_skipped, made, number_at, slice_by, with_number}

module _ (options : TraceOptions) (aside : Option ℕ) (c : ConfigNumbers) (whole : Past) (names : List EffectName)
    (blocks : List ℕ) (legal : IsLegal c whole) (told : Told options aside c whole) (distinct : AreDistinct names)
    (pieces : (n : EffectName) → In n names → is_piece c (own aside (observed c whole)) n ≡ true) (past : Past)
    (b : BlockLine)
    (part : Part whole (Entry.Block b ∷ past)) (marked : b.effect ≡ true)
    (other : is_other aside (name_at past b).queue ≡ true) where
  abbrev trace : List Seen
  trace = own aside (observed c whole)

  abbrev n : EffectName
  n = name_at past b

  abbrev r : Range
  r = unit_range past b.ticket b.unit

  abbrev m : Ticket
  m = ticket_of (own aside (observed c whole)) (name_at past b)

  -- the block is written
  abbrev is_written : ℕ → Bool
  is_written l =
      has_block (unit_range past b.ticket b.unit) l
      && writes (value past) (ticket_of (own aside (observed c whole)) (name_at past b))
      (unit_range past b.ticket b.unit)

  here : OwnEffect aside c whole (name_at past b) past b (unit_range past b.ticket b.unit)
  here = effect_here options aside c whole past b legal told other part marked

  tail : Part whole past
  tail = part_tail whole (Entry.Block b) past part

  legal_next : IsLegal c (Entry.Block b ∷ past)
  legal_next = part_legal c whole (Entry.Block b ∷ past) legal part

  legal_past : IsLegal c past
  legal_past = part_legal c whole past legal tail

  first : effect_named past (name_at past b) ≡ None
  first = none_before c past b (name_at past b).queue (name_at past b).number (name_at past b).unit legal_next
      (named_here past b marked)

  not_first : (f : Past) → effect_named past (name_at past b) ≡ Some f → ⊥
  not_first f e = let g : None ≡ Some f = sym first ∙ e in cc

  behind : (l : ℕ) → value (Entry.Block b ∷ past) l ≡ cond (is_written l) (write_data m l) (value past l)
  behind l = value_behind aside c whole (name_at past b) past b (unit_range past b.ticket b.unit) l here

  -- which effects there are now
  new_effect : (y : EffectName) (before : Past) → effect_named (Entry.Block b ∷ past) y ≡ Some before
      → ((y ≡ name_at past b) × (before ≡ past)) ⊎ (effect_named past y ≡ Some before)
  new_effect y before e = go (is_effect_of past b y.queue y.number y.unit) refl e
    where
      made_name : (q j u : ℕ) → q ≡ y.queue → j ≡ y.number → u ≡ y.unit
          → y ≡ record { queue = q; number = j; unit = u }
      made_name q j u f g h =
          ap (λ (z : ℕ). let w : EffectName = record { queue = z; number = y.number; unit = y.unit } in w) (sym f)
          ∙ ap (λ (z : ℕ). let w : EffectName = record { queue = q; number = z; unit = y.unit } in w) (sym g)
          ∙ ap (λ (z : ℕ). let w : EffectName = record { queue = q; number = j; unit = z } in w) (sym h)

      go : (x : Bool) → is_effect_of past b y.queue y.number y.unit ≡ x
          → cond x (Some past) (effect_named past y) ≡ Some before
          → ((y ≡ name_at past b) × (before ≡ past)) ⊎ (effect_named past y ≡ Some before)
      go true f g =
          let s = effect_says past b y.queue y.number y.unit f in
          inl (
            made_name (Tickets.ticket past b.ticket).queue (Slots.fetched_before past b.ticket) b.unit s.queue s.number
                s.unit,
            same_some before past (Some before) refl (sym g),
          )
      go false f g = inr g

  old_effect : (y : EffectName) (before : Past) → effect_named past y ≡ Some before
      → effect_named (Entry.Block b ∷ past) y ≡ Some before
  old_effect y before e =
      NamedEffects.by_later c (Entry.Block b ∷ []) past y.queue y.number y.unit before legal_next e

  -- ---- its number

  at_some : (i : ℕ) → number_at c (own aside (observed c whole)) names past b ≡ Some i
      → (is_skipped c (own aside (observed c whole)) past b ≡ false) × (slice_get names i ≡ Some (name_at past b))
  at_some i e = go (is_skipped c (own aside (observed c whole)) past b) b.effect marked e
    where
      go : (x y : Bool) → y ≡ true → cond (y && not x) (number_from 0 names (name_at past b)) None ≡ Some i
          → (x ≡ false) × (slice_get names i ≡ Some (name_at past b))
      go true true z f = absurd (let g : None ≡ Some i = f in cc)
      go x false z f = clash false z refl
      go false true z f =
          let w = number_get 0 names (name_at past b) i f in
          let same : w.0 ≡ i = omega (arith, w.1) in
          (refl, ap (slice_get names) (sym same) ∙ w.2)

  at_none : number_at c (own aside (observed c whole)) names past b ≡ None
      → (is_skipped c (own aside (observed c whole)) past b ≡ true) ⊎ (is_named names (name_at past b) ≡ false)
  at_none e = go (is_skipped c (own aside (observed c whole)) past b) b.effect marked e
    where
      go : (x y : Bool) → y ≡ true → cond (y && not x) (number_from 0 names (name_at past b)) None ≡ None
          → (x ≡ true) ⊎ (is_named names (name_at past b) ≡ false)
      go true true z f = inl refl
      go x false z f = clash false z refl
      go false true z f = inr (none_number 0 names (name_at past b) f)

  of_number : (i : ℕ) → is_skipped c (own aside (observed c whole)) past b ≡ false
      → slice_get names i ≡ Some (name_at past b)
      → number_at c (own aside (observed c whole)) names past b ≡ Some i
  of_number i s e =
      let f = get_number 0 names (name_at past b) i distinct e in
      let same : 0 + i ≡ i = omega arith in
      cond-true (b.effect && not (is_skipped c (own aside (observed c whole)) past b))
      (number_from 0 names (name_at past b)) None
      (and_from _ _ marked (ap not s))
      ∙ (f ∙ ap Some same)

  piece_at : (i : ℕ) (y : EffectName) → slice_get names i ≡ Some y
      → slice_get (slice_by options c (own aside (observed c whole)) names blocks) i ≡ Some
      (piece_of options c (own aside (observed c whole)) blocks names y)
  piece_at i y e = get_map (piece_of options c (own aside (observed c whole)) blocks names) names i y e

  kept : (i : ℕ) → slice_get names i ≡ Some (name_at past b)
      → is_skipped c (own aside (observed c whole)) past b ≡ false
      → Kept aside c whole (name_at past b) past b (unit_range past b.ticket b.unit)
  kept i e s =
      record { here = here; piece = pieces (name_at past b) (get_in names i (name_at past b) e); stays = s }

  -- ---- what is written

  surely_written : (l : ℕ) → surely_writes c (own aside (observed c whole)) (name_at past b) l ≡ true
      → is_written l ≡ true
  surely_written l s =
      let x = and_parts (has_write (op m) && is_block_of (range_of c (own aside (observed c whole)) (name_at past b)) l)
      (says_done (answer_of (own aside (observed c whole)) (name_at past b))) s in
      let y = and_parts (has_write (op m))
      (is_block_of (range_of c (own aside (observed c whole)) (name_at past b)) l) x.0 in
      let a = done_is (answer_of (own aside (observed c whole)) (name_at past b)) x.1 in
      and_from _ _ (ap (λ (o : Option Range). is_block_of o l) (sym here.range) ∙ y.1)
      (both (has_write (op m)) (has_compare (op m)) (all_equal (value past) m (unit_range past b.ticket b.unit)) y.0
      (yes_here aside c whole (name_at past b) past b (unit_range past b.ticket b.unit) a.0 here a.1 a.2))
    where
      both : (x p e : Bool) → x ≡ true → (p ≡ true → e ≡ true) → (x && (not p || e)) ≡ true
      both true true e h f = f refl
      both true false e h f = refl
      both false p e h f = clash false h refl

  -- an effect outside stays the last
  still_last : (l : ℕ) → is_written l ≡ false → OutLast aside c (own aside (observed c whole)) names past l
      → OutLast aside c (own aside (observed c whole)) names (Entry.Block b ∷ past) l
  still_last l e x =
      record {
        by = x.by;
        other = x.other;
        before = x.before;
        is = old_effect x.by x.before x.is;
        may = x.may;
        out = x.out;
        wrote = behind l ∙ (cond-false (is_written l) (write_data m l) (value past l) e ∙ x.wrote);
        last = λ y f g s. elim (new_effect y f g) [
          | inl z ↦ clash (is_written l)
              (surely_written l
              (subst (λ (w : EffectName). surely_writes c (own aside (observed c whole)) w l ≡ true) z.0 s)) e
          | inr z ↦ x.last y f z s
        ];
      }

  -- or is the new one
  now_last : (l : ℕ) → is_written l ≡ true → is_named names (name_at past b) ≡ false
      → OutLast aside c (own aside (observed c whole)) names (Entry.Block b ∷ past) l
  now_last l e out =
      let x = and_parts (has_block (unit_range past b.ticket b.unit) l)
      (writes (value past) m (unit_range past b.ticket b.unit)) e in
      record {
        by = name_at past b;
        other = other;
        before = past;
        is = NamedEffects.by_here past b (name_at past b).queue (name_at past b).number (name_at past b).unit
            (named_here past b marked);
        may = and_from _ _ (and_from _ _ (and_parts (has_write (op m)) _ x.1).0
            (ap (λ (o : Option Range). is_block_of o l) here.range ∙ x.0)) (answered x.1
            (cases_Bool (says_failed (answer_of (own aside (observed c whole)) (name_at past b)))));
        out = out;
        wrote = behind l ∙ cond-true (is_written l) (write_data m l) (value past l) e;
        last = λ y f g s. elim (new_effect y f g) [
          | inl z ↦ subst (λ (w : Past). effect_named w (name_at past b) ≡ None) (sym z.1) first
          | inr z ↦ none_then (effect_named f (name_at past b)) (λ w q.
              not_first w (from_before c past y (name_at past b) f w legal_past z q))
        ];
      }
    where
      answered : writes (value past) m (unit_range past b.ticket b.unit) ≡ true
          → (says_failed (answer_of (own aside (observed c whole)) (name_at past b)) ≡ true)
          ⊎ (says_failed (answer_of (own aside (observed c whole)) (name_at past b)) ≡ false)
          → not (says_failed (answer_of (own aside (observed c whole)) (name_at past b))) ≡ true
      answered w (inl f) =
          clash (writes (value past) m (unit_range past b.ticket b.unit)) w
          (nothing_written aside c whole (name_at past b) past b (unit_range past b.ticket b.unit) here f)
      answered w (inr f) = ap not f

      none_then : (o : Option Past) → ((w : Past) → o ≡ Some w → ⊥) → o ≡ None
      none_then None f = refl
      none_then (Some w) f = absurd (f w refl)

  -- what is skipped writes nothing
  skipped_unwritten : (l : ℕ) → is_skipped c (own aside (observed c whole)) past b ≡ true → is_written l ≡ false
  skipped_unwritten l s =
      let x = and_parts
      (not (is_sure c (own aside (observed c whole)) (name_at past b).queue (name_at past b).number b.unit)) _
      s in
      go (has_block (unit_range past b.ticket b.unit) l) (has_write (op m)) (has_compare (op m))
      (all_equal (value past) m (unit_range past b.ticket b.unit)) x.1
    where
      go : (x w p e : Bool) → (p && not e) ≡ true → (x && (w && (not p || e))) ≡ false
      go x w true true f = clash false f refl
      go x w false e f = clash false f refl
      go true true true false f = refl
      go true false true false f = refl
      go false w true false f = refl

  -- ---- the next place

  abbrev slice : Slice
  slice = slice_by options c (own aside (observed c whole)) names blocks

  abbrev so_far : List ℕ
  so_far = made c (own aside (observed c whole)) names past

  abbrev Before : Type 0
  Before = Walk options aside c (own aside (observed c whole)) names blocks past

  -- what the slice held, or what this found
  abbrev left : ℕ → List ℕ
  left l =
      written (finds_of options c (own aside (observed c whole)) blocks names (name_at past b)) l
      (held_by (held_at_first options) slice so_far l)

  held_next : (i l : ℕ) → slice_get names i ≡ Some (name_at past b)
      → is_skipped c (own aside (observed c whole)) past b ≡ false → is_in l blocks ≡ true
      → held_by (held_at_first options) slice (i ∷ so_far) l ≡ cond (is_written l) (write_data m l) (left l)
  held_next i l e s h =
      ap (λ (o : Option Piece). written (writes_by o) l (written (finds_by o) l
      (held_by (held_at_first options) slice so_far l))) (piece_at i (name_at past b) e)
      ∙ kept_written aside c whole (name_at past b) past b (unit_range past b.ticket b.unit) blocks l (left l)
      (kept i e s) h

  unchanged : (l : ℕ) → is_written l ≡ false → value (Entry.Block b ∷ past) l ≡ value past l
  unchanged l f = behind l ∙ cond-false (is_written l) (write_data m l) (value past l) f

  holds_some : (i : ℕ) → slice_get names i ≡ Some (name_at past b)
      → is_skipped c (own aside (observed c whole)) past b ≡ false
      → Before → HoldsAt (held_by (held_at_first options) slice (i ∷ so_far)) (Entry.Block b ∷ past)
      (OutLast aside c (own aside (observed c whole)) names (Entry.Block b ∷ past)) blocks
  holds_some i e s w l h = go (is_written l) refl (found_left options aside c whole (name_at past b) past b
      (unit_range past b.ticket b.unit) blocks names l (held_by (held_at_first options) slice so_far l) (kept i e s))
      (w.holds l h)
    where
      kept_at : is_written l ≡ false → held_by (held_at_first options) slice (i ∷ so_far) l ≡ left l
      kept_at f = held_next i l e s h ∙ cond-false (is_written l) (write_data m l) (left l) f

      go : (x : Bool) → is_written l ≡ x
          → (left l ≡ held_by (held_at_first options) slice so_far l) ⊎ (left l ≡ value past l)
          → (held_by (held_at_first options) slice so_far l ≡ value past l)
          ⊎ ((held_by (held_at_first options) slice so_far l ≡ [])
          ⊎ OutLast aside c (own aside (observed c whole)) names past l)
          → (held_by (held_at_first options) slice (i ∷ so_far) l ≡ value (Entry.Block b ∷ past) l)
          ⊎ ((held_by (held_at_first options) slice (i ∷ so_far) l ≡ [])
          ⊎ OutLast aside c (own aside (observed c whole)) names (Entry.Block b ∷ past) l)
      go true f z y = inl (held_next i l e s h
          ∙ (cond-true (is_written l) (write_data m l) (left l) f
          ∙ sym (behind l ∙ cond-true (is_written l) (write_data m l) (value past l) f)))
      go false f (inr z) y = inl (kept_at f ∙ (z ∙ sym (unchanged l f)))
      go false f (inl z) (inl y) = inl (kept_at f ∙ (z ∙ (y ∙ sym (unchanged l f))))
      go false f (inl z) (inr (inl y)) = inr (inl (kept_at f ∙ (z ∙ y)))
      go false f (inl z) (inr (inr y)) = inr (inr (still_last l f y))

  holds_none : (is_skipped c (own aside (observed c whole)) past b ≡ true)
      ⊎ (is_named names (name_at past b) ≡ false)
      → Before → HoldsAt (held_by (held_at_first options) slice so_far) (Entry.Block b ∷ past)
      (OutLast aside c (own aside (observed c whole)) names (Entry.Block b ∷ past)) blocks
  holds_none k w l h = go (is_written l) refl (w.holds l h) k
    where
      go : (x : Bool) → is_written l ≡ x
          → (held_by (held_at_first options) slice so_far l ≡ value past l)
          ⊎ ((held_by (held_at_first options) slice so_far l ≡ [])
          ⊎ OutLast aside c (own aside (observed c whole)) names past l)
          → (is_skipped c (own aside (observed c whole)) past b ≡ true)
          ⊎ (is_named names (name_at past b) ≡ false)
          → (held_by (held_at_first options) slice so_far l ≡ value (Entry.Block b ∷ past) l)
          ⊎ ((held_by (held_at_first options) slice so_far l ≡ [])
          ⊎ OutLast aside c (own aside (observed c whole)) names (Entry.Block b ∷ past) l)
      go true f y (inl s) = clash (is_written l) f (skipped_unwritten l s)
      go true f y (inr o) = inr (inr (now_last l f o))
      go false f (inl y) o = inl (y ∙ sym (unchanged l f))
      go false f (inr (inl y)) o = inr (inl y)
      go false f (inr (inr y)) o = inr (inr (still_last l f y))

  -- it may follow
  follows : (i : ℕ) → slice_get names i ≡ Some (name_at past b)
      → is_skipped c (own aside (observed c whole)) past b ≡ false
      → Before → may_follow (held_at_first options) slice so_far i ≡ true
  follows i e s w =
      ap (Orders.follows_by (held_at_first options) slice so_far i) (piece_at i (name_at past b) e)
      ∙ and_from _ _ (and_from _ _ (ap not not_there) (ap not none_after))
      (and_from _ _
      (finds_met options aside c whole (name_at past b) past b (unit_range past b.ticket b.unit) blocks names
      (held_by (held_at_first options) slice so_far) (OutLast aside c (own aside (observed c whole)) names past)
      (kept i e s) w.holds
      (λ l fits o none fit.
      outside_clash options aside c whole past b names l fits legal told other part marked o none fit))
      (differs_met options aside c whole (name_at past b) past b (unit_range past b.ticket b.unit) blocks names
      (held_by (held_at_first options) slice so_far) (OutLast aside c (own aside (observed c whole)) names past)
      (kept i e s) w.holds
      (λ l fits o none fit.
      outside_clash options aside c whole past b names l fits legal told other part marked o none fit)))
    where
      not_there : has so_far i ≡ false
      not_there = go (cases_Bool (has so_far i))
        where
          go : (has so_far i ≡ true) ⊎ (has so_far i ≡ false) → has so_far i ≡ false
          go (inr f) = f
          go (inl f) =
              let y = w.all i (in_has so_far i f) in
              let same = same_some y.0 (name_at past b) (slice_get names i) y.2 e in
              absurd (not_first y.1 (subst (λ (z : EffectName). effect_named past z ≡ Some y.1) same y.3))

      none_after : list_any (λ k. Orders.comes_before slice i k) so_far ≡ false
      none_after = none_from (λ k. Orders.comes_before slice i k) so_far
          (λ k j. one k j (cases_Bool (Orders.comes_before slice i k)))
        where
          one : (k : ℕ) → In k so_far
              → (Orders.comes_before slice i k ≡ true) ⊎ (Orders.comes_before slice i k ≡ false)
              → Orders.comes_before slice i k ≡ false
          one k j (inr f) = f
          one k j (inl f) =
              let y = w.all k j in
              let there : has
              (numbers_where (λ z. comes_before options c (own aside (observed c whole)) z y.0) 0 names) i ≡ true =
              ap (λ (o : Option Piece). has (Orders.behind_by o) i) (sym (piece_at k y.0 y.2)) ∙ f in
              let x = where_holds (λ z. comes_before options c (own aside (observed c whole)) z y.0) 0 names i
              (in_has (numbers_where
              (λ z. comes_before options c (own aside (observed c whole)) z y.0) 0 names) i there) in
              let place : x.0 ≡ i = omega (arith, x.2) in
              let at_i : slice_get names i ≡ Some x.1 = ap (slice_get names) (sym place) ∙ x.3 in
              let same = same_some x.1 (name_at past b) (slice_get names i) at_i e in
              let before : comes_before options c (own aside (observed c whole)) (name_at past b) y.0 ≡ true =
              subst (λ (z : EffectName). comes_before options c (own aside (observed c whole)) z y.0 ≡ true) same x.4 in
              let q = told.order (name_at past b) y.0 y.1 other
              (piece_other aside c (observed c whole) y.0 (pieces y.0 (get_in names k y.0 y.2))) before
              (to_whole c whole past y.0 y.1 legal tail y.3) in
              absurd (not_first q.0 (from_before c past y.0 (name_at past b) y.1 q.0 legal_past y.3 q.1))

  in_with : (o : Option ℕ) (i : ℕ) → In i so_far → In i (with_number o so_far)
  in_with None i h = h
  in_with (Some j) i h = inr h

  sure_step : Before → SureMade c (own aside (observed c whole)) names (Entry.Block b ∷ past)
  sure_step w i y before e s f = elim (new_effect y before f) [
    | inr g ↦ in_with (number_at c (own aside (observed c whole)) names past b) i (w.sure i y before e s g)
    | inl g ↦
        let sure : is_sure c (own aside (observed c whole)) (name_at past b).queue (name_at past b).number b.unit
        ≡ true =
        subst (λ (z : EffectName). is_sure c (own aside (observed c whole)) z.queue z.number z.unit ≡ true) g.0 s in
        let stays : is_skipped c (own aside (observed c whole)) past b ≡ false =
        ap (λ (x : Bool). not x && (has_compare (op m)
        && not (all_equal (value past) m (unit_range past b.ticket b.unit)))) sure in
        let number = of_number i stays (subst (λ (z : EffectName). slice_get names i ≡ Some z) g.0 e) in
        subst (λ (o : Option ℕ). In i (with_number o so_far)) (sym number) (inl refl)
  ]

  pub next : Before → Walk options aside c (own aside (observed c whole)) names blocks (Entry.Block b ∷ past)
  next w = go (number_at c (own aside (observed c whole)) names past b) refl
    where
      all_old : (i : ℕ) → In i so_far
          → (y : EffectName) × (before : Past) × (slice_get names i ≡ Some y)
          × (effect_named (Entry.Block b ∷ past) y ≡ Some before)
      all_old i j = let x = w.all i j in (x.0, x.1, x.2, old_effect x.0 x.1 x.3)

      go : (o : Option ℕ) → number_at c (own aside (observed c whole)) names past b ≡ o
          → Walk options aside c (own aside (observed c whole)) names blocks (Entry.Block b ∷ past)
      go None e =
          let same : made c (own aside (observed c whole)) names (Entry.Block b ∷ past) ≡ so_far =
          ap (λ (o : Option ℕ). with_number o so_far) e in
          record {
            way = subst (λ (xs : List ℕ). IsWay (held_at_first options) slice xs) (sym same) w.way;
            all = λ i j. all_old i (subst (λ (xs : List ℕ). In i xs) same j);
            sure = sure_step w;
            holds = subst (λ (xs : List ℕ). HoldsAt (held_by (held_at_first options) slice xs) (Entry.Block b ∷ past)
                (OutLast aside c (own aside (observed c whole)) names (Entry.Block b ∷ past)) blocks) (sym same)
                (holds_none (at_none e) w);
          }
      go (Some i) e =
          let same : made c (own aside (observed c whole)) names (Entry.Block b ∷ past) ≡ i ∷ so_far =
          ap (λ (o : Option ℕ). with_number o so_far) e in
          let at = at_some i e in
          record {
            way = subst (λ (xs : List ℕ). IsWay (held_at_first options) slice xs) (sym same)
                (follows i at.1 at.0 w, w.way);
            all = λ k j. elim (subst (λ (xs : List ℕ). In k xs) same j) [
              | inl f ↦ (
                name_at past b,
                past,
                ap (slice_get names) f ∙ at.1,
                NamedEffects.by_here past b (name_at past b).queue (name_at past b).number (name_at past b).unit
                    (named_here past b marked),
              )
              | inr f ↦ all_old k f
            ];
            sure = sure_step w;
            holds = subst (λ (xs : List ℕ). HoldsAt (held_by (held_at_first options) slice xs) (Entry.Block b ∷ past)
                (OutLast aside c (own aside (observed c whole)) names (Entry.Block b ∷ past)) blocks) (sym same)
                (holds_some i at.1 at.0 w);
          }
