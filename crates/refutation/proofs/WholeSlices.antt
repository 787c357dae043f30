-- The effects of a slice, in the order of a history, are an order of its pieces.
use Rattle.std.proofs.Common.{◌≡◌, ℕ, ◌<◌, Bool, true, false, not, ◌&&◌, ◌||◌, List, [], ◌∷◌, ◌++◌, length, refl}
use Rattle.std.proofs.Common.{ap, ◌∙◌, subst, sym, Option, Some, None, inl, inr, ◌⊎◌, arith, cond, slice_get}
use Rattle.std.specs.List.{filter, flat_map, range_with_len}
use Rattle.nvme_model.specs.Array.{zeros}
use Rattle.nvme_model.specs.Config.{is_accepted}
use Rattle.nvme_model.specs.History.{Past}
use Rattle.nvme_model.specs.Legal.{IsLegal}
use Rattle.nvme_model.specs.Value.{value}
use Rattle.nvme_model.specs.declared.config.ConfigNumbers.{ConfigNumbers}
use Rattle.nvme_model.specs.declared.entry.BlockLine.{BlockLine}
use Rattle.nvme_model.specs.declared.entry.Entry.{Entry}
use Rattle.nvme_model.proofs.Beginnings.{earlier}
use Rattle.nvme_model.proofs.Cut.{clash}
use Rattle.host_laws.proofs.Elements.{In, all_from}
use Rattle.refutation.specs.Orders
use Rattle.refutation.specs.Orders.{IsOrder, IsWay, has, held_by, is_whole}
use Rattle.refutation.specs.Pieces.{Slice}
use Rattle.trace.specs.Aside.{aside_pair, comes_first, own}
use Rattle.trace.specs.Observed.{Explains, observed}
use Rattle.trace.specs.declared.options.TraceOptions.{TraceOptions}
use Rattle.trace.specs.declared.seen.Seen.{Seen}
use Rattle.refutation.specs.Apart.{held_at_first}
use Rattle.refutation.specs.Effects.{is_effect_of}
use Rattle.refutation.specs.Lines.{is_tidy}
use Rattle.refutation.specs.EffectOrders.{EffectName}
use Rattle.refutation.specs.Slices.{effects_of_command, is_piece, piece_of, slice_names, slice_of}
use Rattle.refutation.specs.Told.{is_sure}
use Rattle.refutation.proofs.AsideFirst.{cut}
use Rattle.refutation.proofs.HeadOrders.{has_slots}
use Rattle.refutation.proofs.LineOrders.{sure_effect}
use Rattle.refutation.proofs.NamedEffects.{by_effect, by_here, by_later, effect_says}
use Rattle.refutation.proofs.Outside.{OutLast, Part, effect_named, name_at, named_here, part_legal, part_tail}
use Rattle.refutation.proofs.Outside.{to_whole}
use Rattle.refutation.proofs.OwnEffects.{Told}
use Rattle.refutation.proofs.OwnLines.{is_other, own_tidy}
use Rattle.refutation.proofs.OwnOrders.{order_own, own_sure, piece_other}
use Rattle.refutation.proofs.OwnReaps.{aside_narrow}
use Rattle.refutation.proofs.OwnRules.{reads_first}
use Rattle.refutation.proofs.ReadLines.{same_tidy}
use Rattle.refutation.proofs.ReadSlices.{same_slice}
use Rattle.refutation.proofs.SliceLists.{AreDistinct, filter_holds, get_in, get_map, has_in, number_from}
use Rattle.refutation.proofs.SliceLists.{number_get, of_get_map, of_numbers, of_once, once_distinct}
use Rattle.refutation.proofs.SliceMade.{Walk, carried, is_skipped, made, number_at, same_with, slice_by}
use Rattle.refutation.proofs.SliceMade.{with_number}
use Rattle.refutation.proofs.SliceWalks.{next}

-- an effect of the pair that the trace lacks: nothing of the slice was made before
pair_step : (options : TraceOptions) (aside : Option ℕ) (c : ConfigNumbers) (whole : Past) (names : List EffectName)
    (blocks : List ℕ) → IsLegal c whole → Told options aside c whole
    → ((n : EffectName) → In n names → is_other aside n.queue ≡ true) → (past : Past) (b : BlockLine)
    → Part whole (Entry.Block b ∷ past) → b.effect ≡ true → is_other aside (name_at past b).queue ≡ false
    → Walk options aside c (own aside (observed c whole)) names blocks past
    → Walk options aside c (own aside (observed c whole)) names blocks (Entry.Block b ∷ past)
pair_step options aside c whole names blocks h d others past b p e off w =
    record {
      way = subst (λ (xs : List ℕ). IsWay (held_at_first options) slice xs) (sym (now ∙ sym none)) w.way;
      all = λ i m. absurd (subst (λ (xs : List ℕ). In i xs) now m);
      sure = λ i n before g s f. absurd (sure_none i n before g s f);
      holds = λ l m. inr (inl (ap (λ (xs : List ℕ). held_by (held_at_first options) slice xs l) now
          ∙ d.unknown (name_at past b).queue off));
    }
  where
    slice : Slice
    slice = slice_by options c (own aside (observed c whole)) names blocks

    legal : IsLegal c (Entry.Block b ∷ past)
    legal = part_legal c whole (Entry.Block b ∷ past) h p

    -- the beginning with the pair's effects has it, and so all before it
    there : effect_named d.cut.start (name_at past b) ≡ Some past
    there =
        let n = name_at past b in
        d.cut.all n.queue n.number n.unit past off
        (to_whole c whole (Entry.Block b ∷ past) n past h p
        (by_here past b n.queue n.number n.unit (named_here past b e)))

    none_before : (y : EffectName) (before : Past) → is_other aside y.queue ≡ true
        → effect_named (Entry.Block b ∷ past) y ≡ Some before → ⊥
    none_before y before o f =
        let n = name_at past b in
        let at = by_effect d.cut.start n.queue n.number n.unit past there in
        let start_legal : IsLegal c d.cut.start = part_legal c whole d.cut.start h (d.cut.later, d.cut.is) in
        let is : IsLegal c (at.later ++ (Entry.Block at.block ∷ past)) =
        subst (λ (x : Past). IsLegal c x) at.is start_legal in
        let old : effect_named past y ≡ Some before = before_it y before o f in
        let here : effect_named d.cut.start y ≡ Some before =
        subst (λ (x : Past). effect_named x y ≡ Some before) (sym at.is)
        (by_later c at.later (Entry.Block at.block ∷ past) y.queue y.number y.unit before is
        (by_later c (Entry.Block at.block ∷ []) past y.queue y.number y.unit before
        (earlier c at.later (Entry.Block at.block ∷ past) is) old)) in
        let g : None ≡ Some before = sym (d.cut.none y.queue y.number y.unit o) ∙ here in
        cc
      where
        before_it : (y : EffectName) (before : Past) → is_other aside y.queue ≡ true
            → effect_named (Entry.Block b ∷ past) y ≡ Some before → effect_named past y ≡ Some before
        before_it y before o f = go (is_effect_of past b y.queue y.number y.unit) refl f
          where
            go : (x : Bool) → is_effect_of past b y.queue y.number y.unit ≡ x
                → cond x (Some past) (effect_named past y) ≡ Some before → effect_named past y ≡ Some before
            go false z g = g
            go true z g =
                let s = effect_says past b y.queue y.number y.unit z in
                clash (is_other aside y.queue) o (ap (is_other aside) (sym s.queue) ∙ off)

    none : made c (own aside (observed c whole)) names past ≡ []
    none = no_members (made c (own aside (observed c whole)) names past) (λ i m.
        let x = w.all i m in
        none_before x.0 x.1 (others x.0 (get_in names i x.0 x.2))
        (by_later c (Entry.Block b ∷ []) past (x.0).queue (x.0).number (x.0).unit x.1 legal x.3))
      where
        no_members : (xs : List ℕ) → ((i : ℕ) → In i xs → ⊥) → xs ≡ []
        no_members [] f = refl
        no_members (x ∷ xs) f = absurd (f x (inl refl))

    sure_none : (i : ℕ) (n : EffectName) (before : Past) → slice_get names i ≡ Some n
        → is_sure c (own aside (observed c whole)) n.queue n.number n.unit ≡ true
        → effect_named (Entry.Block b ∷ past) n ≡ Some before → ⊥
    sure_none i n before g s f = none_before n before (others n (get_in names i n g)) f

    now : made c (own aside (observed c whole)) names (Entry.Block b ∷ past) ≡ []
    now = go (number_at c (own aside (observed c whole)) names past b) refl
      where
        go : (o : Option ℕ) → number_at c (own aside (observed c whole)) names past b ≡ o
            → with_number (number_at c (own aside (observed c whole)) names past b)
            (made c (own aside (observed c whole)) names past) ≡ []
        go None z = ap (λ (o : Option ℕ). with_number o (made c (own aside (observed c whole)) names past)) z ∙ none
        go (Some i) z =
            absurd (let n = named_number i z in clash (is_other aside (name_at past b).queue)
            (others (name_at past b) (get_in names n.0 (name_at past b) n.1)) off)
          where
            named_number : (i : ℕ) → number_at c (own aside (observed c whole)) names past b ≡ Some i
                → (k : ℕ) × (slice_get names k ≡ Some (name_at past b))
            named_number i z = at (b.effect && not (is_skipped c (own aside (observed c whole)) past b)) z
              where
                at : (x : Bool) → cond x (number_from 0 names (name_at past b)) None ≡ Some i
                    → (k : ℕ) × (slice_get names k ≡ Some (name_at past b))
                at true f = let v = number_get 0 names (name_at past b) i f in (v.0, v.2)
                at false f = absurd (let g : None ≡ Some i = f in cc)

-- what holds at each place of a history
walk : (options : TraceOptions) (aside : Option ℕ) (c : ConfigNumbers) (whole : Past) (names : List EffectName)
    (blocks : List ℕ) → IsLegal c whole → Told options aside c whole → AreDistinct names
    → ((n : EffectName) → In n names → is_piece c (own aside (observed c whole)) n ≡ true) → (past : Past)
    → Part whole past → Walk options aside c (own aside (observed c whole)) names blocks past
walk options aside c whole names blocks h d x pieces [] p =
    record {
      way = tt;
      all = λ i m. absurd m;
      sure = λ i n before e z f. absurd (let g : None ≡ Some before = f in cc);
      holds = λ l m. first l options.contents_unknown refl;
    }
  where
    first : (l : ℕ) (z : Bool) → options.contents_unknown ≡ z
        → (held_at_first options ≡ value [] l)
        ⊎ ((held_at_first options ≡ []) ⊎ OutLast aside c (own aside (observed c whole)) names [] l)
    first l true z = inr (inl (ap (λ (y : Bool). cond y [] zeros) z))
    first l false z = inl (ap (λ (y : Bool). cond y [] zeros) z)
walk options aside c whole names blocks h d x pieces (Entry.Block b ∷ past) p =
    by b.effect refl (is_other aside (name_at past b).queue) refl
    (walk options aside c whole names blocks h d x pieces past (part_tail whole (Entry.Block b) past p))
  where
    by : (z : Bool) → b.effect ≡ z → (y : Bool) → is_other aside (name_at past b).queue ≡ y
        → Walk options aside c (own aside (observed c whole)) names blocks past
        → Walk options aside c (own aside (observed c whole)) names blocks (Entry.Block b ∷ past)
    by true e true o w = next options aside c whole names blocks h d x pieces past b p e o w
    by true e false o w = pair_step options aside c whole names blocks h d
        (λ n i. piece_other aside c (observed c whole) n (pieces n i)) past b p e o w
    by false e y o w = same_with options aside c (own aside (observed c whole)) names blocks past b e w
walk options aside c whole names blocks h d x pieces (Entry.Publish e ∷ past) p =
    let w = walk options aside c whole names blocks h d x pieces past (part_tail whole (Entry.Publish e) past p) in
    carried options aside c (own aside (observed c whole)) names blocks past (Entry.Publish e) refl (λ n. refl)
    (λ l. refl) w
walk options aside c whole names blocks h d x pieces (Entry.Fetch e ∷ past) p =
    let w = walk options aside c whole names blocks h d x pieces past (part_tail whole (Entry.Fetch e) past p) in
    carried options aside c (own aside (observed c whole)) names blocks past (Entry.Fetch e) refl (λ n. refl)
    (λ l. refl) w
walk options aside c whole names blocks h d x pieces (Entry.Grant e ∷ past) p =
    let w = walk options aside c whole names blocks h d x pieces past (part_tail whole (Entry.Grant e) past p) in
    carried options aside c (own aside (observed c whole)) names blocks past (Entry.Grant e) refl (λ n. refl)
    (λ l. refl) w
walk options aside c whole names blocks h d x pieces (Entry.Post e ∷ past) p =
    let w = walk options aside c whole names blocks h d x pieces past (part_tail whole (Entry.Post e) past p) in
    carried options aside c (own aside (observed c whole)) names blocks past (Entry.Post e) refl (λ n. refl)
    (λ l. refl) w
walk options aside c whole names blocks h d x pieces (Entry.Reap e ∷ past) p =
    let w = walk options aside c whole names blocks h d x pieces past (part_tail whole (Entry.Reap e) past p) in
    carried options aside c (own aside (observed c whole)) names blocks past (Entry.Reap e) refl (λ n. refl)
    (λ l. refl) w

-- each sure piece is there
all_sure : (options : TraceOptions) (aside : Option ℕ) (c : ConfigNumbers) (whole : Past) (names : List EffectName)
    (blocks : List ℕ) → IsLegal c whole → Told options aside c whole
    → ((n : EffectName) → In n names → is_other aside n.queue ≡ true)
    → Walk options aside c (own aside (observed c whole)) names blocks whole
    → is_whole (slice_by options c (own aside (observed c whole)) names blocks)
    (made c (own aside (observed c whole)) names whole) ≡ true
all_sure options aside c whole names blocks h d others w =
    all_from (λ i. not (Orders.is_sure slice i) || has (made c (own aside (observed c whole)) names whole) i)
    (range_with_len 0 (length slice))
    (λ i j. each i (omega (arith, (of_numbers 0 (length slice) i j).1)) (Orders.is_sure slice i) refl)
  where
    slice : Slice
    slice = slice_by options c (own aside (observed c whole)) names blocks

    each : (i : ℕ) → i < length slice → (y : Bool) → Orders.is_sure slice i ≡ y
        → (not y || has (made c (own aside (observed c whole)) names whole) i) ≡ true
    each i l false e = refl
    each i l true e =
        let x = of_get_map (piece_of options c (own aside (observed c whole)) blocks names) names i l in
        let piece = get_map (piece_of options c (own aside (observed c whole)) blocks names) names i x.0 x.1 in
        let sure : is_sure c (own aside (observed c whole)) (x.0).queue (x.0).number (x.0).unit ≡ true =
        ap Orders.sure_by (sym piece) ∙ e in
        let other = others x.0 (get_in names i x.0 x.1) in
        let there = sure_effect c whole (x.0).queue (x.0).number (x.0).unit h (d.tidy (x.0).queue other)
        (sym (own_sure aside c (observed c whole) (x.0).queue (x.0).number (x.0).unit other) ∙ sure) in
        has_in (made c (own aside (observed c whole)) names whole) i (w.sure i x.0 there.0 x.1 sure there.1)

-- so the effects of a slice are an order of it
an_order : (options : TraceOptions) (aside : Option ℕ) (c : ConfigNumbers) (whole : Past) (commands : List (ℕ × ℕ))
    (blocks : List ℕ) → IsLegal c whole → Told options aside c whole
    → IsOrder (held_at_first options) (slice_of options c (own aside (observed c whole)) commands blocks)
    (made c (own aside (observed c whole)) (slice_names c (own aside (observed c whole)) commands) whole)
an_order options aside c whole commands blocks h d =
    let trace = own aside (observed c whole) in
    let some = flat_map (λ k. effects_of_command c trace k.0 k.1) commands in
    let kept = filter (is_piece c trace) some in
    let names = slice_names c trace commands in
    let pieces : (n : EffectName) → In n names → is_piece c trace n ≡ true =
    λ n i. filter_holds (is_piece c trace) some n (of_once kept n i) in
    let w = walk options aside c whole names blocks h d (once_distinct kept) pieces whole ([], refl) in (
      w.way,
      all_sure options aside c whole names blocks h d
          (λ n i. piece_other aside c (observed c whole) n (pieces n i)) w,
    )

-- what is told of a history that explains a tidy trace
pub told_of : (o : TraceOptions) (c : ConfigNumbers) (past : Past) → is_accepted c ≡ true → IsLegal c past
    → comes_first (aside_pair o c) (observed c past) ≡ true
    → is_tidy (own (aside_pair o c) (observed c past)) ≡ true → Told o (aside_pair o c) c past
told_of o c past a h f d = record {
  tidy = λ q z. own_tidy (aside_pair o c) (observed c past) q (aside_narrow o c a) z d;
  order = λ x y before ox oy e g. order_own o c past x y before (has_slots c a) a h d ox oy e g;
  cut = cut o c past a h f;
  unknown = λ q z. by o.contents_unknown q z;
}
  where
    by : (b : Bool) (q : ℕ) → is_other (cond b (Some c.pairs) None) q ≡ false → cond b [] zeros ≡ []
    by true q z = refl
    by false q z = clash true refl z

-- also of the slice of a trace that is read of it
pub order_as_read : (o : TraceOptions) (c : ConfigNumbers) (past : Past) (more trace : List Seen)
    (commands : List (ℕ × ℕ)) (blocks : List ℕ) → is_accepted c ≡ true
    → Explains o c past (more ++ trace) → is_tidy trace ≡ true
    → (order : List ℕ) × IsOrder (held_at_first o) (slice_of o c trace commands blocks) order
order_as_read o c past more trace commands blocks a x d =
    let b = reads_first o c past more trace x in
    let seen = own (aside_pair o c) (observed c b.start) in
    let tidy = same_tidy o seen trace b.reads ∙ d in (
      made c seen (slice_names c seen commands) b.start,
      subst (λ (slice : Slice). IsOrder (held_at_first o) slice
          (made c seen (slice_names c seen commands) b.start))
          (same_slice o c seen trace commands blocks b.reads)
          (an_order o (aside_pair o c) c b.start commands blocks b.legal
          (told_of o c b.start a b.legal b.first tidy)),
    )
