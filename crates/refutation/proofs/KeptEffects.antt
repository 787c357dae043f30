-- What an effect that a slice keeps finds and leaves.
use Rattle.std.proofs.Common.{◌≡◌, ℕ, Bool, true, false, not, ◌&&◌, ◌||◌, cond, List, [], ◌∷◌}
use Rattle.std.proofs.Common.{bytes_eq, is_none, length, map, refl, sym, ap, ◌∙◌, subst, Option, Some, None, inl, inr}
use Rattle.std.proofs.Common.{◌⊎◌, ◌==◌, eq-eqb, eqb, eqb-true, nat_lt}
use Rattle.std.specs.List.{filter, list_all, list_any}
use Rattle.std.proofs.lemmas.Bool.{and_parts, and_from, cases_Bool, or_cases, or_left, or_right}
use Rattle.nvme_model.specs.Array.{blocks_from, has_block}
use Rattle.nvme_model.specs.History.{Past}
use Rattle.nvme_model.specs.Operations.{compare_data, has_compare, has_write, op, write_data}
use Rattle.nvme_model.specs.Statuses.{compare_failure, is_success, same_status}
use Rattle.nvme_model.specs.Tickets.{Ticket}
use Rattle.nvme_model.specs.Value.{all_equal, value, writes}
use Rattle.nvme_model.specs.Verdict.{is_in}
use Rattle.nvme_model.specs.declared.array.Range.{Range}
use Rattle.nvme_model.specs.declared.config.ConfigNumbers.{ConfigNumbers}
use Rattle.nvme_model.specs.declared.entry.BlockLine.{BlockLine}
use Rattle.nvme_model.specs.declared.operation.Op.{Op}
use Rattle.nvme_model.specs.declared.status.Status.{Status}
use Rattle.nvme_model.proofs.Cut.{clash}
use Rattle.nvme_model.proofs.HasBlock.{has_inside}
use Rattle.nvme_model.proofs.Runs.{bytes_same}
use Rattle.host_laws.specs.Calls.{cqe_status}
use Rattle.host_laws.proofs.Elements.{In, all_from, all_in, in_any, in_filter, of_filter}
use Rattle.host_laws.proofs.Verdicts.{status_eq}
use Rattle.refutation.specs.Orders.{may_differ, may_hold, written}
use Rattle.refutation.specs.Pieces.{Held}
use Rattle.trace.specs.Aside.{own}
use Rattle.trace.specs.Observed.{observed}
use Rattle.trace.specs.declared.options.TraceOptions.{TraceOptions}
use Rattle.trace.specs.declared.seen.ReapedLine.{ReapedLine}
use Rattle.trace.specs.declared.seen.Seen.{Seen}
use Rattle.refutation.specs.EffectOrders.{EffectName}
use Rattle.refutation.specs.Slices.{answer_data, answer_of, blocks_in, blocks_of, differs_of, finds_of}
use Rattle.refutation.specs.Slices.{found_block, is_piece, looks, none_else, range_of}
use Rattle.refutation.specs.Told.{is_sure, says_differs}
use Rattle.refutation.specs.Told.{says_done}
use Rattle.refutation.specs.Slices.{says_failed, ticket_of, writes_of}
use Rattle.refutation.specs.Told.{told_units}
use Rattle.refutation.proofs.EffectBlocks.{equal_at, has_parts, in_blocks, of_blocks}
use Rattle.refutation.proofs.OwnEffects.{OwnEffect, found_here, no_here, nothing_written, yes_here}
use Rattle.refutation.proofs.SliceLists.{filter_holds, in_map, none_from, not_all, of_map}
use Rattle.refutation.proofs.SliceLists.{written_map}

-- ---- answers

differs_failed : (a : Option ReapedLine) → says_differs a ≡ true → says_failed a ≡ true
differs_failed None h = clash false h refl
differs_failed (Some r) h =
    ap (λ (s : Status). not (is_success s)) (status_eq (cqe_status r.cqe) compare_failure h)

pub done_is : (a : Option ReapedLine) → says_done a ≡ true
    → (r : ReapedLine) × (a ≡ Some r) × (is_success (cqe_status r.cqe) ≡ true)
done_is None h = clash false h refl
done_is (Some r) h = (r, refl, h)

differs_is : (a : Option ReapedLine) → says_differs a ≡ true
    → (r : ReapedLine) × (a ≡ Some r) × (same_status (cqe_status r.cqe) compare_failure ≡ true)
differs_is None h = clash false h refl
differs_is (Some r) h = (r, refl, h)

-- what is sure is done, or differs
sure_is : (c : ConfigNumbers) (trace : List Seen) (n : EffectName) → is_sure c trace n.queue n.number n.unit ≡ true
    → (says_done (answer_of trace n) ≡ true)
    ⊎ ((says_differs (answer_of trace n) ≡ true) × (length (told_units c trace n.queue n.number) ≡ 1))
sure_is c trace n h =
    let a = and_parts (nat_lt n.unit (length (told_units c trace n.queue n.number)))
    (says_done (answer_of trace n)
    || (says_differs (answer_of trace n) && eqb (length (told_units c trace n.queue n.number)) 1)) h in
    elim (or_cases (says_done (answer_of trace n))
    (says_differs (answer_of trace n) && eqb (length (told_units c trace n.queue n.number)) 1) a.1) [
      | inl d ↦ inl d
      | inr d ↦
          let x = and_parts (says_differs (answer_of trace n))
          (eqb (length (told_units c trace n.queue n.number)) 1) d in
          inr (x.0, eqb-true (length (told_units c trace n.queue n.number)) 1 x.1)
    ]

-- ---- an effect that is kept

-- it is a piece, and where it isn't sure it doesn't say no
pub record Kept (aside : Option ℕ) (c : ConfigNumbers) (whole : Past) (n : EffectName) (past : Past) (b : BlockLine)
    (r : Range)
    : Type 0 where
  pub here : OwnEffect aside c whole n past b r
  pub piece : is_piece c (own aside (observed c whole)) n ≡ true
  pub stays : (not (is_sure c (own aside (observed c whole)) n.queue n.number n.unit)
      && (has_compare (op (ticket_of (own aside (observed c whole)) n))
      && not (all_equal (value past) (ticket_of (own aside (observed c whole)) n) r))) ≡ false

kept_yes : (aside : Option ℕ) (c : ConfigNumbers) (whole : Past) (n : EffectName) (past : Past) (b : BlockLine)
    (r : Range)
    → Kept aside c whole n past b r → says_differs (answer_of (own aside (observed c whole)) n) ≡ false
    → has_compare (op (ticket_of (own aside (observed c whole)) n)) ≡ true
    → all_equal (value past) (ticket_of (own aside (observed c whole)) n) r ≡ true
kept_yes aside c whole n past b r k same p = go (is_sure c trace n.queue n.number n.unit) refl k.stays
  where
    trace : List Seen
    trace = own aside (observed c whole)

    done : says_done (answer_of trace n) ≡ true → all_equal (value past) (ticket_of trace n) r ≡ true
    done d =
        let a = done_is (answer_of trace n) d in
        yes_here aside c whole n past b r a.0 k.here a.1 a.2 p

    stays : (x y : Bool) → x ≡ true → (x && not y) ≡ false → y ≡ true
    stays true true e f = refl
    stays true false e f = clash true refl f
    stays false y e f = clash false e refl

    go : (s : Bool) → is_sure c trace n.queue n.number n.unit ≡ s
        → (not s && (has_compare (op (ticket_of trace n)) && not (all_equal (value past) (ticket_of trace n) r)))
        ≡ false
        → all_equal (value past) (ticket_of trace n) r ≡ true
    go true s f = elim (sure_is c trace n s) [
      | inl d ↦ done d
      | inr d ↦ clash (says_differs (answer_of trace n)) d.0 same
    ]
    go false s f = stays (has_compare (op (ticket_of trace n))) (all_equal (value past) (ticket_of trace n) r) p f

kept_writes : (aside : Option ℕ) (c : ConfigNumbers) (whole : Past) (n : EffectName) (past : Past) (b : BlockLine)
    (r : Range)
    → Kept aside c whole n past b r → says_differs (answer_of (own aside (observed c whole)) n) ≡ false
    → has_write (op (ticket_of (own aside (observed c whole)) n)) ≡ true
    → writes (value past) (ticket_of (own aside (observed c whole)) n) r ≡ true
kept_writes aside c whole n past b r k same w =
    both (has_write (op m)) (has_compare (op m)) (all_equal (value past) m r) w
    (kept_yes aside c whole n past b r k same)
  where
    m : Ticket
    m = ticket_of (own aside (observed c whole)) n

    both : (x p e : Bool) → x ≡ true → (p ≡ true → e ≡ true) → (x && (not p || e)) ≡ true
    both true true e h f = f refl
    both true false e h f = refl
    both false p e h f = clash false h refl

-- ---- what it leaves on blocks

looked_at : (blocks : List ℕ) (r : Range) (l : ℕ) → is_in l blocks ≡ true
    → list_any (λ i. eqb i l) (filter (λ i. is_in i blocks) (blocks_from r.slba r.blocks)) ≡ has_block r l
looked_at blocks r l h = go (has_block r l) refl
  where
    ls : List ℕ
    ls = filter (λ i. is_in i blocks) (blocks_from r.slba r.blocks)

    go : (x : Bool) → has_block r l ≡ x → list_any (λ i. eqb i l) ls ≡ x
    go true e =
        let at = has_parts r l e in
        in_any (λ i. eqb i l) ls l
        (in_filter (λ i. is_in i blocks) (blocks_from r.slba r.blocks) l (in_blocks r.slba r.blocks l at.0 at.1) h)
        (eq-eqb l l refl)
    go false e = none_from (λ i. eqb i l) ls (λ i j. other i (of_filter (λ m. is_in m blocks)
        (blocks_from r.slba r.blocks) i j) (cases_Bool (eqb i l)))
      where
        other : (i : ℕ) → In i (blocks_from r.slba r.blocks) → (eqb i l ≡ true) ⊎ (eqb i l ≡ false) → eqb i l ≡ false
        other i j (inr f) = f
        other i j (inl f) =
            let at = of_blocks r.slba r.blocks i j in
            clash (has_block r l)
            (subst (λ (m : ℕ). has_block r m ≡ true) (eqb-true i l f) (has_inside r i at.0 at.1)) e

pub kept_written : (aside : Option ℕ) (c : ConfigNumbers) (whole : Past) (n : EffectName) (past : Past)
    (b : BlockLine) (r : Range)
    (blocks : List ℕ) (l : ℕ) (before : List ℕ) → Kept aside c whole n past b r → is_in l blocks ≡ true
    → written (writes_of c (own aside (observed c whole)) blocks n) l before
    ≡ cond (has_block r l && writes (value past) (ticket_of (own aside (observed c whole)) n) r)
    (write_data (ticket_of (own aside (observed c whole)) n) l) before
kept_written aside c whole n past b r blocks l before k h =
    go (has_write (op m)) refl (says_differs (answer_of trace n)) refl
  where
    trace : List Seen
    trace = own aside (observed c whole)

    m : Ticket
    m = ticket_of trace n

    unwritten : (x y : Bool) → y ≡ false → before ≡ cond (x && y) (write_data m l) before
    unwritten true true f = clash true refl f
    unwritten true false f = refl
    unwritten false y f = refl

    and_true : (x y : Bool) → y ≡ true → x ≡ (x && y)
    and_true true true f = refl
    and_true false true f = refl
    and_true x false f = clash false f refl

    no_write : (x y : Bool) → x ≡ false → (x && y) ≡ false
    no_write true y f = clash true refl f
    no_write false y f = refl

    go : (w : Bool) → has_write (op m) ≡ w → (d : Bool) → says_differs (answer_of trace n) ≡ d
        → written (cond (w && not d) (map (λ i. (i, write_data m i)) (blocks_in c trace blocks n)) []) l before
        ≡ cond (has_block r l && writes (value past) m r) (write_data m l) before
    go false w d f = unwritten (has_block r l) (writes (value past) m r)
        (no_write (has_write (op m)) (not (has_compare (op m)) || all_equal (value past) m r) w)
    go true w true f = unwritten (has_block r l) (writes (value past) m r)
        (nothing_written aside c whole n past b r k.here (differs_failed (answer_of trace n) f))
    go true w false f =
        written_map (write_data m) (blocks_in c trace blocks n) l before
        ∙ ap (λ (o : Option Range). cond (list_any (λ i. eqb i l) (filter (λ i. is_in i blocks) (blocks_of o)))
        (write_data m l) before) k.here.range
        ∙ ap (λ (x : Bool). cond x (write_data m l) before)
        (looked_at blocks r l h
        ∙ and_true (has_block r l) (writes (value past) m r) (kept_writes aside c whole n past b r k f w))

-- ---- what it found

kept_found : (aside : Option ℕ) (c : ConfigNumbers) (whole : Past) (n : EffectName) (past : Past) (b : BlockLine)
    (r : Range) (l : ℕ)
    → Kept aside c whole n past b r → says_differs (answer_of (own aside (observed c whole)) n) ≡ false
    → looks (op (ticket_of (own aside (observed c whole)) n)) ≡ true → has_block r l ≡ true
    → found_block (op (ticket_of (own aside (observed c whole)) n)) (ticket_of (own aside (observed c whole)) n)
    (answer_data (answer_of (own aside (observed c whole)) n)) l ≡ value past l
kept_found aside c whole n past b r l k same z g =
    elim (or_cases (is_sure c trace n.queue n.number n.unit) (is_none (answer_of trace n) && has_write (op m))
    k.piece) [
      | inl s ↦ elim (sure_is c trace n s) [
        | inr d ↦ clash (says_differs (answer_of trace n)) d.0 same
        | inl d ↦
            let a = done_is (answer_of trace n) d in
            ap (λ (x : Option ReapedLine). found_block (op m) m (answer_data x) l) a.1
            ∙ found_here aside c whole n past b r a.0 l k.here a.1 a.2 z g
      ]
      | inr s ↦ pair (op m) refl z (and_parts (is_none (answer_of trace n)) (has_write (op m)) s).1
    ]
  where
    trace : List Seen
    trace = own aside (observed c whole)

    m : Ticket
    m = ticket_of trace n

    pair : (o : Option Op) → op m ≡ o → looks o ≡ true → has_write o ≡ true
        → found_block o m (answer_data (answer_of trace n)) l ≡ value past l
    pair (Some Op.Pair) o q w =
        let at = has_parts r l g in
        sym (equal_at (value past) m r.slba r.blocks l
        (kept_yes aside c whole n past b r k same (ap has_compare o)) at.0
        at.1)
    pair (Some Op.Read) o q w = clash false w refl
    pair (Some Op.Compare) o q w = clash false w refl
    pair (Some Op.Write) o q w = clash false q refl
    pair (Some Op.WriteZeroes) o q w = clash false q refl
    pair None o q w = clash false q refl

kept_no : (aside : Option ℕ) (c : ConfigNumbers) (whole : Past) (n : EffectName) (past : Past) (b : BlockLine)
    (r : Range)
    → Kept aside c whole n past b r → says_differs (answer_of (own aside (observed c whole)) n) ≡ true
    → all_equal (value past) (ticket_of (own aside (observed c whole)) n) r ≡ false
kept_no aside c whole n past b r k d =
    let a = differs_is (answer_of trace n) d in
    elim (or_cases (is_sure c trace n.queue n.number n.unit)
    (is_none (answer_of trace n) && has_write (op (ticket_of trace n))) k.piece) [
      | inl s ↦ elim (sure_is c trace n s) [
        | inr x ↦ no_here aside c whole n past b r a.0 k.here a.1 a.2 x.1
        | inl x ↦ clash (says_done (answer_of trace n)) x (not_done (answer_of trace n) d)
      ]
      | inr s ↦ clash (is_none (answer_of trace n)) (and_parts (is_none (answer_of trace n)) _ s).0 (ap is_none a.1)
    ]
  where
    trace : List Seen
    trace = own aside (observed c whole)

    flipped : (x : Bool) → not x ≡ true → x ≡ false
    flipped true q = clash false q refl
    flipped false q = refl

    not_done : (x : Option ReapedLine) → says_differs x ≡ true → says_done x ≡ false
    not_done None h = refl
    not_done (Some y) h = flipped (is_success (cqe_status y.cqe)) (differs_failed (Some y) h)

-- ---- its demands are met

-- what the slice holds is what the block is, or it isn't known, or an effect outside left it there, of which nothing
-- can be demanded
abbrev pub HoldsAt : (ℕ → List ℕ) → Past → (ℕ → Type 0) → List ℕ → Type 0
HoldsAt holds past Out blocks =
    (l : ℕ) → is_in l blocks ≡ true → (holds l ≡ value past l) ⊎ ((holds l ≡ []) ⊎ Out l)

held_is : (holds : ℕ → List ℕ) (l : ℕ) (x : List ℕ) → bytes_eq (holds l) x ≡ true → may_hold holds (l, x) ≡ true
held_is holds l x e = or_right (length (holds l) == 0) _ e

held_any : (holds : ℕ → List ℕ) (l : ℕ) (x : List ℕ) → holds l ≡ [] → may_hold holds (l, x) ≡ true
held_any holds l x e = or_left _ (bytes_eq (holds l) x) (ap (λ (d : List ℕ). length d == 0) e)

pub finds_met : (options : TraceOptions) (aside : Option ℕ) (c : ConfigNumbers) (whole : Past) (n : EffectName)
    (past : Past)
    (b : BlockLine) (r : Range)
    (blocks : List ℕ) (names : List EffectName) (holds : ℕ → List ℕ) (Out : ℕ → Type 0) → Kept aside c whole n past b r
    → HoldsAt holds past Out blocks
    → ((l : ℕ) (fits : List ℕ → Bool) → Out l → none_else options c (own aside (observed c whole)) names n l fits ≡ true
    → fits (value past l) ≡ true → ⊥)
    → list_all (may_hold holds) (finds_of options c (own aside (observed c whole)) blocks names n) ≡ true
finds_met options aside c whole n past b r blocks names holds Out k h f =
    go (looks (op m)) refl (says_differs (answer_of trace n)) refl
  where
    trace : List Seen
    trace = own aside (observed c whole)

    m : Ticket
    m = ticket_of trace n

    one : looks (op m) ≡ true → says_differs (answer_of trace n) ≡ false → (l : ℕ)
        → In l (filter (λ i. is_in i blocks) (blocks_from r.slba r.blocks))
        → none_else options c trace names n l
        (λ d. bytes_eq d (found_block (op m) m (answer_data (answer_of trace n)) l))
        ≡ true
        → may_hold holds (l, found_block (op m) m (answer_data (answer_of trace n)) l) ≡ true
    one z d l i none =
        let at = of_blocks r.slba r.blocks l
        (of_filter (λ j. is_in j blocks) (blocks_from r.slba r.blocks) l i) in
        let is = kept_found aside c whole n past b r l k d z (has_inside r l at.0 at.1) in
        by (h l (filter_holds (λ j. is_in j blocks) (blocks_from r.slba r.blocks) l i)) is
      where
        x : List ℕ
        x = found_block (op m) m (answer_data (answer_of trace n)) l

        by : (holds l ≡ value past l) ⊎ ((holds l ≡ []) ⊎ Out l) → x ≡ value past l → may_hold holds (l, x) ≡ true
        by (inl e) is = held_is holds l x (ap (λ (y : List ℕ). bytes_eq y x) (e ∙ sym is) ∙ bytes_same x)
        by (inr (inl e)) is = held_any holds l x e
        by (inr (inr o)) is =
            absurd (f l (λ y. bytes_eq y x) o none (ap (λ (y : List ℕ). bytes_eq y x) (sym is) ∙ bytes_same x))

    each : looks (op m) ≡ true → says_differs (answer_of trace n) ≡ false → (x : Held)
        → In x (filter (λ y. none_else options c trace names n y.0 (λ d. bytes_eq d y.1))
        (map (λ l. (l, found_block (op m) m (answer_data (answer_of trace n)) l)) (blocks_in c trace blocks n)))
        → may_hold holds x ≡ true
    each z d x i =
        let all = map (λ l. (l, found_block (op m) m (answer_data (answer_of trace n)) l))
        (blocks_in c trace blocks n) in
        let none = filter_holds (λ (y : Held). none_else options c trace names n y.0 (λ d. bytes_eq d y.1)) all x i in
        let w = of_map (λ l. let y : Held = (l, found_block (op m) m (answer_data (answer_of trace n)) l) in y)
        (blocks_in c trace blocks n) x
        (of_filter (λ (y : Held). none_else options c trace names n y.0 (λ d. bytes_eq d y.1)) all x i) in
        let there : In w.0 (filter (λ j. is_in j blocks) (blocks_from r.slba r.blocks)) =
        subst (λ (o : Option Range). In w.0 (filter (λ j. is_in j blocks) (blocks_of o))) k.here.range w.1 in
        ap (may_hold holds) w.2
        ∙ one z d w.0 there
        (ap (λ (y : Held). none_else options c trace names n y.0 (λ d. bytes_eq d y.1)) (sym w.2) ∙ none)

    go : (x : Bool) → looks (op m) ≡ x → (y : Bool) → says_differs (answer_of trace n) ≡ y
        → list_all (may_hold holds)
        (cond (x && not y) (filter (λ y. none_else options c trace names n y.0 (λ d. bytes_eq d y.1))
        (map (λ l. (l, found_block (op m) m (answer_data (answer_of trace n)) l)) (blocks_in c trace blocks n))) [])
        ≡ true
    go false z y d = refl
    go true z true d = refl
    go true z false d = all_from (may_hold holds) _ (each z d)

pub differs_met : (options : TraceOptions) (aside : Option ℕ) (c : ConfigNumbers) (whole : Past) (n : EffectName)
    (past : Past)
    (b : BlockLine) (r : Range)
    (blocks : List ℕ) (names : List EffectName) (holds : ℕ → List ℕ) (Out : ℕ → Type 0) → Kept aside c whole n past b r
    → HoldsAt holds past Out blocks
    → ((l : ℕ) (fits : List ℕ → Bool) → Out l → none_else options c (own aside (observed c whole)) names n l fits ≡ true
    → fits (value past l) ≡ true → ⊥)
    → list_all (λ hs. list_any (may_differ holds) hs)
    (differs_of options c (own aside (observed c whole)) blocks names n) ≡ true
differs_met options aside c whole n past b r blocks names holds Out k h f =
    go (says_differs (answer_of trace n)) refl
    (list_all (λ l. is_in l blocks && none_else options c trace names n l (λ d. not (bytes_eq d (compare_data m l))))
    (blocks_of (range_of c trace n))) refl
  where
    trace : List Seen
    trace = own aside (observed c whole)

    m : Ticket
    m = ticket_of trace n

    differ : (l : ℕ) → bytes_eq (value past l) (compare_data m l) ≡ false
        → (is_in l blocks && none_else options c trace names n l (λ d. not (bytes_eq d (compare_data m l)))) ≡ true
        → may_differ holds (l, compare_data m l) ≡ true
    differ l e none =
        let a = and_parts (is_in l blocks)
        (none_else options c trace names n l (λ d. not (bytes_eq d (compare_data m l))))
        none in
        by a.1 (h l a.0)
      where
        by : none_else options c trace names n l (λ d. not (bytes_eq d (compare_data m l))) ≡ true
            → (holds l ≡ value past l) ⊎ ((holds l ≡ []) ⊎ Out l) → may_differ holds (l, compare_data m l) ≡ true
        by z (inl q) =
            or_right (length (holds l) == 0) _ (ap (λ (y : List ℕ). not (bytes_eq y (compare_data m l))) q ∙ ap not e)
        by z (inr (inl q)) = or_left _ (not (bytes_eq (holds l) (compare_data m l)))
            (ap (λ (d : List ℕ). length d == 0) q)
        by z (inr (inr o)) = absurd (f l (λ d. not (bytes_eq d (compare_data m l))) o z (ap not e))

    some : says_differs (answer_of trace n) ≡ true
        → list_all (λ l. is_in l blocks
        && none_else options c trace names n l (λ d. not (bytes_eq d (compare_data m l))))
        (blocks_of (range_of c trace n)) ≡ true
        → list_any (may_differ holds) (map (λ l. (l, compare_data m l)) (blocks_of (range_of c trace n)))
        ≡ true
    some d all =
        let w = not_all (λ l. bytes_eq (value past l) (compare_data m l)) (blocks_from r.slba r.blocks)
        (kept_no aside c whole n past b r k d) in
        let there : In w.0 (blocks_of (range_of c trace n)) =
        subst (λ (o : Option Range). In w.0 (blocks_of o)) (sym k.here.range) w.1 in
        in_any (may_differ holds) (map (λ l. (l, compare_data m l)) (blocks_of (range_of c trace n)))
        (w.0, compare_data m w.0)
        (in_map (λ l. let y : Held = (l, compare_data m l) in y) (blocks_of (range_of c trace n)) w.0 there)
        (differ w.0 w.2
        (all_in (λ l. is_in l blocks && none_else options c trace names n l (λ d. not (bytes_eq d (compare_data m l))))
        (blocks_of (range_of c trace n)) w.0 all there))

    go : (x : Bool) → says_differs (answer_of trace n) ≡ x → (y : Bool)
        → list_all (λ l. is_in l blocks
        && none_else options c trace names n l (λ d. not (bytes_eq d (compare_data m l))))
        (blocks_of (range_of c trace n)) ≡ y
        → list_all (λ hs. list_any (may_differ holds) hs)
        (cond (x && y) (map (λ l. (l, compare_data m l)) (blocks_of (range_of c trace n)) ∷ []) []) ≡ true
    go false d y a = refl
    go true d false a = refl
    go true d true a = and_from _ _ (some d a) refl

-- ---- what it leaves

-- what it finds on a block is what that is
finds_are : (options : TraceOptions) (aside : Option ℕ) (c : ConfigNumbers) (whole : Past) (n : EffectName)
    (past : Past)
    (b : BlockLine) (r : Range) (blocks : List ℕ) (names : List EffectName) → Kept aside c whole n past b r → (x : Held)
    → In x (finds_of options c (own aside (observed c whole)) blocks names n) → x.1 ≡ value past x.0
finds_are options aside c whole n past b r blocks names k x =
    go (looks (op m)) refl (says_differs (answer_of trace n)) refl
  where
    trace : List Seen
    trace = own aside (observed c whole)

    m : Ticket
    m = ticket_of trace n

    go : (y : Bool) → looks (op m) ≡ y → (z : Bool) → says_differs (answer_of trace n) ≡ z
        → In x (cond (y && not z) (filter (λ h. none_else options c trace names n h.0 (λ d. bytes_eq d h.1))
        (map (λ l. (l, found_block (op m) m (answer_data (answer_of trace n)) l)) (blocks_in c trace blocks n))) [])
        → x.1 ≡ value past x.0
    go false e z d i = absurd i
    go true e true d i = absurd i
    go true e false d i =
        let w = of_map (λ l. let y : Held = (l, found_block (op m) m (answer_data (answer_of trace n)) l) in y)
        (blocks_in c trace blocks n) x
        (of_filter (λ (y : Held). none_else options c trace names n y.0 (λ d. bytes_eq d y.1))
        (map (λ l. (l, found_block (op m) m (answer_data (answer_of trace n)) l)) (blocks_in c trace blocks n)) x i) in
        let there : In w.0 (filter (λ j. is_in j blocks) (blocks_from r.slba r.blocks)) =
        subst (λ (o : Option Range). In w.0 (filter (λ j. is_in j blocks) (blocks_of o))) k.here.range w.1 in
        let at = of_blocks r.slba r.blocks w.0
        (of_filter (λ j. is_in j blocks) (blocks_from r.slba r.blocks) w.0 there) in
        ap (λ (y : Held). y.1) w.2
        ∙ (kept_found aside c whole n past b r w.0 k d e (has_inside r w.0 at.0 at.1)
        ∙ ap (λ (y : Held). value past y.0) (sym w.2))

written_is : (hs : List Held) (l : ℕ) (before : List ℕ) (holds : ℕ → List ℕ)
    → ((x : Held) → In x hs → x.1 ≡ holds x.0) → (written hs l before ≡ before) ⊎ (written hs l before ≡ holds l)
written_is [] l before holds f = inl refl
written_is (h ∷ hs) l before holds f =
    by (eqb h.0 l) refl (written_is hs l before holds (λ x i. f x (inr i)))
  where
    by : (z : Bool) → eqb h.0 l ≡ z → (written hs l before ≡ before) ⊎ (written hs l before ≡ holds l)
        → (cond z h.1 (written hs l before) ≡ before) ⊎ (cond z h.1 (written hs l before) ≡ holds l)
    by true e w = inr (f h (inl refl) ∙ ap holds (eqb-true h.0 l e))
    by false e w = w

pub found_left : (options : TraceOptions) (aside : Option ℕ) (c : ConfigNumbers) (whole : Past) (n : EffectName)
    (past : Past) (b : BlockLine) (r : Range) (blocks : List ℕ) (names : List EffectName) (l : ℕ) (before : List ℕ)
    → Kept aside c whole n past b r
    → (written (finds_of options c (own aside (observed c whole)) blocks names n) l before ≡ before)
    ⊎ (written (finds_of options c (own aside (observed c whole)) blocks names n) l before ≡ value past l)
found_left options aside c whole n past b r blocks names l before k =
    written_is (finds_of options c (own aside (observed c whole)) blocks names n) l before (value past)
    (finds_are options aside c whole n past b r blocks names k)
