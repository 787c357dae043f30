-- What a ticket owes, by where it stands.
use Rattle.std.proofs.Common.{◌≡◌, ℕ, zero, suc, ◌+◌, ◌≤◌, ◌<◌, Bool, true, false, not, ◌&&◌, ◌||◌, cond, List, [], ◌∷◌}
use Rattle.std.proofs.Common.{◌++◌, length, option_map, refl, sym, ap, ◌∙◌, subst, subst₂, Option, Some, None, is_some}
use Rattle.std.proofs.Common.{is_none, inl, inr, ◌⊎◌, arith, eqb, eqb-true, nat_le, leb-true, ltb-true, slice_get, drop}
use Rattle.std.specs.List.{list_any, list_all, find}
use Rattle.std.proofs.lemmas.Bool.{and_parts, and_from, or_parts, or_from, or_left, or_right, or_cases, cond-false}
use Rattle.std.proofs.lemmas.Bool.{cases_Bool, cases_lt}
use Rattle.plain_lemmas.proofs.Lists.{get_dropped}
use Rattle.nvme_model.specs.declared.config.ConfigNumbers.{ConfigNumbers}
use Rattle.nvme_model.specs.declared.array.Range.{Range}
use Rattle.nvme_model.specs.declared.operation.Op.{Op}
use Rattle.nvme_model.specs.declared.operation.Found.{Found}
use Rattle.nvme_model.specs.declared.status.Verdict.{Verdict}
use Rattle.nvme_model.specs.declared.entry.GrantLine.{GrantLine}
use Rattle.nvme_model.specs.declared.entry.BlockLine.{BlockLine}
use Rattle.nvme_model.specs.declared.entry.Entry.{Entry}
use Rattle.nvme_model.specs.Verdict.{passed}
use Rattle.nvme_model.specs.Statuses.{success, compare_failure, failed_fused}
use Rattle.nvme_model.specs.History.{Past}
use Rattle.nvme_model.specs.Tickets
use Rattle.nvme_model.specs.Tickets.{Ticket, posts_of, in_flight}
use Rattle.nvme_model.specs.Operations.{op, has_compare, units}
use Rattle.nvme_model.specs.Open.{granted, grants_of, open_units, blocks_made, has_ended, is_differs, differed}
use Rattle.nvme_model.specs.Open.{unit_range}
use Rattle.nvme_model.specs.Value.{value, all_equal}
use Rattle.nvme_model.specs.Placed.{effect}
use Rattle.nvme_model.specs.Answered.{says_no, no_at}
use Rattle.nvme_model.specs.Owed.{owed, owed_after, owed_by, numbered_units, all_ended, all_done, some_no}
use Rattle.nvme_model.specs.Refusals.{has_open, is_flush_ticket, owes_nothing_yet}
use Rattle.nvme_model.specs.Steps.{marked}
use Rattle.nvme_model.specs.Legal.{IsLegal}
use Rattle.nvme_model.specs.Laws.{MarkedRight}
use Rattle.ticket_laws.specs.Standing.{Standing, standing, has_run, on_differs, on_success, owed_running}
use Rattle.ticket_laws.specs.Standing.{owed_by_standing, still_owed}
use Rattle.nvme_model.proofs.Lists.{each_both, each_find, all_true}
use Rattle.nvme_model.proofs.Rules.{follows}
use Rattle.nvme_model.proofs.Apart.{ticket_kept}
use Rattle.nvme_model.proofs.Blocks.{MayBlock, may_block, no_blocks, same_made, at_key, grants_before, range_before}
use Rattle.nvme_model.proofs.Ended.{found_some, some_granted}
use Rattle.nvme_model.proofs.Pairs.{no_blocks_yet, marked_here, says_yes}
use Rattle.nvme_model.proofs.Effects.{not_both, no_effect}
use Rattle.nvme_model.proofs.Medium.{is_open}
use Rattle.nvme_model.proofs.NextPost.{unit_at, numbered_all, same_range, all_done_if, no_if, lone, owed_long}
use Rattle.nvme_model.proofs.NextPost.{commands_few}
use Rattle.nvme_model.proofs.Runs.{below_if, some_at}
use Rattle.nvme_model.proofs.Finished.{ended_finished, not_has_open}
use Rattle.nvme_model.proofs.Cut.{clash}

-- ---- an effect that says no is a `differs`

abbrev NoDiffers : Past → ℕ → ℕ → Type 0
NoDiffers past t u = says_no past t u ≡ true → list_any (λ b. is_differs b.found) (blocks_made past t u) ≡ true

-- without an effect nothing says no
silent : (past : Past) (t u : ℕ) (k : Ticket) (r : Range) → blocks_made past t u ≡ []
    → no_at (effect past t u) k r ≡ false
silent past t u k r e = ap (λ (o : Option Past). no_at o k r) (no_effect past t u e)

marks_last : (o : Option Op) (n j : ℕ) (f : Found) → has_compare o ≡ true → marked o n j f ≡ true → is_differs f ≡ false
    → suc j ≡ n
marks_last (Some Op.Compare) n j f h m d = last (eqb (suc j) n) (is_differs f) refl m d
  where
    last : (x y : Bool) → eqb (suc j) n ≡ x → (x || y) ≡ true → y ≡ false → suc j ≡ n
    last true y e m d = eqb-true _ _ e
    last false y e m d = clash y m d
marks_last (Some Op.Pair) n j f h m d = last (eqb (suc j) n) (is_differs f) refl m d
  where
    last : (x y : Bool) → eqb (suc j) n ≡ x → (x || y) ≡ true → y ≡ false → suc j ≡ n
    last true y e m d = eqb-true _ _ e
    last false y e m d = clash y m d
marks_last None n j f h m d = clash false h refl
marks_last (Some Op.Read) n j f h m d = clash false h refl
marks_last (Some Op.Write) n j f h m d = clash false h refl
marks_last (Some Op.WriteZeroes) n j f h m d = clash false h refl

-- an effect that says no has a `differs`
pub no_differs : (c : ConfigNumbers) (past : Past) (t u : ℕ) → IsLegal c past → MarkedRight past → NoDiffers past t u
no_differs c [] t u h k = λ e. e
no_differs c (Entry.Fetch f ∷ past) t u h k =
    let before = (follows c past (Entry.Fetch f) h).before in
    elim (cases_lt (Tickets.tickets past) t) [
      | inl l ↦ λ e. clash _ e
          (silent past t u (Tickets.ticket (Entry.Fetch f ∷ past) t) (unit_range past t u)
          (no_blocks_yet c past t u before l))
      | inr l ↦ λ e. no_differs c past t u before k
          (subst (λ (x : Ticket). no_at (effect past t u) x (unit_range past t u) ≡ true) (ticket_kept c past f t h l)
          e)
    ]
no_differs c (Entry.Grant g ∷ past) t u h k =
    let before = (follows c past (Entry.Grant g) h).before in
    elim (cases_Bool (eqb g.ticket t && eqb g.unit u)) [
      | inl q ↦ λ e. clash _ e
          (silent past t u (Tickets.ticket past t) (unit_range (Entry.Grant g ∷ past) t u)
          (no_blocks c past t u before (grants_before c past g t u h q)))
      | inr q ↦ λ e. no_differs c past t u before k
          (subst (λ (r : Range). no_at (effect past t u) (Tickets.ticket past t) r ≡ true) (range_before past g t u q)
          e)
    ]
no_differs c (Entry.Block b ∷ past) t u h k =
    let found = may_block c past b h in
    let before = (follows c past (Entry.Block b) h).before in
    elim (cases_Bool (eqb b.ticket t && eqb b.unit u)) [
      | inl q ↦ at_key (NoDiffers (Entry.Block b ∷ past)) b t u q
          (own found.0 found.2 before (no_differs c past b.ticket b.unit before k.0))
      | inr q ↦ other q (no_differs c past t u before k.0)
    ]
  where
    made : List BlockLine
    made = blocks_made past b.ticket b.unit

    has_one : (is_differs b.found || list_any (λ x. is_differs x.found) made) ≡ true
        → list_any (λ x. is_differs x.found) (blocks_made (Entry.Block b ∷ past) b.ticket b.unit) ≡ true
    has_one e = subst (λ (xs : List BlockLine). list_any (λ x. is_differs x.found) xs ≡ true)
        (sym (same_made b b.ticket b.unit made refl refl)) e

    own : (g : GrantLine) → MayBlock past b g → IsLegal c past → NoDiffers past b.ticket b.unit
        → NoDiffers (Entry.Block b ∷ past) b.ticket b.unit
    own g m before ih e = elim (cases_Bool b.effect) [
      | inr q ↦ has_one (or_right _ _
          (ih (subst (λ (o : Option Past). no_at o (Tickets.ticket past b.ticket) (unit_range past b.ticket b.unit)
          ≡ true)
          (cond-false (b.effect && eqb b.ticket b.ticket && eqb b.unit b.unit) (Some past) (effect past b.ticket b.unit)
          (ap (λ x. x && eqb b.ticket b.ticket && eqb b.unit b.unit) q)) e)))
      | inl q ↦ elim (cases_Bool (is_differs b.found)) [
        | inl d ↦ has_one (or_left _ _ d)
        | inr d ↦
            let no : (has_compare (op (Tickets.ticket past b.ticket))
            && not (all_equal (value past) (Tickets.ticket past b.ticket) (unit_range past b.ticket b.unit)))
            ≡ true =
            subst (λ (o : Option Past). no_at o (Tickets.ticket past b.ticket) (unit_range past b.ticket b.unit) ≡ true)
            (marked_here past b q) e in
            let parts = and_parts _ _ no in
            let last = marks_last (op (Tickets.ticket past b.ticket)) (unit_range past b.ticket b.unit).blocks
            (length made) b.found parts.0 (sym k.1 ∙ q) d in
            clash _ parts.1 (ap not (says_yes c past b g before m q parts.0 d last))
      ]
    ]

    other : (eqb b.ticket t && eqb b.unit u) ≡ false → NoDiffers past t u → NoDiffers (Entry.Block b ∷ past) t u
    other q ih e =
        subst (λ (xs : List BlockLine). list_any (λ x. is_differs x.found) xs ≡ true)
        (sym (ap (λ (xs : List BlockLine). xs ++ blocks_made past t u)
        (cond-false (eqb b.ticket t && eqb b.unit u) (b ∷ []) [] q)))
        (ih (subst (λ (o : Option Past). no_at o (Tickets.ticket past t) (unit_range past t u) ≡ true)
        (cond-false (b.effect && eqb b.ticket t && eqb b.unit u) (Some past) (effect past t u)
        (not_both b.effect (eqb b.ticket t) (eqb b.unit u) q)) e))
no_differs c (e ∷ past) t u h k = no_differs c past t u (follows c past e h).before k

-- a `differs` of a unit is one of its ticket
differs_known : (past : Past) (t u : ℕ) → list_any (λ b. is_differs b.found) (blocks_made past t u) ≡ true
    → differed past t ≡ true
differs_known [] t u h = h
differs_known (Entry.Block b ∷ past) t u h = go (eqb b.ticket t) (eqb b.unit u) (differs_known past t u) h
  where
    go : (x y : Bool) → (list_any (λ z. is_differs z.found) (blocks_made past t u) ≡ true → differed past t ≡ true)
        → list_any (λ z. is_differs z.found) (cond (x && y) (b ∷ []) [] ++ blocks_made past t u) ≡ true
        → ((x && is_differs b.found) || differed past t) ≡ true
    go true true ih h = go2 (or_cases (is_differs b.found) _ h)
      where
        go2 : (is_differs b.found ≡ true) ⊎ (list_any (λ z. is_differs z.found) (blocks_made past t u) ≡ true)
            → (is_differs b.found || differed past t) ≡ true
        go2 (inl q) = or_left _ _ q
        go2 (inr q) = or_right _ _ (ih q)
    go true false ih h = or_right _ _ (ih h)
    go false y ih h = ih h
differs_known (Entry.Publish e ∷ past) t u h = differs_known past t u h
differs_known (Entry.Fetch e ∷ past) t u h = differs_known past t u h
differs_known (Entry.Grant e ∷ past) t u h = differs_known past t u h
differs_known (Entry.Post e ∷ past) t u h = differs_known past t u h
differs_known (Entry.Reap e ∷ past) t u h = differs_known past t u h

any_numbered : (p : ℕ × Range → Bool) (q : ℕ → Bool) (v : ℕ) (rs : List Range)
    → ((u : ℕ) (r : Range) → p (u, r) ≡ true → q u ≡ true) → list_any p (numbered_units v rs) ≡ true
    → (u : ℕ) × (q u ≡ true)
any_numbered p q v [] f h = clash false h refl
any_numbered p q v (r ∷ rs) f h =
    go (or_cases (p (v, r)) (list_any p (numbered_units (suc v) rs)) h) (any_numbered p q (suc v) rs f)
  where
    go : (p (v, r) ≡ true) ⊎ (list_any p (numbered_units (suc v) rs) ≡ true)
        → (list_any p (numbered_units (suc v) rs) ≡ true → (u : ℕ) × (q u ≡ true)) → (u : ℕ) × (q u ≡ true)
    go (inl e) ih = (v, f v r e)
    go (inr e) ih = ih e

-- so an effect says no exactly where a `differs` came
pub no_is_differed : (c : ConfigNumbers) (past : Past) (t : ℕ) → IsLegal c past → MarkedRight past
    → some_no c past t ≡ differed past t
no_is_differed c past t h k = both (some_no c past t) (differed past t)
    (λ e. let u = any_numbered (λ i. says_no past t i.0) (says_no past t) 0 (units c (Tickets.ticket past t))
    (λ u r q. q) e in differs_known past t u.0 (no_differs c past t u.0 h k u.1))
    (no_if c past t h k)
  where
    both : (x y : Bool) → (x ≡ true → y ≡ true) → (y ≡ true → x ≡ true) → x ≡ y
    both true y f g = sym (f refl)
    both false true f g = g refl
    both false false f g = refl

-- ---- all units have ended where none is left and none is open

pub none_found : {X Y : Type 0} (f : X → Y) (p : X → Bool) (xs : List X)
    → is_none (option_map f (find p xs)) ≡ not (list_any p xs)
none_found f p [] = refl
none_found f p (x ∷ xs) = go (p x) (none_found f p xs)
  where
    go : (b : Bool) → is_none (option_map f (find p xs)) ≡ not (list_any p xs)
        → is_none (option_map f (cond b (Some x) (find p xs))) ≡ not (b || list_any p xs)
    go true ih = refl
    go false ih = ih

run_ended : (c : ConfigNumbers) (past : Past) (t : ℕ) → IsLegal c past
    → length (units c (Tickets.ticket past t)) ≤ grants_of past t → has_open past t ≡ false → all_ended c past t ≡ true
run_ended c past t h l o =
    numbered_all (λ u. true) (λ u. has_ended past t u.0 u.1.blocks) 0 (units c (Tickets.ticket past t))
    (λ i j r e m q. one j r (ap (slice_get (units c (Tickets.ticket past t))) (place i j m) ∙ e))
    (all_true (numbered_units 0 (units c (Tickets.ticket past t))))
  where
    place : (i j : ℕ) → j ≡ 0 + i → j ≡ i
    place i j m = omega (arith, m)

    one : (u : ℕ) (r : Range) → slice_get (units c (Tickets.ticket past t)) u ≡ Some r
        → has_ended past t u r.blocks ≡ true
    one u r e =
        let there : u < grants_of past t =
        omega (arith, l, below_if (units c (Tickets.ticket past t)) u (Some r) e refl) in
        let x = found_some (λ g. eqb g.ticket t && eqb g.unit u) (granted past) (some_granted c past t u h there) in
        let f = each_find (λ y. (is_open past y ≡ true → eqb y.ticket t ≡ false)
        × (slice_get (units c (Tickets.ticket past y.ticket)) y.unit ≡ Some y.range))
        (λ g. eqb g.ticket t && eqb g.unit u) (granted past) x.0
        (each_both _ _ (granted past) (not_has_open past t o) (unit_at c past h)) x.1 in
        let keys = and_parts (eqb x.0.ticket t) (eqb x.0.unit u) f.1 in
        let a = eqb-true x.0.ticket t keys.0 in
        let b = eqb-true x.0.unit u keys.1 in
        let same : x.0.range ≡ r =
        same_range x.0.range r (sym
        (subst₂ (λ (i j : ℕ). slice_get (units c (Tickets.ticket past i)) j ≡ Some x.0.range) a b f.0.1) ∙ e) in
        subst (λ (q : Range). has_ended past t u q.blocks ≡ true) same
        (subst₂ (λ (i j : ℕ). has_ended past i j x.0.range.blocks ≡ true) a b (ended _ _ f.0.0 keys.0))
      where
        ended : (z k : Bool) → (not z ≡ true → k ≡ false) → k ≡ true → z ≡ true
        ended true k f q = refl
        ended false k f q = clash k q (f refl)

-- the units have all ended
pub has_run_is : (c : ConfigNumbers) (past : Past) (t : ℕ) → IsLegal c past → differed past t ≡ false
    → all_ended c past t ≡ has_run c (standing past t)
has_run_is c past t h d = both (all_ended c past t) (has_run c (standing past t)) there back
  where
    none_open : is_none (standing past t).unit ≡ not (has_open past t)
    none_open = none_found _ (λ g. eqb g.ticket t) (open_units past)

    there : all_ended c past t ≡ true → has_run c (standing past t) ≡ true
    there e =
        let f = ended_finished c past t h e in
        and_from _ _ (only (nat_le (length (units c (Tickets.ticket past t))) (grants_of past t)) (differed past t)
        f.left d) (none_open ∙ ap not f.closed)
      where
        only : (x y : Bool) → (x || y) ≡ true → y ≡ false → x ≡ true
        only true y e d = refl
        only false y e d = clash y e d

    back : has_run c (standing past t) ≡ true → all_ended c past t ≡ true
    back e =
        let f = and_parts (nat_le (length (units c (Tickets.ticket past t))) (grants_of past t)) _ e in
        run_ended c past t h (leb-true _ _ f.0) (not_false _ (sym none_open ∙ f.1))
      where
        not_false : (x : Bool) → not x ≡ true → x ≡ false
        not_false false e = refl
        not_false true e = clash true refl (sym e)

    both : (x y : Bool) → (x ≡ true → y ≡ true) → (y ≡ true → x ≡ true) → x ≡ y
    both true y f g = sym (f refl)
    both false true f g = g refl
    both false false f g = refl

-- ---- what is owed

done_ended : (c : ConfigNumbers) (past : Past) (t : ℕ) → IsLegal c past → MarkedRight past
    → all_done c past t ≡ all_ended c past t
done_ended c past t h k = go (all_ended c past t) refl
  where
    go : (x : Bool) → all_ended c past t ≡ x → all_done c past t ≡ x
    go true e = all_done_if c past t h k e
    go false e = ap (λ y. y && list_all (λ u. is_some (effect past t u.0))
        (numbered_units 0 (units c (Tickets.ticket past t)))) e

-- a single command
single_owed_is : (n d r : Bool) (e : Bool) → n ≡ d → (d ≡ false → e ≡ r)
    → cond n (compare_failure ∷ []) (cond e (success ∷ []) [])
    ≡ cond d (compare_failure ∷ []) (cond r (success ∷ []) [])
single_owed_is true true r e a b = refl
single_owed_is false false r e a b = ap (λ x. cond x (success ∷ []) []) (b refl)
single_owed_is true false r e a b = clash true refl a
single_owed_is false true r e a b = clash true refl (sym a)

pair_owed_is : (n d r a : Bool) (e : Bool) → n ≡ d → (d ≡ true → a ≡ true) → (d ≡ false → e ≡ r)
    → cond (n && a) (compare_failure ∷ failed_fused ∷ []) (cond e (success ∷ success ∷ []) [])
    ≡ cond d (compare_failure ∷ failed_fused ∷ []) (cond r (success ∷ success ∷ []) [])
pair_owed_is true true r true e a f b = refl
pair_owed_is true true r false e a f b = clash true refl (sym (f refl))
pair_owed_is false false r x e a f b = ap (λ x. cond x (success ∷ success ∷ []) []) (b refl)
pair_owed_is true false r x e a f b = clash true refl a
pair_owed_is false true r x e a f b = clash true refl (sym a)

running_is : (c : ConfigNumbers) (past : Past) (t : ℕ) (o : Option Op) → op (Tickets.ticket past t) ≡ o → IsLegal c past
    → MarkedRight past → owed_by c past t o ≡ owed_running c (standing past t) o
running_is c past t o e h k =
    go o e (no_is_differed c past t h k) (λ d. done_ended c past t h k ∙ has_run_is c past t h d)
  where
    go : (o : Option Op) → op (Tickets.ticket past t) ≡ o → some_no c past t ≡ differed past t
        → (differed past t ≡ false → all_done c past t ≡ has_run c (standing past t))
        → owed_by c past t o ≡ owed_running c (standing past t) o
    go None e n r = refl
    go (Some Op.Pair) e n r =
        pair_owed_is (some_no c past t) (differed past t) (has_run c (standing past t)) (all_ended c past t)
        (all_done c past t) n (lone c past t e h) r
    go (Some Op.Read) e n r =
        single_owed_is (some_no c past t) (differed past t) (has_run c (standing past t)) (all_done c past t) n r
    go (Some Op.Compare) e n r =
        single_owed_is (some_no c past t) (differed past t) (has_run c (standing past t)) (all_done c past t) n r
    go (Some Op.Write) e n r =
        single_owed_is (some_no c past t) (differed past t) (has_run c (standing past t)) (all_done c past t) n r
    go (Some Op.WriteZeroes) e n r =
        single_owed_is (some_no c past t) (differed past t) (has_run c (standing past t)) (all_done c past t) n r

-- all that a ticket owes, by where it stands
pub owed_is : (c : ConfigNumbers) (past : Past) (t : ℕ) → IsLegal c past → MarkedRight past
    → owed c past t ≡ owed_by_standing c (standing past t) (Tickets.ticket past t).verdict
owed_is c past t h k = go (Tickets.ticket past t).verdict
  where
    go : (v : Verdict) → owed_after c past t (Tickets.ticket past t) v ≡ owed_by_standing c (standing past t) v
    go Verdict.Single = running_is c past t (op (Tickets.ticket past t)) refl h k
    go Verdict.Pair = running_is c past t (op (Tickets.ticket past t)) refl h k
    go (Verdict.SingleFailed s) = refl
    go (Verdict.PairFailed s r) = refl

-- ---- whether something is owed

nothing_running : (c : ConfigNumbers) (s : Standing) (o : Option Op) → is_flush_ticket o ≡ false
    → (has_run c s || s.differs) ≡ false → owed_running c s o ≡ []
nothing_running c s None f n = clash true refl f
nothing_running c s (Some o) f n =
    go s.differs (has_run c s) (or_parts (has_run c s) s.differs n).1 (or_parts (has_run c s) s.differs n).0
  where
    go : (d r : Bool) → d ≡ false → r ≡ false → cond d (on_differs o) (cond r (on_success o) []) ≡ []
    go false false a b = refl
    go true r a b = clash true refl a
    go false true a b = clash true refl b

-- before that nothing is
pub nothing_owed : (c : ConfigNumbers) (past : Past) (t : ℕ) → IsLegal c past → owes_nothing_yet c past t ≡ true
    → owed_by_standing c (standing past t) (Tickets.ticket past t).verdict ≡ []
nothing_owed c past t h n =
    let k = Tickets.ticket past t in
    let a = and_parts (passed k.verdict && not (is_flush_ticket (op k))) _ n in
    let b = and_parts (passed k.verdict) _ a.0 in
    let f = not_true _ b.1 in
    let e = or_parts (all_ended c past t) (differed past t) (not_true _ a.1) in
    go k.verdict b.0 (nothing_running c (standing past t) (op k) f
    (or_from _ _ (sym (has_run_is c past t h e.1) ∙ e.0) e.1))
  where
    not_true : (x : Bool) → not x ≡ true → x ≡ false
    not_true false e = refl
    not_true true e = clash true refl (sym e)

    go : (v : Verdict) → passed v ≡ true → owed_running c (standing past t) (op (Tickets.ticket past t)) ≡ []
        → owed_by_standing c (standing past t) v ≡ []
    go Verdict.Single p e = e
    go Verdict.Pair p e = e
    go (Verdict.SingleFailed s) p e = clash false p refl
    go (Verdict.PairFailed s r) p e = clash false p refl

nothing_at : {X : Type 0} (n : ℕ) (xs : List X) → xs ≡ [] → is_none (slice_get (drop n xs) 0) ≡ true
nothing_at zero [] e = refl
nothing_at (suc n) [] e = refl
nothing_at n (x ∷ xs) e = absurd (let l = ap length e in omega (arith, l))

-- the status of the next completion
pub next_owed : (c : ConfigNumbers) (past : Past) (t : ℕ) → IsLegal c past → MarkedRight past
    → slice_get (still_owed c (standing past t)) 0 ≡ slice_get (owed c past t) (posts_of past t)
next_owed c past t h k =
    get_dropped (posts_of past t) (owed_by_standing c (standing past t) (Tickets.ticket past t).verdict)
    ∙ ap (λ xs. slice_get xs (posts_of past t)) (sym (owed_is c past t h k))

-- a ticket in flight has one exactly where something is owed
pub has_next : (c : ConfigNumbers) (past : Past) (t : ℕ) → IsLegal c past → MarkedRight past → in_flight past t ≡ true
    → is_none (slice_get (still_owed c (standing past t)) 0) ≡ owes_nothing_yet c past t
has_next c past t h k i = elim (cases_Bool (owes_nothing_yet c past t)) [
  | inl n ↦ nothing_at (posts_of past t) _ (nothing_owed c past t h n) ∙ sym n
  | inr n ↦
      let long = owed_long c past t (Tickets.ticket past t).verdict refl h k n in
      let due = some_at (owed c past t) (posts_of past t) (omega (arith, ltb-true _ _ i, long, commands_few past t)) in
      ap is_none (next_owed c past t h k ∙ due.1) ∙ sym n
]
