-- What a ticket owes, by the tables.
use Rattle.std.proofs.Common.{◌≡◌, ℕ, suc, ◌+◌, ◌≤◌, ◌<◌, Bool, true, false, not, ◌&&◌, ◌||◌, cond, List, [], ◌∷◌}
use Rattle.std.proofs.Common.{length, option_map, refl, sym, ap, ap₂, ◌∙◌, subst, subst₂, Option, Some, None, is_none}
use Rattle.std.proofs.Common.{is_some, inl, inr, arith, eqb, eqb-true, nat_le, nat_lt, le-leb, leb-true, slice_get}
use Rattle.std.specs.List.{find, list_all, list_any}
use Rattle.std.proofs.lemmas.Bool.{and_parts, and_from, cases_lt, lt-leb}
use Rattle.std.proofs.lemmas.Bool.Decides.{nat_tests}
use Rattle.nvme_model.specs.declared.array.Range.{Range}
use Rattle.nvme_model.specs.declared.config.ConfigNumbers.{ConfigNumbers}
use Rattle.nvme_model.specs.declared.entry.BlockLine.{BlockLine}
use Rattle.nvme_model.specs.declared.entry.GrantLine.{GrantLine}
use Rattle.nvme_model.specs.declared.operation.Op.{Op}
use Rattle.nvme_model.specs.declared.status.Verdict.{Verdict}
use Rattle.nvme_model.specs.EntryBytes.{slba, block_count}
use Rattle.nvme_model.specs.History.{Past}
use Rattle.nvme_model.specs.Legal.{IsLegal}
use Rattle.nvme_model.specs.Open.{grants_of, granted, has_ended, is_differs, open_units, steps_needed}
use Rattle.nvme_model.specs.Operations.{op, units}
use Rattle.nvme_model.specs.Owed.{all_done, all_ended, numbered_units, owed, owed_after, owed_by, some_no}
use Rattle.nvme_model.specs.Placed.{effect}
use Rattle.nvme_model.specs.Refusals.{has_open, is_flush_ticket, owes_nothing_yet}
use Rattle.nvme_model.specs.Open
use Rattle.nvme_model.specs.Statuses.{compare_failure, failed_fused, success}
use Rattle.nvme_model.specs.Tickets
use Rattle.nvme_model.specs.Tickets.{first_fields}
use Rattle.nvme_model.specs.Verdict.{passed}
use Rattle.history_check.specs.Effects.{placed, effect_said_no}
use Rattle.history_check.specs.Judged
use Rattle.history_check.specs.Judged.{checked_has_run, is_done, owed_as, checked_owed_running, owes_nothing}
use Rattle.history_check.specs.Tables.{flight, checked_unit, checked_unit_of}
use Rattle.nvme_model.proofs.Granted.{units_some}
use Rattle.nvme_model.proofs.Lists.{each_get, each_find, all_true}
use Rattle.nvme_model.proofs.Blocks.{no_blocks}
use Rattle.nvme_model.proofs.Medium.{is_open}
use Rattle.nvme_model.proofs.Ended.{found_some, some_granted}
use Rattle.nvme_model.proofs.Finished.{all_numbered, ended_finished, not_has_open}
use Rattle.nvme_model.proofs.NextPost.{granted_unit, numbered_all, same_range, unit_at}
use Rattle.nvme_model.proofs.Runs.{below_if, some_at}
use Rattle.nvme_model.proofs.Cut.{clash}
use Rattle.history_check.proofs.Placing.{effect_placed}
use Rattle.history_check.proofs.SaidNo.{some_no_is}
use Rattle.ticket_laws.proofs.Opening.{some_needed}

both : (x y : Bool) → (x ≡ true → y ≡ true) → (y ≡ true → x ≡ true) → x ≡ y
both true y f g = sym (f refl)
both false true f g = g refl
both false false f g = refl

-- ---- whether a unit is open

found_mapped : {X Y : Type 0} (f : X → Y) (p : X → Bool) (xs : List X)
    → is_some (option_map f (find p xs)) ≡ list_any p xs
found_mapped f p [] = refl
found_mapped f p (x ∷ xs) = go (p x) (found_mapped f p xs)
  where
    go : (b : Bool) → is_some (option_map f (find p xs)) ≡ list_any p xs
        → is_some (option_map f (cond b (Some x) (find p xs))) ≡ (b || list_any p xs)
    go true ih = refl
    go false ih = ih

pub has_unit : (past : Past) (t : ℕ) → is_some (checked_unit past t) ≡ has_open past t
has_unit past t = found_mapped (checked_unit_of past) (λ g. eqb g.ticket t) (open_units past)

none_some : {X : Type 0} (o : Option X) → is_none o ≡ not (is_some o)
none_some None = refl
none_some (Some x) = refl

no_unit : (past : Past) (t : ℕ) → is_none (checked_unit past t) ≡ not (has_open past t)
no_unit past t = none_some (checked_unit past t) ∙ ap not (has_unit past t)

-- ---- all units have ended

-- a unit that wasn't granted hasn't ended
not_ended : (c : ConfigNumbers) (past : Past) (t u n : ℕ) → IsLegal c past → grants_of past t ≤ u → 1 ≤ n
    → has_ended past t u n ≡ false
not_ended c past t u n h l o =
    ap (λ (xs : List BlockLine). nat_le (steps_needed (Tickets.ticket past t) n) (length xs)
    || list_any (λ x. is_differs x.found) xs) (no_blocks c past t u h l)
    ∙ ap (λ x. x || false) (lt-leb _ 0 (some_needed (Tickets.ticket past t) n o))

-- a granted unit of a ticket without an open one has ended
unit_ended : (c : ConfigNumbers) (past : Past) (t u : ℕ) (r : Range) → IsLegal c past → has_open past t ≡ false
    → u < grants_of past t → slice_get (units c (Tickets.ticket past t)) u ≡ Some r → has_ended past t u r.blocks ≡ true
unit_ended c past t u r h o l e =
    let x = found_some (λ g. eqb g.ticket t && eqb g.unit u) (granted past) (some_granted c past t u h l) in
    let f = each_find (λ y. is_open past y ≡ true → eqb y.ticket t ≡ false) (λ g. eqb g.ticket t && eqb g.unit u)
    (granted past) x.0 (not_has_open past t o) x.1 in
    let keys = and_parts (eqb x.0.ticket t) (eqb x.0.unit u) f.1 in
    let g = granted_unit c past t u h l in
    ap (λ (s : Range). has_ended past t u s.blocks) (same_range r x.0.range (sym e ∙ at x.0 x.1))
    ∙ ended _ _ keys.0 (keyed x.0 keys f.0)
  where
    at : (x : GrantLine) → find (λ g. eqb g.ticket t && eqb g.unit u) (granted past) ≡ Some x
        → slice_get (units c (Tickets.ticket past t)) u ≡ Some x.range
    at x q =
        let f = each_find (λ y. slice_get (units c (Tickets.ticket past y.ticket)) y.unit ≡ Some y.range)
        (λ g. eqb g.ticket t && eqb g.unit u) (granted past) x (unit_at c past h) q in
        let k = and_parts (eqb x.ticket t) (eqb x.unit u) f.1 in
        subst₂ (λ (i j : ℕ). slice_get (units c (Tickets.ticket past i)) j ≡ Some x.range) (eqb-true x.ticket t k.0)
        (eqb-true x.unit u k.1) f.0

    keyed : (x : GrantLine) → (eqb x.ticket t ≡ true) × (eqb x.unit u ≡ true)
        → (is_open past x ≡ true → eqb x.ticket t ≡ false) → not (has_ended past t u x.range.blocks) ≡ true
        → eqb x.ticket t ≡ false
    keyed x k f = subst₂ (λ (i j : ℕ). not (has_ended past i j x.range.blocks) ≡ true → eqb x.ticket t ≡ false)
        (eqb-true x.ticket t k.0) (eqb-true x.unit u k.1) f

    ended : (z k : Bool) → k ≡ true → (not z ≡ true → k ≡ false) → z ≡ true
    ended true k q f = refl
    ended false k q f = clash k q (f refl)

pub all_ended_is : (c : ConfigNumbers) (past : Past) (t : ℕ) → IsLegal c past
    → all_ended c past t ≡ checked_has_run c (flight past t)
all_ended_is c past t h = both (all_ended c past t) (checked_has_run c (flight past t)) there back
  where
    rs : List Range
    rs = units c (Tickets.ticket past t)

    ended : all_ended c past t ≡ true → (i : ℕ) (r : Range) → slice_get rs i ≡ Some r
        → has_ended past t i r.blocks ≡ true
    ended e i r q = all_numbered (λ u. has_ended past t u.0 u.1.blocks) 0 i i r rs e q (omega arith)

    all_granted : all_ended c past t ≡ true → length rs ≤ grants_of past t
    all_granted e = elim (cases_lt (grants_of past t) (length rs)) [
      | inr l ↦ l
      | inl l ↦
          let r = some_at rs (grants_of past t) l in
          let n = each_get (λ s. 1 ≤ s.blocks) rs (grants_of past t) r.0
          (units_some c.atomic (op (Tickets.ticket past t)) (slba (first_fields (Tickets.ticket past t)))
          (block_count (first_fields (Tickets.ticket past t))) (omega arith)) r.1 in
          clash _ (ended e (grants_of past t) r.0 r.1)
          (not_ended c past t (grants_of past t) r.0.blocks h (omega arith) n)
    ]

    there : all_ended c past t ≡ true → checked_has_run c (flight past t) ≡ true
    there e = and_from _ _ (le-leb _ _ (all_granted e)) (no_unit past t ∙ ap not (ended_finished c past t h e).closed)

    back : checked_has_run c (flight past t) ≡ true → all_ended c past t ≡ true
    back e =
        let a = and_parts (nat_le (length rs) (grants_of past t)) _ e in
        numbered_all (λ u. true) (λ u. has_ended past t u.0 u.1.blocks) 0 rs
        (λ i j r q m s. one i j r q (omega (arith, m)) (leb-true _ _ a.0) (closed (sym (no_unit past t) ∙ a.1)))
        (all_true (numbered_units 0 rs))
      where
        closed : {x : Bool} → not x ≡ true → x ≡ false
        closed {x} e = go x e
          where
            go : (x : Bool) → not x ≡ true → x ≡ false
            go false e = refl
            go true e = clash true refl (sym e)

        one : (i j : ℕ) (r : Range) → slice_get rs i ≡ Some r → j ≡ i → length rs ≤ grants_of past t
            → has_open past t ≡ false → has_ended past t j r.blocks ≡ true
        one i j r q m l o =
            subst (λ (u : ℕ). has_ended past t u r.blocks ≡ true) (sym m)
            (unit_ended c past t i r h o (omega (arith, l, below_if rs i (Some r) q refl)) q)

-- ---- and each has its effect

all_below : (p v : ℕ) (rs : List Range) → v ≤ p
    → list_all (λ u. nat_lt u.0 p) (numbered_units v rs) ≡ nat_le (v + length rs) p
all_below p v [] l = grind (arith, nat_tests, l)
all_below p v (r ∷ rs) l = elim (cases_lt v p) [
  | inl k ↦ ap₂ (λ (x y : Bool). x && y) (here k) (all_below p (suc v) rs k) ∙ ap (λ n. nat_le n p) (more (length rs))
  | inr k ↦ ap (λ x. x && list_all (λ u. nat_lt u.0 p) (numbered_units (suc v) rs)) (past_it k)
      ∙ sym (too_many (length rs) k)
]
  where
    here : v < p → nat_lt v p ≡ true
    here k = grind (arith, nat_tests, k)

    more : (n : ℕ) → suc v + n ≡ v + suc n
    more n = omega arith

    past_it : p ≤ v → nat_lt v p ≡ false
    past_it k = grind (arith, nat_tests, k)

    too_many : (n : ℕ) → p ≤ v → nat_le (v + suc n) p ≡ false
    too_many n k = lt-leb (v + suc n) p (omega (arith, k))

all_same : {X : Type 0} (p q : X → Bool) (xs : List X) → ((x : X) → p x ≡ q x) → list_all p xs ≡ list_all q xs
all_same p q [] h = refl
all_same p q (x ∷ xs) h = (λ i. h x i && all_same p q xs h i)

pub all_done_is : (c : ConfigNumbers) (past : Past) (t : ℕ) → IsLegal c past
    → all_done c past t ≡ is_done c (flight past t)
all_done_is c past t h =
    ap₂ (λ (x y : Bool). x && y) (all_ended_is c past t h)
    (all_same (λ u. is_some (effect past t u.0)) (λ u. nat_lt u.0 (placed past t))
    (numbered_units 0 (units c (Tickets.ticket past t))) (λ u. effect_placed c past t u.0 h)
    ∙ all_below (placed past t) 0 (units c (Tickets.ticket past t)) (omega arith)
    ∙ ap (λ n. nat_le n (placed past t)) (zero_more (length (units c (Tickets.ticket past t)))))
  where
    zero_more : (n : ℕ) → 0 + n ≡ n
    zero_more n = omega arith

-- ---- what is owed

running_is : (c : ConfigNumbers) (past : Past) (t : ℕ) (o : Option Op) → IsLegal c past
    → owed_by c past t o ≡ checked_owed_running c (flight past t) o
running_is c past t o h = go o (some_no_is c past t h) (all_ended_is c past t h) (all_done_is c past t h)
  where
    go : (o : Option Op) → some_no c past t ≡ effect_said_no past t
        → all_ended c past t ≡ checked_has_run c (flight past t)
        → all_done c past t ≡ is_done c (flight past t) → owed_by c past t o ≡ checked_owed_running c (flight past t) o
    go None n a d = refl
    go (Some Op.Pair) n a d =
        (λ i. cond (n i && a i) (compare_failure ∷ failed_fused ∷ []) (cond (d i) (success ∷ success ∷ []) []))
    go (Some Op.Read) n a d = (λ i. cond (n i) (compare_failure ∷ []) (cond (d i) (success ∷ []) []))
    go (Some Op.Compare) n a d = (λ i. cond (n i) (compare_failure ∷ []) (cond (d i) (success ∷ []) []))
    go (Some Op.Write) n a d = (λ i. cond (n i) (compare_failure ∷ []) (cond (d i) (success ∷ []) []))
    go (Some Op.WriteZeroes) n a d = (λ i. cond (n i) (compare_failure ∷ []) (cond (d i) (success ∷ []) []))

pub owed_is : (c : ConfigNumbers) (past : Past) (t : ℕ) → IsLegal c past
    → owed c past t ≡ Judged.checked_owed c (flight past t)
owed_is c past t h = go (Tickets.ticket past t).verdict
  where
    go : (v : Verdict) → owed_after c past t (Tickets.ticket past t) v ≡ owed_as c (flight past t) v
    go Verdict.Single = running_is c past t (op (Tickets.ticket past t)) h
    go Verdict.Pair = running_is c past t (op (Tickets.ticket past t)) h
    go (Verdict.SingleFailed s) = refl
    go (Verdict.PairFailed s r) = refl

pub owes_nothing_is : (c : ConfigNumbers) (past : Past) (t : ℕ) → IsLegal c past
    → owes_nothing_yet c past t ≡ owes_nothing c (flight past t)
owes_nothing_is c past t h =
    ap (λ x. passed (Tickets.ticket past t).verdict && not (is_flush_ticket (op (Tickets.ticket past t)))
    && not (x || Open.differed past t)) (all_ended_is c past t h)
