-- Where no step is ready, each ticket in flight owes a completion to a full queue.
use Rattle.std.proofs.Common.{◌≡◌, ℕ, zero, suc, ◌-◌, ◌≤◌, Bool, true, false, not, ◌&&◌, ◌||◌, cond, List, [], ◌∷◌}
use Rattle.std.proofs.Common.{◌++◌, length, reverse, refl, sym, ap, ◌∙◌, subst, subst₂, Option, Some, None, is_none}
use Rattle.std.proofs.Common.{inl, inr, ◌⊎◌, arith, eq-eqb, ne_eqb, eqb, eqb-true, nat_le, leb-true, lt-ltb, ltb-true}
use Rattle.std.proofs.Common.{slice_get}
use Rattle.std.specs.List.{list_any, list_all, filter, find, flat_map}
use Rattle.std.proofs.lemmas.Bool.{and_parts, and_right, or_left, or_right, or_cases, cond-false, cases_lt, cases_eq}
use Rattle.std.proofs.lemmas.List.{reverse-append}
use Rattle.std.proofs.lemmas.Bool.{not-true}
use Rattle.nvme_model.specs.Config.{completion_queue}
use Rattle.nvme_model.specs.declared.config.ConfigNumbers.{ConfigNumbers}
use Rattle.nvme_model.specs.Verdict.{passed}
use Rattle.nvme_model.specs.History.{Past}
use Rattle.nvme_model.specs.Tickets
use Rattle.nvme_model.specs.Tickets.{Ticket, numbers_down, posts_of, in_flight}
use Rattle.nvme_model.specs.Operations.{op, units, mode}
use Rattle.nvme_model.specs.Completions.{posted_completions, reaped_count}
use Rattle.nvme_model.specs.Open.{granted, grants_of, has_ended, open_units, differed}
use Rattle.nvme_model.specs.Owed.{numbered_units, all_ended}
use Rattle.nvme_model.specs.Refusals.{has_open, next_unit, none_left, conflicts_open, is_flush_ticket, owes_nothing_yet}
use Rattle.nvme_model.specs.Refusals.{refusal}
use Rattle.nvme_model.specs.Steps.{is_ready, next_steps, ready}
use Rattle.nvme_model.specs.Laws.{OwesToFull}
use Rattle.nvme_model.specs.Legal.{IsLegal}
use Rattle.nvme_model.specs.declared.array.Range.{Range}
use Rattle.nvme_model.specs.declared.array.Mode.{Mode}
use Rattle.nvme_model.specs.declared.entry.GrantLine.{GrantLine}
use Rattle.nvme_model.specs.declared.entry.Entry.{Entry}
use Rattle.nvme_model.specs.declared.step.Step.{Step}
use Rattle.nvme_model.specs.declared.refusal.Why.{Why}
use Rattle.nvme_model.proofs.Lists.{Each, each_map, each_both, each_filter, each_find, each_all}
use Rattle.nvme_model.proofs.Rules.{follows, fetch_number, may_grant}
use Rattle.nvme_model.proofs.Apart.{ticket_kept, fetched_if}
use Rattle.nvme_model.proofs.Granted.{GrantFacts, granted_facts}
use Rattle.nvme_model.proofs.Medium.{is_open, unfilter}
use Rattle.nvme_model.proofs.Ended.{some_granted, found_some}
use Rattle.nvme_model.proofs.Runs.{below_if}
use Rattle.nvme_model.proofs.NextPost.{unit_at, same_range, numbered_all, same_place}
use Rattle.nvme_model.proofs.Finished.{posted_finished}
use Rattle.nvme_model.proofs.Cut.{clash}

-- ---- an open unit's ticket is in flight

has_commands : (c : ConfigNumbers) (past : Past) → IsLegal c past
    → Each (λ x. 1 ≤ length (Tickets.ticket past x.ticket).commands) (granted past)
has_commands c [] h = tt
has_commands c (Entry.Fetch f ∷ past) h =
    let before = (follows c past (Entry.Fetch f) h).before in
    each_map (λ x. GrantFacts past x × (1 ≤ length (Tickets.ticket past x.ticket).commands))
    (λ x. 1 ≤ length (Tickets.ticket (Entry.Fetch f ∷ past) x.ticket).commands)
    (λ x p. subst (λ (k : Ticket). 1 ≤ length k.commands) (sym (ticket_kept c past f x.ticket h p.0.known)) p.1)
    (granted past) (each_both _ _ (granted past) (granted_facts c past before) (has_commands c past before))
has_commands c (Entry.Grant g ∷ past) h = (
  omega (arith, ltb-true _ _ (may_grant c past g h).in_flight),
  has_commands c past (follows c past (Entry.Grant g) h).before,
)
has_commands c (e ∷ past) h = has_commands c past (follows c past e h).before

-- what a filter lets through is found in it
kept_found : (p : GrantLine → Bool) (xs : List GrantLine)
    → Each (λ x. p x ≡ true → list_any (λ y. eqb y.ticket x.ticket) (filter p xs) ≡ true) xs
kept_found p [] = tt
kept_found p (x ∷ xs) = (
  λ e. here (p x) e,
  each_map (λ y. p y ≡ true → list_any (λ z. eqb z.ticket y.ticket) (filter p xs) ≡ true)
      (λ y. p y ≡ true → list_any (λ z. eqb z.ticket y.ticket) (cond (p x) (x ∷ filter p xs) (filter p xs)) ≡ true)
      (λ y f e. there (p x) y (f e)) xs (kept_found p xs),
)
  where
    here : (b : Bool) → b ≡ true → list_any (λ y. eqb y.ticket x.ticket) (cond b (x ∷ filter p xs) (filter p xs)) ≡ true
    here true e = or_left _ _ (eq-eqb x.ticket x.ticket refl)
    here false e = clash true refl (sym e)

    there : (b : Bool) (y : GrantLine) → list_any (λ z. eqb z.ticket y.ticket) (filter p xs) ≡ true
        → list_any (λ z. eqb z.ticket y.ticket) (cond b (x ∷ filter p xs) (filter p xs)) ≡ true
    there true y e = or_right (eqb x.ticket y.ticket) _ e
    there false y e = e

pub open_flying : (c : ConfigNumbers) (past : Past) → IsLegal c past
    → Each (λ x. (in_flight past x.ticket ≡ true) × (has_open past x.ticket ≡ true)) (open_units past)
open_flying c past h =
    each_filter (λ x. (1 ≤ length (Tickets.ticket past x.ticket).commands)
    × (is_open past x ≡ true → has_open past x.ticket ≡ true))
    (λ x. (in_flight past x.ticket ≡ true) × (has_open past x.ticket ≡ true)) (is_open past)
    (λ x p o. (flying x p.0 (p.1 o), p.1 o)) (granted past)
    (each_both _ _ (granted past) (has_commands c past h) (kept_found (is_open past) (granted past)))
  where
    flying : (x : GrantLine) → 1 ≤ length (Tickets.ticket past x.ticket).commands → has_open past x.ticket ≡ true
        → in_flight past x.ticket ≡ true
    flying x l o = elim (cases_eq (posts_of past x.ticket) 0) [
      | inl e ↦ lt-ltb _ _ (omega (arith, e, l))
      | inr e ↦ clash (has_open past x.ticket) o (posted_finished c past x.ticket h (omega (arith, e))).closed
    ]

-- ---- nothing is ready

each_append : {X : Type 0} (P : X → Type 0) (xs ys : List X) → Each P (xs ++ ys) → Each P xs × Each P ys
each_append P [] ys h = (tt, h)
each_append P (x ∷ xs) ys h = let a = each_append P xs ys h.1 in ((h.0, a.0), a.1)

each_flat : {X Y : Type 0} (P : Y → Type 0) (f : X → List Y) (xs : List X) → Each P (flat_map f xs)
    → Each (λ x. Each P (f x)) xs
each_flat P f [] h = tt
each_flat P f (x ∷ xs) h = let a = each_append P (f x) (flat_map f xs) h in (a.0, each_flat P f xs a.1)

each_reverse : {X : Type 0} (P : X → Type 0) (xs : List X) → Each P (reverse xs) → Each P xs
each_reverse P [] h = tt
each_reverse P (x ∷ xs) h =
    let a = each_append P (reverse xs) (x ∷ []) (subst (λ (ys : List _). Each P ys) (reverse-append (x ∷ []) xs) h) in
    (a.1.0, each_reverse P xs a.0)

each_number : (P : ℕ → Type 0) (n t : ℕ) → 1 ≤ t → t ≤ n → Each P (numbers_down n) → P t
each_number P zero t l m h = absurd (omega (arith, l, m))
each_number P (suc n) t l m h = elim (cases_eq t (suc n)) [
  | inl e ↦ subst P (sym e) h.0
  | inr e ↦ each_number P n t l (omega (arith, e, m)) h.1
]

find_none : {X : Type 0} (t : X → Bool) (xs : List X) → find t xs ≡ None → Each (λ x. t x ≡ false) xs
find_none t [] h = tt
find_none {X} t (x ∷ xs) h = go (t x) refl h (find_none t xs)
  where
    go : (b : Bool) → t x ≡ b → cond b (Some x) (find t xs) ≡ None → (find t xs ≡ None → Each (λ y. t y ≡ false) xs)
        → Each (λ y. t y ≡ false) (x ∷ xs)
    go true e h f = absurd (let g : Some x ≡ None = h in cc)
    go false e h f = (e, f h)

pub zero_ticket : (c : ConfigNumbers) (past : Past) → IsLegal c past → (Tickets.ticket past 0).commands ≡ []
zero_ticket c [] h = refl
zero_ticket c (Entry.Fetch f ∷ past) h =
    ap (λ (k : Ticket). k.commands)
    (cond-false (eqb f.ticket 0) _ (Tickets.ticket past 0)
    (ne_eqb f.ticket 0 (λ (e : f.ticket ≡ 0). omega (arith, e, fetch_number c past f h))))
    ∙ zero_ticket c past (follows c past (Entry.Fetch f) h).before
zero_ticket c (e ∷ past) h = zero_ticket c past (follows c past e h).before

abbrev NoneReady : ConfigNumbers → Past → ℕ → Type 0
NoneReady c past t = (is_ready c past (Step.Grant t) ≡ false) × (is_ready c past (Step.Block t) ≡ false)
    × (is_ready c past (Step.Post t) ≡ false)

none_ready : (c : ConfigNumbers) (past : Past) (t : ℕ) → IsLegal c past → ready c past ≡ None → in_flight past t ≡ true
    → NoneReady c past t
none_ready c past t h r i =
    let steps = λ (u : ℕ). Step.Grant u ∷ Step.Block u ∷ Step.Post u ∷ [] in
    let all = each_reverse (λ u. Each (λ s. is_ready c past s ≡ false) (steps u)) (numbers_down (Tickets.tickets past))
    (each_flat (λ s. is_ready c past s ≡ false) steps (reverse (numbers_down (Tickets.tickets past)))
    (find_none (is_ready c past) (next_steps past) r)) in
    let some : 1 ≤ t = elim (cases_eq t 0) [
      | inl e ↦ absurd (omega (
        arith,
        ltb-true _ _ i,
        ap (λ (u : ℕ). length (Tickets.ticket past u).commands) e
            ∙ ap length (zero_ticket c past h),
      ))
      | inr e ↦ omega (arith, e)
    ] in
    let a = each_number (λ u. Each (λ s. is_ready c past s ≡ false) (steps u)) (Tickets.tickets past) t some
    (fetched_if c past t h i) all in
    (a.0, a.1.0, a.1.1.0)

second_of_two : {A : Type 0} (a b : Bool) (x y : A) → is_none (cond a (Some x) (cond b (Some y) None)) ≡ false
    → a ≡ false → b ≡ true
second_of_two true b x y h e = clash true refl e
second_of_two false true x y h e = refl
second_of_two false false x y h e = sym h

second_of_three : {A : Type 0} (a b d : Bool) (x y z : A)
    → is_none (cond a (Some x) (cond b (Some y) (cond d (Some z) None))) ≡ false → a ≡ false → d ≡ false → b ≡ true
second_of_three true b d x y z h e f = clash true refl e
second_of_three false true d x y z h e f = refl
second_of_three false false true x y z h e f = clash true refl f
second_of_three false false false x y z h e f = sym h

third_of_three : {A : Type 0} (a b d : Bool) (x y z : A)
    → is_none (cond a (Some x) (cond b (Some y) (cond d (Some z) None))) ≡ false → a ≡ false → b ≡ false → d ≡ true
third_of_three true b d x y z h e f = clash true refl e
third_of_three false true d x y z h e f = clash true refl f
third_of_three false false true x y z h e f = refl
third_of_three false false false x y z h e f = sym h

-- no unit is open
none_open : (c : ConfigNumbers) (past : Past) → IsLegal c past → ready c past ≡ None → Each (λ x. ⊥) (open_units past)
none_open c past h r =
    each_map (λ x. (in_flight past x.ticket ≡ true) × (has_open past x.ticket ≡ true)) (λ x. ⊥)
    (λ x p. refute x p.0 p.1) (open_units past) (open_flying c past h)
  where
    refute : (x : GrantLine) → in_flight past x.ticket ≡ true → has_open past x.ticket ≡ true → ⊥
    refute x i o =
        let n = none_ready c past x.ticket h r i in
        clash (has_open past x.ticket) o
        (not-true _ (second_of_two (not (in_flight past x.ticket)) (not (has_open past x.ticket)) Why.NoTicket
        Why.WrongState n.1 (ap not i)))

no_units : (xs : List GrantLine) → Each (λ x. ⊥) xs → xs ≡ []
no_units [] h = refl
no_units (x ∷ xs) h = absurd h.0

no_conflict : (past : Past) (m : Mode) (o : Option Range) → open_units past ≡ [] → conflicts_open past m o ≡ false
no_conflict past m None e = refl
no_conflict past m (Some r) e = ap (list_any _) e

-- all granted and none open
all_have_ended : (c : ConfigNumbers) (past : Past) (t : ℕ) → IsLegal c past → open_units past ≡ []
    → length (units c (Tickets.ticket past t)) ≤ grants_of past t → all_ended c past t ≡ true
all_have_ended c past t h e l =
    numbered_all (λ u. true) (λ u. has_ended past t u.0 u.1.blocks) 0 (units c (Tickets.ticket past t))
    (λ i j r a m d. ended j r (ap (slice_get (units c (Tickets.ticket past t))) (same_place j i m) ∙ a))
    (all_true 0 (units c (Tickets.ticket past t)))
  where
    all_true : (v : ℕ) (rs : List Range) → list_all (λ (u : ℕ × Range). true) (numbered_units v rs) ≡ true
    all_true v [] = refl
    all_true v (r ∷ rs) = all_true (suc v) rs

    closed : Each (λ x. has_ended past x.ticket x.unit x.range.blocks ≡ true) (granted past)
    closed =
        each_map (λ x. is_open past x ≡ true → ⊥) (λ x. has_ended past x.ticket x.unit x.range.blocks ≡ true)
        (λ x f. not_open (has_ended past x.ticket x.unit x.range.blocks) f) (granted past)
        (unfilter (λ x. ⊥) (is_open past) (granted past) (subst (λ (xs : List GrantLine). Each (λ x. ⊥) xs) (sym e) tt))
      where
        not_open : (b : Bool) → (not b ≡ true → ⊥) → b ≡ true
        not_open true f = refl
        not_open false f = absurd (f refl)

    ended : (j : ℕ) (r : Range) → slice_get (units c (Tickets.ticket past t)) j ≡ Some r
        → has_ended past t j r.blocks ≡ true
    ended j r q = elim (cases_lt j (grants_of past t)) [
      | inl k ↦ of_unit (found_some (λ g. eqb g.ticket t && eqb g.unit j) (granted past) (some_granted c past t j h k))
      | inr k ↦ absurd (omega (arith, k, l, below_if (units c (Tickets.ticket past t)) j (Some r) q refl))
    ]
      where
        of_unit : (x : GrantLine) × (find (λ g. eqb g.ticket t && eqb g.unit j) (granted past) ≡ Some x)
            → has_ended past t j r.blocks ≡ true
        of_unit x =
            let f = each_find (λ y. (slice_get (units c (Tickets.ticket past y.ticket)) y.unit ≡ Some y.range)
            × (has_ended past y.ticket y.unit y.range.blocks ≡ true)) (λ g. eqb g.ticket t && eqb g.unit j)
            (granted past) x.0
            (each_both _ _ (granted past) (unit_at c past h) closed) x.1 in
            let keys = and_parts (eqb x.0.ticket t) (eqb x.0.unit j) f.1 in
            let a = eqb-true x.0.ticket t keys.0 in
            let b = eqb-true x.0.unit j keys.1 in
            let same = same_range x.0.range r
            (sym (subst₂ (λ (u v : ℕ). slice_get (units c (Tickets.ticket past u)) v ≡ Some x.0.range) a b f.0.0)
            ∙ q) in
            subst (λ (s : Range). has_ended past t j s.blocks ≡ true) same
            (subst₂ (λ (u v : ℕ). has_ended past u v x.0.range.blocks ≡ true) a b f.0.1)

owes : (x y z w : Bool) → (z || w) ≡ true → (x && y && not (z || w)) ≡ false
owes x y z w e = and_right (x && y) (not (z || w)) (ap not e)

pub never_stuck : (c : ConfigNumbers) (past : Past) (t : ℕ) → IsLegal c past → ready c past ≡ None
    → in_flight past t ≡ true → OwesToFull c past t
never_stuck c past t h r i =
    let n = none_ready c past t h r i in
    let none = no_units (open_units past) (none_open c past h r) in
    let closed : has_open past t ≡ false = ap (list_any (λ x. eqb x.ticket t)) none in
    let left : (none_left c past t || has_open past t) ≡ true =
    second_of_three (not (in_flight past t)) (none_left c past t || has_open past t)
    (conflicts_open past (mode (Tickets.ticket past t)) (next_unit c past t)) Why.NoTicket Why.WrongState
    Why.Conflict n.0 (ap not i) (no_conflict past _ _ none) in
    let done : (all_ended c past t || differed past t) ≡ true =
    by_left none (or_cases (none_left c past t) (has_open past t) left) closed in
    let k = Tickets.ticket past t in
    let owed = owes (passed k.verdict) (not (is_flush_ticket (op k))) (all_ended c past t) (differed past t) done in
    let q = completion_queue c k.queue in (
      owed,
      eqb-true (length (posted_completions c past q) - reaped_count past q) (c.cq_size - 1)
          (third_of_three (not (in_flight past t)) (owes_nothing_yet c past t)
          (eqb (length (posted_completions c past q) - reaped_count past q) (c.cq_size - 1)) Why.NoTicket Why.WrongState
          Why.CqFull n.2 (ap not i) owed),
    )
  where
    by_left : open_units past ≡ [] → (none_left c past t ≡ true) ⊎ (has_open past t ≡ true) → has_open past t ≡ false
        → (all_ended c past t || differed past t) ≡ true
    by_left none (inr o) closed = clash (has_open past t) o closed
    by_left none (inl l) closed =
        elim (or_cases (nat_le (length (units c (Tickets.ticket past t))) (grants_of past t)) (differed past t) l) [
          | inl q ↦ or_left _ _ (all_have_ended c past t h none (leb-true _ _ q))
          | inr q ↦ or_right _ _ q
        ]

-- what is ready is allowed
pub ready_is_allowed : (c : ConfigNumbers) (past : Past) (step : Step) → ready c past ≡ Some step
    → refusal c past step ≡ None
ready_is_allowed c past step e =
    none_if (refusal c past step)
    (each_find (λ s. Unit {0}) (is_ready c past) (next_steps past) step
    (each_all (λ (s : Step). Unit {0}) (λ s. tt) (next_steps past)) e).1
  where
    none_if : (o : Option Why) → is_none o ≡ true → o ≡ None
    none_if None h = refl
    none_if (Some w) h = clash false h refl
