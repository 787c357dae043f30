-- The Post that this engine adds may follow.
use Rattle.std.proofs.Common.{◌≡◌, ℕ, zero, suc, ◌+◌, ◌≤◌, ◌<◌, Bool, true, false, not, ◌&&◌, ◌||◌, cond, List, [], ◌∷◌}
use Rattle.std.proofs.Common.{◌++◌, length, refl, sym, ap, ap₂, ◌∙◌, subst, subst₂, Option, Some, None, is_some}
use Rattle.std.proofs.Common.{is_none, inl, inr, ◌⊎◌, arith, eqb, eqb-true, nat_le, leb-true, ltb-true, slice_get}
use Rattle.std.proofs.lemmas.List.{length-take}
use Rattle.std.proofs.lemmas.List.Folds.{list_any-append}
use Rattle.std.specs.List.{list_any, list_all}
use Rattle.std.proofs.lemmas.Bool.{and_parts, and_from, or_parts, or_left, or_right, or_cases, cond-false, cases_Bool}
use Rattle.std.proofs.lemmas.Bool.{cases_lt, not-false}
use Rattle.nvme_model.specs.declared.config.ConfigNumbers.{ConfigNumbers}
use Rattle.nvme_model.specs.EntryBytes.{slba, block_count, Sqe}
use Rattle.nvme_model.specs.Verdict.{taken_entries, passed}
use Rattle.nvme_model.specs.Statuses.{success, compare_failure, failed_fused}
use Rattle.nvme_model.specs.Commands.{is_write, is_read, is_compare, is_write_zeroes}
use Rattle.nvme_model.specs.Open
use Rattle.nvme_model.specs.Tickets
use Rattle.nvme_model.specs.History.{Past}
use Rattle.nvme_model.specs.Tickets.{Ticket, posts_of, first_fields, fetched_ticket}
use Rattle.nvme_model.specs.Operations.{op, op_by, op_of_fields, is_pair, has_compare, units, units_by}
use Rattle.nvme_model.specs.Open.{granted, grants_of, blocks_made, has_ended, is_differs, differed, unit_range}
use Rattle.nvme_model.specs.Queues.{waiting}
use Rattle.nvme_model.specs.Placed.{effect}
use Rattle.nvme_model.specs.Answered.{says_no, no_at, may_find}
use Rattle.nvme_model.specs.Owed.{owed, owed_after, owed_by, numbered_units, all_ended, all_done, some_no}
use Rattle.nvme_model.specs.Owed.{completion_data}
use Rattle.nvme_model.specs.Completions.{completion}
use Rattle.nvme_model.specs.Refusals.{refusal, conditions, owes_nothing_yet, is_flush_ticket}
use Rattle.nvme_model.specs.Steps.{post_entry, next_entry, marked}
use Rattle.nvme_model.specs.Legal.{IsLegal, may_follow, post_fits}
use Rattle.nvme_model.specs.Laws.{MarkedRight}
use Rattle.nvme_model.specs.declared.array.Range.{Range}
use Rattle.nvme_model.specs.declared.operation.Op.{Op}
use Rattle.nvme_model.specs.declared.operation.Found.{Found}
use Rattle.nvme_model.specs.declared.status.Status.{Status}
use Rattle.nvme_model.specs.declared.status.Verdict.{Verdict}
use Rattle.nvme_model.specs.declared.entry.GrantLine.{GrantLine}
use Rattle.nvme_model.specs.declared.entry.BlockLine.{BlockLine}
use Rattle.nvme_model.specs.declared.entry.Entry.{Entry}
use Rattle.nvme_model.specs.declared.step.Step.{Step}
use Rattle.nvme_model.proofs.Lists.{Each, each_map, each_both, each_find, each_get}
use Rattle.nvme_model.proofs.Rules.{follows, may_grant, none_holds}
use Rattle.nvme_model.proofs.Apart.{ticket_kept}
use Rattle.nvme_model.proofs.Granted.{GrantFacts, granted_facts, units_some}
use Rattle.nvme_model.proofs.Blocks.{MayBlock, may_block, no_blocks, same_made, at_key, grants_before, range_before}
use Rattle.nvme_model.proofs.Ended.{ended_effect, some_granted, found_some, some_made}
use Rattle.nvme_model.proofs.Answers.{needs_all}
use Rattle.nvme_model.proofs.Runs.{some_at, bytes_same}
use Rattle.nvme_model.proofs.Pairs.{no_blocks_yet, word_at, goes_on, marked_here, says_no as says_no_at}
use Rattle.nvme_model.proofs.Effects.{not_both}
use Rattle.nvme_model.proofs.Cut.{clash}

-- ---- a ticket has no more commands than its Fetch took

-- no ticket has more commands than its verdict takes
pub commands_few : (past : Past) (t : ℕ)
    → length (Tickets.ticket past t).commands ≤ taken_entries (Tickets.ticket past t).verdict
commands_few [] t = omega arith
commands_few (Entry.Fetch f ∷ past) t = go (eqb f.ticket t) (commands_few past t)
  where
    go : (b : Bool) → length (Tickets.ticket past t).commands ≤ taken_entries (Tickets.ticket past t).verdict
        → length (cond b (fetched_ticket past f.queue f.verdict) (Tickets.ticket past t)).commands
        ≤ taken_entries (cond b (fetched_ticket past f.queue f.verdict) (Tickets.ticket past t)).verdict
    go true ih = rw (length-take (taken_entries f.verdict) (waiting past f.queue)) (omega arith)
    go false ih = ih
commands_few (e ∷ past) t = commands_few past t

-- ---- a granted unit is that of the cut

pub unit_at : (c : ConfigNumbers) (past : Past) → IsLegal c past
    → Each (λ x. slice_get (units c (Tickets.ticket past x.ticket)) x.unit ≡ Some x.range) (granted past)
unit_at c [] h = tt
unit_at c (Entry.Fetch f ∷ past) h =
    let before = (follows c past (Entry.Fetch f) h).before in
    each_map (λ x. GrantFacts past x × (slice_get (units c (Tickets.ticket past x.ticket)) x.unit ≡ Some x.range))
    (λ x. slice_get (units c (Tickets.ticket (Entry.Fetch f ∷ past) x.ticket)) x.unit ≡ Some x.range)
    (λ x p. ap (λ (k : Ticket). slice_get (units c k) x.unit) (ticket_kept c past f x.ticket h p.0.known) ∙ p.1)
    (granted past) (each_both _ _ (granted past) (granted_facts c past before) (unit_at c past before))
unit_at c (Entry.Grant g ∷ past) h =
    let m = may_grant c past g h in (
      ap (slice_get (units c (Tickets.ticket past g.ticket))) m.unit ∙ m.range,
      unit_at c past (follows c past (Entry.Grant g) h).before,
    )
unit_at c (e ∷ past) h = unit_at c past (follows c past e h).before

-- the granted unit with a Block
pub unit_of_blocks : (c : ConfigNumbers) (past : Past) (t u : ℕ) → IsLegal c past → 1 ≤ length (blocks_made past t u)
    → u < grants_of past t
unit_of_blocks c past t u h l =
    elim (cases_lt u (grants_of past t)) [
      | inl k ↦ k
      | inr k ↦ absurd (omega (arith, l, ap length (no_blocks c past t u h k)))
    ]

pub record UnitOf (c : ConfigNumbers) (past : Past) (t u : ℕ) (x : GrantLine) : Type 0 where
  pub facts : GrantFacts past x
  pub at : slice_get (units c (Tickets.ticket past t)) u ≡ Some x.range
  pub ticket : x.ticket ≡ t
  pub unit : x.unit ≡ u

pub granted_unit : (c : ConfigNumbers) (past : Past) (t u : ℕ) → IsLegal c past → u < grants_of past t
    → (x : GrantLine) × UnitOf c past t u x
granted_unit c past t u h l =
    let found = found_some (λ g. eqb g.ticket t && eqb g.unit u) (granted past) (some_granted c past t u h l) in
    let f = each_find (λ x. GrantFacts past x
    × (slice_get (units c (Tickets.ticket past x.ticket)) x.unit ≡ Some x.range))
    (λ g. eqb g.ticket t && eqb g.unit u) (granted past) found.0
    (each_both _ _ (granted past) (granted_facts c past h) (unit_at c past h)) found.1 in
    let keys = and_parts (eqb found.0.ticket t) (eqb found.0.unit u) f.1 in
    let a = eqb-true found.0.ticket t keys.0 in
    let b = eqb-true found.0.unit u keys.1 in (
      found.0,
      record {
        facts = f.0.0;
        at = subst₂ (λ (i j : ℕ). slice_get (units c (Tickets.ticket past i)) j ≡ Some found.0.range) a b f.0.1;
        ticket = a;
        unit = b;
      },
    )

pub same_range : (r s : Range) → Some r ≡ Some s → r ≡ s
same_range r s e = cc

-- a unit that has ended has its effect
unit_effect : (c : ConfigNumbers) (past : Past) (t u : ℕ) (r : Range) → IsLegal c past → MarkedRight past
    → slice_get (units c (Tickets.ticket past t)) u ≡ Some r → 1 ≤ r.blocks
    → has_ended past t u r.blocks ≡ true → is_some (effect past t u) ≡ true
unit_effect c past t u r h k e o d =
    let some : 1 ≤ length (blocks_made past t u) = made_some (or_cases _ _ d) in
    let x = granted_unit c past t u h (unit_of_blocks c past t u h some) in
    let same = same_range x.0.range r (sym x.1.at ∙ e) in
    subst₂ (λ (i j : ℕ). is_some (effect past i j) ≡ true) x.1.ticket x.1.unit
    (ended_effect c past x.0 h k x.1.facts
    (ap (λ (s : Range). has_ended past x.0.ticket x.0.unit s.blocks) same
    ∙ (ap₂ (λ (i j : ℕ). has_ended past i j r.blocks) x.1.ticket x.1.unit ∙ d)))
  where
    made_some : ((nat_le (Open.steps_needed (Tickets.ticket past t) r.blocks) (length (blocks_made past t u)) ≡ true)
        ⊎ (list_any (λ b. is_differs b.found) (blocks_made past t u) ≡ true)) → 1 ≤ length (blocks_made past t u)
    made_some (inl q) = omega (arith, leb-true _ _ q, needs_all (Tickets.ticket past t) r.blocks, o)
    made_some (inr q) = some_made (blocks_made past t u) q

pub numbered_all : (p q : ℕ × Range → Bool) (v : ℕ) (rs : List Range)
    → ((i j : ℕ) (r : Range) → slice_get rs i ≡ Some r → j ≡ v + i → p (j, r) ≡ true → q (j, r) ≡ true)
    → list_all p (numbered_units v rs) ≡ true → list_all q (numbered_units v rs) ≡ true
numbered_all p q v [] f h = refl
numbered_all p q v (r ∷ rs) f h =
    let a = and_parts (p (v, r)) (list_all p (numbered_units (suc v) rs)) h in
    and_from _ _ (f 0 v r refl (omega arith) a.0)
    (numbered_all p q (suc v) rs (λ i j s e m. f (suc i) j s e (omega (arith, m))) a.1)

pub same_place : (j i : ℕ) → j ≡ 0 + i → j ≡ i
same_place j i m = omega (arith, m)

-- where all units have ended each has its effect
pub all_done_if : (c : ConfigNumbers) (past : Past) (t : ℕ) → IsLegal c past → MarkedRight past
    → all_ended c past t ≡ true → all_done c past t ≡ true
all_done_if c past t h k e =
    and_from (all_ended c past t) _ e
    (numbered_all (λ u. has_ended past t u.0 u.1.blocks) (λ u. is_some (effect past t u.0)) 0
    (units c (Tickets.ticket past t))
    (λ i j r a m d. unit_effect c past t j r h k
    (ap (slice_get (units c (Tickets.ticket past t))) (same_place j i m) ∙ a)
    (each_get (λ s. 1 ≤ s.blocks) (units c (Tickets.ticket past t)) i r
    (units_some c.atomic (op (Tickets.ticket past t)) (slba (first_fields (Tickets.ticket past t)))
    (block_count (first_fields (Tickets.ticket past t))) (omega arith)) a) d) e)

-- ---- a `differs` is a no

differs_unit : (past : Past) (t : ℕ) → differed past t ≡ true
    → (u : ℕ) × (list_any (λ b. is_differs b.found) (blocks_made past t u) ≡ true)
differs_unit [] t h = absurd (let f : false ≡ true = h in cc)
differs_unit (Entry.Block b ∷ past) t h =
    go (or_cases (eqb b.ticket t && is_differs b.found) (differed past t) h) (differs_unit past t)
  where
    go : (((eqb b.ticket t && is_differs b.found) ≡ true) ⊎ (differed past t ≡ true))
        → (differed past t ≡ true → (u : ℕ) × (list_any (λ x. is_differs x.found) (blocks_made past t u) ≡ true))
        → (u : ℕ) × (list_any (λ x. is_differs x.found) (blocks_made (Entry.Block b ∷ past) t u) ≡ true)
    go (inl e) ih =
        let a = and_parts (eqb b.ticket t) (is_differs b.found) e in (
          b.unit,
          subst (λ (xs : List BlockLine). list_any (λ x. is_differs x.found) xs ≡ true)
              (sym (same_made b t b.unit (blocks_made past t b.unit) (eqb-true b.ticket t a.0) refl)) (or_left _ _ a.1),
        )
    go (inr e) ih =
        let u = ih e in (
          u.0,
          list_any-append (λ x. is_differs x.found) (cond (eqb b.ticket t && eqb b.unit u.0) (b ∷ []) [])
              (blocks_made past t u.0)
              ∙ or_right (list_any (λ x. is_differs x.found) (cond (eqb b.ticket t && eqb b.unit u.0) (b ∷ []) []))
              (list_any (λ x. is_differs x.found) (blocks_made past t u.0)) u.1,
        )
differs_unit (e ∷ past) t h = differs_unit past t h

differs_marks : (o : Option Op) (n j : ℕ) (f : Found) → may_find o n j f ≡ true → is_differs f ≡ true
    → (marked o n j f ≡ true) × (has_compare o ≡ true)
differs_marks (Some Op.Compare) n j f h d = (or_right _ _ d, refl)
differs_marks (Some Op.Pair) n j f h d = (or_right _ _ d, refl)
differs_marks None n j f h d = clash false h refl
differs_marks (Some Op.Read) n j Found.Differs h d = clash false h refl
differs_marks (Some Op.Read) n j Found.Read h d = clash false d refl
differs_marks (Some Op.Read) n j Found.Equal h d = clash false d refl
differs_marks (Some Op.Read) n j Found.Written h d = clash false d refl
differs_marks (Some Op.Write) n j Found.Differs h d = clash false h refl
differs_marks (Some Op.WriteZeroes) n j Found.Differs h d = clash false h refl
differs_marks (Some Op.Write) n j Found.Read h d = clash false d refl
differs_marks (Some Op.WriteZeroes) n j Found.Read h d = clash false d refl
differs_marks (Some Op.Write) n j Found.Equal h d = clash false d refl
differs_marks (Some Op.WriteZeroes) n j Found.Equal h d = clash false d refl
differs_marks (Some Op.Write) n j Found.Written h d = clash false d refl
differs_marks (Some Op.WriteZeroes) n j Found.Written h d = clash false d refl

abbrev SaysNo : Past → ℕ → ℕ → Type 0
SaysNo past t u = list_any (λ b. is_differs b.found) (blocks_made past t u) ≡ true → says_no past t u ≡ true

no_kept : (c : ConfigNumbers) (past : Past) (t u : ℕ) → IsLegal c past → MarkedRight past → SaysNo past t u
no_kept c [] t u h k = λ e. e
no_kept c (Entry.Fetch f ∷ past) t u h k =
    let before = (follows c past (Entry.Fetch f) h).before in
    elim (cases_lt (Tickets.tickets past) t) [
      | inl l ↦ λ e. absurd (omega
          (arith, some_made (blocks_made past t u) e, ap length (no_blocks_yet c past t u before l)))
      | inr l ↦ λ e. subst (λ (x : Ticket). no_at (effect past t u) x (unit_range past t u) ≡ true)
          (sym (ticket_kept c past f t h l)) (no_kept c past t u before k e)
    ]
no_kept c (Entry.Grant g ∷ past) t u h k =
    let before = (follows c past (Entry.Grant g) h).before in
    elim (cases_Bool (eqb g.ticket t && eqb g.unit u)) [
      | inl q ↦ λ e. absurd (omega (
        arith,
        some_made (blocks_made past t u) e,
        ap length (no_blocks c past t u before (grants_before c past g t u h q)),
      ))
      | inr q ↦ λ e. subst (λ (r : Range). no_at (effect past t u) (Tickets.ticket past t) r ≡ true)
          (sym (range_before past g t u q)) (no_kept c past t u before k e)
    ]
no_kept c (Entry.Block b ∷ past) t u h k =
    let found = may_block c past b h in
    let before = (follows c past (Entry.Block b) h).before in
    elim (cases_Bool (eqb b.ticket t && eqb b.unit u)) [
      | inl q ↦ at_key (SaysNo (Entry.Block b ∷ past)) b t u q (own found.0 found.2)
      | inr q ↦ other q (no_kept c past t u before k.0)
    ]
  where
    own : (g : GrantLine) → MayBlock past b g → SaysNo (Entry.Block b ∷ past) b.ticket b.unit
    own g m e =
        let made = blocks_made past b.ticket b.unit in
        let d : (is_differs b.found || list_any (λ x. is_differs x.found) made) ≡ true =
        subst (λ (xs : List BlockLine). list_any (λ x. is_differs x.found) xs ≡ true)
        (same_made b b.ticket b.unit made refl refl) e in
        let differs : is_differs b.found ≡ true =
        elim (or_cases (is_differs b.found) (list_any (λ x. is_differs x.found) made) d) [
          | inl q ↦ q
          | inr q ↦ clash _ q (or_parts _ _ (goes_on past b g m)).1
        ] in
        let marks = differs_marks (op (Tickets.ticket past b.ticket)) (unit_range past b.ticket b.unit).blocks
        (length made) b.found (word_at past b g m) differs in
        let mark = k.1 ∙ marks.0 in
        subst (λ (q : Option Past). no_at q (Tickets.ticket past b.ticket) (unit_range past b.ticket b.unit) ≡ true)
        (sym (marked_here past b mark))
        (and_from _ _ marks.1 (ap not (says_no_at c past b g m mark differs)))

    other : (eqb b.ticket t && eqb b.unit u) ≡ false → SaysNo past t u → SaysNo (Entry.Block b ∷ past) t u
    other q ih e =
        subst (λ (o : Option Past). no_at o (Tickets.ticket past t) (unit_range past t u) ≡ true)
        (sym (cond-false (b.effect && eqb b.ticket t && eqb b.unit u) (Some past) (effect past t u)
        (not_both b.effect (eqb b.ticket t) (eqb b.unit u) q)))
        (ih (subst (λ (xs : List BlockLine). list_any (λ x. is_differs x.found) xs ≡ true)
        (ap (λ (xs : List BlockLine). xs ++ blocks_made past t u)
        (cond-false (eqb b.ticket t && eqb b.unit u) (b ∷ []) [] q)) e))
no_kept c (e ∷ past) t u h k = no_kept c past t u (follows c past e h).before k

numbered_any : (p : ℕ × Range → Bool) (v i j : ℕ) (r : Range) (rs : List Range) → slice_get rs i ≡ Some r → j ≡ v + i
    → p (j, r) ≡ true → list_any p (numbered_units v rs) ≡ true
numbered_any p v i j r [] e m h = absurd (let f : None ≡ Some r = e in cc)
numbered_any p v zero j r (s ∷ rs) e m h = or_left _ _ (here j v (omega (arith, m)) (same_range s r e) ∙ h)
  where
    here : (j v : ℕ) → v ≡ j → s ≡ r → p (v, s) ≡ p (j, r)
    here j v a b = ap₂ (λ (x : ℕ) (y : Range). p (x, y)) a b
numbered_any p v (suc i) j r (s ∷ rs) e m h = or_right _ _ (numbered_any p (suc v) i j r rs e (omega (arith, m)) h)

-- and where a `differs` came an effect says no
pub no_if : (c : ConfigNumbers) (past : Past) (t : ℕ) → IsLegal c past → MarkedRight past → differed past t ≡ true
    → some_no c past t ≡ true
no_if c past t h k d =
    let u = differs_unit past t d in
    let x = granted_unit c past t u.0 h (unit_of_blocks c past t u.0 h (some_made _ u.1)) in
    numbered_any (λ i. says_no past t i.0) 0 u.0 u.0 x.0.range (units c (Tickets.ticket past t)) x.1.at (omega arith)
    (no_kept c past t u.0 h k u.1)

-- ---- enough is owed

pub not_pair : (e : Sqe) → is_pair (op_of_fields e) ≡ false
not_pair e = go (is_write e) (is_read e) (is_compare e) (is_write_zeroes e)
  where
    go : (w r m z : Bool) → is_pair
        (cond w (Some Op.Write) (cond r (Some Op.Read) (cond m (Some Op.Compare) (cond z (Some Op.WriteZeroes) None))))
        ≡ false
    go true r m z = refl
    go false true m z = refl
    go false false true z = refl
    go false false false true = refl
    go false false false false = refl

pub ends : (c : ConfigNumbers) (past : Past) (t : ℕ) → passed (Tickets.ticket past t).verdict ≡ true
    → is_flush_ticket (op (Tickets.ticket past t)) ≡ false → owes_nothing_yet c past t ≡ false
    → (all_ended c past t ≡ true) ⊎ (differed past t ≡ true)
ends c past t p f n = or_cases _ _
    (go (passed (Tickets.ticket past t).verdict) (is_flush_ticket (op (Tickets.ticket past t)))
    (all_ended c past t || differed past t) p f n)
  where
    go : (x y z : Bool) → x ≡ true → y ≡ false → (x && not y && not z) ≡ false → z ≡ true
    go true false true p f n = refl
    go true false false p f n = sym n
    go true true z p f n = clash true refl f
    go false y z p f n = clash true (sym p ∙ p) (sym p)

one_of : (x y : Bool) (s a : Status) → (x ≡ true) ⊎ (y ≡ true) → 1 ≤ length (cond x (s ∷ []) (cond y (a ∷ []) []))
one_of true y s a h = omega arith
one_of false true s a h = omega arith
one_of false false s a (inl h) = clash false h refl
one_of false false s a (inr h) = clash false h refl

two_of : (x e y : Bool) (s r a b : Status) → ((x ≡ true) × (e ≡ true)) ⊎ (y ≡ true)
    → 2 ≤ length (cond (x && e) (s ∷ r ∷ []) (cond y (a ∷ b ∷ []) []))
two_of true true y s r a b h = omega arith
two_of x e true s r a b h = go (x && e)
  where
    go : (z : Bool) → 2 ≤ length (cond z (s ∷ r ∷ []) (a ∷ b ∷ []))
    go true = omega arith
    go false = omega arith
two_of true false false s r a b (inl h) = clash false h.1 refl
two_of true false false s r a b (inr h) = clash false h refl
two_of false e false s r a b (inl h) = clash false h.0 refl
two_of false e false s r a b (inr h) = clash false h refl

some_or_done : (c : ConfigNumbers) (past : Past) (t : ℕ) → IsLegal c past → MarkedRight past
    → (all_ended c past t ≡ true) ⊎ (differed past t ≡ true) → (some_no c past t ≡ true) ⊎ (all_done c past t ≡ true)
some_or_done c past t h k (inl e) = inr (all_done_if c past t h k e)
some_or_done c past t h k (inr d) = inl (no_if c past t h k d)

single_owed : (c : ConfigNumbers) (past : Past) (t : ℕ) (o : Option Op) → IsLegal c past → MarkedRight past
    → is_pair o ≡ false → (is_flush_ticket o ≡ false → (all_ended c past t ≡ true) ⊎ (differed past t ≡ true))
    → 1 ≤ length (owed_by c past t o)
single_owed c past t None h k p e = omega arith
single_owed c past t (Some Op.Pair) h k p e = clash true refl p
single_owed c past t (Some Op.Read) h k p e = one_of _ _ _ _ (some_or_done c past t h k (e refl))
single_owed c past t (Some Op.Write) h k p e = one_of _ _ _ _ (some_or_done c past t h k (e refl))
single_owed c past t (Some Op.WriteZeroes) h k p e = one_of _ _ _ _ (some_or_done c past t h k (e refl))
single_owed c past t (Some Op.Compare) h k p e = one_of _ _ _ _ (some_or_done c past t h k (e refl))

-- a pair's one unit has ended where a block differs
pub lone : (c : ConfigNumbers) (past : Past) (t : ℕ) → op (Tickets.ticket past t) ≡ Some Op.Pair → IsLegal c past
    → differed past t ≡ true → all_ended c past t ≡ true
lone c past t p h d =
    let u = differs_unit past t d in
    let x = granted_unit c past t u.0 h (unit_of_blocks c past t u.0 h (some_made _ u.1)) in
    let k = Tickets.ticket past t in
    let n = block_count (first_fields k) in
    let same : units c k ≡ record { slba = slba (first_fields k); blocks = n } ∷ [] =
    ap (λ (o : Option Op). units_by c.atomic o (slba (first_fields k)) n) p in
    let first = first_only u.0 x.0.range (record { slba = slba (first_fields k); blocks = n })
    (ap (λ (rs : List Range). slice_get rs u.0) (sym same) ∙ x.1.at) in
    subst (λ (rs : List Range). list_all (λ i. has_ended past t i.0 i.1.blocks) (numbered_units 0 rs) ≡ true) (sym same)
    (and_from _ _ (or_right (nat_le (Open.steps_needed k n) (length (blocks_made past t 0))) _
    (subst (λ (i : ℕ). list_any (λ b. is_differs b.found) (blocks_made past t i) ≡ true) first u.1)) refl)
  where
    first_only : (i : ℕ) (r s : Range) → slice_get (s ∷ []) i ≡ Some r → i ≡ 0
    first_only zero r s e = refl
    first_only (suc i) r s e = absurd (let f : None ≡ Some r = e in cc)

pair_owed : (c : ConfigNumbers) (past : Past) (t : ℕ) → op (Tickets.ticket past t) ≡ Some Op.Pair → IsLegal c past
    → MarkedRight past → (all_ended c past t ≡ true) ⊎ (differed past t ≡ true)
    → 2 ≤ length (owed_by c past t (Some Op.Pair))
pair_owed c past t p h k (inl e) =
    two_of (some_no c past t) (all_ended c past t) (all_done c past t) compare_failure failed_fused success success
    (inr (all_done_if c past t h k e))
pair_owed c past t p h k (inr d) =
    two_of (some_no c past t) (all_ended c past t) (all_done c past t) compare_failure failed_fused success success
    (inl (no_if c past t h k d, lone c past t p h d))

-- where something is owed all is
pub owed_long : (c : ConfigNumbers) (past : Past) (t : ℕ) (v : Verdict) → (Tickets.ticket past t).verdict ≡ v
    → IsLegal c past → MarkedRight past → owes_nothing_yet c past t ≡ false
    → taken_entries v ≤ length (owed_after c past t (Tickets.ticket past t) v)
owed_long c past t (Verdict.SingleFailed s) e h k n = omega arith
owed_long c past t (Verdict.PairFailed s r) e h k n = omega arith
owed_long c past t Verdict.Single e h k n =
    let o : op (Tickets.ticket past t) ≡ op_of_fields (first_fields (Tickets.ticket past t)) =
    ap (λ (v : Verdict). op_by v (first_fields (Tickets.ticket past t))) e in
    single_owed c past t (op (Tickets.ticket past t)) h k
    (ap is_pair o ∙ not_pair (first_fields (Tickets.ticket past t))) (λ f. ends c past t (ap passed e) f n)
owed_long c past t Verdict.Pair e h k n =
    let o : op (Tickets.ticket past t) ≡ Some Op.Pair =
    ap (λ (v : Verdict). op_by v (first_fields (Tickets.ticket past t))) e in
    subst (λ (q : Option Op). 2 ≤ length (owed_by c past t q)) (sym o)
    (pair_owed c past t o h k (ends c past t (ap passed e) (ap is_flush_ticket o) n))

pub post_follows : (c : ConfigNumbers) (past : Past) (t : ℕ) → IsLegal c past → MarkedRight past
    → is_none (refusal c past (Step.Post t)) ≡ true → may_follow c past (next_entry c past (Step.Post t)) ≡ true
post_follows c past t h k n =
    let none = none_holds (conditions c past (Step.Post t)) n in
    let flying = ltb-true _ _ (not-false _ none.0) in
    let long = owed_long c past t (Tickets.ticket past t).verdict refl h k none.1.0 in
    let due = some_at (owed c past t) (posts_of past t) (omega (arith, flying, long, commands_few past t)) in
    subst (λ (o : Option Status). may_follow c past (post_entry c past t o) ≡ true) (sym due.1) (of_status due.0 due.1)
  where
    of_status : (s : Status) → slice_get (owed c past t) (posts_of past t) ≡ Some s
        → may_follow c past (post_entry c past t (Some s)) ≡ true
    of_status s e =
        and_from _ _ n
        (subst (λ (o : Option Status).
        post_fits c past (record { ticket = t; cqe = completion c past t s; payload = completion_data c past t s })
        o ≡ true) (sym e)
        (and_from _ _ (bytes_same (completion c past t s)) (bytes_same (completion_data c past t s))))
