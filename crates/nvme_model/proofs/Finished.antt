-- A ticket that owes a completion has no open unit and none left to open.
use Rattle.std.proofs.Common.{◌≡◌, ℕ, zero, suc, ◌+◌, ◌≤◌, Bool, true, false, not, ◌&&◌, ◌||◌, cond, List, [], ◌∷◌}
use Rattle.std.proofs.Common.{length, refl, sym, ap, ap₂, ◌∙◌, subst, Option, Some, None, is_some, inl, inr, ◌⊎◌, arith}
use Rattle.std.proofs.Common.{eq-eqb, eqb, eqb-true, nat_le, leb-true, le-leb, slice_get}
use Rattle.std.specs.List.{list_any, list_all, filter}
use Rattle.std.proofs.lemmas.Bool.{and_parts, or_parts, or_left, or_right, or_cases, cond-false, cases_Bool, cases_lt}
use Rattle.std.proofs.lemmas.Bool.{not-false}
use Rattle.nvme_model.specs.declared.config.ConfigNumbers.{ConfigNumbers}
use Rattle.nvme_model.specs.EntryBytes.{slba, block_count}
use Rattle.nvme_model.specs.Verdict.{passed}
use Rattle.nvme_model.specs.History.{Past}
use Rattle.nvme_model.specs.Tickets
use Rattle.nvme_model.specs.Tickets.{Ticket, posts_of, in_flight, first_fields}
use Rattle.nvme_model.specs.Operations.{op, op_by, units, units_by}
use Rattle.nvme_model.specs.Open.{granted, grants_of, blocks_made, is_differs, steps_needed, has_ended, open_units}
use Rattle.nvme_model.specs.Open.{differed}
use Rattle.nvme_model.specs.Owed.{numbered_units, all_ended}
use Rattle.nvme_model.specs.Refusals.{has_open, none_left, is_flush_ticket, owes_nothing_yet}
use Rattle.nvme_model.specs.Legal.{IsLegal}
use Rattle.nvme_model.specs.declared.array.Range.{Range}
use Rattle.nvme_model.specs.declared.operation.Op.{Op}
use Rattle.nvme_model.specs.declared.status.Verdict.{Verdict}
use Rattle.nvme_model.specs.declared.entry.GrantLine.{GrantLine}
use Rattle.nvme_model.specs.declared.entry.BlockLine.{BlockLine}
use Rattle.nvme_model.specs.declared.entry.Entry.{Entry}
use Rattle.nvme_model.proofs.Lists.{Each, each_map, each_both, each_filter, each_find, each_get}
use Rattle.nvme_model.proofs.Rules.{follows, may_grant, MayGrant}
use Rattle.nvme_model.proofs.Apart.{ticket_kept, fetched_if, fetch_ended}
use Rattle.nvme_model.proofs.Granted.{GrantFacts, granted_facts, units_some}
use Rattle.nvme_model.proofs.Blocks.{may_block, same_made}
use Rattle.nvme_model.proofs.Holding.{open_kept, false_if}
use Rattle.nvme_model.proofs.Medium.{is_open, unfilter, none_each, each_none, still_open}
use Rattle.nvme_model.proofs.Answers.{needs_all}
use Rattle.nvme_model.proofs.Ended.{granted_op, some_made}
use Rattle.nvme_model.proofs.Runs.{some_at}
use Rattle.nvme_model.proofs.NextPost.{ends, unit_at, unit_of_blocks, same_range}
use Rattle.nvme_model.proofs.Cut.{clash}

-- ---- an open unit is the newest of its ticket

abbrev IsNewest : Past → GrantLine → Type 0
IsNewest past x = is_open past x ≡ true → x.unit + 1 ≡ grants_of past x.ticket

pub not_has_open : (past : Past) (t : ℕ) → has_open past t ≡ false
    → Each (λ x. is_open past x ≡ true → eqb x.ticket t ≡ false) (granted past)
not_has_open past t h = unfilter (λ x. eqb x.ticket t ≡ false) (is_open past) (granted past)
    (none_each (λ x. eqb x.ticket t) (open_units past) h)

no_open_if : (past : Past) (t : ℕ) → Each (λ x. is_open past x ≡ true → eqb x.ticket t ≡ false) (granted past)
    → has_open past t ≡ false
no_open_if past t h =
    each_none (λ x. eqb x.ticket t) (open_units past)
    (each_filter (λ x. is_open past x ≡ true → eqb x.ticket t ≡ false) (λ x. eqb x.ticket t ≡ false) (is_open past)
    (λ x f o. f o) (granted past) h)

newest : (c : ConfigNumbers) (past : Past) → IsLegal c past → Each (IsNewest past) (granted past)
newest c [] h = tt
newest c (Entry.Fetch f ∷ past) h =
    let before = (follows c past (Entry.Fetch f) h).before in
    each_map (λ x. GrantFacts past x × IsNewest past x) (IsNewest (Entry.Fetch f ∷ past))
    (λ x p o. p.1 (sym (ap not (fetch_ended c past f x.ticket x.unit x.range.blocks h p.0.known)) ∙ o)) (granted past)
    (each_both _ _ (granted past) (granted_facts c past before) (newest c past before))
newest c (Entry.Grant g ∷ past) h =
    let before = (follows c past (Entry.Grant g) h).before in
    let m = may_grant c past g h in (
      λ o. own m (eqb g.ticket g.ticket) (eq-eqb g.ticket g.ticket refl),
      each_map (λ x. (is_open past x ≡ true → eqb x.ticket g.ticket ≡ false) × IsNewest past x)
          (IsNewest (Entry.Grant g ∷ past))
          (λ x p o. other x (eqb g.ticket x.ticket) refl (p.0 o) (p.1 o)) (granted past)
          (each_both _ _ (granted past) (not_has_open past g.ticket m.closed) (newest c past before)),
    )
  where
    own : MayGrant c past g → (b : Bool) → b ≡ true
        → g.unit + 1 ≡ length (cond b (g ∷ filter (λ x. eqb x.ticket g.ticket) (granted past))
        (filter (λ x. eqb x.ticket g.ticket) (granted past)))
    own m true e = omega (arith, m.unit)
    own m false e = clash true refl (sym e)

    other : (x : GrantLine) (b : Bool) → eqb g.ticket x.ticket ≡ b → eqb x.ticket g.ticket ≡ false
        → x.unit + 1 ≡ grants_of past x.ticket
        → x.unit + 1 ≡ length (cond b (g ∷ filter (λ y. eqb y.ticket x.ticket) (granted past))
        (filter (λ y. eqb y.ticket x.ticket) (granted past)))
    other x false e n u = u
    other x true e n u = clash (eqb x.ticket g.ticket) (eq-eqb x.ticket g.ticket (sym (eqb-true g.ticket x.ticket e))) n
newest c (Entry.Block b ∷ past) h =
    each_map (IsNewest past) (IsNewest (Entry.Block b ∷ past)) (λ x f o. f (still_open past b x o)) (granted past)
    (newest c past (follows c past (Entry.Block b) h).before)
newest c (e ∷ past) h = same (newest c past (follows c past e h).before)
  where
    same : Each (IsNewest past) (granted past) → Each (IsNewest (e ∷ past)) (granted past)
    same f = each_map (IsNewest past) (IsNewest (e ∷ past)) (λ x g. g) (granted past) f

-- ---- a ticket that a `differs` ended has no open unit

ended_here : (past : Past) (b : BlockLine) (x : GrantLine) → b.ticket ≡ x.ticket → b.unit ≡ x.unit
    → is_differs b.found ≡ true → is_open (Entry.Block b ∷ past) x ≡ false
ended_here past b x e u d =
    ap not (or_right (nat_le (steps_needed (Tickets.ticket past x.ticket) x.range.blocks)
    (length (blocks_made (Entry.Block b ∷ past) x.ticket x.unit))) _
    (subst (λ (xs : List BlockLine). list_any (λ y. is_differs y.found) xs ≡ true)
    (sym (same_made b x.ticket x.unit (blocks_made past x.ticket x.unit) e u)) (or_left _ _ d)))

pub differed_closed : (c : ConfigNumbers) (past : Past) (t : ℕ) → IsLegal c past → differed past t ≡ true
    → has_open past t ≡ false
differed_closed c [] t h d = refl
differed_closed c (Entry.Fetch f ∷ past) t h d =
    ap (list_any (λ x. eqb x.ticket t)) (open_kept c past f h)
    ∙ differed_closed c past t (follows c past (Entry.Fetch f) h).before d
differed_closed c (Entry.Grant g ∷ past) t h d =
    elim (cases_Bool (eqb g.ticket t)) [
      | inl e ↦ clash (differed past t) d
          (ap (differed past) (sym (eqb-true g.ticket t e)) ∙ (or_parts _ _ (may_grant c past g h).left).1)
      | inr e ↦ no_open_if (Entry.Grant g ∷ past) t
          (λ o. e, not_has_open past t (differed_closed c past t (follows c past (Entry.Grant g) h).before d))
    ]
differed_closed c (Entry.Block b ∷ past) t h d =
    let before = (follows c past (Entry.Block b) h).before in
    go (or_cases (eqb b.ticket t && is_differs b.found) (differed past t) d) (λ e. differed_closed c past t before e)
    (newest c past before)
  where
    own : Each (IsNewest past) (granted past) → eqb b.ticket t ≡ true → is_differs b.found ≡ true → (x : GrantLine)
        → IsNewest past x → is_open (Entry.Block b ∷ past) x ≡ true → eqb x.ticket t ≡ false
    own all e i x n o =
        let m = may_block c past b h in
        let g = each_find (λ y. IsNewest past y × (is_open past y ≡ true)) (λ y. eqb y.ticket b.ticket)
        (open_units past) m.0
        (each_filter (IsNewest past) (λ y. IsNewest past y × (is_open past y ≡ true)) (is_open past) (λ y p q. (p, q))
        (granted past) all) m.1 in
        false_if (eqb x.ticket t) (λ q.
        let same : b.ticket ≡ x.ticket = eqb-true b.ticket t e ∙ sym (eqb-true x.ticket t q) in
        let u : b.unit ≡ x.unit =
        omega (arith, m.2.unit, n (still_open past b x o), g.0.0 g.0.1, ap (grants_of past) (m.2.ticket ∙ same)) in
        clash (is_open (Entry.Block b ∷ past) x) o (ended_here past b x same u i))

    go : ((eqb b.ticket t && is_differs b.found) ≡ true) ⊎ (differed past t ≡ true)
        → (differed past t ≡ true → has_open past t ≡ false) → Each (IsNewest past) (granted past)
        → has_open (Entry.Block b ∷ past) t ≡ false
    go (inl e) ih all =
        let a = and_parts (eqb b.ticket t) (is_differs b.found) e in
        no_open_if (Entry.Block b ∷ past) t
        (each_map (IsNewest past) (λ x. is_open (Entry.Block b ∷ past) x ≡ true → eqb x.ticket t ≡ false)
        (own all a.0 a.1) (granted past) all)
    go (inr e) ih all =
        no_open_if (Entry.Block b ∷ past) t
        (each_map (λ x. is_open past x ≡ true → eqb x.ticket t ≡ false)
        (λ x. is_open (Entry.Block b ∷ past) x ≡ true → eqb x.ticket t ≡ false) (λ x f o. f (still_open past b x o))
        (granted past) (not_has_open past t (ih e)))
differed_closed c (e ∷ past) t h d = differed_closed c past t (follows c past e h).before d

-- ---- a ticket that owes something has no open unit and none left

pub record Finished (c : ConfigNumbers) (past : Past) (t : ℕ) : Type 0 where
  pub closed : has_open past t ≡ false
  pub left : none_left c past t ≡ true

failed_op : (v : Verdict) (k : Ticket) → passed v ≡ false → op_by v (first_fields k) ≡ None
failed_op (Verdict.SingleFailed s) k h = refl
failed_op (Verdict.PairFailed s r) k h = refl
failed_op Verdict.Single k h = clash true refl h
failed_op Verdict.Pair k h = clash true refl h

flush_op : (o : Option Op) → is_flush_ticket o ≡ true → o ≡ None
flush_op None h = refl
flush_op (Some o) h = clash false h refl

idle_finished : (c : ConfigNumbers) (past : Past) (t : ℕ) → IsLegal c past → op (Tickets.ticket past t) ≡ None
    → Finished c past t
idle_finished c past t h e =
    let k = Tickets.ticket past t in
    record {
      closed = no_open_if past t
          (each_map (λ x. is_some (op (Tickets.ticket past x.ticket)) ≡ true)
          (λ x. is_open past x ≡ true → eqb x.ticket t ≡ false)
          (λ x f o. false_if (eqb x.ticket t)
          (λ q. clash (is_some (op (Tickets.ticket past x.ticket))) f
          (ap (λ (i : ℕ). is_some (op (Tickets.ticket past i))) (eqb-true x.ticket t q) ∙ ap is_some e)))
          (granted past) (granted_op c past h));
      left = or_left _ _ (ap (λ (o : Option Op).
          nat_le (length (units_by c.atomic o (slba (first_fields k)) (block_count (first_fields k))))
          (grants_of past t)) e
          ∙ le-leb 0 (grants_of past t) (omega arith));
    }

pub all_numbered : (p : ℕ × Range → Bool) (v i j : ℕ) (r : Range) (rs : List Range)
    → list_all p (numbered_units v rs) ≡ true
    → slice_get rs i ≡ Some r → j ≡ v + i → p (j, r) ≡ true
all_numbered p v i j r [] h e m = absurd (let f : None ≡ Some r = e in cc)
all_numbered p v zero j r (s ∷ rs) h e m =
    here j v (omega (arith, m)) (same_range s r e) (and_parts (p (v, s)) (list_all p (numbered_units (suc v) rs)) h).0
  where
    here : (j v : ℕ) → v ≡ j → s ≡ r → p (v, s) ≡ true → p (j, r) ≡ true
    here j v a b q = sym (ap₂ (λ (x : ℕ) (y : Range). p (x, y)) a b) ∙ q
all_numbered p v (suc i) j r (s ∷ rs) h e m =
    all_numbered p (suc v) i j r rs (and_parts (p (v, s)) (list_all p (numbered_units (suc v) rs)) h).1 e
    (omega (arith, m))

ended_some : (past : Past) (t u n : ℕ) → 1 ≤ n → has_ended past t u n ≡ true → 1 ≤ length (blocks_made past t u)
ended_some past t u n l h = go (or_cases _ _ h)
  where
    go : (nat_le (steps_needed (Tickets.ticket past t) n) (length (blocks_made past t u)) ≡ true)
        ⊎ (list_any (λ b. is_differs b.found) (blocks_made past t u) ≡ true) → 1 ≤ length (blocks_made past t u)
    go (inl q) = omega (arith, leb-true _ _ q, needs_all (Tickets.ticket past t) n, l)
    go (inr q) = some_made (blocks_made past t u) q

-- one whose units have all ended
pub ended_finished : (c : ConfigNumbers) (past : Past) (t : ℕ) → IsLegal c past → all_ended c past t ≡ true
    → Finished c past t
ended_finished c past t h e =
    record {
      closed = no_open_if past t
          (each_map (λ x. slice_get (units c (Tickets.ticket past x.ticket)) x.unit ≡ Some x.range)
          (λ x. is_open past x ≡ true → eqb x.ticket t ≡ false) open_not (granted past) (unit_at c past h));
      left = or_left _ _ (le-leb (length (units c k)) (grants_of past t) all_granted);
    }
  where
    k : Ticket
    k = Tickets.ticket past t

    ended : (i : ℕ) (r : Range) → slice_get (units c k) i ≡ Some r → has_ended past t i r.blocks ≡ true
    ended i r q = all_numbered (λ u. has_ended past t u.0 u.1.blocks) 0 i i r (units c k) e q (omega arith)

    open_not : (x : GrantLine) → slice_get (units c (Tickets.ticket past x.ticket)) x.unit ≡ Some x.range
        → is_open past x ≡ true → eqb x.ticket t ≡ false
    open_not x q o =
        false_if (eqb x.ticket t) (λ z.
        let y = eqb-true x.ticket t z in
        clash (is_open past x) o
        (ap not (ap (λ (i : ℕ). has_ended past i x.unit x.range.blocks) y
        ∙ ended x.unit x.range (ap (λ (i : ℕ). slice_get (units c (Tickets.ticket past i)) x.unit) (sym y) ∙ q))))

    all_granted : length (units c k) ≤ grants_of past t
    all_granted = elim (cases_lt (grants_of past t) (length (units c k))) [
      | inl l ↦ let r = some_at (units c k) (grants_of past t) l in
          let n = each_get (λ s. 1 ≤ s.blocks) (units c k) (grants_of past t) r.0
          (units_some c.atomic (op k) (slba (first_fields k)) (block_count (first_fields k)) (omega arith)) r.1 in
          absurd (omega (
            arith,
            unit_of_blocks c past t (grants_of past t) h
                (ended_some past t (grants_of past t) r.0.blocks n (ended (grants_of past t) r.0 r.1)),
          ))
      | inr l ↦ l
    ]

owes_finished : (c : ConfigNumbers) (past : Past) (t : ℕ) → IsLegal c past → owes_nothing_yet c past t ≡ false
    → Finished c past t
owes_finished c past t h n =
    let k = Tickets.ticket past t in
    elim (cases_Bool (passed k.verdict)) [
      | inl p ↦ elim (cases_Bool (is_flush_ticket (op k))) [
        | inl f ↦ idle_finished c past t h (flush_op (op k) f)
        | inr f ↦ by_end (ends c past t p f n)
      ]
      | inr p ↦ idle_finished c past t h (failed_op k.verdict k p)
    ]
  where
    by_end : (all_ended c past t ≡ true) ⊎ (differed past t ≡ true) → Finished c past t
    by_end (inl e) = ended_finished c past t h e
    by_end (inr d) = record { closed = differed_closed c past t h d; left = or_right _ _ d }

-- ---- a ticket with a Post is finished

pub posts_known : (c : ConfigNumbers) (past : Past) (t : ℕ) → IsLegal c past → 1 ≤ posts_of past t
    → t ≤ Tickets.tickets past
posts_known c [] t h l = absurd (omega (arith, l))
posts_known c (Entry.Fetch f ∷ past) t h l =
    omega (arith, posts_known c past t (follows c past (Entry.Fetch f) h).before l)
posts_known c (Entry.Post p ∷ past) t h l =
    let f = follows c past (Entry.Post p) h in
    go (eqb p.ticket t) refl (not-false _ f.allowed.0) (λ k. posts_known c past t f.before k) f.before l
  where
    go : (b : Bool) → eqb p.ticket t ≡ b → in_flight past p.ticket ≡ true
        → (1 ≤ posts_of past t → t ≤ Tickets.tickets past) → IsLegal c past → 1 ≤ posts_of past t + cond b 1 0
        → t ≤ Tickets.tickets past
    go true e i ih h l = omega (arith, eqb-true p.ticket t e, fetched_if c past p.ticket h i)
    go false e i ih h l = ih (omega (arith, l))
posts_known c (e ∷ past) t h l = posts_known c past t (follows c past e h).before l

later_left : (a x d : Bool) → (a || d) ≡ true → (a || (x || d)) ≡ true
later_left true x d h = refl
later_left false true d h = refl
later_left false false d h = h

pub posted_finished : (c : ConfigNumbers) (past : Past) (t : ℕ) → IsLegal c past → 1 ≤ posts_of past t
    → Finished c past t
posted_finished c [] t h l = absurd (omega (arith, l))
posted_finished c (Entry.Fetch f ∷ past) t h l =
    let before = (follows c past (Entry.Fetch f) h).before in
    let ih = posted_finished c past t before l in
    record {
      closed = ap (list_any (λ x. eqb x.ticket t)) (open_kept c past f h) ∙ ih.closed;
      left = subst (λ (k : Ticket). (nat_le (length (units c k)) (grants_of past t) || differed past t) ≡ true)
          (sym (ticket_kept c past f t h (posts_known c past t before l))) ih.left;
    }
posted_finished c (Entry.Grant g ∷ past) t h l =
    let ih = posted_finished c past t (follows c past (Entry.Grant g) h).before l in
    elim (cases_Bool (eqb g.ticket t)) [
      | inl e ↦ clash (none_left c past t) ih.left
          (ap (none_left c past) (sym (eqb-true g.ticket t e)) ∙ (may_grant c past g h).left)
      | inr e ↦ record {
        closed = no_open_if (Entry.Grant g ∷ past) t (λ o. e, not_has_open past t ih.closed);
        left = ap (λ (xs : List GrantLine). nat_le (length (units c (Tickets.ticket past t))) (length xs)
            || differed past t) (cond-false (eqb g.ticket t) (g ∷ filter (λ x. eqb x.ticket t) (granted past))
            (filter (λ x. eqb x.ticket t) (granted past)) e) ∙ ih.left;
      }
    ]
posted_finished c (Entry.Block b ∷ past) t h l =
    let ih = posted_finished c past t (follows c past (Entry.Block b) h).before l in
    record {
      closed = no_open_if (Entry.Block b ∷ past) t
          (each_map (λ x. is_open past x ≡ true → eqb x.ticket t ≡ false)
          (λ x. is_open (Entry.Block b ∷ past) x ≡ true → eqb x.ticket t ≡ false)
          (λ x f o. f (still_open past b x o)) (granted past) (not_has_open past t ih.closed));
      left = later_left (nat_le (length (units c (Tickets.ticket past t))) (grants_of past t))
          (eqb b.ticket t && is_differs b.found) (differed past t) ih.left;
    }
posted_finished c (Entry.Post p ∷ past) t h l =
    let f = follows c past (Entry.Post p) h in
    same (go (eqb p.ticket t) refl (owes_finished c past p.ticket f.before f.allowed.1.0)
    (λ k. posted_finished c past t f.before k) l)
  where
    go : (b : Bool) → eqb p.ticket t ≡ b → Finished c past p.ticket → (1 ≤ posts_of past t → Finished c past t)
        → 1 ≤ posts_of past t + cond b 1 0 → Finished c past t
    go true e f ih l = subst (λ (i : ℕ). Finished c past i) (eqb-true p.ticket t e) f
    go false e f ih l = ih (omega (arith, l))

    same : Finished c past t → Finished c (Entry.Post p ∷ past) t
    same f = record { closed = f.closed; left = f.left }
posted_finished c (e ∷ past) t h l = same (posted_finished c past t (follows c past e h).before l)
  where
    same : Finished c past t → Finished c (e ∷ past) t
    same f = record { closed = f.closed; left = f.left }
