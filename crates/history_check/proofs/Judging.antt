-- The rules over the tables are the rules over the history.
use Rattle.std.proofs.Common.{◌≡◌, ℕ, ◌+◌, ◌-◌, ◌*◌, ◌%◌, ◌≤◌, Bool, true, false, not, ◌&&◌, ◌||◌, cond}
use Rattle.std.proofs.Common.{List, [], ◌∷◌, drop, length, map, option_map, refl, sym, ap, ap₂, ◌∙◌, subst, Option}
use Rattle.std.proofs.Common.{Some, None, is_none, arith, eqb, eqb-true, eq-eqb, nat_le, nat_lt, bytes_eq, slice_get}
use Rattle.std.specs.List.{find, flat_map, list_all, list_any}
use Rattle.std.proofs.lemmas.List.{length-drop}
use Rattle.std.proofs.lemmas.List.Folds.{list_any-append}
use Rattle.std.proofs.lemmas.Bool.{and_parts, or_parts}
use Rattle.std.proofs.lemmas.Bool.Decides.{nat_tests}
use Rattle.plain_lemmas.proofs.Lists.{get_drop}
use Rattle.nvme_model.specs.declared.config.ConfigNumbers.{ConfigNumbers}
use Rattle.nvme_model.specs.declared.array.Mode.{Mode}
use Rattle.nvme_model.specs.declared.array.Range.{Range}
use Rattle.nvme_model.specs.declared.entry.BlockLine.{BlockLine}
use Rattle.nvme_model.specs.declared.entry.Entry.{Entry}
use Rattle.nvme_model.specs.declared.entry.GrantLine.{GrantLine}
use Rattle.nvme_model.specs.declared.entry.PostLine.{PostLine}
use Rattle.nvme_model.specs.declared.operation.Op.{Op}
use Rattle.nvme_model.specs.declared.refusal.Why.{Why}
use Rattle.nvme_model.specs.declared.status.Status.{Status}
use Rattle.nvme_model.specs.declared.step.Step.{Step}
use Rattle.nvme_model.specs.declared.submission.Submission.{Submission}
use Rattle.nvme_model.specs.Answered.{may_find, right_answers}
use Rattle.nvme_model.specs.Completions.{completion, posted_completions, reaped_count}
use Rattle.nvme_model.specs.Config.{completion_queue}
use Rattle.nvme_model.specs.EntryBytes.{sqe_fields}
use Rattle.nvme_model.specs.History.{Past, step_of}
use Rattle.nvme_model.specs.Legal.{IsLegal, block_fits, fits, is_cqe, may_follow, post_fits}
use Rattle.nvme_model.specs.Open.{blocks_made, open_units, unit_range}
use Rattle.nvme_model.specs.Operations.{compare_data, has_compare, is_pair, mode, op}
use Rattle.nvme_model.specs.Placed.{effect, may_be_effect}
use Rattle.nvme_model.specs.Queues.{fetched_count, published_entries, waiting}
use Rattle.nvme_model.specs.Refusals.{conditions, conflicts_open, next_unit, no_completion_queue, no_queue, none_left}
use Rattle.nvme_model.specs.Refusals.{refusal}
use Rattle.nvme_model.specs.Tables.{first_row}
use Rattle.nvme_model.specs.Tickets
use Rattle.nvme_model.specs.Tickets.{Ticket, cids, cids_in_use, in_flight, next_verdict, posts_of}
use Rattle.nvme_model.specs.Value.{value}
use Rattle.nvme_model.specs.Verdict.{is_in, item_of, same_verdict}
use Rattle.ticket_laws.specs.Standing.{flying}
use Rattle.history_check.specs.Effects.{answers_at, placed, said}
use Rattle.history_check.specs.Judged
use Rattle.history_check.specs.Judged.{block_fits_by, cids_left, conditions_by, are_right, conflicts_by, fits_by}
use Rattle.history_check.specs.Judged.{in_use, judged, post_fits_by, refusal_by, right_after, checked_verdict}
use Rattle.history_check.specs.Tables.{flight, checked_unit, tables, checked_unit_of, unreaped}
use Rattle.ticket_laws.proofs.Counts.{fetched_within, flying_count, in_use_flying, owing}
use Rattle.ticket_laws.proofs.InUse.{SameIn, verdict_same}
use Rattle.nvme_model.proofs.Lists.{each_find, drop_map}
use Rattle.nvme_model.proofs.Blocks.{OpenFacts, open_facts, same_made}
use Rattle.nvme_model.proofs.Pairs.{compare_words, comparing}
use Rattle.nvme_model.proofs.Runs.{reaped_posted}
use Rattle.history_check.proofs.Placing.{may_is}
use Rattle.history_check.proofs.Saying.{Saying, agrees_is, saying, saying_more}
use Rattle.history_check.proofs.Owing.{has_unit, owed_is, owes_nothing_is}
use Rattle.history_check.proofs.Finding.{data_is}

-- ---- queues

none_waits : (n k m : ℕ) → m ≡ n - k → k ≤ n → eqb n k ≡ eqb m 0
none_waits n k m e l = grind (arith, nat_tests, e, l)

-- ---- the CIDs in use

one_ticket : (past : Past) (q cid t : ℕ) → is_in cid (cids_left q (flight past t)) ≡ owing past q cid t
one_ticket past q cid t = by (eqb (Tickets.ticket past t).queue q)
  where
    by : (b : Bool) → list_any (λ m. eqb m cid) (cond b (drop (posts_of past t) (cids (Tickets.ticket past t))) [])
        ≡ (b && list_any (λ (s : Submission). eqb (sqe_fields s.entry).cid cid)
        (drop (posts_of past t) (Tickets.ticket past t).commands))
    by true = drop_map (λ (s : Submission). (sqe_fields s.entry).cid) (λ m. eqb m cid) (posts_of past t)
        (Tickets.ticket past t).commands
    by false = refl

of_tickets : (past : Past) (q cid : ℕ) (ts : List ℕ)
    → is_in cid (flat_map (λ t. cids_left q (flight past t)) ts) ≡ list_any (owing past q cid) ts
of_tickets past q cid [] = refl
of_tickets past q cid (t ∷ ts) =
    list_any-append (λ m. eqb m cid) (cids_left q (flight past t)) (flat_map (λ t. cids_left q (flight past t)) ts)
    ∙ ap₂ (λ (a b : Bool). a || b) (one_ticket past q cid t) (of_tickets past q cid ts)

pub in_use_same : (c : ConfigNumbers) (past : Past) (q : ℕ) → SameIn (in_use (tables c past) q) (cids_in_use past q)
in_use_same c past q cid = of_tickets past q cid (flying past) ∙ sym (in_use_flying past q cid)

pub verdict_is : (c : ConfigNumbers) (past : Past) (q : ℕ) → next_verdict c past q ≡ checked_verdict c (tables c past) q
verdict_is c past q = sym
    (verdict_same c.atomic c.blocks (in_use (tables c past) q) (cids_in_use past q) (map item_of (waiting past q))
    (in_use_same c past q))

-- ---- what refuses a step

conflicts_is : (c : ConfigNumbers) (past : Past) (m : Mode) (o : Option Range)
    → conflicts_open past m o ≡ conflicts_by (tables c past) m o
conflicts_is c past m None = refl
conflicts_is c past m (Some r) = refl

pub conditions_is : (c : ConfigNumbers) (past : Past) (step : Step) → IsLegal c past
    → conditions c past step ≡ conditions_by c (tables c past) step
conditions_is c past (Step.Publish q batch) h =
    ap (λ n. (no_queue c q, Why.NoQueue) ∷ (eqb (length batch) 0, Why.BadBatch)
    ∷ (nat_lt (c.sq_size - 1) (n + length batch), Why.NoRoom) ∷ [])
    (sym (length-drop (fetched_count past q) (published_entries past q)))
conditions_is c past (Step.Fetch q) h =
    ap₂ (λ (x : Bool) (n : ℕ). (no_queue c q, Why.NoQueue) ∷ (x, Why.NoEntry) ∷ (nat_le c.jobs n, Why.JobsFull) ∷ [])
    (none_waits (length (published_entries past q)) (fetched_count past q) (length (waiting past q))
    (length-drop (fetched_count past q) (published_entries past q)) (fetched_within c past q h))
    (sym (flying_count past))
conditions_is c past (Step.Grant t) h =
    ap₂ (λ (x y : Bool). (not (in_flight past t), Why.NoTicket) ∷ (none_left c past t || x, Why.WrongState)
    ∷ (y, Why.Conflict) ∷ [])
    (sym (has_unit past t)) (conflicts_is c past (mode (Tickets.ticket past t)) (next_unit c past t))
conditions_is c past (Step.Block t) h =
    ap (λ x. (not (in_flight past t), Why.NoTicket) ∷ (not x, Why.WrongState) ∷ []) (sym (has_unit past t))
conditions_is c past (Step.Post t) h =
    let q = completion_queue c (Tickets.ticket past t).queue in
    ap₂ (λ (x : Bool) (n : ℕ). (not (in_flight past t), Why.NoTicket) ∷ (x, Why.WrongState)
    ∷ (eqb n (c.cq_size - 1), Why.CqFull) ∷ [])
    (owes_nothing_is c past t h) (sym (length-drop (reaped_count past q) (posted_completions c past q)))
conditions_is c past (Step.Reap q) h =
    ap (λ x. (no_completion_queue c q, Why.NoQueue) ∷ (x, Why.NoCompletion) ∷ [])
    (none_waits (length (posted_completions c past q)) (reaped_count past q) (length (unreaped c past q))
    (length-drop (reaped_count past q) (posted_completions c past q)) (reaped_posted c past q h))

-- ---- a Block

pub right_is : (o : Option Past) (k : Ticket) (r : Range) (made : List BlockLine)
    → Saying (has_compare (op k)) r.slba r.blocks made
    → right_answers o k made ≡ are_right (option_map (λ before. answers_at (value before) k r) o) (said made)
right_is None k r made h = refl
right_is (Some before) k r made h =
    agrees_is (λ l. bytes_eq (value before l) (compare_data k l)) (has_compare (op k)) r.slba r.blocks made h

mapped_cond : (k : Ticket) (r : Range) (past : Past) (o : Option Past) (x : Bool)
    → option_map (λ before. answers_at (value before) k r) (cond x (Some past) o)
    ≡ cond x (Some (answers_at (value past) k r)) (option_map (λ before. answers_at (value before) k r) o)
mapped_cond k r past o true = refl
mapped_cond k r past o false = refl

-- the right answers with this Block
pub answers_are : (c : ConfigNumbers) (past : Past) (b : BlockLine) (g : GrantLine) → g.ticket ≡ b.ticket
    → b.unit ≡ g.unit
    → option_map (λ before. answers_at (value before) (Tickets.ticket past b.ticket) g.range)
    (effect (Entry.Block b ∷ past) b.ticket b.unit)
    ≡ right_after (value past) (flight past b.ticket) b (checked_unit_of past g)
answers_are c past b g t u =
    let k = Tickets.ticket past b.ticket in
    ap (λ x. option_map (λ before. answers_at (value before) k g.range)
    (cond x (Some past) (effect past b.ticket b.unit))) key
    ∙ mapped_cond k g.range past (effect past b.ticket b.unit) b.effect
    ∙ (λ i. cond b.effect (Some (answers_at (value past) k g.range))
    (option_map (λ before. answers_at (value before) (Tickets.ticket past (sym t i)) g.range)
    (effect past (sym t i) (u i))))
  where
    and_true : (x : Bool) → (x && true) ≡ x
    and_true true = refl
    and_true false = refl

    key : (b.effect && eqb b.ticket b.ticket && eqb b.unit b.unit) ≡ b.effect
    key = (λ i. b.effect && eq-eqb b.ticket b.ticket refl i && eq-eqb b.unit b.unit refl i)
        ∙ and_true (b.effect && true) ∙ and_true b.effect

pub made_is : (past : Past) (b : BlockLine) (g : GrantLine) → g.ticket ≡ b.ticket → b.unit ≡ g.unit
    → blocks_made (Entry.Block b ∷ past) b.ticket b.unit ≡ b ∷ blocks_made past g.ticket g.unit
made_is past b g t u = same_made b b.ticket b.unit (blocks_made past b.ticket b.unit) refl refl
    ∙ (λ i. b ∷ blocks_made past (sym t i) (u i))

-- the Block entries of the open unit of a Block's ticket
module _ (c : ConfigNumbers) (past : Past) (b : BlockLine) (h : IsLegal c past) (g : GrantLine)
    (e : find (λ g. eqb g.ticket b.ticket) (open_units past) ≡ Some g) where
  open_found : OpenFacts past g × (eqb g.ticket b.ticket ≡ true)
  open_found = each_find (OpenFacts past) (λ x. eqb x.ticket b.ticket) (open_units past) g (open_facts c past h) e

  pub open_ticket : g.ticket ≡ b.ticket
  open_ticket = eqb-true g.ticket b.ticket open_found.1

  same_op : op (Tickets.ticket past g.ticket) ≡ op (Tickets.ticket past b.ticket)
  same_op = ap (λ i. op (Tickets.ticket past i)) open_ticket

  pub open_saying : Saying (has_compare (op (Tickets.ticket past b.ticket))) g.range.slba g.range.blocks
      (blocks_made past g.ticket g.unit)
  open_saying =
      subst (λ (x : Range). Saying (has_compare (op (Tickets.ticket past b.ticket))) x.slba x.blocks
      (blocks_made past g.ticket g.unit)) open_found.0.facts.range
      (subst (λ (o : Option Op).
      Saying (has_compare o) (unit_range past g.ticket g.unit).slba (unit_range past g.ticket g.unit).blocks
      (blocks_made past g.ticket g.unit)) same_op
      (saying c past g.ticket g.unit h open_found.0.facts.known))

  -- with this one
  pub open_saying_more : eqb b.lba (g.range.slba + length (blocks_made past g.ticket g.unit) % g.range.blocks) ≡ true
      → may_find (op (Tickets.ticket past b.ticket)) g.range.blocks (length (blocks_made past g.ticket g.unit)) b.found
      ≡ true
      → Saying (has_compare (op (Tickets.ticket past b.ticket))) g.range.slba g.range.blocks
      (b ∷ blocks_made past g.ticket g.unit)
  open_saying_more l m =
      let made = blocks_made past g.ticket g.unit in
      saying_more (op (Tickets.ticket past b.ticket)) g.range.slba g.range.blocks b made open_saying
      (subst (λ (x : Range). has_compare (op (Tickets.ticket past b.ticket)) ≡ true → length made ≤ x.blocks
      → list_all (λ y. comparing y.found) made ≡ true) open_found.0.facts.range
      (subst (λ (o : Option Op). has_compare o ≡ true → length made ≤ (unit_range past g.ticket g.unit).blocks
      → list_all (λ y. comparing y.found) made ≡ true) same_op
      (compare_words c past g.ticket g.unit h open_found.0.facts.known)))
      (eqb-true _ _ l) m
      (subst (λ (o : Option Op). nat_le (cond (is_pair o) (2 * g.range.blocks) g.range.blocks) (length made) ≡ false)
      same_op (or_parts _ _ open_found.0.goes_on).0)

  -- the answers so far, and with this one, are right exactly where they are by the tables
  pub earlier_right : b.unit ≡ g.unit
      → right_answers (effect (Entry.Block b ∷ past) b.ticket b.unit) (Tickets.ticket past b.ticket)
      (blocks_made past g.ticket g.unit)
      ≡ are_right (right_after (value past) (flight past b.ticket) b (checked_unit_of past g))
      (said (blocks_made past g.ticket g.unit))
  earlier_right u =
      right_is (effect (Entry.Block b ∷ past) b.ticket b.unit) (Tickets.ticket past b.ticket) g.range
      (blocks_made past g.ticket g.unit) open_saying
      ∙ ap (λ o. are_right o (said (blocks_made past g.ticket g.unit))) (answers_are c past b g open_ticket u)

  pub answers_right : b.unit ≡ g.unit
      → eqb b.lba (g.range.slba + length (blocks_made past g.ticket g.unit) % g.range.blocks) ≡ true
      → may_find (op (Tickets.ticket past b.ticket)) g.range.blocks (length (blocks_made past g.ticket g.unit)) b.found
      ≡ true
      → right_answers (effect (Entry.Block b ∷ past) b.ticket b.unit) (Tickets.ticket past b.ticket)
      (blocks_made (Entry.Block b ∷ past) b.ticket b.unit)
      ≡ are_right (right_after (value past) (flight past b.ticket) b (checked_unit_of past g))
      (said (b ∷ blocks_made past g.ticket g.unit))
  answers_right u l m =
      ap (λ (xs : List BlockLine).
      right_answers (effect (Entry.Block b ∷ past) b.ticket b.unit) (Tickets.ticket past b.ticket) xs)
      (made_is past b g open_ticket u)
      ∙ right_is (effect (Entry.Block b ∷ past) b.ticket b.unit) (Tickets.ticket past b.ticket) g.range
      (b ∷ blocks_made past g.ticket g.unit) (open_saying_more l m)
      ∙ ap (λ o. are_right o (said (b ∷ blocks_made past g.ticket g.unit))) (answers_are c past b g open_ticket u)

block_is : (c : ConfigNumbers) (past : Past) (b : BlockLine) → IsLegal c past
    → block_fits past b (find (λ g. eqb g.ticket b.ticket) (open_units past))
    ≡ block_fits_by (value past) (flight past b.ticket) b (checked_unit past b.ticket)
block_is c past b h = by (find (λ g. eqb g.ticket b.ticket) (open_units past)) refl
  where
    by : (o : Option GrantLine) → find (λ g. eqb g.ticket b.ticket) (open_units past) ≡ o
        → block_fits past b o
        ≡ block_fits_by (value past) (flight past b.ticket) b (option_map (checked_unit_of past) o)
    by None e = refl
    by (Some g) e = go (eqb b.unit g.unit
        && eqb b.lba (g.range.slba + length (blocks_made past g.ticket g.unit) % g.range.blocks)
        && may_find (op (Tickets.ticket past b.ticket)) g.range.blocks (length (blocks_made past g.ticket g.unit))
        b.found) refl
      where
        j : ℕ
        j = length (blocks_made past g.ticket g.unit)

        k : Ticket
        k = Tickets.ticket past b.ticket

        go : (x : Bool) → (eqb b.unit g.unit && eqb b.lba (g.range.slba + j % g.range.blocks)
            && may_find (op k) g.range.blocks j b.found) ≡ x
            → (x && (not b.effect || may_be_effect past b.ticket b.unit)
            && right_answers (effect (Entry.Block b ∷ past) b.ticket b.unit) k
            (blocks_made (Entry.Block b ∷ past) b.ticket b.unit))
            ≡ (x && (not b.effect || eqb b.unit (placed past b.ticket))
            && are_right (right_after (value past) (flight past b.ticket) b (checked_unit_of past g))
            (said (b ∷ blocks_made past g.ticket g.unit)))
        go false q = refl
        go true q =
            let a = and_parts (eqb b.unit g.unit && eqb b.lba (g.range.slba + j % g.range.blocks)) _ q in
            let d = and_parts (eqb b.unit g.unit) _ a.0 in
            ap₂ (λ (y z : Bool). true && (not b.effect || y) && z) (may_is c past b.ticket b.unit h)
            (answers_right c past b h g e (eqb-true b.unit g.unit d.0) d.1 a.1)

-- ---- a Post

post_is : (c : ConfigNumbers) (past : Past) (p : PostLine) (o : Option Status) → IsLegal c past
    → post_fits c past p o ≡ post_fits_by c (tables c past) p o
post_is c past p None h = refl
post_is c past p (Some s) h =
    ap (λ (xs : List ℕ). bytes_eq p.cqe (completion c past p.ticket s) && bytes_eq p.payload xs)
    (data_is c past p.ticket s h)

-- ---- each kind of entry

fits_is : (c : ConfigNumbers) (past : Past) (e : Entry) → IsLegal c past → fits c past e ≡ fits_by c (tables c past) e
fits_is c past (Entry.Publish p) h = refl
fits_is c past (Entry.Fetch f) h =
    ap (λ v. eqb f.ticket (Tickets.tickets past + 1) && same_verdict f.verdict v) (verdict_is c past f.queue)
fits_is c past (Entry.Grant g) h = refl
fits_is c past (Entry.Block b) h = block_is c past b h
fits_is c past (Entry.Post p) h =
    ap (λ (ss : List Status). post_fits c past p (slice_get ss (posts_of past p.ticket))) (owed_is c past p.ticket h)
    ∙ post_is c past p (slice_get (Judged.checked_owed c (flight past p.ticket)) (posts_of past p.ticket)) h
fits_is c past (Entry.Reap r) h =
    ap (λ o. is_cqe o r.cqe) (get_drop (reaped_count past r.queue) (posted_completions c past r.queue))

pub judged_is : (c : ConfigNumbers) (past : Past) (e : Entry) → IsLegal c past
    → may_follow c past e ≡ judged c (tables c past) e
judged_is c past e h = ap₂ (λ (rows : List (Bool × Why)) (x : Bool). is_none (first_row rows) && x)
    (conditions_is c past (step_of e) h) (fits_is c past e h)

pub refusal_is : (c : ConfigNumbers) (past : Past) (step : Step) → IsLegal c past
    → refusal c past step ≡ refusal_by c (tables c past) step
refusal_is c past step h = ap first_row (conditions_is c past step h)
