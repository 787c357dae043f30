-- The first rule that an entry breaks, by the tables and by what is kept.
use Rattle.std.proofs.Common.{◌≡◌, ℕ, ◌+◌, ◌%◌, ◌&&◌, Bool, true, false, not, cond, List, ◌∷◌, length, slice_get}
use Rattle.std.proofs.Common.{Option, Some, None, is_some, option_map, refl, sym, ap, ap₂, ◌∙◌, eqb, eqb-true, nat_lt}
use Rattle.std.specs.List.{find}
use Rattle.plain_lemmas.proofs.Lists.{get_drop}
use Rattle.broken_rules.specs.Broken.{block_wrong, first_broken, post_wrong, refused_or, wrong}
use Rattle.broken_rules.specs.Rows.{fetch_broken, is_word, post_broken, reap_broken, word_due}
use Rattle.broken_rules.specs.declared.broken.Broken.{Broken}
use Rattle.broken_rules.proofs.Exactly.{word_is}
use Rattle.history_check.specs.Explained.{block_wrong_by, post_wrong_at}
use Rattle.history_check.specs.Effects.{placed, said}
use Rattle.history_check.specs.Judged.{are_right, checked_owed, right_after}
use Rattle.history_check.specs.Tables.{flight, tables, checked_unit_of}
use Rattle.history_check.proofs.Finding.{data_is}
use Rattle.history_check.proofs.Judging.{answers_right, earlier_right, open_ticket, refusal_is, verdict_is}
use Rattle.history_check.proofs.Owing.{owed_is}
use Rattle.history_check.proofs.Placing.{effect_placed, may_is}
use Rattle.nvme_model.specs.Answered.{right_answers}
use Rattle.nvme_model.specs.Completions.{completion, phase, posted_completions, reaped_count}
use Rattle.nvme_model.specs.Config.{completion_queue}
use Rattle.nvme_model.specs.History.{Past, step_of}
use Rattle.nvme_model.specs.Legal.{IsLegal}
use Rattle.nvme_model.specs.Open.{blocks_made, open_units}
use Rattle.nvme_model.specs.Operations.{op}
use Rattle.nvme_model.specs.Placed.{effect, may_be_effect}
use Rattle.nvme_model.specs.Refusals.{refusal}
use Rattle.nvme_model.specs.Tickets
use Rattle.nvme_model.specs.Tickets.{posts_of, tickets}
use Rattle.nvme_model.specs.Value.{value}
use Rattle.nvme_model.specs.declared.config.ConfigNumbers.{ConfigNumbers}
use Rattle.nvme_model.specs.declared.entry.BlockLine.{BlockLine}
use Rattle.nvme_model.specs.declared.entry.Entry.{Entry}
use Rattle.nvme_model.specs.declared.entry.GrantLine.{GrantLine}
use Rattle.nvme_model.specs.declared.entry.PostLine.{PostLine}
use Rattle.nvme_model.specs.declared.status.Status.{Status}
use Rattle.history_check.specs.Whys.{broken_by, wrong_by}

-- ---- by the tables

block_rows : (a l w e m n y z q p r s : Bool) (r1 r2 r3 r4 r5 r6 r7 : Broken) → m ≡ n → y ≡ z → (a ≡ true → q ≡ p)
    → (a ≡ true → l ≡ true → w ≡ true → r ≡ s)
    → cond (not a) (Some r1)
    (cond (not l) (Some r2) (cond (not w) (Some r3)
    (cond (e && m) (Some r4) (cond (e && not y) (Some r5) (cond (not q) (Some r6) (cond (not r) (Some r7) None))))))
    ≡ cond (not a) (Some r1)
    (cond (not l) (Some r2) (cond (not w) (Some r3)
    (cond (e && n) (Some r4) (cond (e && not z) (Some r5) (cond (not p) (Some r6) (cond (not s) (Some r7) None))))))
block_rows false l w e m n y z q p r s r1 r2 r3 r4 r5 r6 r7 f g h k = refl
block_rows true false w e m n y z q p r s r1 r2 r3 r4 r5 r6 r7 f g h k = refl
block_rows true true false e m n y z q p r s r1 r2 r3 r4 r5 r6 r7 f g h k = refl
block_rows true true true e m n y z q p r s r1 r2 r3 r4 r5 r6 r7 f g h k =
    (λ i. cond (e && f i) (Some r4)
    (cond (e && not (g i)) (Some r5)
    (cond (not (h refl i)) (Some r6) (cond (not (k refl refl refl i)) (Some r7) None))))

block_is : (c : ConfigNumbers) (past : Past) (b : BlockLine) → IsLegal c past → (o : Option GrantLine)
    → find (λ g. eqb g.ticket b.ticket) (open_units past) ≡ o
    → block_wrong past b o ≡ block_wrong_by (value past) (flight past b.ticket) b (option_map (checked_unit_of past) o)
block_is c past b h None e = refl
block_is c past b h (Some g) e =
    let k = Tickets.ticket past b.ticket in
    let j = length (blocks_made past g.ticket g.unit) in
    let after = Entry.Block b ∷ past in
    let t = open_ticket c past b h g e in
    block_rows (eqb b.unit g.unit) (eqb b.lba (g.range.slba + j % g.range.blocks))
    (is_word (word_due (op k) g.range.blocks j) b.found) b.effect
    (is_some (effect past b.ticket b.unit)) (nat_lt b.unit (placed past b.ticket)) (may_be_effect past b.ticket b.unit)
    (eqb b.unit (placed past b.ticket))
    (right_answers (effect after b.ticket b.unit) k (blocks_made past b.ticket b.unit))
    (are_right (right_after (value past) (flight past b.ticket) b (checked_unit_of past g))
    (said (blocks_made past g.ticket g.unit)))
    (right_answers (effect after b.ticket b.unit) k (blocks_made after b.ticket b.unit))
    (are_right (right_after (value past) (flight past b.ticket) b (checked_unit_of past g))
    (said (b ∷ blocks_made past g.ticket g.unit)))
    _ _ _ _ _ _ _
    (effect_placed c past b.ticket b.unit h) (may_is c past b.ticket b.unit h)
    (λ a. (λ i. right_answers (effect after b.ticket b.unit) k
    (blocks_made past (sym t i) (eqb-true b.unit g.unit a i)))
    ∙ earlier_right c past b h g e (eqb-true b.unit g.unit a))
    (λ a l w. answers_right c past b h g e (eqb-true b.unit g.unit a) l
    (sym (word_is (op k) g.range.blocks j b.found) ∙ w))

post_is : (c : ConfigNumbers) (past : Past) (p : PostLine) (o : Option Status) → IsLegal c past
    → post_wrong c past p o ≡ post_wrong_at ((tables c past).fetched (flight past p.ticket).ticket.queue % c.sq_size)
    (phase ((tables c past).posts (completion_queue c (flight past p.ticket).ticket.queue)) c.cq_size)
    (flight past p.ticket) p o
post_is c past p None h = refl
post_is c past p (Some s) h =
    ap (λ (xs : List ℕ). post_broken p (completion c past p.ticket s) xs) (data_is c past p.ticket s h)

wrong_is : (c : ConfigNumbers) (past : Past) (e : Entry) → IsLegal c past
    → wrong c past e ≡ wrong_by c (tables c past) e
wrong_is c past (Entry.Publish p) h = refl
wrong_is c past (Entry.Fetch f) h = ap (fetch_broken f (tickets past)) (verdict_is c past f.queue)
wrong_is c past (Entry.Grant g) h = refl
wrong_is c past (Entry.Block b) h = block_is c past b h (find (λ g. eqb g.ticket b.ticket) (open_units past)) refl
wrong_is c past (Entry.Post p) h =
    ap (λ (ss : List Status). post_wrong c past p (slice_get ss (posts_of past p.ticket))) (owed_is c past p.ticket h)
    ∙ post_is c past p (slice_get (checked_owed c (flight past p.ticket)) (posts_of past p.ticket)) h
wrong_is c past (Entry.Reap r) h =
    ap (λ o. reap_broken r (option_map (λ (p : PostLine). p.cqe) o))
    (get_drop (reaped_count past r.queue) (posted_completions c past r.queue))

pub broken_is : (c : ConfigNumbers) (past : Past) (e : Entry) → IsLegal c past
    → first_broken c past e ≡ broken_by c (tables c past) e
broken_is c past e h =
    ap (λ l. cond l (refused_or (refusal c past (step_of e)) (wrong c past e)) (Some Broken.Earlier)) h
    ∙ ap₂ refused_or (refusal_is c past (step_of e) h) (wrong_is c past e h)
