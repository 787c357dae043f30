-- The completion queue of a Post is told by its bytes.
use Rattle.std.proofs.Common.{◌≡◌, ℕ, zero, suc, ◌%◌, ◌≤◌, Bool, true, false, cond, List, [], ◌∷◌}
use Rattle.std.proofs.Common.{length, get_or, None, is_none, ap, ◌∙◌, arith, eqb, ltb-false, nat_lt}
use Rattle.std.proofs.lemmas.Bool.{or_parts}
use Rattle.nvme_model.specs.Completions.{phase, posted_completions}
use Rattle.nvme_model.specs.Config.{completion_queue, config_fault, config_faults}
use Rattle.nvme_model.specs.EntryBytes.{cqe_fields}
use Rattle.nvme_model.specs.History.{Past}
use Rattle.nvme_model.specs.Legal.{IsLegal}
use Rattle.nvme_model.specs.Queues.{fetched_count}
use Rattle.nvme_model.specs.Refusals.{no_queue}
use Rattle.nvme_model.specs.Tickets
use Rattle.nvme_model.specs.Tickets.{cids, posts_of}
use Rattle.nvme_model.specs.declared.config.ConfigNumbers.{ConfigNumbers}
use Rattle.nvme_model.specs.declared.entry.Entry.{Entry}
use Rattle.nvme_model.specs.declared.entry.PostLine.{PostLine}
use Rattle.nvme_model.specs.declared.entry.ReapLine.{ReapLine}
use Rattle.nvme_model.proofs.Posted.{posted_by_machine}
use Rattle.nvme_model.proofs.Rules.{follows, none_holds}
use Rattle.nvme_model.proofs.CqeFields.{sqid_back}

-- ---- the submission queue of a ticket

-- a ticket's queue is one of those that there are, or 0 where there is no such ticket
ticket_queue : (c : ConfigNumbers) (past : Past) (t : ℕ) → IsLegal c past → (Tickets.ticket past t).queue ≤ c.pairs
ticket_queue c [] t h = omega arith
ticket_queue c (Entry.Fetch f ∷ past) t h =
    let w = follows c past (Entry.Fetch f) h in
    go (eqb f.ticket t) w.allowed.0 (ticket_queue c past t w.before)
  where
    go : (b : Bool) → no_queue c f.queue ≡ false → (Tickets.ticket past t).queue ≤ c.pairs
        → (cond b (Tickets.fetched_ticket past f.queue f.verdict) (Tickets.ticket past t)).queue ≤ c.pairs
    go true e l = ltb-false _ _ (or_parts (eqb f.queue 0) (nat_lt c.pairs f.queue) e).1
    go false e l = l
ticket_queue c (Entry.Publish e ∷ past) t h = ticket_queue c past t (follows c past (Entry.Publish e) h).before
ticket_queue c (Entry.Grant e ∷ past) t h = ticket_queue c past t (follows c past (Entry.Grant e) h).before
ticket_queue c (Entry.Block e ∷ past) t h = ticket_queue c past t (follows c past (Entry.Block e) h).before
ticket_queue c (Entry.Post e ∷ past) t h = ticket_queue c past t (follows c past (Entry.Post e) h).before
ticket_queue c (Entry.Reap e ∷ past) t h = ticket_queue c past t (follows c past (Entry.Reap e) h).before

-- there are few
pub few_pairs : (c : ConfigNumbers) → config_fault c ≡ None → c.pairs ≤ 16
few_pairs c e = ltb-false _ _
    (or_parts (nat_lt c.pairs 1) (nat_lt 16 c.pairs) (none_holds (config_faults c) (ap is_none e)).1.1.1.1.1.0).1

-- ---- a Post

-- its bytes name its ticket's submission queue
pub post_names_queue : (c : ConfigNumbers) (past : Past) (p : PostLine) → config_fault c ≡ None
    → IsLegal c (Entry.Post p ∷ past)
    → (cqe_fields p.cqe).sqid ≡ (Tickets.ticket past p.ticket).queue
post_names_queue c past p a h =
    let k = Tickets.ticket past p.ticket in
    let m = posted_by_machine c past p h in
    ap (λ (xs : List ℕ). (cqe_fields xs).sqid) m.2
    ∙ sqid_back (fetched_count past k.queue % c.sq_size) k.queue (get_or (cids k) (posts_of past p.ticket) 0)
    (phase (length (posted_completions c past (completion_queue c k.queue))) c.cq_size) m.0
    (omega (arith, few_pairs c a, ticket_queue c past p.ticket (follows c past (Entry.Post p) h).before))

-- ---- a Reap

pub record IsThere (c : ConfigNumbers) (q : ℕ) : Type 0 where
  pub low : 1 ≤ q
  pub high : q ≤ c.cqs

-- its completion queue is there
pub reap_has_queue : (c : ConfigNumbers) (past : Past) (r : ReapLine) → IsLegal c (Entry.Reap r ∷ past)
    → IsThere c r.queue
reap_has_queue c past r h =
    let p = or_parts (eqb r.queue 0) (nat_lt c.cqs r.queue) (follows c past (Entry.Reap r) h).allowed.0 in
    record { low = some r.queue p.0; high = ltb-false _ _ p.1 }
  where
    some : (q : ℕ) → eqb q 0 ≡ false → 1 ≤ q
    some zero e = absurd (let f : true ≡ false = e in cc)
    some (suc q) e = omega arith
