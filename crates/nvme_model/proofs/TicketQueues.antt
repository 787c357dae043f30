-- The submission queue of a ticket is there.
use Rattle.std.proofs.Common.{[], Bool, List, None, Option, arith, cond, eqb, false, length, ltb-false, nat_lt, suc}
use Rattle.std.proofs.Common.{true, zero, ℕ, ◌∷◌, ◌≡◌, ◌≤◌}
use Rattle.std.proofs.lemmas.Bool.{or_parts}
use Rattle.nvme_model.specs.declared.config.ConfigNumbers.{ConfigNumbers}
use Rattle.nvme_model.specs.declared.entry.Entry.{Entry}
use Rattle.nvme_model.specs.History.{Past}
use Rattle.nvme_model.specs.Legal.{IsLegal}
use Rattle.nvme_model.specs.Refusals.{no_queue}
use Rattle.nvme_model.specs.Tickets
use Rattle.nvme_model.proofs.Rules.{follows}

-- a fetched ticket's queue is there
pub ticket_queue : (c : ConfigNumbers) (past : Past) (t : ℕ) → IsLegal c past
    → 1 ≤ length (Tickets.ticket past t).commands → no_queue c (Tickets.ticket past t).queue ≡ false
ticket_queue c [] t h l = absurd (omega (arith, l))
ticket_queue c (Entry.Fetch f ∷ past) t h l =
    let w = follows c past (Entry.Fetch f) h in
    go (eqb f.ticket t) w.allowed.0 (ticket_queue c past t w.before) l
  where
    go : (b : Bool) → no_queue c f.queue ≡ false
        → (1 ≤ length (Tickets.ticket past t).commands → no_queue c (Tickets.ticket past t).queue ≡ false)
        → 1 ≤ length (cond b (Tickets.fetched_ticket past f.queue f.verdict) (Tickets.ticket past t)).commands
        → no_queue c (cond b (Tickets.fetched_ticket past f.queue f.verdict) (Tickets.ticket past t)).queue ≡ false
    go true e ih l = e
    go false e ih l = ih l
ticket_queue c (Entry.Publish e ∷ past) t h l = ticket_queue c past t (follows c past (Entry.Publish e) h).before l
ticket_queue c (Entry.Grant e ∷ past) t h l = ticket_queue c past t (follows c past (Entry.Grant e) h).before l
ticket_queue c (Entry.Block e ∷ past) t h l = ticket_queue c past t (follows c past (Entry.Block e) h).before l
ticket_queue c (Entry.Post e ∷ past) t h l = ticket_queue c past t (follows c past (Entry.Post e) h).before l
ticket_queue c (Entry.Reap e ∷ past) t h l = ticket_queue c past t (follows c past (Entry.Reap e) h).before l

-- the number of a queue that is there
pub record HasQueue (c : ConfigNumbers) (q : ℕ) : Type 0 where
  pub low : 1 ≤ q
  pub high : q ≤ c.pairs

pub queue_there : (c : ConfigNumbers) (q : ℕ) → no_queue c q ≡ false → HasQueue c q
queue_there c q e =
    let a = or_parts (eqb q 0) (nat_lt c.pairs q) e in
    record { low = low q a.0; high = ltb-false _ _ a.1 }
  where
    low : (q : ℕ) → eqb q 0 ≡ false → 1 ≤ q
    low zero e = absurd cc
    low (suc q) e = omega arith
