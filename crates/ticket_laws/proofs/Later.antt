-- A ticket's commands are all there, and stay what they are.
use Rattle.std.proofs.Common.{None, [], ap, arith, is_none, length, map, refl, ℕ, ◌++◌, ◌<◌, ◌∙◌, ◌≡◌, ◌≤◌, ◌∷◌, false}
use Rattle.std.proofs.lemmas.Bool.Decides.{nat_tests}
use Rattle.std.proofs.lemmas.List.{length-drop, length-map, length-take-le}
use Rattle.std.specs.Prelude.{◌==◌}
use Rattle.nvme_model.specs.History.{Past}
use Rattle.nvme_model.specs.Legal.{IsLegal}
use Rattle.nvme_model.specs.Queues.{fetched_count, published_entries, waiting}
use Rattle.nvme_model.specs.Refusals.{conditions, refusal}
use Rattle.nvme_model.specs.Tickets
use Rattle.nvme_model.specs.Tickets.{Ticket, cids_in_use, fetched_ticket, next_verdict, tickets}
use Rattle.nvme_model.specs.Operations.{op, units}
use Rattle.ticket_laws.specs.Tasks.{duty_at}
use Rattle.nvme_model.specs.Verdict.{item_of, taken_entries}
use Rattle.nvme_model.specs.declared.config.ConfigNumbers.{ConfigNumbers}
use Rattle.nvme_model.specs.declared.entry.Entry.{Entry}
use Rattle.nvme_model.specs.declared.step.Step.{Step}
use Rattle.nvme_model.proofs.Apart.{ticket_kept}
use Rattle.nvme_model.proofs.Rules.{follows, none_holds}
use Rattle.ticket_laws.proofs.Counts.{fetched_within, taken_within}

pub tickets_later : (later past : Past) → tickets past ≤ tickets (later ++ past)
tickets_later [] past = omega arith
tickets_later (Entry.Fetch f ∷ later) past = let h = tickets_later later past in omega (arith, h)
tickets_later (Entry.Publish p ∷ later) past = tickets_later later past
tickets_later (Entry.Grant g ∷ later) past = tickets_later later past
tickets_later (Entry.Block b ∷ later) past = tickets_later later past
tickets_later (Entry.Post p ∷ later) past = tickets_later later past
tickets_later (Entry.Reap r ∷ later) past = tickets_later later past

-- a ticket that was fetched stays what it is
pub ticket_later : (c : ConfigNumbers) (later past : Past) (t : ℕ) → IsLegal c (later ++ past) → t ≤ tickets past
    → Tickets.ticket (later ++ past) t ≡ Tickets.ticket past t
ticket_later c [] past t h l = refl
ticket_later c (Entry.Fetch f ∷ later) past t h l =
    let before = (follows c (later ++ past) (Entry.Fetch f) h).before in
    let more = tickets_later later past in
    ticket_kept c (later ++ past) f t h (omega (arith, l, more)) ∙ ticket_later c later past t before l
ticket_later c (Entry.Publish p ∷ later) past t h l =
    ticket_later c later past t (follows c (later ++ past) (Entry.Publish p) h).before l
ticket_later c (Entry.Grant g ∷ later) past t h l =
    ticket_later c later past t (follows c (later ++ past) (Entry.Grant g) h).before l
ticket_later c (Entry.Block b ∷ later) past t h l =
    ticket_later c later past t (follows c (later ++ past) (Entry.Block b) h).before l
ticket_later c (Entry.Post p ∷ later) past t h l =
    ticket_later c later past t (follows c (later ++ past) (Entry.Post p) h).before l
ticket_later c (Entry.Reap r ∷ later) past t h l =
    ticket_later c later past t (follows c (later ++ past) (Entry.Reap r) h).before l

-- what it has to do stays too
pub duty_later : (c : ConfigNumbers) (later past : Past) (t : ℕ) → IsLegal c (later ++ past) → t ≤ tickets past
    → duty_at c (later ++ past) t ≡ duty_at c past t
duty_later c later past t h l =
    ap (λ (k : Ticket). record { statuses = length k.commands; op = op k; units = units c k })
    (ticket_later c later past t h l)

more : (m f : ℕ) → f ≤ m → (m == f) ≡ false → f < m
more m f l e = grind (arith, nat_tests)

-- a Fetch that nothing refuses takes as many entries as its verdict says
pub fetched_commands : (c : ConfigNumbers) (past : Past) (q : ℕ) → IsLegal c past → refusal c past (Step.Fetch q) ≡ None
    → length (fetched_ticket past q (next_verdict c past q)).commands ≡ taken_entries (next_verdict c past q)
fetched_commands c past q h none =
    let rows = none_holds (conditions c past (Step.Fetch q)) (ap is_none none) in
    let some = more _ _ (fetched_within c past q h) rows.1.0 in
    let items = length-map (waiting past q) item_of in
    let most = taken_within c.atomic c.blocks (cids_in_use past q) (map item_of (waiting past q))
    (omega (arith, some, items, length-drop (fetched_count past q) (published_entries past q))) in
    length-take-le (taken_entries (next_verdict c past q)) (waiting past q) (omega (arith, most, items))
