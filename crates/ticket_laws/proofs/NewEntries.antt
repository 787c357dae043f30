-- Which ticket the entry of a step is of.
use Rattle.std.proofs.Common.{None, Option, Some, [], ap, arith, eq-eqb, eqb, inl, inr, is_none, ne_eqb, refl, subst}
use Rattle.std.proofs.Common.{sym, true, ℕ, ◌+◌, ◌<◌, ◌∙◌, ◌≡◌, ◌≢◌, ◌⊎◌, ◌∷◌}
use Rattle.std.proofs.lemmas.Bool.{cond-false, cond-true, not-false}
use Rattle.std.specs.List.{find}
use Rattle.std.specs.Prelude.{slice_get, ◌==◌}
use Rattle.nvme_model.specs.Completions.{posted_completions, reaped_count}
use Rattle.nvme_model.specs.History.{Past}
use Rattle.nvme_model.specs.Kept.{ControllerInvariant}
use Rattle.nvme_model.specs.Legal.{IsLegal}
use Rattle.nvme_model.specs.Open.{open_units}
use Rattle.nvme_model.specs.Owed.{owed}
use Rattle.nvme_model.specs.Refusals.{next_unit, refusal}
use Rattle.nvme_model.specs.Steps.{block_entry, grant_entry, next_entry, post_entry, reap_entry}
use Rattle.nvme_model.specs.Tickets.{posts_of, tickets}
use Rattle.nvme_model.specs.declared.array.Range.{Range}
use Rattle.nvme_model.specs.declared.config.ConfigNumbers.{ConfigNumbers}
use Rattle.nvme_model.specs.declared.entry.Entry.{Entry}
use Rattle.nvme_model.specs.declared.entry.GrantLine.{GrantLine}
use Rattle.nvme_model.specs.declared.entry.PostLine.{PostLine}
use Rattle.nvme_model.specs.declared.status.Status.{Status}
use Rattle.nvme_model.specs.declared.step.Step.{Step}
use Rattle.nvme_model.proofs.Apart.{fetched_if, granted_known}
use Rattle.nvme_model.proofs.EveryRun.{step_kept}
use Rattle.nvme_model.proofs.Placed.{block_fetched}
use Rattle.nvme_model.proofs.Rules.{fetch_number, follows}
use Rattle.ticket_laws.specs.Entries.{named_ticket, names_queue, of_ticket, ticket_in}

-- one entry more, of this ticket
pub of_ticket-own : (t : ℕ) (past : Past) (e : Entry) → ticket_in e ≡ t → of_ticket t (e ∷ past) ≡ e ∷ of_ticket t past
of_ticket-own t past e is = cond-true (eqb (ticket_in e) t) _ _ (eq-eqb (ticket_in e) t is)

-- one entry more, of another
pub of_ticket-other : (t : ℕ) (past : Past) (e : Entry) → ticket_in e ≢ t → of_ticket t (e ∷ past) ≡ of_ticket t past
of_ticket-other t past e ne = cond-false (eqb (ticket_in e) t) _ _ (ne_eqb (ticket_in e) t ne)

-- a ticket that wasn't fetched has no entry
pub no_entries : (c : ConfigNumbers) (past : Past) (t : ℕ) → IsLegal c past → tickets past < t → of_ticket t past ≡ []
no_entries c [] t h l = refl
no_entries c (Entry.Publish p ∷ past) t h l =
    of_ticket-other t past (Entry.Publish p) (λ (e : 0 ≡ t). omega (arith, e, l))
    ∙ no_entries c past t (follows c past (Entry.Publish p) h).before l
no_entries c (Entry.Fetch f ∷ past) t h l =
    of_ticket-other t past (Entry.Fetch f) (λ (e : f.ticket ≡ t). omega (arith, e, l, fetch_number c past f h))
    ∙ no_entries c past t (follows c past (Entry.Fetch f) h).before (omega (arith, l))
no_entries c (Entry.Grant g ∷ past) t h l =
    of_ticket-other t past (Entry.Grant g)
    (λ (e : g.ticket ≡ t). omega (arith, e, l, (granted_known c (Entry.Grant g ∷ past) h).0))
    ∙ no_entries c past t (follows c past (Entry.Grant g) h).before l
no_entries c (Entry.Block b ∷ past) t h l =
    of_ticket-other t past (Entry.Block b) (λ (e : b.ticket ≡ t). omega (arith, e, l, (block_fetched c past b h).1))
    ∙ no_entries c past t (follows c past (Entry.Block b) h).before l
no_entries c (Entry.Post p ∷ past) t h l =
    let w = follows c past (Entry.Post p) h in
    of_ticket-other t past (Entry.Post p)
    (λ (e : p.ticket ≡ t). omega (arith, e, l, fetched_if c past p.ticket w.before (not-false _ w.allowed.0)))
    ∙ no_entries c past t w.before l
no_entries c (Entry.Reap r ∷ past) t h l =
    of_ticket-other t past (Entry.Reap r) (λ (e : 0 ≡ t). omega (arith, e, l))
    ∙ no_entries c past t (follows c past (Entry.Reap r) h).before l

reap_ticket : (q : ℕ) (o : Option PostLine) → ticket_in (reap_entry q o) ≡ 0
reap_ticket q None = refl
reap_ticket q (Some p) = refl

grant_ticket : (past : Past) (t : ℕ) (o : Option Range) → ticket_in (grant_entry past t o) ≡ t
grant_ticket past t None = refl
grant_ticket past t (Some r) = refl

block_ticket : (past : Past) (t : ℕ) (o : Option GrantLine) → ticket_in (block_entry past t o) ≡ t
block_ticket past t None = refl
block_ticket past t (Some g) = refl

post_ticket : (c : ConfigNumbers) (past : Past) (t : ℕ) (o : Option Status) → ticket_in (post_entry c past t o) ≡ t
post_ticket c past t None = refl
post_ticket c past t (Some s) = refl

-- the entry of a step that names a queue is of no ticket, or of a new one
pub new_entry : (c : ConfigNumbers) (past : Past) (step : Step) (e : Entry) → IsLegal c past
    → e ≡ next_entry c past step → names_queue step ≡ true → (ticket_in e ≡ 0) ⊎ (of_ticket (ticket_in e) past ≡ [])
new_entry c past (Step.Publish q batch) e h is named = inl (ap ticket_in is)
new_entry c past (Step.Fetch q) e h is named =
    let n : ticket_in e ≡ tickets past + 1 = ap ticket_in is in
    inr (no_entries c past (ticket_in e) h (omega (arith, n)))
new_entry c past (Step.Reap q) e h is named =
    inl (ap ticket_in is ∙ reap_ticket q (slice_get (posted_completions c past q) (reaped_count past q)))
new_entry c past (Step.Grant t) e h is named = cc
new_entry c past (Step.Block t) e h is named = cc
new_entry c past (Step.Post t) e h is named = cc

-- and that of a step that names a ticket is of this ticket
pub named_entry : (c : ConfigNumbers) (past : Past) (step : Step) (e : Entry) → e ≡ next_entry c past step
    → 0 < named_ticket step → ticket_in e ≡ named_ticket step
named_entry c past (Step.Grant t) e is named = ap ticket_in is ∙ grant_ticket past t (next_unit c past t)
named_entry c past (Step.Block t) e is named = ap ticket_in is
    ∙ block_ticket past t (find (λ g. g.ticket == t) (open_units past))
named_entry c past (Step.Post t) e is named = ap ticket_in is
    ∙ post_ticket c past t (slice_get (owed c past t) (posts_of past t))
named_entry c past (Step.Publish q batch) e is named = absurd (omega (arith, named))
named_entry c past (Step.Fetch q) e is named = absurd (omega (arith, named))
named_entry c past (Step.Reap q) e is named = absurd (omega (arith, named))

-- what a controller keeps of its history, its accepted step keeps
pub accepted_keeps : (c : ConfigNumbers) (past : Past) (step : Step) (e : Entry) → ControllerInvariant c past
    → refusal c past step ≡ None → e ≡ next_entry c past step → ControllerInvariant c (e ∷ past)
accepted_keeps c past step e k none is =
    subst (λ (x : Entry). ControllerInvariant c (x ∷ past)) (sym is) (step_kept c past step k (ap is_none none))
