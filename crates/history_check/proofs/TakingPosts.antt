-- What a Post makes of the tables.
use Rattle.std.proofs.Common.{◌≡◌, ◌≢◌, ℕ, ◌+◌, Bool, true, false, not, cond, [], ◌∷◌}
use Rattle.std.proofs.Common.{length, refl, sym, ap, ◌∙◌}
use Rattle.std.proofs.Common.{arith, eqb, eq-eqb, ne_eqb, nat_lt}
use Rattle.std.specs.List.{filter}
use Rattle.std.proofs.lemmas.List.{length-append}
use Rattle.std.proofs.lemmas.Bool.{not-false}
use Rattle.nvme_model.specs.declared.config.ConfigNumbers.{ConfigNumbers}
use Rattle.nvme_model.specs.declared.entry.Entry.{Entry}
use Rattle.nvme_model.specs.declared.entry.PostLine.{PostLine}
use Rattle.nvme_model.specs.Completions.{posted_completions}
use Rattle.nvme_model.specs.Config.{completion_queue}
use Rattle.nvme_model.specs.History.{Past}
use Rattle.nvme_model.specs.Legal.{IsLegal}
use Rattle.nvme_model.specs.Tickets
use Rattle.nvme_model.specs.Tickets.{in_flight, posts_of}
use Rattle.ticket_laws.specs.Standing.{flying}
use Rattle.history_check.specs.Tables.{flight, tables}
use Rattle.history_check.specs.Taken.{flies_on}
use Rattle.history_check.specs.Taken.{posted_flight, tables_after}
use Rattle.nvme_model.proofs.Rules.{follows}
use Rattle.ticket_laws.proofs.Standings.{post_flying_off, post_flying_on}
use Rattle.ticket_laws.proofs.Waiting.{post_waits}
use Rattle.history_check.proofs.TakingTickets.{flights_are}

-- ---- a Post

post_here : (past : Past) (p : PostLine) → flight (Entry.Post p ∷ past) p.ticket ≡ posted_flight (flight past p.ticket)
post_here past p = (λ i.
    record (flight past p.ticket) { posts = posts_of past p.ticket + cond (eq-eqb p.ticket p.ticket refl i) 1 0 })

posts_apart : (past : Past) (p : PostLine) (t : ℕ) → t ≢ p.ticket → posts_of (Entry.Post p ∷ past) t ≡ posts_of past t
posts_apart past p t ne = ap (λ b. posts_of past t + cond b 1 0) (ne_eqb p.ticket t (λ e. ne (sym e))) ∙ omega arith

post_other : (past : Past) (p : PostLine) (t : ℕ) → t ≢ p.ticket → flight (Entry.Post p ∷ past) t ≡ flight past t
post_other past p t ne = (λ i. record (flight past t) { posts = posts_apart past p t ne i })

post_flies : (past : Past) (p : PostLine) → in_flight past p.ticket ≡ true
    → flying (Entry.Post p ∷ past)
    ≡ cond (flies_on (flight past p.ticket)) (flying past) (filter (λ t. not (eqb t p.ticket)) (flying past))
post_flies past p f = go (flies_on (flight past p.ticket)) same
  where
    same : in_flight (Entry.Post p ∷ past) p.ticket ≡ flies_on (flight past p.ticket)
    same = ap (λ b. nat_lt (posts_of past p.ticket + cond b 1 0) (length (Tickets.ticket past p.ticket).commands))
        (eq-eqb p.ticket p.ticket refl)

    go : (b : Bool) → in_flight (Entry.Post p ∷ past) p.ticket ≡ b
        → flying (Entry.Post p ∷ past) ≡ cond b (flying past) (filter (λ t. not (eqb t p.ticket)) (flying past))
    go true e = post_flying_on past p f e
    go false e = post_flying_off past p e

one_posted : (b : Bool) (p : PostLine) → length (cond b (p ∷ []) []) ≡ cond b 1 0
one_posted true p = refl
one_posted false p = refl

pub post_taken : (c : ConfigNumbers) (past : Past) (p : PostLine) → IsLegal c (Entry.Post p ∷ past)
    → tables c (Entry.Post p ∷ past) ≡ tables_after c (tables c past) (Entry.Post p)
post_taken c past p h =
    let w = follows c past (Entry.Post p) h in
    let later : Past = Entry.Post p ∷ past in
    let fl = flights_are later past p.ticket (posted_flight (flight past p.ticket)) (post_here past p)
    (post_other past p) in
    let fy = post_flies past p (not-false _ w.allowed.0) in
    (λ i. record (tables c past) {
      flying = fy i;
      flight = fl i;
      posts = λ q. (length-append (posted_completions c past q)
          (cond (eqb (completion_queue c (Tickets.ticket past p.ticket).queue) q) (p ∷ []) [])
          ∙ ap (λ n. length (posted_completions c past q) + n)
          (one_posted (eqb (completion_queue c (Tickets.ticket past p.ticket).queue) q) p)) i;
      unreaped = λ q. post_waits c past p q w.before i;
    })
