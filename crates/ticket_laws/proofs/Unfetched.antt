-- A ticket that wasn't fetched yet has nothing, and what a Fetch makes.
use Rattle.std.proofs.Common.{◌≡◌, ℕ, suc, ◌+◌, ◌≤◌, ◌<◌, true, false, ◌&&◌, ◌||◌, cond, List, [], ◌∷◌, ◌++◌}
use Rattle.std.proofs.Common.{length, option_map, take, refl, ap, ◌∙◌, sym, None, arith, eq-eqb, ne_eqb, eqb, ltb}
use Rattle.std.proofs.Common.{lt-ltb, add-one}
use Rattle.std.specs.List.{filter, find}
use Rattle.std.proofs.lemmas.List.Elements.{filter-append}
use Rattle.std.proofs.lemmas.Bool.{cond-false, cond-true, not-false}
use Rattle.nvme_model.specs.declared.config.ConfigNumbers.{ConfigNumbers}
use Rattle.nvme_model.specs.declared.entry.GrantLine.{GrantLine}
use Rattle.nvme_model.specs.declared.entry.FetchLine.{FetchLine}
use Rattle.nvme_model.specs.declared.entry.Entry.{Entry}
use Rattle.nvme_model.specs.Verdict.{taken_entries}
use Rattle.nvme_model.specs.History.{Past}
use Rattle.nvme_model.specs.Queues.{waiting}
use Rattle.nvme_model.specs.Tickets
use Rattle.nvme_model.specs.Tickets.{Ticket, posts_of, in_flight, fetched_ticket}
use Rattle.nvme_model.specs.Open.{grants_of, granted, open_units, differed, is_differs, is_read_found}
use Rattle.nvme_model.specs.Medium.{medium}
use Rattle.nvme_model.specs.Legal.{IsLegal}
use Rattle.ticket_laws.specs.Standing.{bytes_read, rising, flying, open_unit, unit_of, standing, fresh_standing}
use Rattle.nvme_model.proofs.Lists.{Each, each_map, each_filter}
use Rattle.ticket_laws.proofs.TicketLists.{filter_each, rising_each}
use Rattle.nvme_model.proofs.Rules.{follows, fetch_number}
use Rattle.nvme_model.proofs.Apart.{ticket_kept, granted_known, fetched_if}
use Rattle.nvme_model.proofs.Blocks.{may_block}
use Rattle.nvme_model.proofs.Holding.{open_kept}

none_find : (t : ℕ) (xs : List GrantLine) → Each (λ g. g.ticket < t) xs → find (λ g. eqb g.ticket t) xs ≡ None
none_find t [] h = refl
none_find t (g ∷ xs) h =
    cond-false (eqb g.ticket t) _ _ (ne_eqb g.ticket t (λ (e : g.ticket ≡ t). omega (arith, e, h.0)))
    ∙ none_find t xs h.1

none_filter : (t : ℕ) (xs : List GrantLine) → Each (λ g. g.ticket < t) xs → filter (λ g. eqb g.ticket t) xs ≡ []
none_filter t [] h = refl
none_filter t (g ∷ xs) h =
    cond-false (eqb g.ticket t) _ _ (ne_eqb g.ticket t (λ (e : g.ticket ≡ t). omega (arith, e, h.0)))
    ∙ none_filter t xs h.1

-- ---- a ticket that isn't fetched

-- it has no Post
pub no_posts : (c : ConfigNumbers) (past : Past) (t : ℕ) → IsLegal c past → Tickets.tickets past < t
    → posts_of past t ≡ 0
no_posts c [] t h l = refl
no_posts c (Entry.Fetch f ∷ past) t h l = no_posts c past t (follows c past (Entry.Fetch f) h).before (omega (arith, l))
no_posts c (Entry.Post p ∷ past) t h l =
    let w = follows c past (Entry.Post p) h in
    let known = fetched_if c past p.ticket w.before (not-false _ w.allowed.0) in
    (λ i. no_posts c past t w.before l i
    + cond (ne_eqb p.ticket t (λ (e : p.ticket ≡ t). omega (arith, e, known, l)) i) 1 0)
no_posts c (e ∷ past) t h l = no_posts c past t (follows c past e h).before l

-- no `differs`
pub not_differed : (c : ConfigNumbers) (past : Past) (t : ℕ) → IsLegal c past → Tickets.tickets past < t
    → differed past t ≡ false
not_differed c [] t h l = refl
not_differed c (Entry.Fetch f ∷ past) t h l =
    not_differed c past t (follows c past (Entry.Fetch f) h).before (omega (arith, l))
not_differed c (Entry.Block b ∷ past) t h l =
    let m = may_block c past b h in
    let ne = ne_eqb b.ticket t (λ (e : b.ticket ≡ t). omega (arith, e, l, m.2.ticket, m.2.unended.facts.known)) in
    (λ i. (ne i && is_differs b.found) || not_differed c past t (follows c past (Entry.Block b) h).before l i)
not_differed c (e ∷ past) t h l = not_differed c past t (follows c past e h).before l

-- it has read nothing
pub nothing_read : (c : ConfigNumbers) (past : Past) (t : ℕ) → IsLegal c past → Tickets.tickets past < t
    → bytes_read past t ≡ []
nothing_read c [] t h l = refl
nothing_read c (Entry.Fetch f ∷ past) t h l =
    nothing_read c past t (follows c past (Entry.Fetch f) h).before (omega (arith, l))
nothing_read c (Entry.Block b ∷ past) t h l =
    let m = may_block c past b h in
    let ne = ne_eqb b.ticket t (λ (e : b.ticket ≡ t). omega (arith, e, l, m.2.ticket, m.2.unended.facts.known)) in
    (λ i. nothing_read c past t (follows c past (Entry.Block b) h).before l i
    ++ cond (ne i && is_read_found b.found) (medium past b.lba) [])
nothing_read c (e ∷ past) t h l = nothing_read c past t (follows c past e h).before l

known_below : (c : ConfigNumbers) (past : Past) (t : ℕ) → IsLegal c past → Tickets.tickets past < t
    → Each (λ g. g.ticket < t) (granted past)
known_below c past t h l =
    each_map (λ g. g.ticket ≤ Tickets.tickets past) (λ g. g.ticket < t) (λ g k. omega (arith, k, l)) (granted past)
    (granted_known c past h)

-- no Grant
pub not_granted : (c : ConfigNumbers) (past : Past) (t : ℕ) → IsLegal c past → Tickets.tickets past < t
    → grants_of past t ≡ 0
not_granted c past t h l = ap length (none_filter t (granted past) (known_below c past t h l))

-- and no open unit
pub not_open : (c : ConfigNumbers) (past : Past) (t : ℕ) → IsLegal c past → Tickets.tickets past < t
    → find (λ g. eqb g.ticket t) (open_units past) ≡ None
not_open c past t h l =
    none_find t (open_units past)
    (each_filter (λ g. g.ticket < t) (λ g. g.ticket < t) _ (λ g k e. k) (granted past) (known_below c past t h l))

-- ---- after a Fetch

-- each other ticket stands where it stood
pub fetch_other : (c : ConfigNumbers) (past : Past) (f : FetchLine) (t : ℕ) → IsLegal c (Entry.Fetch f ∷ past)
    → t ≤ Tickets.tickets past → standing (Entry.Fetch f ∷ past) t ≡ standing past t
fetch_other c past f t h l =
    (λ i. record {
      ticket = ticket_kept c past f t h l i;
      opened = grants_of past t;
      unit = option_map (unit_of past) (find (λ g. eqb g.ticket t) (open_kept c past f h i));
      differs = differed past t;
      posts = posts_of past t;
      read = bytes_read past t;
    })

-- and the new one has begun nothing
pub fetch_here : (c : ConfigNumbers) (past : Past) (f : FetchLine) → IsLegal c (Entry.Fetch f ∷ past)
    → standing (Entry.Fetch f ∷ past) f.ticket ≡ fresh_standing (fetched_ticket past f.queue f.verdict)
fetch_here c past f h =
    let b = (follows c past (Entry.Fetch f) h).before in
    let n = fetch_number c past f h in
    let l : Tickets.tickets past < f.ticket = omega (arith, n) in
    let k : Tickets.ticket (Entry.Fetch f ∷ past) f.ticket ≡ fetched_ticket past f.queue f.verdict =
    cond-true (eqb f.ticket f.ticket) _ _ (eq-eqb f.ticket f.ticket refl) in
    let u : open_unit (Entry.Fetch f ∷ past) f.ticket ≡ None =
    ap (λ gs. option_map (unit_of past) (find (λ (g : GrantLine). eqb g.ticket f.ticket) gs)) (open_kept c past f h)
    ∙ ap (option_map (unit_of past)) (not_open c past f.ticket b l) in
    (λ i. record {
      ticket = k i;
      opened = not_granted c past f.ticket b l i;
      unit = u i;
      differs = not_differed c past f.ticket b l i;
      posts = no_posts c past f.ticket b l i;
      read = nothing_read c past f.ticket b l i;
    })

-- the tickets in flight
pub fetch_flying : (c : ConfigNumbers) (past : Past) (f : FetchLine) → IsLegal c (Entry.Fetch f ∷ past)
    → 0 < length (take (taken_entries f.verdict) (waiting past f.queue))
    → flying (Entry.Fetch f ∷ past) ≡ flying past ++ f.ticket ∷ []
fetch_flying c past f h some =
    let b = (follows c past (Entry.Fetch f) h).before in
    let n : f.ticket ≡ suc (Tickets.tickets past) = omega (arith, fetch_number c past f h) in
    let later : Past = Entry.Fetch f ∷ past in
    let same = filter_each (in_flight later) (in_flight past) (rising (Tickets.tickets past))
    (each_map (λ t. t ≤ Tickets.tickets past) (λ t. in_flight later t ≡ in_flight past t)
    (λ t l. ap (λ (k : Ticket). ltb (posts_of past t) (length k.commands)) (ticket_kept c past f t h l))
    (rising (Tickets.tickets past)) (rising_each (Tickets.tickets past))) in
    let k : Tickets.ticket later f.ticket ≡ fetched_ticket past f.queue f.verdict =
    cond-true (eqb f.ticket f.ticket) _ _ (eq-eqb f.ticket f.ticket refl) in
    let here : in_flight later f.ticket ≡ true =
    lt-ltb (posts_of past f.ticket) (length (Tickets.ticket later f.ticket).commands)
    (omega (
      arith,
      no_posts c past f.ticket b (omega (arith, n)),
      ap (λ (x : Ticket). length x.commands) k,
      some,
    )) in
    ap (λ m. filter (in_flight later) (rising m)) (add-one (Tickets.tickets past))
    ∙ filter-append (in_flight later) (rising (Tickets.tickets past)) (suc (Tickets.tickets past) ∷ [])
    ∙ (λ i. same i ++ filter (in_flight later) (sym n i ∷ []))
    ∙ ap (λ b. filter (in_flight past) (rising (Tickets.tickets past)) ++ cond b (f.ticket ∷ []) []) here

-- each of them is one of the tickets there are
pub flying_known : (past : Past) → Each (λ t. t ≤ Tickets.tickets past) (flying past)
flying_known past = each_filter (λ t. t ≤ Tickets.tickets past) (λ t. t ≤ Tickets.tickets past) (in_flight past)
    (λ t l e. l) (rising (Tickets.tickets past)) (rising_each (Tickets.tickets past))
