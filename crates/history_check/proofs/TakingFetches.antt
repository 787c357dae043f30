-- What a Fetch makes of the tables.
use Rattle.std.proofs.Common.{◌≡◌, ◌≢◌, ℕ, ◌+◌, ◌-◌, ◌≤◌, ◌<◌, false, cond, [], ◌∷◌}
use Rattle.std.proofs.Common.{take, length, option_map, refl, sym, ap, ◌∙◌, None, inl, inr}
use Rattle.std.proofs.Common.{arith, eqb, eq-eqb, ne_eqb, lt-ltb}
use Rattle.std.specs.List.{find}
use Rattle.std.proofs.lemmas.List.{length-drop, length-take}
use Rattle.std.proofs.lemmas.Bool.{cond-true, cond-false, cases_lt, false_from_ne_true}
use Rattle.std.proofs.lemmas.Bool.Decides.{nat_tests}
use Rattle.nvme_model.specs.declared.config.ConfigNumbers.{ConfigNumbers}
use Rattle.nvme_model.specs.declared.entry.Entry.{Entry}
use Rattle.nvme_model.specs.declared.entry.FetchLine.{FetchLine}
use Rattle.nvme_model.specs.declared.entry.GrantLine.{GrantLine}
use Rattle.nvme_model.specs.History.{Past}
use Rattle.nvme_model.specs.Legal.{IsLegal}
use Rattle.nvme_model.specs.Open.{open_units}
use Rattle.nvme_model.specs.Placed.{effect}
use Rattle.nvme_model.specs.Queues.{fetched_count, published_entries, waiting}
use Rattle.nvme_model.specs.Tickets
use Rattle.nvme_model.specs.Tickets.{fetched_ticket}
use Rattle.nvme_model.specs.Value.{value}
use Rattle.nvme_model.specs.Verdict
use Rattle.history_check.specs.Effects.{answers_at, found, placed, effect_said_no}
use Rattle.history_check.specs.Tables.{flight, just_fetched, checked_unit, tables, checked_unit_of}
use Rattle.history_check.specs.Taken.{fetched_by}
use Rattle.history_check.specs.Taken.{tables_after}
use Rattle.nvme_model.proofs.Holding.{open_kept}
use Rattle.nvme_model.proofs.Rules.{follows, fetch_number}
use Rattle.nvme_model.proofs.Once.{no_has_effect}
use Rattle.ticket_laws.proofs.Counts.{fetched_within, taken_some}
use Rattle.ticket_laws.proofs.Unfetched.{fetch_flying, no_posts, not_differed, not_granted, not_open}
use Rattle.ticket_laws.proofs.Waiting.{fetch_waits}
use Rattle.history_check.proofs.Finding.{found_pieces, piece, pieces}
use Rattle.history_check.proofs.Placing.{effect_known, effect_placed}
use Rattle.history_check.proofs.SaidNo.{said_at}
use Rattle.history_check.proofs.TakingTickets.{flights_are, found_ticket, unit_kept}

-- ---- a Fetch

unknown_placed : (c : ConfigNumbers) (past : Past) (t : ℕ) → IsLegal c past → Tickets.tickets past < t
    → placed past t ≡ 0
unknown_placed c past t h l = elim (cases_lt 0 (placed past t)) [
  | inr k ↦ omega (arith, k)
  | inl k ↦ absurd (omega (
    arith,
    l,
    effect_known c past t 0 h (effect_placed c past t 0 h ∙ lt-ltb 0 (placed past t) k),
  ))
]

unknown_no : (c : ConfigNumbers) (past : Past) (t : ℕ) → IsLegal c past → Tickets.tickets past < t
    → effect_said_no past t ≡ false
unknown_no c past t h l = false_from_ne_true (effect_said_no past t) (λ e.
    let u = said_at c past t h e in
    absurd (omega (arith, l, effect_known c past t u.0 h (no_has_effect _ _ _ u.1))))

unknown_found : (c : ConfigNumbers) (past : Past) (t : ℕ) → IsLegal c past → Tickets.tickets past < t
    → found past t ≡ []
unknown_found c past t h l = found_pieces c past t h ∙ ap (pieces (piece past t) 0) (unknown_placed c past t h l)

fetch_here : (c : ConfigNumbers) (past : Past) (f : FetchLine) → IsLegal c (Entry.Fetch f ∷ past)
    → flight (Entry.Fetch f ∷ past) f.ticket ≡ just_fetched (fetched_by (tables c past) f)
fetch_here c past f h =
    let b = (follows c past (Entry.Fetch f) h).before in
    let n = fetch_number c past f h in
    let later : Past = Entry.Fetch f ∷ past in
    let l : Tickets.tickets past < f.ticket = omega (arith, n) in
    let k : Tickets.ticket later f.ticket ≡ fetched_ticket past f.queue f.verdict =
    cond-true (eqb f.ticket f.ticket) _ _ (eq-eqb f.ticket f.ticket refl) in
    let u : checked_unit later f.ticket ≡ None =
    ap (λ gs. option_map (checked_unit_of later) (find (λ (g : GrantLine). eqb g.ticket f.ticket) gs))
    (open_kept c past f h)
    ∙ ap (option_map (checked_unit_of later)) (not_open c past f.ticket b l) in
    (λ i. record {
      ticket = k i;
      opened = not_granted c past f.ticket b l i;
      unit = u i;
      differs = not_differed c past f.ticket b l i;
      posts = no_posts c past f.ticket b l i;
      placed = unknown_placed c past f.ticket b l i;
      no = unknown_no c past f.ticket b l i;
      found = unknown_found c past f.ticket b l i;
    })

fetch_other : (c : ConfigNumbers) (past : Past) (f : FetchLine) → IsLegal c (Entry.Fetch f ∷ past) → (t : ℕ)
    → t ≢ f.ticket → flight (Entry.Fetch f ∷ past) t ≡ flight past t
fetch_other c past f h t ne =
    let later : Past = Entry.Fetch f ∷ past in
    let u : checked_unit later t ≡ checked_unit past t =
    ap (λ gs. option_map (checked_unit_of later) (find (λ (g : GrantLine). eqb g.ticket t) gs)) (open_kept c past f h)
    ∙ unit_kept later past (find (λ g. eqb g.ticket t) (open_units past))
    (λ g e. one g (λ q. ne (sym (found_ticket t (open_units past) g e) ∙ q))) in
    (λ i. record (flight past t) { ticket = same t ne i; unit = u i })
  where
    same : (t : ℕ) → t ≢ f.ticket → Tickets.ticket (Entry.Fetch f ∷ past) t ≡ Tickets.ticket past t
    same t ne = cond-false (eqb f.ticket t) _ _ (ne_eqb f.ticket t (λ e. ne (sym e)))

    one : (g : GrantLine) → g.ticket ≢ f.ticket → checked_unit_of (Entry.Fetch f ∷ past) g ≡ checked_unit_of past g
    one g ne = (λ i. record (checked_unit_of past g) {
      right = option_map (λ before. answers_at (value before) (same g.ticket ne i) g.range)
          (effect past g.ticket g.unit);
    })

some_taken : (c : ConfigNumbers) (past : Past) (f : FetchLine) → IsLegal c (Entry.Fetch f ∷ past)
    → 0 < length (take (Verdict.taken_entries f.verdict) (waiting past f.queue))
some_taken c past f h =
    let w = follows c past (Entry.Fetch f) h in
    let some = waits (length (published_entries past f.queue)) (fetched_count past f.queue)
    (length (waiting past f.queue)) (length-drop (fetched_count past f.queue) (published_entries past f.queue))
    (fetched_within c past f.queue w.before) w.allowed.1.0 in
    omega (arith, some, (taken_some f.verdict).0, length-take (Verdict.taken_entries f.verdict) (waiting past f.queue))
  where
    waits : (n k m : ℕ) → m ≡ n - k → k ≤ n → eqb n k ≡ false → 0 < m
    waits n k m e l d = grind (arith, nat_tests, e, l, d)

pub fetch_taken : (c : ConfigNumbers) (past : Past) (f : FetchLine) → IsLegal c (Entry.Fetch f ∷ past)
    → tables c (Entry.Fetch f ∷ past) ≡ tables_after c (tables c past) (Entry.Fetch f)
fetch_taken c past f h =
    let fl = flights_are (Entry.Fetch f ∷ past) past f.ticket (just_fetched (fetched_by (tables c past) f))
    (fetch_here c past f h) (fetch_other c past f h) in
    let fy = fetch_flying c past f h (some_taken c past f h) in
    (λ i. record (tables c past) {
      tickets = Tickets.tickets past + 1;
      flying = fy i;
      flight = fl i;
      opens = open_kept c past f h i;
      waiting = λ q. fetch_waits past f q i;
      fetched = λ q. fetched_count past q + cond (eqb f.queue q) (Verdict.taken_entries f.verdict) 0;
    })
