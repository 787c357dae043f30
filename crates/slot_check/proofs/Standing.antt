-- Which takeovers took effect, one entry later.
use Rattle.nvme_model.specs.Tickets
use Rattle.std.proofs.Common.{◌≡◌, ℕ, ◌≤◌, true, false, [], ◌∷◌, refl, sym, ap, ◌∙◌, arith, subst}
use Rattle.std.proofs.Common.{Some, None, Option, inl, inr, length}
use Rattle.plain_lemmas.proofs.Bools.{same_tests}
use Rattle.ticket_laws.proofs.Counts.{fetched_within}
use Rattle.ticket_laws.proofs.Later.{tickets_later}
use Rattle.nvme_model.specs.History.{Past}
use Rattle.nvme_model.specs.Legal.{IsLegal}
use Rattle.nvme_model.specs.Open.{unit_range}
use Rattle.nvme_model.specs.Operations.{op}
use Rattle.nvme_model.specs.Placed.{effect}
use Rattle.nvme_model.specs.Queues.{published_entries}
use Rattle.nvme_model.specs.Slots.{Name}
use Rattle.nvme_model.specs.Tickets.{Ticket, tickets}
use Rattle.nvme_model.specs.Verdict.{taken_entries}
use Rattle.nvme_model.specs.declared.array.Range.{Range}
use Rattle.nvme_model.specs.declared.config.ConfigNumbers.{ConfigNumbers}
use Rattle.nvme_model.specs.declared.entry.Entry.{Entry}
use Rattle.nvme_model.specs.declared.entry.PublishLine.{PublishLine}
use Rattle.nvme_model.proofs.Beginnings.{earlier}
use Rattle.nvme_model.proofs.Rules.{follows}
use Rattle.host_laws.specs.Calls.{yes_at}
use Rattle.host_laws.proofs.Calls.{takes_from, takes_parts}
use Rattle.host_laws.proofs.Elements.{In, in_cases}
use Rattle.host_laws.proofs.Later.{block_facts, effect_at, fetched_before_later, unit_same}
use Rattle.host_laws.proofs.TicketsApart.{within_fetched}
use Rattle.host_laws.specs.Takeovers.{Takeover, is_taken, takeovers, takeovers_in, took_effect}
use Rattle.host_laws.proofs.Taking.{TookBy, taken_from, taken_later, taken_parts, took_from, took_parts}
use Rattle.slot_check.proofs.NewTakeovers.{new_in, new_takeovers}

-- the ticket of an effect was fetched
effect_known : (c : ConfigNumbers) (past : Past) (t u : ℕ) (e : Past) → IsLegal c past → effect past t u ≡ Some e
    → t ≤ tickets past
effect_known c past t u e h f =
    let at = effect_at past t u e f in
    let legal = earlier c at.later (Entry.Block at.block ∷ e) (subst (λ (x : Past). IsLegal c x) at.is h) in
    let facts = block_facts c e at.block legal in
    subst (λ (x : Past). t ≤ tickets x) (sym at.is)
    (omega (arith, facts.known, at.ticket, tickets_later at.later (Entry.Block at.block ∷ e)))

yes_has : (o : Option Past) (k : Ticket) (r : Range) → yes_at o k r ≡ true → (e : Past) × (o ≡ Some e)
yes_has None k r h = absurd (let f : false ≡ true = h in cc)
yes_has (Some e) k r h = (e, refl)

-- an effect that stood there before was that of the same pair
pub took_before : (c : ConfigNumbers) (e : Entry) (past : Past) (q j : ℕ) → IsLegal c (e ∷ past)
    → (x : TookBy (e ∷ past) q j) → effect (e ∷ past) x.ticket 0 ≡ effect past x.ticket 0
    → took_effect past q j ≡ true
took_before c e past q j h x same =
    let before = (follows c past e h).before in
    let t = x.ticket in
    let some = yes_has (effect (e ∷ past) t 0) (Tickets.ticket (e ∷ past) t) (unit_range (e ∷ past) t 0) x.yes in
    let was : effect past t 0 ≡ Some some.0 = sym same ∙ some.1 in
    let known = effect_known c past t 0 some.0 before was in
    let s = unit_same c (e ∷ []) past t 0 some.0 h before was in
    let k = takes_parts (e ∷ past) t q j x.takes in
    let first = fetched_before_later c (e ∷ []) past t h known in
    took_from past q j (record {
      ticket = t;
      takes = takes_from past t q j (taken_entries (Tickets.ticket (e ∷ past) t).verdict) k.some known
          (ap (λ (z : Ticket). z.queue) (sym s.ticket) ∙ k.queue)
          (ap (λ (z : Ticket). taken_entries z.verdict) (sym s.ticket)) (omega (arith, first, k.low))
          (omega (arith, first, k.high));
      pair = ap op (sym s.ticket) ∙ x.pair;
      yes = (λ i. yes_at (sym s.effect i) (sym s.ticket i) (sym s.range i)) ∙ x.yes;
    })

-- behind an entry that is no effect the same names are taken over, where what it publishes took no effect
pub untaken_on : (c : ConfigNumbers) (e : Entry) (past : Past) (l : ℕ) (n : Name) → IsLegal c (e ∷ past)
    → ((t : ℕ) → effect (e ∷ past) t 0 ≡ effect past t 0)
    → ((w : Takeover) → In w (takeovers (e ∷ past)) → took_effect past w.queue w.number ≡ true → In w (takeovers past))
    → is_taken (e ∷ past) l n ≡ is_taken past l n
untaken_on c e past l n h same there =
    same_tests (is_taken (e ∷ past) l n) (is_taken past l n) forth (taken_later c (e ∷ []) past l n h)
  where
    forth : is_taken (e ∷ past) l n ≡ true → is_taken past l n ≡ true
    forth f =
        let x = taken_parts (e ∷ past) l n f in
        let y = took_parts (e ∷ past) x.takeover.queue x.takeover.number x.took in
        let took = took_before c e past x.takeover.queue x.takeover.number h y (same y.ticket) in
        taken_from past l n (record {
          takeover = x.takeover;
          there = there x.takeover x.there took;
          lba = x.lba;
          dead = x.dead;
          took = took;
        })

-- what is published only now took no effect
pub untaken_published : (c : ConfigNumbers) (past : Past) (p : PublishLine) (l : ℕ) (n : Name)
    → IsLegal c (Entry.Publish p ∷ past) → is_taken (Entry.Publish p ∷ past) l n ≡ is_taken past l n
untaken_published c past p l n h = untaken_on c (Entry.Publish p) past l n h (λ t. refl) there
  where
    before : IsLegal c past
    before = (follows c past (Entry.Publish p) h).before

    none : (w : Takeover) → In w (takeovers_in p.queue (length (published_entries past p.queue)) p.batch)
        → took_effect past w.queue w.number ≡ true → ⊥
    none w i took =
        let j = length (published_entries past p.queue) in
        let new = new_in p.queue j (takeovers_in p.queue j p.batch) w
        (new_takeovers p.queue j j p.batch (omega arith)) i in
        let x = took_parts past w.queue w.number took in
        let k = takes_parts past x.ticket w.queue w.number x.takes in
        let f = within_fetched c past x.ticket before k.some k.known in
        let queue : (Tickets.ticket past x.ticket).queue ≡ p.queue = k.queue ∙ new.0 in
        let g = fetched_within c past (Tickets.ticket past x.ticket).queue before in
        let same : length (published_entries past (Tickets.ticket past x.ticket).queue) ≡ j =
        ap (λ (q : ℕ). length (published_entries past q)) queue in
        omega (arith, f, g, same, new.1, k.high)

    there : (w : Takeover) → In w (takeovers (Entry.Publish p ∷ past)) → took_effect past w.queue w.number ≡ true
        → In w (takeovers past)
    there w i took =
        elim (in_cases w (takeovers_in p.queue (length (published_entries past p.queue)) p.batch) (takeovers past) i) [
          | inl x ↦ absurd (none w x took)
          | inr x ↦ x
        ]
