-- What a Grant makes of the tables.
use Rattle.std.proofs.Common.{◌≡◌, ◌≢◌, ℕ, ◌+◌, false, cond, [], ◌∷◌}
use Rattle.std.proofs.Common.{length, option_map, refl, sym, ap, ◌∙◌, Some, None}
use Rattle.std.proofs.Common.{arith, eqb, eq-eqb, ne_eqb, add-one}
use Rattle.std.specs.List.{filter, find}
use Rattle.std.proofs.lemmas.Bool.{cond-true, cond-false}
use Rattle.nvme_model.specs.declared.config.ConfigNumbers.{ConfigNumbers}
use Rattle.nvme_model.specs.declared.entry.Entry.{Entry}
use Rattle.nvme_model.specs.declared.entry.GrantLine.{GrantLine}
use Rattle.nvme_model.specs.History.{Past}
use Rattle.nvme_model.specs.Legal.{IsLegal}
use Rattle.nvme_model.specs.Open.{blocks_made, granted, grants_of, open_units}
use Rattle.nvme_model.specs.Tickets
use Rattle.nvme_model.specs.Value.{value}
use Rattle.history_check.specs.Effects.{answers_at, said}
use Rattle.history_check.specs.Tables.{flight, checked_unit, tables, checked_unit_of}
use Rattle.history_check.specs.Taken.{opened_flight}
use Rattle.history_check.specs.Taken.{tables_after}
use Rattle.nvme_model.proofs.Blocks.{no_blocks}
use Rattle.nvme_model.proofs.Effects.{no_effect}
use Rattle.nvme_model.proofs.Rules.{follows, may_grant}
use Rattle.ticket_laws.proofs.Opening.{grant_open}
use Rattle.history_check.proofs.TakingTickets.{flights_are}

-- ---- a Grant

grant_here : (c : ConfigNumbers) (past : Past) (g : GrantLine) → IsLegal c (Entry.Grant g ∷ past)
    → flight (Entry.Grant g ∷ past) g.ticket ≡ opened_flight (flight past g.ticket) g
grant_here c past g h =
    let t = g.ticket in
    let b = (follows c past (Entry.Grant g) h).before in
    let later : Past = Entry.Grant g ∷ past in
    let more : grants_of later t ≡ grants_of past t + 1 =
    ap length (cond-true (eqb t t) (g ∷ filter (λ x. eqb x.ticket t) (granted past)) _ (eq-eqb t t refl))
    ∙ sym (add-one (grants_of past t)) in
    let none : blocks_made past t g.unit ≡ [] =
    no_blocks c past t g.unit b (omega (arith, (may_grant c past g h).unit)) in
    let without = no_effect past t g.unit none in
    let opens : checked_unit later t ≡ Some (record { line = g; made = 0; said = []; right = None }) =
    ap (λ gs. option_map (checked_unit_of later) (find (λ (x : GrantLine). eqb x.ticket t) gs)) (grant_open c past g h)
    ∙ ap (λ b. option_map (checked_unit_of later)
    (cond b (Some g) (find (λ (x : GrantLine). eqb x.ticket t) (open_units past)))) (eq-eqb t t refl)
    ∙ (λ i. Some (record {
      line = g;
      made = length (none i);
      said = said (none i);
      right = option_map (λ before. answers_at (value before) (Tickets.ticket past t) g.range) (without i);
    })) in
    (λ i. record (flight past t) { opened = more i; unit = opens i })

grant_other : (c : ConfigNumbers) (past : Past) (g : GrantLine) → IsLegal c (Entry.Grant g ∷ past) → (t : ℕ)
    → t ≢ g.ticket → flight (Entry.Grant g ∷ past) t ≡ flight past t
grant_other c past g h t ne =
    let apart : eqb g.ticket t ≡ false = ne_eqb g.ticket t (λ e. ne (sym e)) in
    let same : grants_of (Entry.Grant g ∷ past) t ≡ grants_of past t =
    ap length (cond-false (eqb g.ticket t) _ _ apart) in
    let opens : checked_unit (Entry.Grant g ∷ past) t ≡ checked_unit past t =
    ap (λ gs. option_map (checked_unit_of past) (find (λ (x : GrantLine). eqb x.ticket t) gs)) (grant_open c past g h)
    ∙ ap (λ b. option_map (checked_unit_of past)
    (cond b (Some g) (find (λ (x : GrantLine). eqb x.ticket t) (open_units past))))
    apart in
    (λ i. record (flight past t) { opened = same i; unit = opens i })

pub grant_taken : (c : ConfigNumbers) (past : Past) (g : GrantLine) → IsLegal c (Entry.Grant g ∷ past)
    → tables c (Entry.Grant g ∷ past) ≡ tables_after c (tables c past) (Entry.Grant g)
grant_taken c past g h =
    let fl = flights_are (Entry.Grant g ∷ past) past g.ticket (opened_flight (flight past g.ticket) g)
    (grant_here c past g h) (grant_other c past g h) in
    (λ i. record (tables c past) { flight = fl i; opens = grant_open c past g h i })
