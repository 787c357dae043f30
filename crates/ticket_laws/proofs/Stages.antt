-- How far a ticket has come, after each of its steps, and what that allows.
use Rattle.std.proofs.Common.{Bool, List, [], add-one, ap, arith, cond, eq-eqb, eqb, false, length, not}
use Rattle.std.proofs.Common.{refl, suc, sym, true, ℕ, ◌&&◌, ◌+◌, ◌-◌, ◌∙◌, ◌≡◌, ◌||◌, ◌∷◌}
use Rattle.std.specs.List.{filter, list_any}
use Rattle.std.specs.Prelude.{nat_le}
use Rattle.std.proofs.lemmas.Bool.{not-false}
use Rattle.nvme_model.specs.History.{Past}
use Rattle.nvme_model.specs.Legal.{IsLegal}
use Rattle.nvme_model.specs.Open.{differed, granted, has_ended, is_differs, open_units, unit_range}
use Rattle.nvme_model.specs.Operations.{op, units}
use Rattle.nvme_model.specs.Refusals.{has_open}
use Rattle.nvme_model.specs.Tickets
use Rattle.nvme_model.specs.Tickets.{posts_of}
use Rattle.nvme_model.specs.declared.config.ConfigNumbers.{ConfigNumbers}
use Rattle.nvme_model.specs.declared.entry.BlockLine.{BlockLine}
use Rattle.nvme_model.specs.declared.entry.Entry.{Entry}
use Rattle.nvme_model.specs.declared.entry.GrantLine.{GrantLine}
use Rattle.nvme_model.specs.declared.entry.PostLine.{PostLine}
use Rattle.nvme_model.proofs.Rules.{follows}
use Rattle.ticket_laws.proofs.Opening.{block_open_beside, block_open_on, ends_with, grant_open}
use Rattle.ticket_laws.proofs.Owing.{has_run_is, none_found}
use Rattle.ticket_laws.specs.Standing.{unit_of}
use Rattle.ticket_laws.specs.Entries.{of_ticket}
use Rattle.ticket_laws.specs.Tasks.{Duty, after_block, after_grant, after_post, duty_at, own_all_ended, own_open}
use Rattle.ticket_laws.specs.Tasks.{own_stage}
use Rattle.ticket_laws.proofs.Allowed.{all_ended_same, open_same}
use Rattle.ticket_laws.proofs.NewEntries.{of_ticket-own}
use Rattle.ticket_laws.proofs.OwnEntries.{own_granted}

-- ---- after a step

or_true : (a b : Bool) → a ≡ true → (a || b) ≡ true
or_true true b e = refl
or_true false b e = absurd (let f : false ≡ true = e in cc)

-- the unit that a Grant begins is open
pub grant_opens : (c : ConfigNumbers) (past : Past) (g : GrantLine) → IsLegal c (Entry.Grant g ∷ past)
    → own_open (op (Tickets.ticket past g.ticket)) (Entry.Grant g ∷ of_ticket g.ticket past) g.ticket ≡ true
grant_opens c past g h =
    let t = g.ticket in
    ap (λ its. own_open (op (Tickets.ticket past t)) its t) (sym (of_ticket-own t past (Entry.Grant g) refl))
    ∙ (open_same (Entry.Grant g ∷ past) t
    ∙ (ap (list_any (λ (x : GrantLine). eqb x.ticket t)) (grant_open c past g h)
    ∙ or_true (eqb t t) _ (eq-eqb t t refl)))

none_beside : (t : ℕ) (gs : List GrantLine)
    → list_any (λ x. eqb x.ticket t) (filter (λ x. not (eqb x.ticket t)) gs) ≡ false
none_beside t [] = refl
none_beside t (g ∷ gs) = by (eqb g.ticket t) refl (none_beside t gs)
  where
    by : (b : Bool) → eqb g.ticket t ≡ b
        → list_any (λ x. eqb x.ticket t) (filter (λ x. not (eqb x.ticket t)) gs) ≡ false
        → list_any (λ x. eqb x.ticket t)
        (cond (not b) (g ∷ filter (λ x. not (eqb x.ticket t)) gs) (filter (λ x. not (eqb x.ticket t)) gs)) ≡ false
    by true e ih = ih
    by false e ih = (λ i. e i || list_any (λ x. eqb x.ticket t) (filter (λ x. not (eqb x.ticket t)) gs)) ∙ ih

-- after a Block a unit is open but where the Block ended it
open_after : (c : ConfigNumbers) (past : Past) (b : BlockLine) → IsLegal c (Entry.Block b ∷ past) → (ended : Bool)
    → ends_with past b ≡ ended → has_open (Entry.Block b ∷ past) b.ticket ≡ not ended
open_after c past b h true e = ap (list_any (λ (x : GrantLine). eqb x.ticket b.ticket)) (block_open_beside c past b h e)
    ∙ none_beside b.ticket (open_units past)
open_after c past b h false e =
    let w = follows c past (Entry.Block b) h in
    ap (list_any (λ (x : GrantLine). eqb x.ticket b.ticket)) (block_open_on c past b w.before e)
    ∙ not-false _ w.allowed.1.0

pub block_opens : (c : ConfigNumbers) (past : Past) (b : BlockLine) → IsLegal c (Entry.Block b ∷ past)
    → own_open (op (Tickets.ticket past b.ticket)) (Entry.Block b ∷ of_ticket b.ticket past) b.ticket
    ≡ not (has_ended (Entry.Block b ∷ past) b.ticket b.unit (unit_range past b.ticket b.unit).blocks)
block_opens c past b h =
    let t = b.ticket in
    ap (λ its. own_open (op (Tickets.ticket past t)) its t) (sym (of_ticket-own t past (Entry.Block b) refl))
    ∙ (open_same (Entry.Block b ∷ past) t ∙ open_after c past b h (ends_with past b) refl)

less : (m n : ℕ) → m - suc n ≡ (m - n) - 1
less m n = omega arith

-- of the ticket that stands so
pub grant_stage : (c : ConfigNumbers) (past : Past) (g : GrantLine) → IsLegal c (Entry.Grant g ∷ past)
    → own_stage (duty_at c past g.ticket) g.ticket (Entry.Grant g ∷ of_ticket g.ticket past)
    ≡ after_grant (own_stage (duty_at c past g.ticket) g.ticket (of_ticket g.ticket past))
grant_stage c past g h =
    let d = duty_at c past g.ticket in
    let its = of_ticket g.ticket past in
    (λ i. record {
      left = less (length d.units) (length (granted its)) i;
      owing = d.statuses - posts_of its g.ticket;
      is_open = grant_opens c past g h i;
      differs = differed its g.ticket;
    })

pub block_stage : (c : ConfigNumbers) (past : Past) (b : BlockLine) → IsLegal c (Entry.Block b ∷ past)
    → own_stage (duty_at c past b.ticket) b.ticket (Entry.Block b ∷ of_ticket b.ticket past)
    ≡ after_block (own_stage (duty_at c past b.ticket) b.ticket (of_ticket b.ticket past)) b.found
    (has_ended (Entry.Block b ∷ past) b.ticket b.unit (unit_range past b.ticket b.unit).blocks)
block_stage c past b h =
    let d = duty_at c past b.ticket in
    let its = of_ticket b.ticket past in
    (λ i. record {
      left = length d.units - length (granted its);
      owing = d.statuses - posts_of its b.ticket;
      is_open = block_opens c past b h i;
      differs = (eq-eqb b.ticket b.ticket refl i && is_differs b.found) || differed its b.ticket;
    })

pub post_stage : (d : Duty) (its : Past) (p : PostLine)
    → own_stage d p.ticket (Entry.Post p ∷ its) ≡ after_post (own_stage d p.ticket its)
post_stage d its p =
    let t = p.ticket in
    let one : posts_of its t + cond (eqb t t) 1 0 ≡ suc (posts_of its t) =
    (λ i. posts_of its t + cond (eq-eqb t t refl i) 1 0) ∙ add-one (posts_of its t) in
    (λ i. record {
      left = length d.units - length (granted its);
      owing = (ap (λ n. d.statuses - n) one ∙ less d.statuses (posts_of its t)) i;
      is_open = own_open d.op its t;
      differs = differed its t;
    })

-- ---- what it allows

-- where all units were begun and none is open they have all ended
pub run_over : (c : ConfigNumbers) (past : Past) (t : ℕ) → IsLegal c past → differed past t ≡ false
    → nat_le (length (units c (Tickets.ticket past t))) (length (granted (of_ticket t past))) ≡ true
    → own_open (op (Tickets.ticket past t)) (of_ticket t past) t ≡ false
    → own_all_ended (duty_at c past t) (of_ticket t past) t ≡ true
run_over c past t h d all closed =
    all_ended_same c past t
    ∙ (has_run_is c past t h d
    ∙ (λ i. (ap (λ gs. nat_le (length (units c (Tickets.ticket past t))) (length gs)) (sym (own_granted t past)) ∙ all)
    i
    && (none_found (unit_of past) (λ g. eqb g.ticket t) (open_units past) ∙ ap not (sym (open_same past t) ∙ closed))
    i))
