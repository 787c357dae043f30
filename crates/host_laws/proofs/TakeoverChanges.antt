-- What a Block may do to a slot where there are takeovers.
use Rattle.nvme_model.specs.Tickets
use Rattle.std.proofs.Common.{◌≡◌, ℕ, ◌+◌, ◌-◌, ◌≤◌, true, not, ◌&&◌, ◌||◌, ◌∷◌, ap, ◌∙◌, Option, Some}
use Rattle.std.proofs.Common.{inl, inr, ◌⊎◌, arith, nat_le, nat_lt, ltb-true, leb-true, [], slice_get}
use Rattle.std.proofs.Common.{subst}
use Rattle.std.proofs.lemmas.Bool.{and_from, and_parts, cases_Bool, cond-false, cond-true, not-false, or_cases}
use Rattle.std.proofs.lemmas.Bool.{not-true}
use Rattle.nvme_model.specs.Array.{has_block}
use Rattle.nvme_model.specs.EntryBytes.{slba, block_count}
use Rattle.nvme_model.specs.History.{Past}
use Rattle.nvme_model.specs.Legal.{IsLegal}
use Rattle.nvme_model.specs.Open.{unit_range}
use Rattle.nvme_model.specs.Operations.{op, has_write, has_compare, units, units_by, compare_data, write_data}
use Rattle.nvme_model.specs.Placed.{effect}
use Rattle.nvme_model.specs.Tickets.{Ticket, first_fields, tickets}
use Rattle.nvme_model.specs.Value.{value, all_equal, writes}
use Rattle.nvme_model.specs.declared.array.Range.{Range}
use Rattle.nvme_model.specs.declared.config.ConfigNumbers.{ConfigNumbers}
use Rattle.nvme_model.specs.declared.operation.Op.{Op}
use Rattle.nvme_model.specs.declared.entry.BlockLine.{BlockLine}
use Rattle.nvme_model.specs.declared.entry.Entry.{Entry}
use Rattle.nvme_model.proofs.Cut.{clash}
use Rattle.nvme_model.proofs.Lists.{each_get}
use Rattle.nvme_model.proofs.Rules.{follows}
use Rattle.nvme_model.proofs.Pairs.{marked_here}
use Rattle.host_laws.specs.Calls.{says_yes, yes_at}
use Rattle.host_laws.proofs.Changes.{Inside, one_equal, units_inside}
use Rattle.host_laws.proofs.Discipline.{InArea}
use Rattle.host_laws.proofs.Finds.{unit_zero}
use Rattle.host_laws.proofs.Later.{block_facts, pair_range}
use Rattle.host_laws.proofs.Statuses.{flying_some}
use Rattle.host_laws.specs.Rules.{takeover_disciplined}
use Rattle.host_laws.proofs.Movers.{MoveTicket, move_ticket}

-- ---- what a Block may do to a slot

pub record Change (past : Past) (b : BlockLine) (l : ℕ) : Type 0 where
  pub effect : b.effect ≡ true
  pub some : 1 ≤ b.ticket
  pub known : b.ticket ≤ tickets past
  pub unit : b.unit ≡ 0
  pub yes : all_equal (value past) (Tickets.ticket past b.ticket) (unit_range past b.ticket b.unit) ≡ true
  pub ticket : MoveTicket past b.ticket l
  pub op : op (Tickets.ticket past b.ticket) ≡ Some Op.Pair
  pub old : value past l ≡ compare_data (Tickets.ticket past b.ticket) l
  pub new : value (Entry.Block b ∷ past) l ≡ write_data (Tickets.ticket past b.ticket) l

-- what both kinds of ticket have
record PairOn (past : Past) (t l : ℕ) : Type 0 where
  op : op (Tickets.ticket past t) ≡ Some Op.Pair
  slba : slba (first_fields (Tickets.ticket past t)) ≡ l
  one : block_count (first_fields (Tickets.ticket past t)) ≡ 1

pair_on : (past : Past) (t l : ℕ) → MoveTicket past t l → PairOn past t l
pair_on past t l (inl x) = record { op = x.op; slba = x.slba; one = x.one }
pair_on past t l (inr x) = record { op = x.op; slba = x.slba; one = x.one }

changed : (c : ConfigNumbers) (slots : Range) (past : Past) (b : BlockLine) (l : ℕ) → IsLegal c (Entry.Block b ∷ past)
    → takeover_disciplined c slots past ≡ true → InArea slots l → b.effect ≡ true
    → has_block (unit_range past b.ticket b.unit) l ≡ true
    → writes (value past) (Tickets.ticket past b.ticket) (unit_range past b.ticket b.unit) ≡ true
    → (value (Entry.Block b ∷ past) l ≡ write_data (Tickets.ticket past b.ticket) l) → Change past b l
changed c slots past b l h d a mark i w new =
    let f = follows c past (Entry.Block b) h in
    let facts = block_facts c past b h in
    let k = Tickets.ticket past b.ticket in
    let r = unit_range past b.ticket b.unit in
    let inside = each_get (Inside (slba (first_fields k)) (block_count (first_fields k))) (units c k) b.unit r
    (units_inside c.atomic (op k) (slba (first_fields k)) (block_count (first_fields k))) facts.range in
    let w2 = and_parts (has_write (op k)) (not (has_compare (op k)) || all_equal (value past) k r) w in
    let i2 = and_parts (nat_le r.slba l) (nat_lt l (r.slba + r.blocks)) i in
    let low = leb-true r.slba l i2.0 in
    let high = ltb-true l (r.slba + r.blocks) i2.1 in
    let t = move_ticket c slots past b.ticket l f.before d
    (flying_some c past b.ticket f.before (not-false _ f.allowed.0)) facts.known w2.0
    (record {
      low = omega (arith, inside.low, low);
      high = omega (arith, inside.high, high);
      from = a.from;
      to = a.to;
    }) in
    let p = pair_on past b.ticket l t in
    let range = pair_range c past b.ticket b.unit p.op facts.range in
    let equal : all_equal (value past) k r ≡ true =
    elim (or_cases (not (has_compare (op k))) (all_equal (value past) k r) w2.1) [
      | inl n ↦ clash (has_compare (op k)) (ap has_compare p.op) (not-true (has_compare (op k)) n)
      | inr y ↦ y
    ] in
    record {
      effect = mark;
      some = flying_some c past b.ticket f.before (not-false _ f.allowed.0);
      known = facts.known;
      unit = unit_zero (record { slba = slba (first_fields k); blocks = block_count (first_fields k) }) r b.unit
          (subst (λ (o : Option Op).
          slice_get (units_by c.atomic o (slba (first_fields k)) (block_count (first_fields k))) b.unit ≡ Some r) p.op
          facts.range);
      yes = equal;
      ticket = t;
      op = p.op;
      old =
          one_equal (value past) k r l (ap (λ (x : Range). x.slba) range ∙ p.slba)
          (ap (λ (x : Range). x.blocks) range ∙ p.one) equal;
      new = new;
    }

pub change : (c : ConfigNumbers) (slots : Range) (past : Past) (b : BlockLine) (l : ℕ)
    → IsLegal c (Entry.Block b ∷ past) → takeover_disciplined c slots past ≡ true → InArea slots l
    → (value (Entry.Block b ∷ past) l ≡ value past l) ⊎ Change past b l
change c slots past b l h d a =
    elim (cases_Bool (b.effect && has_block r l && writes (value past) k r)) [
      | inl e ↦
          let x = and_parts (b.effect && has_block r l) (writes (value past) k r) e in
          let y = and_parts b.effect (has_block r l) x.0 in
          inr (changed c slots past b l h d a y.0 y.1 x.1
          (cond-true (b.effect && has_block r l && writes (value past) k r) (write_data k l) (value past l) e))
      | inr e ↦ inl (cond-false (b.effect && has_block r l && writes (value past) k r) (write_data k l) (value past l)
          e)
    ]
  where
    k : Ticket
    k = Tickets.ticket past b.ticket

    r : Range
    r = unit_range past b.ticket b.unit

-- its effect stands there, and says yes
pub change_effect : (past : Past) (b : BlockLine) (l : ℕ) → Change past b l
    → effect (Entry.Block b ∷ past) b.ticket 0 ≡ Some past
change_effect past b l x =
    subst (λ (u : ℕ). effect (Entry.Block b ∷ past) b.ticket u ≡ Some past) x.unit (marked_here past b x.effect)

pub change_yes : (past : Past) (b : BlockLine) (l : ℕ) → Change past b l
    → says_yes (Entry.Block b ∷ past) b.ticket 0 ≡ true
change_yes past b l x =
    let k = Tickets.ticket past b.ticket in
    ap (λ (o : Option Past). yes_at o k (unit_range past b.ticket 0)) (change_effect past b l x)
    ∙ and_from (has_compare (op k)) (all_equal (value past) k (unit_range past b.ticket 0)) (ap has_compare x.op)
    (subst (λ (u : ℕ). all_equal (value past) k (unit_range past b.ticket u) ≡ true) x.unit x.yes)
