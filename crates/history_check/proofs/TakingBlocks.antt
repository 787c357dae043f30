-- What a Block makes of the tables.
use Rattle.std.proofs.Common.{◌≡◌, ◌≢◌, ℕ, ◌+◌, Bool, true, false, not, ◌&&◌, ◌||◌, cond, [], ◌∷◌}
use Rattle.std.proofs.Common.{◌++◌, length, option_map, refl, sym, ap, ◌∙◌, Some, None, inl, inr}
use Rattle.std.proofs.Common.{arith, eqb, eqb-true, eq-eqb, ne_eqb, nat_le, add-one}
use Rattle.std.specs.List.{filter, find, list_any}
use Rattle.std.proofs.lemmas.List.{append-nil}
use Rattle.std.proofs.lemmas.Bool.{or_parts, cond-false, cases_Bool}
use Rattle.nvme_model.specs.declared.config.ConfigNumbers.{ConfigNumbers}
use Rattle.nvme_model.specs.declared.entry.BlockLine.{BlockLine}
use Rattle.nvme_model.specs.declared.entry.Entry.{Entry}
use Rattle.nvme_model.specs.declared.entry.GrantLine.{GrantLine}
use Rattle.nvme_model.specs.Answered.{no_at}
use Rattle.nvme_model.specs.Array.{has_block}
use Rattle.nvme_model.specs.History.{Past}
use Rattle.nvme_model.specs.Legal.{IsLegal}
use Rattle.nvme_model.specs.Open.{blocks_made, differed, grants_of, is_differs, open_units, steps_needed}
use Rattle.nvme_model.specs.Open.{unit_range}
use Rattle.nvme_model.specs.Operations.{write_data}
use Rattle.nvme_model.specs.Placed.{effect}
use Rattle.nvme_model.specs.Tickets
use Rattle.nvme_model.specs.Tickets.{posts_of}
use Rattle.nvme_model.specs.Value.{value, writes}
use Rattle.history_check.specs.Effects.{answers_at, found, placed, read_at, said, effect_said_no}
use Rattle.history_check.specs.Tables.{flight, checked_unit, tables, checked_unit_of}
use Rattle.history_check.specs.Taken.{blocked, blocked_flight, ends_by, no_by}
use Rattle.history_check.specs.Taken.{tables_after, unit_after, value_after}
use Rattle.nvme_model.proofs.Blocks.{MayBlock, may_block, not_made}
use Rattle.nvme_model.proofs.Holding.{range_of_entry}
use Rattle.nvme_model.proofs.Lists.{each_all}
use Rattle.nvme_model.proofs.Rules.{follows}
use Rattle.ticket_laws.proofs.Opening.{block_open_beside, block_open_on, ends_with}
use Rattle.ticket_laws.proofs.Standings.{find_apart}
use Rattle.ticket_laws.proofs.TicketLists.{find_filter}
use Rattle.history_check.proofs.Judging.{answers_are, made_is}
use Rattle.history_check.proofs.TakingTickets.{flights_are, found_ticket, unit_kept}

-- ---- a Block

and_true : (x : Bool) → (x && true) ≡ x
and_true true = refl
and_true false = refl

module _ (c : ConfigNumbers) (past : Past) (b : BlockLine) (h : IsLegal c (Entry.Block b ∷ past)) where
  abbrev later : Past
  later = Entry.Block b ∷ past

  before : IsLegal c past
  before = (follows c past (Entry.Block b) h).before

  own_key : (b.effect && eqb b.ticket b.ticket) ≡ b.effect
  own_key = ap (λ x. b.effect && x) (eq-eqb b.ticket b.ticket refl) ∙ and_true b.effect

  module _ (g : GrantLine) (m : MayBlock past b g) (at : find (λ x. eqb x.ticket b.ticket) (open_units past) ≡ Some g)
    where
      range : unit_range past b.ticket b.unit ≡ g.range
      range = range_of_entry past b g m

      none : list_any (λ x. is_differs x.found) (blocks_made past g.ticket g.unit) ≡ false
      none = (or_parts (nat_le (steps_needed (Tickets.ticket past g.ticket) g.range.blocks)
          (length (blocks_made past g.ticket g.unit)))
          (list_any (λ x. is_differs x.found) (blocks_made past g.ticket g.unit)) m.unended.goes_on).1

      ends_is : ends_with past b ≡ ends_by (flight past b.ticket) b (checked_unit_of past g)
      ends_is =
          (λ i. nat_le (steps_needed (Tickets.ticket past b.ticket) (range i).blocks)
          (length (made_is past b g m.ticket m.unit i))
          || list_any (λ x. is_differs x.found) (made_is past b g m.ticket m.unit i))
          ∙ (λ i. nat_le (steps_needed (Tickets.ticket past b.ticket) g.range.blocks)
          (sym (add-one (length (blocks_made past g.ticket g.unit))) i) || (is_differs b.found || none i))
          ∙ ap (λ x. nat_le (steps_needed (Tickets.ticket past b.ticket) g.range.blocks)
          (length (blocks_made past g.ticket g.unit) + 1) || x) (or_false (is_differs b.found))
        where
          or_false : (x : Bool) → (x || false) ≡ x
          or_false true = refl
          or_false false = refl

      unit_more : checked_unit_of later g ≡ unit_after (value past) (flight past b.ticket) b (checked_unit_of past g)
      unit_more =
          (λ i. record {
            line = g;
            made = length (blocks_made later (m.ticket i) (sym m.unit i));
            said = said (blocks_made later (m.ticket i) (sym m.unit i));
            right = option_map (λ x. answers_at (value x) (Tickets.ticket past (m.ticket i)) g.range)
                (effect later (m.ticket i) (sym m.unit i));
          })
          ∙ (λ i. record {
            line = g;
            made = length (made_is past b g m.ticket m.unit i);
            said = said (made_is past b g m.ticket m.unit i);
            right = answers_are c past b g m.ticket m.unit i;
          })
          ∙ (λ i. record (unit_after (value past) (flight past b.ticket) b (checked_unit_of past g))
          { made = sym (add-one (length (blocks_made past g.ticket g.unit))) i })

      unit_is : checked_unit later b.ticket
          ≡ cond (ends_by (flight past b.ticket) b (checked_unit_of past g)) None
          (Some (unit_after (value past) (flight past b.ticket) b (checked_unit_of past g)))
      unit_is = go (ends_by (flight past b.ticket) b (checked_unit_of past g)) ends_is
        where
          go : (x : Bool) → ends_with past b ≡ x
              → checked_unit later b.ticket
              ≡ cond x None (Some (unit_after (value past) (flight past b.ticket) b (checked_unit_of past g)))
          go true e = ap (λ gs. option_map (checked_unit_of later) (find (λ (x : GrantLine). eqb x.ticket b.ticket) gs))
              (block_open_beside c past b h e)
              ∙ ap (option_map (checked_unit_of later)) (find_apart b.ticket (open_units past))
          go false e =
              ap (λ gs. option_map (checked_unit_of later) (find (λ (x : GrantLine). eqb x.ticket b.ticket) gs))
              (block_open_on c past b before e) ∙ ap (option_map (checked_unit_of later)) at
              ∙ ap (λ u. Some u) unit_more

      opens_is : open_units later
          ≡ cond (ends_by (flight past b.ticket) b (checked_unit_of past g))
          (filter (λ x. not (eqb x.ticket b.ticket)) (open_units past)) (open_units past)
      opens_is = go (ends_by (flight past b.ticket) b (checked_unit_of past g)) ends_is
        where
          go : (x : Bool) → ends_with past b ≡ x
              → open_units later ≡ cond x (filter (λ x. not (eqb x.ticket b.ticket)) (open_units past))
              (open_units past)
          go true e = block_open_beside c past b h e
          go false e = block_open_on c past b before e

      value_is : (l : ℕ) → value later l ≡ value_after (value past) b (Tickets.ticket past b.ticket) g.range l
      value_is l = (λ i. cond (b.effect && has_block (range i) l
          && writes (value past) (Tickets.ticket past b.ticket) (range i)) (write_data (Tickets.ticket past b.ticket) l)
          (value past l))

      block_here : flight later b.ticket ≡ blocked_flight (value past) (flight past b.ticket) b (checked_unit_of past g)
      block_here =
          let t = b.ticket in
          (λ i. record {
            ticket = Tickets.ticket past t;
            opened = grants_of past t;
            unit = unit_is i;
            differs = (eq-eqb t t refl i && is_differs b.found) || differed past t;
            posts = posts_of past t;
            placed = placed past t + cond (own_key i) 1 0;
            no = (own_key i && no_by (value past) (Tickets.ticket past t) (range i)) || effect_said_no past t;
            found = found past t ++ cond (own_key i) (read_at (value past) (Tickets.ticket past t) (range i)) [];
          })

  block_other : (t : ℕ) → t ≢ b.ticket → flight later t ≡ flight past t
  block_other t ne =
      let apart : eqb b.ticket t ≡ false = ne_eqb b.ticket t (λ e. ne (sym e)) in
      let none : (b.effect && eqb b.ticket t) ≡ false = both apart in
      let finds : find (λ x. eqb x.ticket t) (open_units later) ≡ find (λ x. eqb x.ticket t) (open_units past) =
      elim (cases_Bool (ends_with past b)) [
        | inr e ↦ ap (find (λ (x : GrantLine). eqb x.ticket t)) (block_open_on c past b before e)
        | inl e ↦ ap (find (λ (x : GrantLine). eqb x.ticket t)) (block_open_beside c past b h e)
            ∙ find_filter (λ x. eqb x.ticket t) (λ x. not (eqb x.ticket b.ticket)) (open_units past)
            (each_all (λ x. eqb x.ticket t ≡ true → not (eqb x.ticket b.ticket) ≡ true)
            (λ x q. ap not (ne_eqb x.ticket b.ticket (λ r. ne (sym (eqb-true _ _ q) ∙ r)))) (open_units past))
      ] in
      let u : checked_unit later t ≡ checked_unit past t =
      ap (option_map (checked_unit_of later)) finds
      ∙ unit_kept later past (find (λ x. eqb x.ticket t) (open_units past))
      (λ g e. one g (λ q. ne (sym (found_ticket t (open_units past) g e) ∙ q))) in
      let read : found later t ≡ found past t =
      ap (λ x. found past t ++ cond x
      (read_at (value past) (Tickets.ticket past b.ticket) (unit_range past b.ticket b.unit)) []) none
      ∙ append-nil (found past t) in
      (λ i. record {
        ticket = Tickets.ticket past t;
        opened = grants_of past t;
        unit = u i;
        differs = (apart i && is_differs b.found) || differed past t;
        posts = posts_of past t;
        placed = (ap (λ x. placed past t + cond x 1 0) none ∙ plus (placed past t)) i;
        no = (none i && no_at (Some past) (Tickets.ticket past b.ticket) (unit_range past b.ticket b.unit))
            || effect_said_no past t;
        found = read i;
      })
    where
      both : eqb b.ticket t ≡ false → (b.effect && eqb b.ticket t) ≡ false
      both e = ap (λ x. b.effect && x) e ∙ go b.effect
        where
          go : (x : Bool) → (x && false) ≡ false
          go true = refl
          go false = refl

      plus : (n : ℕ) → n + 0 ≡ n
      plus n = omega arith

      one : (g : GrantLine) → g.ticket ≢ b.ticket → checked_unit_of later g ≡ checked_unit_of past g
      one g ne =
          let apart : eqb b.ticket g.ticket ≡ false = ne_eqb b.ticket g.ticket (λ e. ne (sym e)) in
          let none : (b.effect && eqb b.ticket g.ticket && eqb b.unit g.unit) ≡ false =
          ap (λ x. x && eqb b.unit g.unit) (ap (λ x. b.effect && x) apart ∙ last b.effect) in
          let same : effect later g.ticket g.unit ≡ effect past g.ticket g.unit = cond-false _ _ _ none in
          (λ i. record {
            line = g;
            made = length (not_made b g.ticket g.unit (blocks_made past g.ticket g.unit) (λ e _. ne (sym e)) i);
            said = said (not_made b g.ticket g.unit (blocks_made past g.ticket g.unit) (λ e _. ne (sym e)) i);
            right = option_map (λ x. answers_at (value x) (Tickets.ticket past g.ticket) g.range) (same i);
          })
        where
          last : (x : Bool) → (x && false) ≡ false
          last true = refl
          last false = refl

  pub block_taken : tables c later ≡ tables_after c (tables c past) (Entry.Block b)
  block_taken =
      let f = may_block c past b h in
      let g = f.0 in
      let fl = flights_are later past b.ticket
      (blocked_flight (value past) (flight past b.ticket) b (checked_unit_of past g))
      (block_here g f.2 f.1) block_other in
      (λ i. record (tables c past) { value = λ l. value_is g f.2 f.1 l i; flight = fl i; opens = opens_is g f.2 f.1 i })
      ∙ ap (λ o. blocked (tables c past) b (option_map (checked_unit_of past) o)) (sym f.1)
