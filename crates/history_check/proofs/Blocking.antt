-- What a Block finds, and what is kept after it.
use Rattle.std.proofs.Common.{◌≡◌, ◌≢◌, ℕ, zero, suc, ◌+◌, ◌*◌, ◌≤◌, ◌<◌, ◌^◌, ◌==◌, ◌&&◌, Bool, true, false, not, cond}
use Rattle.std.proofs.Common.{List, [], ◌∷◌, length, map, set, Option, Some, None, is_none, is_some, option_map, refl}
use Rattle.std.proofs.Common.{sym, ap, ◌∙◌, subst, arith, eq-eqb, ne_eqb, leb-false, ltb-true, nat_le, nat_lt, leb-true}
use Rattle.std.specs.Prelude.{IfSome}
use Rattle.std.specs.List.{filter, find}
use Rattle.std.proofs.lemmas.Bool.{and_parts, or_parts}
use Rattle.std.proofs.lemmas.Bool.Decides.{nat_tests}
use Rattle.history_check.specs.Contents.{contents_in, written_in}
use Rattle.history_check.specs.declared.flight.TakenBlock.{TakenBlock}
use Rattle.history_check.specs.Effects.{placed, does_read, word_of}
use Rattle.history_check.specs.Judged.{block_fits_by, flies, judged}
use Rattle.rings.specs.Used.{AreInUse}
use Rattle.history_check.specs.Tables.{CheckedTicket, CheckedUnit, Tables, flight, tables, checked_unit_of}
use Rattle.history_check.specs.Taken.{SameIn, blocked, blocked_flight, ends_by, tables_after, value_after}
use Rattle.history_check.proofs.Placing.{effect_granted, effect_placed}
use Rattle.history_check.proofs.Within.{fits_same, flight_same, value_same}
use Rattle.nvme_model.specs.Answered.{may_find}
use Rattle.nvme_model.specs.Array.{has_block}
use Rattle.nvme_model.specs.History.{Past}
use Rattle.nvme_model.specs.Legal.{IsLegal}
use Rattle.nvme_model.specs.Open.{blocks_made, grants_of, granted, has_ended, open_units, steps_needed}
use Rattle.nvme_model.specs.Operations.{has_write, is_pair, op, units, write_data}
use Rattle.nvme_model.specs.Placed.{effect}
use Rattle.nvme_model.specs.Tickets
use Rattle.nvme_model.specs.Tickets.{Ticket}
use Rattle.nvme_model.specs.Value.{value, writes}
use Rattle.nvme_model.specs.declared.array.Range.{Range}
use Rattle.nvme_model.specs.declared.config.ConfigNumbers.{ConfigNumbers}
use Rattle.nvme_model.specs.declared.entry.BlockLine.{BlockLine}
use Rattle.nvme_model.specs.declared.entry.Entry.{Entry}
use Rattle.nvme_model.specs.declared.entry.GrantLine.{GrantLine}
use Rattle.nvme_model.specs.declared.operation.Found.{Found}
use Rattle.nvme_model.specs.declared.operation.Op.{Op}
use Rattle.nvme_model.specs.declared.refusal.Why.{Why}
use Rattle.nvme_model.proofs.Blocks.{MayBlock, may_block}
use Rattle.nvme_model.proofs.Checked.{ticket_checked}
use Rattle.nvme_model.proofs.Ended.{granted_op}
use Rattle.nvme_model.proofs.InVolume.{units_in_volume}
use Rattle.nvme_model.proofs.Lists.{Each, each_filter, each_find}
use Rattle.range_reserve.specs.Reserved.{by_ticket, held_beside, held_of}
use Rattle.range_reserve.specs.declared.held.HeldRange.{HeldRange}
use Rattle.range_reserve.proofs.Granted.{held_beside-map}
use Rattle.range_reserve.proofs.Rising.{filter-by_ticket}
use Rattle.ticket_laws.specs.Standing.{flying}
use Rattle.ticket_laws.proofs.Flying.{flying_rises}
use Rattle.ticket_laws.proofs.Lengths.{InTicket, granted_lie, written_length}
use Rattle.history_check.specs.Kept.{IsCheckerState, CheckerState, ShowsTables, flight_in}
use Rattle.history_check.specs.Steps.{Took}
use Rattle.history_check.specs.declared.fields.CheckedInFlight.{CheckedInFlight}
use Rattle.history_check.proofs.Bounds.{opened_few}
use Rattle.history_check.proofs.Flights.{IsThere, set_place}
use Rattle.history_check.proofs.InUse.{in_use_with}
use Rattle.history_check.proofs.Following.{legal_next, none_flies, took_not}
use Rattle.nvme_model.proofs.Accepted.{accepted}

-- ---- an open unit

-- what holds of each granted unit holds of the one that is found open
pub open_granted : (P : GrantLine → Type 0) (past : Past) (t : ℕ) (g : GrantLine) → Each P (granted past)
    → find (λ x. x.ticket == t) (open_units past) ≡ Some g → P g
open_granted P past t g all e =
    (each_find P (λ x. x.ticket == t) (open_units past) g
    (each_filter P P (λ x. not (has_ended past x.ticket x.unit x.range.blocks)) (λ x p q. p) (granted past) all) e).0

-- a Block leaves what its ticket is of
pub ticket_stays : (contents : ℕ → List ℕ) (b : BlockLine) (f y : CheckedTicket) → is_some f.unit ≡ true
    → IfSome f.unit (λ u. y ≡ blocked_flight contents f b u) → y.ticket ≡ f.ticket
ticket_stays contents b f y some e = go f.unit some e
  where
    go : (o : Option CheckedUnit) → is_some o ≡ true → IfSome o (λ u. y ≡ blocked_flight contents f b u)
        → y.ticket ≡ f.ticket
    go None some e = absurd (let h : false ≡ true = some in cc)
    go (Some u) some e = ap (λ (z : CheckedTicket). z.ticket) e

-- and is a Block of what is in flight
pub moved_by : (contents : ℕ → List ℕ) (b : BlockLine) (x : CheckedInFlight) (y : CheckedTicket)
    → IfSome x.flight.unit (λ u. y ≡ blocked_flight contents x.flight b u)
    → IfSome x.flight.unit (λ u. record x { flight = y } ≡ record x { flight = blocked_flight contents x.flight b u })
moved_by contents b x y e = go x.flight.unit e
  where
    go : (o : Option CheckedUnit) → IfSome o (λ u. y ≡ blocked_flight contents x.flight b u)
        → IfSome o (λ u. record x { flight = y } ≡ record x { flight = blocked_flight contents x.flight b u })
    go None e = tt
    go (Some u) e = ap (λ (z : CheckedTicket). record x { flight = z }) e

-- an operation that reads says no answer
read_word : (o : Option Op) (n j : ℕ) (f : Found) → does_read o ≡ true → may_find o n j f ≡ true → word_of f ≡ []
read_word (Some Op.Read) n j Found.Read r m = refl
read_word (Some Op.Read) n j Found.Equal r m = absurd (let h : false ≡ true = m in cc)
read_word (Some Op.Read) n j Found.Differs r m = absurd (let h : false ≡ true = m in cc)
read_word (Some Op.Read) n j Found.Written r m = absurd (let h : false ≡ true = m in cc)
read_word (Some Op.Compare) n j f r m = absurd (let h : false ≡ true = r in cc)
read_word (Some Op.Write) n j f r m = absurd (let h : false ≡ true = r in cc)
read_word (Some Op.WriteZeroes) n j f r m = absurd (let h : false ≡ true = r in cc)
read_word (Some Op.Pair) n j f r m = absurd (let h : false ≡ true = r in cc)
read_word None n j f r m = absurd (let h : false ≡ true = r in cc)

steps_few : (p : Bool) (n : ℕ) → cond p (2 * n) n ≤ 2 * n
steps_few true n = omega arith
steps_few false n = omega arith

-- no more effects than grants
placed_few : (c : ConfigNumbers) (past : Past) (t : ℕ) → IsLegal c past → placed past t ≤ grants_of past t
placed_few c past t h = go (placed past t) refl
  where
    go : (n : ℕ) → placed past t ≡ n → placed past t ≤ grants_of past t
    go zero e = omega (arith, e)
    go (suc n) e =
        let there : is_some (effect past t n) ≡ true = effect_placed c past t n h ∙ ap (nat_lt n) e ∙ below n in
        omega (arith, e, effect_granted c past t n h there)
      where
        below : (n : ℕ) → nat_lt n (suc n) ≡ true
        below n = grind (arith, nat_tests)

-- ---- the rule

abbrev block_form : Bool → Bool → Bool → Bool
block_form flies is_open fits =
    is_none (cond (not flies) (Some Why.NoTicket) (cond (not is_open) (Some Why.WrongState) None)) && fits

module _ (c : ConfigNumbers) (past : Past) (k : CheckerState) (keeps : IsCheckerState c past k) (b : BlockLine) where
  -- its ticket isn't in flight
  pub block_missing : (after : CheckerState) → flies ((tables c past).flight b.ticket) ≡ false
      → Took c past (Entry.Block b) false after
  block_missing after e = took_not c past (Entry.Block b) after
      (none_flies (flies ((tables c past).flight b.ticket)) _ _ e)

  -- the blocks of an open unit lie in the volume
  open_within : (g : GrantLine) → find (λ x. x.ticket == b.ticket) (open_units past) ≡ Some g
      → g.range.slba + g.range.blocks ≤ c.blocks
  open_within g e = open_granted (λ x. x.range.slba + x.range.blocks ≤ c.blocks) past b.ticket g
      (units_in_volume c past keeps.legal_so_far) e

  -- and their contents are the values
  pub same_in : (g : GrantLine) → find (λ x. x.ticket == b.ticket) (open_units past) ≡ Some g
      → SameIn (contents_in k.volume) (value past) g.range
  same_in g e l low high = keeps.shows.values l (omega (arith, open_within g e, high))

  module _ (i : ℕ) (x : CheckedInFlight) (there : IsThere c past b.ticket i x) where
    flight_is : x.flight ≡ flight past b.ticket
    flight_is = ap (λ (y : CheckedInFlight). y.flight) there.is

    -- the open unit lies in the volume
    pub block_within : IfSome x.flight.unit (λ u. u.line.range.slba + u.line.range.blocks ≤ length k.volume)
    block_within = subst (λ (f : CheckedTicket).
        IfSome f.unit (λ u. u.line.range.slba + u.line.range.blocks ≤ length k.volume)) (sym flight_is)
        (go (find (λ g. g.ticket == b.ticket) (open_units past)) refl)
      where
        go : (o : Option GrantLine) → find (λ g. g.ticket == b.ticket) (open_units past) ≡ o
            → IfSome (option_map (checked_unit_of past) o)
            (λ u. u.line.range.slba + u.line.range.blocks ≤ length k.volume)
        go None e = tt
        go (Some g) e = omega (arith, open_within g e, keeps.shows.blocks)

    rule_is : block_fits_by (contents_in k.volume) x.flight b x.flight.unit ≡ judged c (tables c past) (Entry.Block b)
    rule_is =
        ap (λ (f : CheckedTicket). block_fits_by (contents_in k.volume) f b f.unit) flight_is
        ∙ go (find (λ g. g.ticket == b.ticket) (open_units past)) refl
        ∙ ap (λ q. block_form q (is_some (flight past b.ticket).unit)
        (block_fits_by (value past) (flight past b.ticket) b (flight past b.ticket).unit)) (sym there.flies)
      where
        go : (o : Option GrantLine) → find (λ g. g.ticket == b.ticket) (open_units past) ≡ o
            → block_fits_by (contents_in k.volume) (flight past b.ticket) b (option_map (checked_unit_of past) o)
            ≡ block_form true (is_some (option_map (checked_unit_of past) o))
            (block_fits_by (value past) (flight past b.ticket) b (option_map (checked_unit_of past) o))
        go None e = refl
        go (Some g) e = fits_same (contents_in k.volume) (value past) (checked_unit_of past g) (same_in g e)
            (flight past b.ticket) b

    -- it doesn't fit
    pub block_no : (after : CheckerState) → block_fits_by (contents_in k.volume) x.flight b x.flight.unit ≡ false
        → Took c past (Entry.Block b) false after
    block_no after e = took_not c past (Entry.Block b) after (sym rule_is ∙ e)

    module _ (yes : block_fits_by (contents_in k.volume) x.flight b x.flight.unit ≡ true) where
      legal_then : IsLegal c (Entry.Block b ∷ past)
      legal_then = legal_next c past k (Entry.Block b) keeps (sym rule_is ∙ yes)

      may : (g : GrantLine) × (find (λ g. g.ticket == b.ticket) (open_units past) ≡ Some g) × MayBlock past b g
      may = may_block c past b legal_then

      unit_is : x.flight.unit ≡ Some (checked_unit_of past may.0)
      unit_is = ap (λ (f : CheckedTicket). f.unit) flight_is ∙ ap (option_map (checked_unit_of past)) may.1

      works : is_some (op (Tickets.ticket past b.ticket)) ≡ true
      works =
          subst (λ t. is_some (op (Tickets.ticket past t)) ≡ true) may.2.ticket
          (open_granted (λ g. is_some (op (Tickets.ticket past g.ticket)) ≡ true) past b.ticket may.0
          (granted_op c past keeps.legal_so_far) may.1)

      -- a unit is open
      pub block_open : is_some x.flight.unit ≡ true
      block_open = ap is_some unit_is

      -- few effects and Blocks were made
      pub block_few : (x.flight.placed < 2 ^ 32) × IfSome x.flight.unit (λ u. u.made < 2 ^ 32)
      block_few = (
        subst (λ (f : CheckedTicket). f.placed < 2 ^ 32) (sym flight_is)
            (omega (
              arith,
              placed_few c past b.ticket keeps.legal_so_far,
              opened_few c past b.ticket keeps.legal_so_far keeps.accepted works,
            )),
        subst (λ (o : Option CheckedUnit). IfSome o (λ u. u.made < 2 ^ 32)) (sym unit_is) made_few,
      )
        where
          made_few : length (blocks_made past may.0.ticket may.0.unit) < 2 ^ 32
          made_few =
              let further = leb-false (steps_needed (Tickets.ticket past may.0.ticket) may.0.range.blocks)
              (length (blocks_made past may.0.ticket may.0.unit)) (or_parts _ _ may.2.unended.goes_on).0 in
              omega (
                arith,
                further,
                steps_few (is_pair (op (Tickets.ticket past may.0.ticket))) may.0.range.blocks,
                open_within may.0 may.1,
                (accepted c keeps.accepted).most_blocks,
              )

      -- one that reads answers nothing
      pub block_one : does_read (op x.flight.ticket) ≡ true → word_of b.found ≡ []
      block_one r = read_word (op (Tickets.ticket past b.ticket)) _ _ b.found
          (ap (λ (f : CheckedTicket). does_read (op f.ticket)) (sym flight_is) ∙ r) may.2.word

      module _ (d : TakenBlock) (range : IfSome x.flight.unit (λ u. d.range ≡ u.line.range))
          (written : IfSome x.flight.unit
          (λ u. d.writes ≡ (b.effect && writes (contents_in k.volume) x.flight.ticket u.line.range))) where
        range_is : d.range ≡ may.0.range
        range_is = subst (λ (o : Option CheckedUnit). IfSome o (λ u. d.range ≡ u.line.range)) unit_is range

        writes_is : d.writes ≡ (b.effect && writes (contents_in k.volume) x.flight.ticket may.0.range)
        writes_is = subst (λ (o : Option CheckedUnit).
            IfSome o (λ u. d.writes ≡ (b.effect && writes (contents_in k.volume) x.flight.ticket u.line.range))) unit_is
            written

        -- its blocks lie in the volume
        pub block_range : d.range.slba + d.range.blocks ≤ length k.volume
        block_range = subst (λ (r : Range). r.slba + r.blocks ≤ length k.volume) (sym range_is)
            (omega (arith, open_within may.0 may.1, keeps.shows.blocks))

        -- and each has its data
        pub block_whole : d.writes ≡ true → (l : ℕ) → has_block d.range l ≡ true
            → length (write_data x.flight.ticket l) ≡ 512
        block_whole w l in_it =
            let w1 : (b.effect && writes (contents_in k.volume) x.flight.ticket may.0.range) ≡ true = sym writes_is
            ∙ w in
            let w2 = (and_parts (has_write (op x.flight.ticket)) _ (and_parts b.effect _ w1).1).0 in
            let h = and_parts (nat_le may.0.range.slba l) (nat_lt l (may.0.range.slba + may.0.range.blocks))
            (ap (λ (r : Range). has_block r l) (sym range_is) ∙ in_it) in
            let lies : InTicket past may.0 =
            open_granted (InTicket past) past b.ticket may.0 (granted_lie c past keeps.legal_so_far) may.1 in
            let low = leb-true may.0.range.slba l h.0 in
            let high = ltb-true l (may.0.range.slba + may.0.range.blocks) h.1 in
            let same : Tickets.ticket past may.0.ticket ≡ x.flight.ticket = ap (Tickets.ticket past) may.2.ticket
            ∙ ap (λ (f : CheckedTicket). f.ticket) (sym flight_is) in
            subst (λ (t : Ticket). has_write (op t) ≡ true → length (write_data t l) ≡ 512) same
            (λ hw. written_length c (Tickets.ticket past may.0.ticket) l
            (ticket_checked c past may.0.ticket keeps.legal_so_far
            (subst (λ t. is_some (op (Tickets.ticket past t)) ≡ true) (sym may.2.ticket) works)) hw
            (omega (arith, lies.low, low)) (omega (arith, lies.high, high)))
            w2

        -- ---- what is kept then

        module _ (ended : IfSome x.flight.unit (λ u. d.ended ≡ ends_by x.flight b u)) (y : CheckedInFlight)
            (moved : IfSome x.flight.unit
            (λ u. y ≡ record x { flight = blocked_flight (contents_in k.volume) x.flight b u }))
            (v : List (List ℕ)) (size : length v ≡ length k.volume)
            (after : (l : ℕ) → l < length k.volume
            → contents_in v l ≡ cond d.writes (written_in (contents_in k.volume) x.flight.ticket d.range l)
            (contents_in k.volume l))
            (held : List HeldRange) (freed : held ≡ cond d.ended (held_beside k.held b.ticket) k.held) where
          ends_is : d.ended ≡ ends_by (flight past b.ticket) b (checked_unit_of past may.0)
          ends_is = subst (λ (o : Option CheckedUnit). IfSome o (λ u. d.ended ≡ ends_by x.flight b u)) unit_is ended
              ∙ ap (λ (f : CheckedTicket). ends_by f b (checked_unit_of past may.0)) flight_is

          then_is : blocked (tables c past) b (Some (checked_unit_of past may.0))
              ≡ tables_after c (tables c past) (Entry.Block b)
          then_is = ap (blocked (tables c past) b) (sym unit_is ∙ ap (λ (f : CheckedTicket). f.unit) flight_is)

          written_is : (e w h : Bool) (a z : List ℕ) → cond (e && w) (cond h a z) z ≡ cond (e && h && w) a z
          written_is true true true a z = refl
          written_is true true false a z = refl
          written_is true false true a z = refl
          written_is true false false a z = refl
          written_is false w h a z = refl

          values_are : (l : ℕ) → l < c.blocks
              → contents_in v l ≡ value_after (value past) b (flight past b.ticket).ticket may.0.range l
          values_are l below =
              after l (omega (arith, below, keeps.shows.blocks))
              ∙ (λ z. cond (writes_is z) (written_in (contents_in k.volume) x.flight.ticket (range_is z) l)
              (contents_in k.volume l))
              ∙ written_is b.effect (writes (contents_in k.volume) x.flight.ticket may.0.range)
              (has_block may.0.range l) (write_data x.flight.ticket l) (contents_in k.volume l)
              ∙ ap (λ (f : CheckedTicket). value_after (contents_in k.volume) b f.ticket may.0.range l) flight_is
              ∙ value_same (contents_in k.volume) (value past) (checked_unit_of past may.0) (same_in may.0 may.1)
              (flight past b.ticket).ticket b l (keeps.shows.values l below)

          own : y ≡ flight_in c (blocked (tables c past) b (Some (checked_unit_of past may.0))) b.ticket
          own =
              subst (λ (o : Option CheckedUnit).
              IfSome o (λ u. y ≡ record x { flight = blocked_flight (contents_in k.volume) x.flight b u })) unit_is
              moved
              ∙ ap (λ (z : CheckedInFlight). record z
              { flight = blocked_flight (contents_in k.volume) z.flight b (checked_unit_of past may.0) }) there.is
              ∙ ap (λ (f : CheckedTicket). record {
                ticket = b.ticket;
                flight = f;
                units = units c (flight past b.ticket).ticket;
              })
              (flight_same (contents_in k.volume) (value past) (checked_unit_of past may.0) (same_in may.0 may.1)
              (flight past b.ticket) b)
              ∙ ap (λ q. record {
                ticket = b.ticket;
                flight = cond q (blocked_flight (value past) (flight past b.ticket) b (checked_unit_of past may.0))
                    (flight past b.ticket);
                units =
                    units c (cond q (blocked_flight (value past) (flight past b.ticket) b (checked_unit_of past may.0))
                    (flight past b.ticket)).ticket;
              }) (sym (eq-eqb b.ticket b.ticket refl))

          others : (n : ℕ) → n ≢ b.ticket
              → flight_in c (blocked (tables c past) b (Some (checked_unit_of past may.0))) n
              ≡ flight_in c (tables c past) n
          others n ne = ap (λ q. record {
            ticket = n;
            flight = cond q (blocked_flight (value past) (flight past b.ticket) b (checked_unit_of past may.0))
                (flight past n);
            units =
                units c (cond q (blocked_flight (value past) (flight past b.ticket) b (checked_unit_of past may.0))
                (flight past n)).ticket;
          }) (ne_eqb n b.ticket ne)

          ranges_are : held ≡ by_ticket
              (map held_of (cond (ends_by (flight past b.ticket) b (checked_unit_of past may.0))
              (filter (λ g. not (g.ticket == b.ticket)) (open_units past)) (open_units past)))
          ranges_are = freed ∙ ap (λ q. cond q (held_beside k.held b.ticket) k.held) ends_is
              ∙ go (ends_by (flight past b.ticket) b (checked_unit_of past may.0))
            where
              go : (q : Bool) → cond q (held_beside k.held b.ticket) k.held
                  ≡ by_ticket (map held_of
                  (cond q (filter (λ g. not (g.ticket == b.ticket)) (open_units past)) (open_units past)))
              go false = keeps.shows.ranges
              go true =
                  ap (λ (hs : List HeldRange). held_beside hs b.ticket) keeps.shows.ranges
                  ∙ filter-by_ticket (λ h. not (h.ticket == b.ticket)) (map held_of (open_units past))
                  ∙ ap by_ticket (held_beside-map (open_units past) b.ticket)

          shown : ShowsTables c (blocked (tables c past) b (Some (checked_unit_of past may.0)))
              (record k { volume = v; flights = set k.flights i y; held = held })
          shown = record {
            blocks = size ∙ keeps.shows.blocks;
            values = values_are;
            sq_rings = keeps.shows.sq_rings;
            in_use = subst (λ cids. AreInUse c.pairs (2 * c.jobs) cids k.in_use)
                (sym (in_use_with (tables c past) b.ticket
                (blocked_flight (value past) (flight past b.ticket) b (checked_unit_of past may.0)) (λ q. refl)))
                keeps.shows.in_use;
            cq_rings = keeps.shows.cq_rings;
            in_flight =
                ap (λ (xs : List CheckedInFlight). set xs i y) keeps.shows.in_flight
                ∙ set_place (flight_in c (tables c past))
                (flight_in c (blocked (tables c past) b (Some (checked_unit_of past may.0)))) (flying past) i b.ticket y
                (flying_rises past) there.place own others;
            ranges = ranges_are;
            count = keeps.shows.count;
          }

          pub block_yes : Took c past (Entry.Block b) true
              (record k { volume = v; flights = set k.flights i y; held = held })
          block_yes = record {
            answer = sym yes ∙ rule_is;
            shows = λ _. subst (λ (s : Tables).
                ShowsTables c s (record k { volume = v; flights = set k.flights i y; held = held })) then_is shown;
          }
