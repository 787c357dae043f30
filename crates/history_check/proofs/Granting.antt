-- What a Grant finds, and what is kept after it.
use Rattle.std.proofs.Common.{◌≡◌, ◌≢◌, ℕ, zero, suc, ◌*◌, ◌<◌, ◌^◌, ◌==◌, ◌&&◌, ◌||◌, Bool, true, false, not, cond}
use Rattle.std.proofs.Common.{List, [], ◌∷◌, length, map, set, slice_get, Option, Some, None, is_none, is_some, nat_le}
use Rattle.std.proofs.Common.{refl, sym, ap, ◌∙◌, subst, arith, ne_eqb, eq-eqb}
use Rattle.std.specs.Bool.{beq}
use Rattle.std.proofs.lemmas.Bool.Decides.{nat_tests}
use Rattle.history_check.specs.Judged.{conflicts_by, flies, judged}
use Rattle.rings.specs.Used.{AreInUse}
use Rattle.history_check.specs.Tables.{CheckedTicket, Tables, flight, tables}
use Rattle.history_check.specs.Taken.{opened_flight, tables_after}
use Rattle.nvme_model.specs.History.{Past}
use Rattle.nvme_model.specs.Legal.{IsLegal, is_range}
use Rattle.nvme_model.specs.Open.{conflict, open_units}
use Rattle.nvme_model.specs.Operations
use Rattle.nvme_model.specs.Operations.{is_exclusive, mode, units}
use Rattle.nvme_model.specs.Refusals.{conflicts_open}
use Rattle.nvme_model.specs.Tickets.{ticket}
use Rattle.nvme_model.specs.declared.array.Mode.{Mode}
use Rattle.nvme_model.specs.declared.array.Range.{Range}
use Rattle.nvme_model.specs.declared.config.ConfigNumbers.{ConfigNumbers}
use Rattle.nvme_model.specs.declared.entry.Entry.{Entry}
use Rattle.nvme_model.specs.declared.entry.GrantLine.{GrantLine}
use Rattle.nvme_model.specs.declared.refusal.Why.{Why}
use Rattle.nvme_model.proofs.Rules.{MayGrant, may_grant}
use Rattle.range_reserve.specs.Reserved.{by_ticket, has_conflict, holds_range, held_of, insert_held}
use Rattle.nvme_model.specs.Array.{IsRange}
use Rattle.range_reserve.specs.declared.held.HeldRange.{HeldRange}
use Rattle.range_reserve.proofs.Granted.{has_conflict-map, holds_range-map}
use Rattle.range_reserve.proofs.Rising.{list_any-by_ticket}
use Rattle.ticket_laws.specs.Standing.{flying}
use Rattle.ticket_laws.proofs.Flying.{flying_rises}
use Rattle.history_check.specs.Kept.{IsCheckerState, CheckerState, flight_in}
use Rattle.history_check.specs.Steps.{Took, grant_by}
use Rattle.history_check.specs.declared.fields.CheckedInFlight.{CheckedInFlight}
use Rattle.history_check.proofs.Bounds.{has_op, opened_few, unit_range_is}
use Rattle.history_check.proofs.Flights.{IsThere, set_place}
use Rattle.history_check.proofs.InUse.{in_use_with}
use Rattle.history_check.proofs.Following.{legal_next, none_flies, took_not}

-- ---- the rule

abbrev grant_form : Bool → Bool → Bool → Bool → Bool → Bool → Bool
grant_form flies least differs begun conflicts fits =
    is_none (cond (not flies) (Some Why.NoTicket)
    (cond ((least || differs) || begun) (Some Why.WrongState) (cond conflicts (Some Why.Conflict) None))) && fits

one_left : (d p k f : Bool) → (not (d || p) && not k && f) ≡ grant_form true false d p k f
one_left true p k f = refl
one_left false true k f = refl
one_left false false true f = refl
one_left false false false f = refl

pub none_at : {X : Type 0} (xs : List X) (n : ℕ) → slice_get xs n ≡ None → nat_le (length xs) n ≡ true
none_at [] n e = grind (arith, nat_tests)
none_at (x ∷ xs) zero e = absurd (let f : Some x ≡ None = e in cc)
none_at (x ∷ xs) (suc n) e = let ih : nat_le (length xs) n ≡ true = none_at xs n e in grind (arith, nat_tests, ih)

pub some_at : {X : Type 0} (xs : List X) (n : ℕ) (x : X) → slice_get xs n ≡ Some x → nat_le (length xs) n ≡ false
some_at [] n x e = absurd (let f : None ≡ Some x = e in cc)
some_at (y ∷ xs) zero x e = grind (arith, nat_tests)
some_at (y ∷ xs) (suc n) x e = let ih : nat_le (length xs) n ≡ false = some_at xs n x e in grind (arith, nat_tests, ih)

pub conflicts_is : (s : Tables) (held : List HeldRange) (r : Range) (m : Mode) → held ≡ by_ticket (map held_of s.opens)
    → has_conflict held r m ≡ conflicts_by s m (Some r)
conflicts_is s held r m e =
    ap (λ (hs : List HeldRange). has_conflict hs r m) e
    ∙ list_any-by_ticket (λ h. conflict r m h.range h.mode) (map held_of s.opens) ∙ has_conflict-map s.opens r m

grant_is : (c : ConfigNumbers) (s : Tables) (g : GrantLine) (held : List HeldRange)
    → held ≡ by_ticket (map held_of s.opens)
    → flies (s.flight g.ticket) ≡ true
    → grant_by (s.flight g.ticket) (slice_get (units c (s.flight g.ticket).ticket) (s.flight g.ticket).opened) held g
    ≡ judged c s (Entry.Grant g)
grant_is c s g held e t = go (slice_get (units c f.ticket) f.opened) refl
    ∙ ap (λ b. grant_form b (nat_le (length (units c f.ticket)) f.opened) f.differs (is_some f.unit)
    (conflicts_by s (mode f.ticket) (slice_get (units c f.ticket) f.opened))
    (fits (slice_get (units c f.ticket) f.opened))) (sym t)
  where
    f : CheckedTicket
    f = s.flight g.ticket

    fits : Option Range → Bool
    fits o = (g.unit == (s.flight g.ticket).opened) && is_range o g.range
        && beq (is_exclusive g.mode) (is_exclusive (mode (s.flight g.ticket).ticket))

    go : (o : Option Range) → slice_get (units c (s.flight g.ticket).ticket) (s.flight g.ticket).opened ≡ o
        → grant_by (s.flight g.ticket) o held g
        ≡ grant_form true (nat_le (length (units c (s.flight g.ticket).ticket)) (s.flight g.ticket).opened)
        (s.flight g.ticket).differs (is_some (s.flight g.ticket).unit)
        (conflicts_by s (mode (s.flight g.ticket).ticket) o) (fits o)
    go None q = ap (λ b. grant_form true b (s.flight g.ticket).differs (is_some (s.flight g.ticket).unit) false
        (fits None)) (sym (none_at (units c (s.flight g.ticket).ticket) (s.flight g.ticket).opened q))
    go (Some r) q =
        ap (λ b. not ((s.flight g.ticket).differs || is_some (s.flight g.ticket).unit) && not b && fits (Some r))
        (conflicts_is s held r (mode (s.flight g.ticket).ticket) e)
        ∙ one_left (s.flight g.ticket).differs (is_some (s.flight g.ticket).unit)
        (conflicts_by s (mode (s.flight g.ticket).ticket) (Some r)) (fits (Some r))
        ∙ ap (λ b. grant_form true b (s.flight g.ticket).differs (is_some (s.flight g.ticket).unit)
        (conflicts_by s (mode (s.flight g.ticket).ticket) (Some r)) (fits (Some r)))
        (sym (some_at (units c (s.flight g.ticket).ticket) (s.flight g.ticket).opened r q))

-- the mode that the rule asks for
same_mode : (m n : Mode) → is_exclusive m ≡ is_exclusive n → m ≡ n
same_mode Mode.Exclusive Mode.Exclusive e = refl
same_mode Mode.Shared Mode.Shared e = refl
same_mode Mode.Exclusive Mode.Shared e = absurd (let f : true ≡ false = e in cc)
same_mode Mode.Shared Mode.Exclusive e = absurd (let f : false ≡ true = e in cc)

module _ (c : ConfigNumbers) (past : Past) (k : CheckerState) (keeps : IsCheckerState c past k) (g : GrantLine) where
  -- its ticket isn't in flight
  pub grant_missing : (after : CheckerState) → flies ((tables c past).flight g.ticket) ≡ false
      → Took c past (Entry.Grant g) false after
  grant_missing after e = took_not c past (Entry.Grant g) after
      (none_flies (flies ((tables c past).flight g.ticket)) _ _ e)

  module _ (i : ℕ) (x : CheckedInFlight) (there : IsThere c past g.ticket i x) (b : Bool)
      (said : b ≡ grant_by x.flight (slice_get x.units x.flight.opened) k.held g) where
    rule_is : b ≡ judged c (tables c past) (Entry.Grant g)
    rule_is =
        said ∙ ap (λ (y : CheckedInFlight). grant_by y.flight (slice_get y.units y.flight.opened) k.held g) there.is
        ∙ grant_is c (tables c past) g k.held keeps.shows.ranges there.flies

    -- it doesn't fit
    pub grant_no : (after : CheckerState) → b ≡ false → Took c past (Entry.Grant g) false after
    grant_no after e = took_not c past (Entry.Grant g) after (sym rule_is ∙ e)

    module _ (yes : b ≡ true) where
      legal_then : IsLegal c (Entry.Grant g ∷ past)
      legal_then = legal_next c past k (Entry.Grant g) keeps (sym rule_is ∙ yes)

      may : MayGrant c past g
      may = may_grant c past g legal_then

      works : is_some (Operations.op (ticket past g.ticket)) ≡ true
      works = has_op c past g.ticket _ g.range may.range

      -- its ticket holds no range
      pub grant_free : holds_range k.held g.ticket ≡ false
      grant_free =
          ap (λ (hs : List HeldRange). holds_range hs g.ticket) keeps.shows.ranges
          ∙ list_any-by_ticket (λ h. h.ticket == g.ticket) (map held_of (open_units past))
          ∙ holds_range-map (open_units past) g.ticket ∙ may.closed

      -- it is a range of blocks
      pub grant_range : IsRange g.range
      grant_range = unit_range_is c past g.ticket keeps.legal_so_far keeps.accepted works _ g.range may.range

      -- which conflicts with none that is held
      pub grant_apart : has_conflict k.held g.range g.mode ≡ false
      grant_apart =
          ap (λ m. has_conflict k.held g.range m) (same_mode g.mode (mode (ticket past g.ticket)) may.same_mode)
          ∙ conflicts_is (tables c past) k.held g.range (mode (ticket past g.ticket)) keeps.shows.ranges
          ∙ ap (conflicts_open past (mode (ticket past g.ticket))) (sym may.range) ∙ may.apart

      -- few units were opened
      pub grant_few : x.flight.opened < 2 ^ 32
      grant_few = subst (λ (y : CheckedInFlight). y.flight.opened < 2 ^ 32) (sym there.is)
          (omega (arith, opened_few c past g.ticket keeps.legal_so_far keeps.accepted works))

      -- what is kept then
      pub grant_yes : (y : CheckedInFlight) (held : List HeldRange) → y ≡ record x { flight = opened_flight x.flight g }
          → held ≡ insert_held (held_of g) k.held
          → Took c past (Entry.Grant g) true (record k { flights = set k.flights i y; held = held })
      grant_yes y held is_y is_held = record {
        answer = sym yes ∙ rule_is;
        shows = λ _. record {
          blocks = keeps.shows.blocks;
          values = keeps.shows.values;
          sq_rings = keeps.shows.sq_rings;
          in_use = subst (λ cids. AreInUse c.pairs (2 * c.jobs) cids k.in_use)
              (sym (in_use_with (tables c past) g.ticket (opened_flight (flight past g.ticket) g) (λ q. refl)))
              keeps.shows.in_use;
          cq_rings = keeps.shows.cq_rings;
          in_flight =
              ap (λ (xs : List CheckedInFlight). set xs i y) keeps.shows.in_flight
              ∙ set_place (flight_in c (tables c past)) (flight_in c (tables_after c (tables c past) (Entry.Grant g)))
              (flying past) i g.ticket y (flying_rises past) there.place own others;
          ranges = is_held ∙ ap (insert_held (held_of g)) keeps.shows.ranges;
          count = keeps.shows.count;
        };
      }
        where
          own : y ≡ flight_in c (tables_after c (tables c past) (Entry.Grant g)) g.ticket
          own =
              is_y ∙ ap (λ (z : CheckedInFlight). record z { flight = opened_flight z.flight g }) there.is
              ∙ ap (λ q. record {
                ticket = g.ticket;
                flight = cond q (opened_flight (flight past g.ticket) g) (flight past g.ticket);
                units = units c (cond q (opened_flight (flight past g.ticket) g) (flight past g.ticket)).ticket;
              })
              (sym (eq-eqb g.ticket g.ticket refl))

          others : (u : ℕ) → u ≢ g.ticket
              → flight_in c (tables_after c (tables c past) (Entry.Grant g)) u ≡ flight_in c (tables c past) u
          others u ne = ap (λ q. record {
            ticket = u;
            flight = cond q (opened_flight (flight past g.ticket) g) (flight past u);
            units = units c (cond q (opened_flight (flight past g.ticket) g) (flight past u)).ticket;
          })
              (ne_eqb u g.ticket ne)
