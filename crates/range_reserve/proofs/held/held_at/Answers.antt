use Rattle.std.proofs.Common.{None, Some, ap, eq-eqb, get_or, length, ne_eqb, slice_get, sym, ◌<◌}
use Rattle.std.proofs.Common.{◌≡◌, ◌==◌, ◌∙◌, ◌&&◌, List, false, ℕ}
use Rattle.std.proofs.lemmas.Bool.{and_from, and_left, and_right, cond-false, cond-true}
use Rattle.std.proofs.lemmas.Option.{slice_get-get_or, slice_get_past}
use Rattle.range_reserve.specs.Sorted.{is_living}
use Rattle.range_reserve.specs.declared.held.HeldRange.{HeldRange}
use Rattle.range_reserve.proofs.Orders.{found_at, kept_if}
use Rattle.range_reserve.proofs.held.held_at.Goals as goal
use Rattle.range_reserve.proofs.held.held_at.Goals.{else-one-ticket-via-then-one-ticket+else-is_living}
use Rattle.range_reserve.proofs.held.held_at.Goals.{else-one-ticket-via-else-one-ticket}

-- what a test of what is there finds
kept_there : (t : ℕ) (xs : List HeldRange) (i : ℕ) (one : HeldRange) → i < length xs → one ≡ get_or xs i one
    → kept_if t (slice_get xs i) ≡ kept_if t (Some one)
kept_there t xs i one l e =
    ap (kept_if t) (slice_get-get_or xs i one l ∙ ap (λ (y : HeldRange). Some y) (sym e))

none_kept : (t : ℕ) (one : HeldRange) → ((one.ticket == t) && is_living one) ≡ false → kept_if t (Some one) ≡ None
none_kept t one e = cond-false ((one.ticket == t) && is_living one) (Some one) None e

pub returns-in_err-one : goal.returns-in_err-one
returns-in_err-one c = record {
  value = c.from_residual.ensures
      ∙ sym (found_at c.args.ticket c.args.held.now c.args.place c.requires.rising c.requires.place
      ∙ ap (kept_if c.args.ticket) (slice_get_past c.args.held.now c.args.place c.in_err-one.ensures.lookup.3));
}

pub returns-then-is_living : goal.returns-then-is_living
returns-then-is_living c =
    let one = c.in_ok-one.field-0.now in
    let there = c.in_ok-one.ensures.lookup in record {
      value = sym (found_at c.args.ticket c.args.held.now c.args.place c.requires.rising c.requires.place
          ∙ kept_there c.args.ticket c.args.held.now c.args.place one there.3.0 there.1
          ∙ cond-true ((one.ticket == c.args.ticket) && is_living one) (Some one) None
          (and_from _ _ (eq-eqb one.ticket c.args.ticket c.if-one-ticket.true)
          (sym c.is_living.ensures.value ∙ c.if-is_living.true)));
    }

pub returns-else-one-ticket : goal.returns-else-one-ticket
returns-else-one-ticket c =
    let one = c.in_ok-one.field-0.now in
    let there = c.in_ok-one.ensures.lookup in
    let found = found_at c.args.ticket c.args.held.now c.args.place c.requires.rising c.requires.place
    ∙ kept_there c.args.ticket c.args.held.now c.args.place one there.3.0 there.1 in
    elim c.else-one-ticket.branch [
      | else-one-ticket-via-then-one-ticket+else-is_living w ↦ record {
        value = sym (found ∙ none_kept c.args.ticket one
            (and_right (one.ticket == c.args.ticket) (is_living one)
            (sym w.is_living.ensures.value ∙ w.if-is_living.false)));
      }
      | else-one-ticket-via-else-one-ticket w ↦ record {
        value = sym (found ∙ none_kept c.args.ticket one
            (and_left (one.ticket == c.args.ticket) (is_living one)
            (ne_eqb one.ticket c.args.ticket w.if-one-ticket.false)));
      }
    ]
