use Rattle.std.proofs.Common.{ap, subst, sym, ◌∙◌}
use Rattle.std.proofs.lemmas.Bool.{not_from_false}
use Rattle.range_reserve.specs.Sorted.{HasPut, IsRisingBy, living, place_by}
use Rattle.range_reserve.specs.declared.held.HeldRange.{HeldRange}
use Rattle.range_reserve.proofs.Orders.{insert_in_place}
use Rattle.range_reserve.proofs.Putting.{swept_free, swept_put, swept_rises}
use Rattle.range_reserve.proofs.living.put_by_ticket.Goals as goal

pub ticket_place-place-requires : goal.ticket_place-place-requires
ticket_place-place-requires c = record {
  rising = subst (IsRisingBy (λ (h : HeldRange). h.ticket)) (sym c.as_slice.ensures.value)
      (swept_rises _ _ c.sweep.ensures.either (λ h. h.ticket) c.requires.rising);
}

put : (c : goal.After-put_at) → HasPut (λ h. h.ticket) c.args.held c.args.list.now.items c.put_at.new.list.items
put c =
    let old = c.args.list.now.items in
    let mid = c.sweep.new.list.items in
    swept_put old mid c.sweep.ensures.either (λ h. h.ticket) c.args.held c.put_at.new.list.items
    (c.put_at.ensures.put (λ h. h.ticket) (swept_rises old mid c.sweep.ensures.either (λ h. h.ticket) c.requires.rising)
    (swept_free old mid c.sweep.ensures.either (λ h. h.ticket) c.args.held.ticket (not_from_false _ c.requires.free))
    (c.ticket_place-place.ensures.place
    ∙ ap (place_by (λ (h : HeldRange). h.ticket) c.args.held.ticket) c.as_slice.ensures.value))

pub returns-clause-rising : goal.returns-clause-rising
returns-clause-rising c = (put c).rising

pub returns-clause-living : goal.returns-clause-living
returns-clause-living c = (put c).added
    ∙ insert_in_place c.args.held (living c.args.list.now.items) c.requires.free
