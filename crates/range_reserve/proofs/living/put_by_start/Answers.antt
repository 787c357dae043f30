use Rattle.std.proofs.Common.{ap, subst, sym, ◌∙◌}
use Rattle.range_reserve.specs.Sorted.{IsRisingBy, held_key, place_by}
use Rattle.range_reserve.proofs.Putting.{swept_all, swept_free, swept_put, swept_rises}
use Rattle.range_reserve.proofs.living.put_by_start.Goals as goal

pub start_place-place-requires : goal.start_place-place-requires
start_place-place-requires c = record {
  rising = subst (IsRisingBy held_key) (sym c.as_slice.ensures.value)
      (swept_rises _ _ c.sweep.ensures.either held_key c.requires.rising);
}

pub returns-clause-put : goal.returns-clause-put
returns-clause-put c =
    let old = c.args.list.now.items in
    let mid = c.sweep.new.list.items in
    swept_put old mid c.sweep.ensures.either held_key c.args.held c.put_at.new.list.items
    (c.put_at.ensures.put held_key (swept_rises old mid c.sweep.ensures.either held_key c.requires.rising)
    (swept_free old mid c.sweep.ensures.either held_key (held_key c.args.held) c.requires.free)
    (c.start_place-place.ensures.place
    ∙ ap (place_by held_key (held_key c.args.held)) c.as_slice.ensures.value))

pub returns-clause-each : goal.returns-clause-each
returns-clause-each c = λ p a e.
    c.put_at.ensures.each p (swept_all c.args.list.now.items c.sweep.new.list.items c.sweep.ensures.either p a) e
