use Rattle.slot_alloc.proofs.Drawn.{drawn_fresh, drawn_on, drawn_released, drawn_ruled}
use Rattle.slot_alloc.proofs.laws.what_was_released_was_drawn.Goals as goal

pub returns : goal.returns
returns g c =
    let d = c.args.old.now.value in
    let e = c.args.new.now in
    record {
      fresh = λ none. drawn_fresh g.P.Port e none;
      ruled = λ rules. drawn_ruled g.P.Port e rules;
      stays = λ x h. drawn_on g.P.Port d e x h;
      released = λ l serial x within h. drawn_released g.P.Port d e l serial x within h;
    }
