use Rattle.std.proofs.Common.{subst, sym}
use Rattle.controller_interface.specs.State.{ControllerState}
use Rattle.step_core.proofs.Fetched.{IsFetched}
use Rattle.step_core.proofs.controller.Core.take_room.Goals as goal

pub fetch_room-room-requires : goal.fetch_room-room-requires
fetch_room-room-requires c =
    let holds = λ (x : ControllerState). IsFetched x.config x.past c.args.queue c.args.front.now in
    record { fetched = subst holds (sym c.self.view_is) c.requires.fetched }
