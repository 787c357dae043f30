use Rattle.file_commands.proofs.Found.{explained}
use Rattle.file_commands.proofs.explaining.explain_slots.Goals as goal

pub returns : goal.returns
returns g c =
    let whole = c.in_ok-found.ensures.whole in
    rw c.explained_by.ensures.value
    (record { explains = (c.in_ok-found.ensures.slots, whole.0, explained c.args.slots c.in_ok-found.found _ whole.1) })
