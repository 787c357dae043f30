use Rattle.std.proofs.Common.{sym}
use Rattle.vandrexu_c.proofs.Ready.{is_of_ticket, no_step}
use Rattle.vandrexu_c.proofs.steps.vandrexu_controller_ready.Goals as goal

pub unreachable-requires : goal.unreachable-requires
unreachable-requires c =
    no_step c.in-Some-found.next (is_of_ticket c.behind-owned.inside.core.config c.behind-owned.inside.core.past _
    (sym c.in-Some-found.ensures.value)) (sym c.in-None.ensures)
