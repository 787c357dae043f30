use Rattle.std.proofs.Common.{sym, ◌∙◌}
use Rattle.race_hosts.proofs.Going.{none_begun}
use Rattle.race_hosts.proofs.owned.host_of.Goals as goal

pub returns-in-Ok-new-clause-none : goal.returns-in-Ok-new-clause-none
returns-in-Ok-new-clause-none g c =
    let port = c.in-Ok-new.ensures.port in
    none_begun c.in-Ok-new.driver (port.0 ∙ sym port.1)
