use Rattle.vandrexu_c.proofs.OwnEntries.{own_told}
use Rattle.vandrexu_c.proofs.replays.line_replayed.Goals as goal

pub returns-clause-own : goal.returns-clause-own
returns-clause-own c e = own_told _ _ _ _ e c.replayed.ensures.replays
