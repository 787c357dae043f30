use Rattle.broken_rules.proofs.Exactly.{exactly}
use Rattle.broken_rules.proofs.laws.nothing_is_broken_exactly_where_legal.Goals as goal

pub returns : goal.returns
returns c = exactly
