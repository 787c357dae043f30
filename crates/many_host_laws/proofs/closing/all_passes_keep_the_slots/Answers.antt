use Rattle.many_host_laws.proofs.Rostering.{race_keeps}
use Rattle.many_host_laws.proofs.closing.all_passes_keep_the_slots.Goals as goal

pub returns : goal.returns
returns c = race_keeps
