use Rattle.host_laws.proofs.Sharing.{disciplined_behind, disciplined_by_all, disciplined_later, passes-disciplined}
use Rattle.host_laws.proofs.Sharing.{passes_earlier}
use Rattle.host_laws.proofs.slot_laws.each_pass_keeps_the_discipline.Goals as goal

pub returns : goal.returns
returns c = record {
  whole = disciplined_by_all;
  parts = λ n slots picks shared d. passes-disciplined n slots picks shared d;
  earlier = passes_earlier;
  later = disciplined_later;
  own = disciplined_behind;
}
