use Rattle.host_laws.proofs.Discipline.{area_has}
use Rattle.host_laws.proofs.TakeoverBeliefs.{believed_holds, one_believed}
use Rattle.host_laws.proofs.belief_laws.who_is_still_believed_holds.Goals as goal

pub returns : goal.returns
returns c = record {
  holds = λ n slots past l name h d a. believed_holds n slots past l name h d (area_has slots l a);
  one = λ n slots past l name other h d a. one_believed n slots past l name other h d (area_has slots l a);
}
