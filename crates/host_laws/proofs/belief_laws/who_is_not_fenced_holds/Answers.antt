use Rattle.host_laws.proofs.Discipline.{area_has}
use Rattle.host_laws.proofs.TakeoverBeliefs.{believed_holds, one_believed}
use Rattle.host_laws.proofs.Fencing.{unfenced_believed}
use Rattle.host_laws.proofs.belief_laws.who_is_not_fenced_holds.Goals as goal

pub returns : goal.returns
returns c = record {
  believed = unfenced_believed;
  holds = λ n slots past q l name h d a k g u. believed_holds n slots past l name h d (area_has slots l a)
      (unfenced_believed n slots past q l name a k g u);
  one = λ n slots past q r l name other h d a k g u x y z.
      one_believed n slots past l name other h d (area_has slots l a)
      (unfenced_believed n slots past q l name a k g u) (unfenced_believed n slots past r l other a x y z);
}
