use Rattle.std.proofs.Common.{refl}
use Rattle.std.proofs.lemmas.Bool.{and_from, and_parts}
use Rattle.host_laws.specs.Claims.{lba_of}
use Rattle.host_laws.proofs.Discipline.{area_has}
use Rattle.host_laws.specs.Rules.{takeover_line}
use Rattle.host_laws.proofs.TakeoverDiscipline.{kept_earlier}
use Rattle.host_laws.proofs.TakeoverPublishing.{claim_keeps, outside_keeps, release_keeps, takeover_keeps}
use Rattle.host_laws.proofs.rule_laws.the_takeover_discipline_is_kept.Goals as goal

pub returns : goal.returns
returns c = record {
  claim = λ n slots past q a b name k v f u.
      claim_keeps n slots past q a b name k.pair k.old k.new (area_has slots (lba_of a) v) f u;
  release = λ n slots past q a b name k v y o u.
      release_keeps n slots past q a b name k.pair k.old k.new (area_has slots (lba_of a) v) y o u;
  takeover = λ n slots past q a b dead name k v f t u.
      takeover_keeps n slots past q a b (takeover_line past q a dead name) refl k.pair k.old k.new k.apart
      (area_has slots (lba_of a) v) f t u;
  outside = outside_keeps;
  fold = λ n slots past p. (λ h. and_parts _ _ h, λ h. and_from _ _ h.0 h.1);
  earlier = kept_earlier;
}
