use Rattle.std.proofs.lemmas.Bool.{and_from, and_parts}
use Rattle.nvme_model.specs.Slots.{disciplined, keeps_discipline}
use Rattle.host_laws.proofs.Discipline.{area_has, kept_earlier}
use Rattle.host_laws.proofs.OwnPublishes.{won_releases}
use Rattle.host_laws.proofs.Publishing.{outside_keeps, claim_keeps, release_keeps}
use Rattle.host_laws.proofs.slot_laws.the_discipline_is_kept.Goals as goal

pub returns : goal.returns
returns c = record {
  fold = λ n slots past p. (
    λ h. and_parts (disciplined n slots past) (keeps_discipline n slots past p) h,
    λ h. and_from (disciplined n slots past) (keeps_discipline n slots past p) h.0 h.1,
  );
  claim = λ n slots past q a b name x i f.
      claim_keeps n slots past q a b name x.pair x.old x.new (area_has slots _ i) f;
  release = λ n slots past q a b name x i k o.
      release_keeps n slots past q a b name x.pair x.old x.new (area_has slots _ i) k o;
  won = λ n slots past q a b k d v w u e x l. won_releases n slots past q a b k d v w u e x.pair l x.old x.new;
  outside = outside_keeps;
  earlier = kept_earlier;
}
