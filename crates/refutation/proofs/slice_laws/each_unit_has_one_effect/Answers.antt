use Rattle.refutation.proofs.NamedEffects.{behind, by_later, none_before, none_unpublished}
use Rattle.refutation.proofs.slice_laws.each_unit_has_one_effect.Goals as goal

pub returns : goal.returns
returns c = record {
  once = none_before;
  stays = by_later;
  published = none_unpublished;
  behind = behind;
}
