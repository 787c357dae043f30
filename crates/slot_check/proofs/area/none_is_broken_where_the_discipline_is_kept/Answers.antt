use Rattle.host_laws.proofs.Without.{disciplined_as_before}
use Rattle.slot_check.proofs.Discipline.{folds, none_broken_at, none_broken_without}
use Rattle.slot_check.proofs.area.none_is_broken_where_the_discipline_is_kept.Goals as goal

pub returns : goal.returns
returns c = record {
  none = none_broken_at;
  fold = folds;
  without = none_broken_without;
  as_before = disciplined_as_before;
}
