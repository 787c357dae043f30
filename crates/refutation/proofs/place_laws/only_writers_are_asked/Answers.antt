use Rattle.refutation.proofs.Writers.{covered_by_writers, none_by_writers}
use Rattle.refutation.proofs.place_laws.only_writers_are_asked.Goals as goal

pub returns : goal.returns
returns c = record {
  covered = covered_by_writers;
  none = none_by_writers;
}
