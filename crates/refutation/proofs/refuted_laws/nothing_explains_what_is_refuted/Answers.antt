use Rattle.refutation.proofs.Refuted.{none_refuted}
use Rattle.refutation.proofs.refuted_laws.nothing_explains_what_is_refuted.Goals as goal

pub returns : goal.returns
returns c = none_refuted
