use Rattle.std.proofs.Common.{◌∙◌}
use Rattle.refutation_check.proofs.SlicePieces.{same_piece}
use Rattle.refutation_check.proofs.pieces.piece_of.Goals as goal

pub returns : goal.returns
returns c = record {
  value = λ k.
      same_piece c.new.result _ (c.new.ensures.sure ∙ c.in_ok-sure.ensures.value k.answers)
      (c.new.ensures.behind ∙ c.in_ok-behind.ensures.value k) (c.new.ensures.finds ∙ c.in_ok-finds.ensures.value k)
      (c.new.ensures.differs ∙ c.in_ok-differs.ensures.value k) (c.new.ensures.writes ∙ c.in_ok-writes.ensures.value k);
}
