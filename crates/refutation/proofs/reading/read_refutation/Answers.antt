use Rattle.std.proofs.Common.{List, ap, subst, sym, ℕ, ◌∙◌, ◌≡◌}
use Rattle.std.specs.Prelude.{Err, IfOk, Ok, Result}
use Rattle.refutation.specs.Reads.{GivesRefutation}
use Rattle.refutation.specs.Refutations.{Refutation}
use Rattle.refutation.specs.Texts.{refutation_in, refutation_text}
use Rattle.refutation.specs.declared.fault.RefutationFault.{RefutationFault}
use Rattle.refutation.proofs.TextAgain.{read_back}
use Rattle.refutation.proofs.TextRead.{written_back}
use Rattle.refutation.proofs.reading.read_refutation.Goals as goal

found : (text : List ℕ) (o : Result Refutation RefutationFault) → GivesRefutation o (refutation_in text)
    → IfOk o (λ r. text ≡ refutation_text r)
found text (Ok r) h = sym (written_back text r h)
found text (Err f) h = tt

pub returns-clause-found : goal.returns-clause-found
returns-clause-found c = found c.args.text.now c.read_text.result c.read_text.ensures

pub returns-clause-only : goal.returns-clause-only
returns-clause-only c = λ r is same.
    subst (GivesRefutation c.read_text.result) (ap refutation_in same ∙ read_back r is) c.read_text.ensures
