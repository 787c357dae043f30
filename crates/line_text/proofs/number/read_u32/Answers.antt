use Rattle.std.proofs.Common.{sym, ◌∙◌, arith}
use Rattle.line_text.proofs.NumberLaws.{number_narrowed, number_nowhere}
use Rattle.line_text.proofs.number.read_u32.Goals as goal

pub returns-in_err-n-clause-value : goal.returns-in_err-n-clause-value
returns-in_err-n-clause-value c = c.from_residual.ensures
    ∙ sym (number_nowhere 32 _ (omega arith) (sym c.in_err-n.ensures.value))

pub returns-clause-value : goal.returns-clause-value
returns-clause-value c = c.ok.ensures.value
    ∙ number_narrowed 32 c.in_ok-n.n _ c.try_from.result (omega arith) c.in_ok-n.ensures.value c.try_from.ensures
