use Rattle.std.proofs.Common.{[], ◌∷◌}
use Rattle.line_text.proofs.Known.{front_first, front_second, on_err, on_err_then}
use Rattle.refutation.proofs.writing.write_line.Goals as goal

pub returns-in_err-send_words-clause-front : goal.returns-in_err-send_words-clause-front
returns-in_err-send_words-clause-front g c =
    on_err c.from_residual.result (front_first _ _ _ (10 ∷ []) c.in_err-send_words.ensures.front)

pub returns-clause-front : goal.returns-clause-front
returns-clause-front g c =
    on_err_then c.send.result (front_second _ _ _ _ _ c.in_ok-send_words.ensures.whole) c.send.ensures.front
