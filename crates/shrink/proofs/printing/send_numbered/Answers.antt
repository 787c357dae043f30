use Rattle.line_text.proofs.Known.{front_first, front_second, on_err, on_err_then}
use Rattle.shrink.proofs.printing.send_numbered.Goals as goal

pub returns-in_err-send_words-clause-front : goal.returns-in_err-send_words-clause-front
returns-in_err-send_words-clause-front g c =
    let x = c.in_err-send_words.ensures.front in on_err c.from_residual.result (front_first _ _ _ _ x)

pub returns-clause-front : goal.returns-clause-front
returns-clause-front g c =
    let first = c.in_ok-send_words.ensures.whole in
    on_err_then c.send.result (λ h. front_second _ _ _ _ _ first h) c.send.ensures.front
