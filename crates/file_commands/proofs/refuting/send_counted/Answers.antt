use Rattle.line_text.proofs.Known.{front_first, front_second, on_err, on_err_then}
use Rattle.file_commands.proofs.refuting.send_counted.Goals as goal

pub returns-in_err-send_words-clause-front : goal.returns-in_err-send_words-clause-front
returns-in_err-send_words-clause-front g c = on_err _ (front_first _ _ _ _ c.in_err-send_words.ensures.front)

pub returns-clause-front : goal.returns-clause-front
returns-clause-front g c =
    on_err_then _ (λ f. front_second _ _ _ _ _ c.in_ok-send_words.ensures.whole f) c.send.ensures.front
