use Rattle.line_text.proofs.Known.{front_first, front_second, on_err, on_err_then}
use Rattle.script_lines.proofs.writing.send_parts.Goals as goal

pub returns-in_err-send_words-clause-front : goal.returns-in_err-send_words-clause-front
returns-in_err-send_words-clause-front g c =
    let sent = rw c.from.ensures at c.in_err-send_words.ensures.front in
    on_err c.from_residual.result (front_first _ _ _ _ sent)

pub returns-clause-front : goal.returns-clause-front
returns-clause-front g c =
    let first = rw c.from.ensures at c.in_ok-send_words.ensures.whole in
    on_err_then c.send_entries.result (λ h. front_second _ _ _ _ _ first h) c.send_entries.ensures.front
