use Rattle.std.proofs.Common.{◌∷◌, []}
use Rattle.line_text.proofs.Known.{front_first, front_second, on_err, on_err_then}
use Rattle.script_lines.proofs.writing.send_plus.Goals as goal

pub returns-in_err-send-clause-front : goal.returns-in_err-send-clause-front
returns-in_err-send-clause-front g c =
    let x = c.in_err-send.ensures.front in on_err c.from_residual.result (front_first _ _ (32 ∷ 43 ∷ []) _ x)

pub returns-clause-front : goal.returns-clause-front
returns-clause-front g c =
    let first = c.in_ok-send.ensures.whole in
    on_err_then c.send_entry.result (λ h. front_second _ _ _ (32 ∷ 43 ∷ []) _ first h) c.send_entry.ensures.front
