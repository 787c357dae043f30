use Rattle.line_text.proofs.Known.{front_first, front_second, on_err, on_err_then}
use Rattle.picture_svg.proofs.web_page.send_opening.Goals as goal

pub returns-in_err-send-clause-front : goal.returns-in_err-send-clause-front
returns-in_err-send-clause-front g c = on_err _ (front_first _ _ _ _ c.in_err-send.ensures.front)

pub returns-clause-front : goal.returns-clause-front
returns-clause-front g c =
    on_err_then _ (λ f. front_second _ _ _ _ _ c.in_ok-send.ensures.whole f) c.send_line.ensures.front
