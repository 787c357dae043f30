use Rattle.line_text.proofs.Known.{on_err, on_err_then}
use Rattle.casdisk_texts.proofs.Printed.{shown_begun, shown_cut}
use Rattle.casdisk_texts.proofs.printing.print_refusal.Goals as goal

pub returns-in_err-send_words-clause-front : goal.returns-in_err-send_words-clause-front
returns-in_err-send_words-clause-front g c =
    let sent = rw (c.from.ensures, c.number.ensures) at c.in_err-send_words.ensures.front in
    on_err _ (shown_begun _ _ _ _ c.shows.ensures c.if-not-shows.false _ _ sent)

pub returns-clause-front : goal.returns-clause-front
returns-clause-front g c =
    let sent = rw (c.from.ensures, c.number.ensures) at c.in_ok-send_words.ensures.whole in
    on_err_then _ (λ f. shown_cut _ _ _ _ c.shows.ensures c.if-not-shows.false _ _ _ sent f) c.send.ensures.front
