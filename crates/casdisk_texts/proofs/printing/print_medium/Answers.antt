use Rattle.line_text.proofs.Known.{on_err, on_err_then, on_ok_then}
use Rattle.casdisk_texts.proofs.Printed.{shown_whole, shown_begun, shown_cut}
use Rattle.casdisk_texts.proofs.printing.print_medium.Goals as goal

pub returns-in_err-send_words-clause-front : goal.returns-in_err-send_words-clause-front
returns-in_err-send_words-clause-front g c =
    let sent = rw c.word_of.ensures at c.in_err-send_words.ensures.front in
    on_err _ (shown_begun _ _ _ _ c.shows.ensures c.if-not-shows.false _ _ sent)

pub returns-clause-whole : goal.returns-clause-whole
returns-clause-whole g c =
    let sent = rw c.word_of.ensures at c.in_ok-send_words.ensures.whole in
    on_ok_then c.send.result (λ f. shown_whole _ _ _ _ c.shows.ensures c.if-not-shows.false _ _ _ sent f)
    c.send.ensures.whole

pub returns-clause-front : goal.returns-clause-front
returns-clause-front g c =
    let sent = rw c.word_of.ensures at c.in_ok-send_words.ensures.whole in
    on_err_then _ (λ f. shown_cut _ _ _ _ c.shows.ensures c.if-not-shows.false _ _ _ sent f) c.send.ensures.front
