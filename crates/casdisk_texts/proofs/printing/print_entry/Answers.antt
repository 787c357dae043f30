use Rattle.line_text.proofs.Known.{on_err, on_err_then}
use Rattle.casdisk_texts.proofs.Printed.{shown_begun, shown_cut}
use Rattle.casdisk_texts.proofs.printing.print_entry.Goals as goal

pub returns-in_err-write_line-clause-front : goal.returns-in_err-write_line-clause-front
returns-in_err-write_line-clause-front g c =
    let is = rw c.kind_of.ensures at c.shows.ensures in
    on_err _ (shown_begun _ _ _ _ is c.if-not-shows.false _ _ c.in_err-write_line.ensures.front)

pub returns-clause-front : goal.returns-clause-front
returns-clause-front g c =
    let is = rw c.kind_of.ensures at c.shows.ensures in
    on_err_then _ (λ f. shown_cut _ _ _ _ is c.if-not-shows.false _ _ _ c.in_ok-write_line.ensures.whole f)
    c.send.ensures.front
