use Rattle.std.proofs.Common.{Some, [], refl, ◌++◌, ◌∷◌}
use Rattle.picture_svg.specs.WebPage.{page_line}
use Rattle.picture_svg.proofs.Paged.{page_begun, page_front, page_stopped}
use Rattle.picture_svg.proofs.web_page.begin_page.Goals as goal

pub returns-in-Err-clause-stopped : goal.returns-in-Err-clause-stopped
returns-in-Err-clause-stopped g c =
    page_stopped c.args.head.now c.in-Err.fault _ _ _ c.in-Err.ensures.read
    (c.in-Err.ensures.stopped page_line (Some []))

pub returns-in-Ok-send_opening-clause-begun : goal.returns-in-Ok-send_opening-clause-begun
returns-in-Ok-send_opening-clause-begun g c =
    let line = c.read_first.new.line.items in
    let at = c.in-Ok.ensures.begun page_line (Some []) (Some (line ++ 10 ∷ [])) refl in
    let sent = rw c.as_slice.ensures.value at c.in-Ok-send_opening.ensures.whole in
    page_begun c.args.head.now c.in-Ok.config _ _ line _ at _ _ sent

pub returns-in-Err-send_opening-clause-stopped : goal.returns-in-Err-send_opening-clause-stopped
returns-in-Err-send_opening-clause-stopped g c =
    let line = c.read_first.new.line.items in
    let at = c.in-Ok.ensures.begun page_line (Some []) (Some (line ++ 10 ∷ [])) refl in
    let sent = rw c.as_slice.ensures.value at c.in-Err-send_opening.ensures.front in
    page_front c.args.head.now c.in-Ok.config _ _ line _ at _ _ sent
