use Rattle.std.proofs.Common.{[], Err, None, Ok, true}
use Rattle.casdisk_texts.specs.Judged.{HasFirstBad}
use Rattle.casdisk_texts.proofs.Reaching.{front_here, makes_after, runs_after}
use Rattle.picture_svg.specs.WebPage.{page_line, page_outcome}
use Rattle.picture_svg.proofs.Paged.{page_explained}
use Rattle.picture_svg.proofs.web_page.page_text.Goals as goal

pub returns-in_default-new : goal.returns-in_default-new
returns-in_default-new g c =
    record {
      prints = front_here (page_outcome c.args.head.now) (page_line c.in_ok-config.config) [] 2 _ _ None _ _ _
          c.in_ok-config.ensures.begun;
    }

pub returns-in-Ok-page_lines : goal.returns-in-Ok-page_lines
returns-in-Ok-page_lines g c =
    let head = c.args.head.now in
    let config = c.in_ok-config.config in
    let bad = c.in-Ok-page_lines.bad in
    let begun = c.in_ok-config.ensures.begun in
    let done = c.in-Ok-page_lines.ensures.done c.in-Ok-new.ensures.begun in
    let all = runs_after (page_outcome head) (page_line config) [] 2 _ _ _ _ _ _ _ (Ok tt) begun done.0 in
    let makes = makes_after (page_outcome head) (page_line config) [] 2 _ _ _ _ _ (Ok tt)
    (λ past. HasFirstBad true config past bad) begun done.1 in
    rw c.explained_by.ensures.value (record {
      prints = (all, page_explained head config bad _ c.in_ok-config.ensures.config makes);
    })

pub returns : goal.returns
returns g c =
    record {
      prints = runs_after (page_outcome c.args.head.now) (page_line c.in_ok-config.config) [] 2 _ _ _ _ _ _ _
          (Err c.in-Err.fault) c.in_ok-config.ensures.begun
          (c.in-Err.ensures.stopped c.in-Ok-new.ensures.begun);
    }
