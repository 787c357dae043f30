use Rattle.std.proofs.Common.{[], refl, true, ◌≡◌}
use Rattle.nvme_model.specs.History.{Past}
use Rattle.casdisk_texts.specs.Judged.{HasFirstBad, HasJudged}
use Rattle.casdisk_texts.specs.Running.{lines_from}
use Rattle.picture_svg.specs.WebPage.{page_line}
use Rattle.picture_svg.proofs.Paged.{makes_then}
use Rattle.picture_svg.proofs.web_page.page_lines.Goals as goal

pub returns-in-Ok-clause-done : goal.returns-in-Ok-clause-done
returns-in-Ok-clause-done g c judged =
    let config = c.args.pager.now.config in
    let last = c.run_lines.new.actor in
    let Stands : Past → Type 0 = λ past. (last.config ≡ config)
    × HasJudged true config past last.judge.checker last.judge.count last.judge.bad in (
      c.in-Ok.ensures.runs config [] (refl, judged),
      makes_then (lines_from (page_line config) [] 2 c.args.lines.now) Stands
          (λ past. HasFirstBad true config past last.judge.bad) _ (λ past h. h.1.first)
          (c.in-Ok.ensures.makes config [] (refl, judged)),
    )

pub returns-in-Err-clause-stopped : goal.returns-in-Err-clause-stopped
returns-in-Err-clause-stopped g c judged = c.in-Err.ensures.runs c.args.pager.now.config [] (refl, judged)
