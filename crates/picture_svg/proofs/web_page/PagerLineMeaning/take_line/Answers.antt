use Rattle.std.proofs.Common.{List, Option, ap, refl, subst, sym, ℕ, ◌∙◌, ◌∷◌, ◌≡◌}
use Rattle.std.specs.Prelude.{option_map}
use Rattle.std.specs.Io.KnownBytes.{Appends}
use Rattle.nvme_model.specs.FirstBad.{first_bad_of}
use Rattle.nvme_model.specs.declared.config.ConfigNumbers.{ConfigNumbers}
use Rattle.nvme_model.specs.declared.entry.Entry.{Entry}
use Rattle.picture_svg.specs.WebPage.{step_shown}
use Rattle.picture_svg.proofs.web_page.PagerLineMeaning.take_line.Goals as goal

pub returns-in-Ok-send-clause-taken : goal.returns-in-Ok-send-clause-taken
returns-in-Ok-send-clause-taken g c k past h =
    let before = c.args.self.now in
    let line = c.args.line.now in
    let entry = c.in-Ok.entry in
    let place : before.judge.bad.place ≡ first_bad_of before.config past =
    h.1.first.place ∙ ap (λ (n : ConfigNumbers). first_bad_of n past) (sym h.0) in
    let text = c.as_slice.ensures.value ∙ c.in-Ok-put_step.ensures.value
    ∙ ap (λ (b : Option ℕ). step_shown b line entry) place in (
      (entry ∷ past, step_shown (first_bad_of before.config past) line entry),
      ap (option_map (λ (e : Entry). (e ∷ past, step_shown (first_bad_of before.config past) line e)))
          c.in-Ok.ensures.value,
      (h.0, c.in-Ok-judge.ensures.judged k past h.1),
      refl,
      subst (λ (t : List ℕ). Appends (g.W.Write.contents c.args.writer.now) (g.W.Write.contents c.send.new.writer) t)
          text c.in-Ok-send.ensures.whole,
    )
