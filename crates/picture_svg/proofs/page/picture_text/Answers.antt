use Rattle.std.proofs.Common.{◌++◌, ap, ◌∙◌}
use Rattle.picture_svg.specs.Page.{page_svg}
use Rattle.picture_svg.specs.Scale.{ScaleState}
use Rattle.picture_svg.proofs.page.picture_text.Goals as goal

pub returns : goal.returns
returns c = record {
  value =
      let p = c.args.picture.now in
      c.in_ok-push_page.ensures.value
      ∙ ap (λ t. t ++ page_svg c.in_ok-scale.scale p) c.new-text.ensures.items
      ∙ ap (λ (s : ScaleState). page_svg s p) c.in_ok-scale.ensures.value;
}
