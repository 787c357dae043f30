use Rattle.std.proofs.Common.{List, refl, subst, ℕ, ◌∙◌}
use Rattle.std.specs.Io.KnownBytes.{Appends}
use Rattle.picture_svg.proofs.drawing.write_picture.Goals as goal

pub returns-in-Ok-send : goal.returns-in-Ok-send
returns-in-Ok-send g c = record {
  writes = (
    refl,
    subst (λ (t : List ℕ). Appends (g.W.Write.contents c.args.writer.now) (g.W.Write.contents c.send.new.writer) t)
        (c.as_slice.ensures.value ∙ c.in-Ok.ensures.value) c.in-Ok-send.ensures.whole,
  );
}
