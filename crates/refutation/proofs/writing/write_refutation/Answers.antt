use Rattle.std.proofs.Common.{refl, subst, sym}
use Rattle.std.specs.Io.KnownBytes.{Appends}
use Rattle.std.proofs.KnownBytes.{Appends-trans}
use Rattle.line_text.specs.Known.{AppendsFront}
use Rattle.line_text.proofs.Known.{front_first, front_second, on_err, on_err_then, on_ok_then}
use Rattle.refutation.specs.Texts.{front_text, slice_text}
use Rattle.refutation.proofs.Feeds.{text_by}
use Rattle.refutation.proofs.writing.write_refutation.Goals as goal

pub returns-in_err-write_front-clause-front : goal.returns-in_err-write_front-clause-front
returns-in_err-write_front-clause-front g c =
    let r = c.args.refutation.now in
    let text = text_by r c.lines.result r.blocks r.commands c.lines.ensures refl refl in
    on_err c.from_residual.result (subst (AppendsFront _ _) (sym text)
    (front_first _ _ (front_text c.lines.result) (slice_text r.blocks r.commands) c.in_err-write_front.ensures.front))

pub returns-clause-whole : goal.returns-clause-whole
returns-clause-whole g c =
    let text = text_by c.args.refutation.now c.lines.result c.blocks-2.result.now c.commands.result.now
    c.lines.ensures c.blocks-2.ensures c.commands.ensures in
    on_ok_then c.write_slice.result
    (λ h. subst (Appends _ _) (sym text) (Appends-trans _ _ _ _ _ c.in_ok-write_front.ensures.whole h))
    c.write_slice.ensures.whole

pub returns-clause-front : goal.returns-clause-front
returns-clause-front g c =
    let text = text_by c.args.refutation.now c.lines.result c.blocks-2.result.now c.commands.result.now
    c.lines.ensures c.blocks-2.ensures c.commands.ensures in
    on_err_then c.write_slice.result
    (λ h. subst (AppendsFront _ _) (sym text) (front_second _ _ _ _ _ c.in_ok-write_front.ensures.whole h))
    c.write_slice.ensures.front
