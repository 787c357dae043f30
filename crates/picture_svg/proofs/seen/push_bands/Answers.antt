use Rattle.std.proofs.Common.{append_assoc, ap, drop, sym, ◌++◌, ◌+◌, ◌∙◌}
use Rattle.std.specs.Prelude.{flat_map}
use Rattle.std.proofs.lemmas.List.{drop_more}
use Rattle.picture_shapes.specs.declared.head.Head.{Head}
use Rattle.picture_svg.specs.Seen.{seen_head}
use Rattle.picture_svg.proofs.seen.push_bands.Goals as goal

pub loop-head-preserved : goal.loop-head-preserved
loop-head-preserved c =
    let s = c.args.scale.now in
    let heads = c.args.heads.now in
    let i = c.loop-head.head-index in
    let head = c.head-item.result in
    let text = c.loop-head.text.items in
    let rest = flat_map (seen_head s) (drop (i + 1) heads) in
    c.loop-head.invariant
    ∙ ap (λ l. text ++ flat_map (seen_head s) l) (drop_more heads i head c.loop-head-test.true)
    ∙ ap (λ (h : Head). text ++ (seen_head s h ++ rest)) (sym c.head-item.is)
    ∙ sym (append_assoc text (seen_head s head) rest)
    ∙ ap (λ t. t ++ rest) (sym c.in_ok-push_seen_head.ensures.value)
