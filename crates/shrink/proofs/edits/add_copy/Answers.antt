use Rattle.std.proofs.Common.{◌≡◌, ◌∙◌}
use Rattle.shrink.proofs.Parts.{part_same}
use Rattle.shrink.proofs.edits.add_copy.Goals as goal

pub returns : goal.returns
returns c =
    let e : c.in_ok-copy_of.field-0 ≡ c.args.line.now = c.in_ok-copy_of.ensures.same ∙ c.as_slice.ensures.value in
    record {
      kept = λ whole h. rw (c.in_ok-push.ensures.items, e) (part_same whole c.args.out.now.items c.args.line.now h);
    }
