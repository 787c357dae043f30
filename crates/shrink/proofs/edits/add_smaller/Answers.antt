use Rattle.shrink.proofs.Parts.{part_both}
use Rattle.shrink.proofs.edits.add_smaller.Goals as goal

pub returns : goal.returns
returns c =
    let small = rw (c.as_slice.ensures.value, c.as_slice-2.ensures.value)
    at (c.in_ok-is_smaller_line.ensures.value c.if-not-branch.false) in
    record {
      kept = λ whole h. rw c.in_ok-push.ensures.items
          (part_both whole c.args.out.now.items c.args.changed c.args.line.now h small);
    }
