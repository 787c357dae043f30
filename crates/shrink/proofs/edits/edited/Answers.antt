use Rattle.std.proofs.Common.{[]}
use Rattle.shrink.proofs.Parts.{part_none}
use Rattle.shrink.proofs.edits.edited.Goals as goal

pub loop-k-init : goal.loop-k-init
loop-k-init c = rw c.new-out.ensures.items (part_none [])
