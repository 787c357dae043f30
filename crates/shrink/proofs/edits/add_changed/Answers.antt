use Rattle.shrink.proofs.Parts.{part_more}
use Rattle.shrink.proofs.edits.add_changed.Goals as goal

pub returns-in-LeftOut : goal.returns-in-LeftOut
returns-in-LeftOut c = record { kept = λ whole h. part_more whole c.args.out.now.items c.args.line.now h }
