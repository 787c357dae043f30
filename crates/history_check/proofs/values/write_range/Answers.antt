use Rattle.std.proofs.Common.{ap, arith, length, ◌+◌, ◌∙◌}
use Rattle.history_check.proofs.Writing.{lies_in}
use Rattle.history_check.proofs.values.write_range.Goals as goal

pub write_block-requires-clause-whole : goal.write_block-requires-clause-whole
write_block-requires-clause-whole c =
    ap length c.write_data.ensures.value
    ∙ c.requires.whole _ (lies_in c.args.range.slba c.args.range.blocks c.loop-place.place _
    (ap (λ n. c.args.range.slba + n) c.from.ensures)
    (omega (arith, c.loop-place-test.true, c.loop-place.auto.place-end)))
