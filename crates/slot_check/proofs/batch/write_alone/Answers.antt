use Rattle.std.proofs.Common.{sym, ◌∙◌}
use Rattle.slot_check.proofs.Batches.{alone_next}
use Rattle.slot_check.proofs.batch.write_alone.Goals as goal

pub loop-place-preserved : goal.loop-place-preserved
loop-place-preserved c =
    alone_next c.args.slots c.args.queue c.args.first c.args.batch.now c.args.of.now c.loop-place.place
    c.index-batch-place.result c.loop-place-test.true c.index-batch-place.is (sym c.if-writes_alone.ensures.value)
    ∙ c.loop-place.invariant
