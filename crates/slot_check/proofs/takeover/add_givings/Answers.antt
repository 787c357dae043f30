use Rattle.std.proofs.Common.{List, ap, drop, map, ◌++◌, ◌+◌, ◌∙◌}
use Rattle.nvme_model.specs.Slots.{Swap}
use Rattle.host_laws.specs.Takeovers.{giving}
use Rattle.slot_check.proofs.NewTakeovers.{givings_next}
use Rattle.slot_check.proofs.takeover.add_givings.Goals as goal

pub loop-place-preserved : goal.loop-place-preserved
loop-place-preserved c =
    ap (λ (xs : List Swap). xs ++ map giving (drop (c.loop-place.place + 1) c.args.takeovers.now))
    c.in_ok-push.ensures.items
    ∙ givings_next c.args.takeovers.now c.loop-place.place c.index-takeovers-place.result
    c.index-takeovers-place.result c.loop-place.moves.items c.giving.result c.loop-place-test.true
    c.index-takeovers-place.is c.giving.ensures.value
    ∙ c.loop-place.invariant
