use Rattle.std.proofs.Common.{ap, ◌+◌, ◌++◌, List, ℕ, ◌∙◌}
use Rattle.history_check.proofs.Answering.{read_next}
use Rattle.history_check.proofs.unit.read_at.Goals as goal

pub loop-place-preserved : goal.loop-place-preserved
loop-place-preserved c =
    read_next c.args.volume.now c.args.range.slba c.loop-place.place c.loop-place.bytes.items
    c.extend_from_slice.new.self.items c.block.result.now _ c.loop-place.invariant
    (c.in_ok-extend_from_slice.ensures.items ∙ ap (λ (xs : List ℕ). c.loop-place.bytes.items ++ xs) c.as_slice.ensures)
    (ap (λ n. c.args.range.slba + n) c.from.ensures) c.block.ensures.block
