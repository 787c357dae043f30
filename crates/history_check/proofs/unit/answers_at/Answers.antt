use Rattle.std.proofs.Common.{sym, ap, arith, bytes_eq, List, ℕ, ◌+◌, ◌∙◌}
use Rattle.history_check.proofs.Answering.{all_answers, answer_next}
use Rattle.nvme_model.specs.Operations.{has_compare}
use Rattle.history_check.proofs.unit.answers_at.Goals as goal

pub loop-place-preserved : goal.loop-place-preserved
loop-place-preserved c = record {
  items = answer_next c.args.volume.now c.args.ticket.now c.args.range.slba c.loop-place.place
      c.loop-place.answers.items c.push_reserved.new.self.items c.eq-equal.result c.block.result.now
      c.compare_data.result.now _
      c.loop-place.invariant.items c.push_reserved.ensures.items (ap (λ n. c.args.range.slba + n) c.from.ensures)
      c.block.ensures.block c.compare_data.ensures.value
      (c.eq-equal.ensures ∙ ap (λ (xs : List ℕ). bytes_eq xs c.compare_data.result.now) c.as_slice.ensures);
  count = omega (arith, c.push_reserved.ensures.len, c.loop-place.invariant.count);
  room = omega (arith, c.push_reserved.ensures.capacity, c.loop-place.invariant.room);
}

pub returns : goal.returns
returns c = record {
  value = all_answers c.args.volume.now c.args.ticket.now c.args.range c.loop-place.place c.loop-place.answers.items
      c.loop-place.invariant.items (omega (arith, c.loop-place-test.false, c.loop-place.auto.place-end))
      (sym (c.has_compare.ensures.value ∙ ap has_compare c.op.ensures.value) ∙ c.if-not-has_compare.false);
}
